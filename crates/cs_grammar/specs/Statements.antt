-- Which tokens spell which statements.
use Rattle.std.specs.Prelude.{◌≡◌, ℕ, ◌+◌, ◌-◌, ◌≤◌, ℤ, pos, neg_ℤ, codes, Bool, true, false, List, [], ◌∷◌, Option, Some, None}
use Rattle.text_core.specs.declared.place.Place.{Place}
use Rattle.cs_ast.specs.declared.cs_type.TypeExpr.{TypeExpr}
use Rattle.cs_ast.specs.declared.expression.Expr.{Expr}
use Rattle.cs_ast.specs.declared.expression.ExprKind.TheVariants as ek
use Rattle.cs_ast.specs.declared.expression.Label.{Label}
use Rattle.cs_ast.specs.declared.expression.LabelKind.{LabelKind}
use Rattle.cs_ast.specs.declared.expression.LabelKind.TheVariants as lk
use Rattle.cs_ast.specs.declared.expression.Section.{Section, roll-Section}
use Rattle.cs_ast.specs.declared.expression.Stmt.{Stmt}
use Rattle.cs_ast.specs.declared.expression.StmtKind.{StmtKind}
use Rattle.cs_ast.specs.declared.expression.StmtKind.TheVariants as st
use Rattle.cs_ast.specs.declared.operators.AssignOp.{AssignOp}
use Rattle.cs_ast.specs.declared.operators.StepOp.{StepOp}
use Rattle.cs_token.specs.declared.token.Token.{Token}
use Rattle.cs_token.specs.declared.token.TokenKind.TheVariants as k
use Rattle.cs_token.specs.declared.token.Sign.{Sign}
use Rattle.cs_token.specs.declared.token.Sign.TheVariants as s
use Rattle.cs_token.specs.declared.token.Word.TheVariants as w
use Rattle.cs_grammar.specs.Tokens.{IsSign, IsWord, IsName, ident}
use Rattle.cs_grammar.specs.Tables.{assignment, step_operator}
use Rattle.cs_grammar.specs.Types.{WritesType}
use Rattle.cs_grammar.specs.Expressions.{Spells, node}

-- a statement at a place
abbrev pub stmt : Place → StmtKind → Stmt
stmt place kind = record { place = place; kind = kind }

-- Where `break` and `continue` may stand: the first in loops and in `switch`, the second in loops.
pub record Jumps : Type 0 where
  pub breaks : Bool
  pub continues : Bool

-- outside all loops and all `switch`
abbrev pub no_jumps : Jumps
no_jumps = record { breaks = false; continues = false }

-- in a loop
abbrev pub in_loop : Jumps
in_loop = record { breaks = true; continues = true }

-- in a `switch`
abbrev pub in_switch : Jumps → Jumps
in_switch jumps = record { breaks = true; continues = jumps.continues }

-- Changes p ts rest a: the tokens ts up to rest, of which the first stands at p, spell an assignment or a step.
pub data Changes : Place → List Token → List Token → Expr → Type 0 where
  assign : (x : List ℕ) (sign : Sign) (op : AssignOp) (q : Place) (n t : Token) (ts rest : List Token) (a : Expr) →
      IsName x n → IsSign sign t → assignment sign ≡ Some op → Spells 0 q ts rest a →
      Changes n.place (n ∷ t ∷ ts) rest (node n.place (ek.Assign op (ident n x) a))
  step : (x : List ℕ) (sign : Sign) (op : StepOp) (n t : Token) (rest : List Token) →
      IsName x n → IsSign sign t → step_operator sign ≡ Some op →
      Changes n.place (n ∷ t ∷ rest) rest (node n.place (ek.Step op (ident n x)))

-- the same, or a call
pub data Acts : Place → List Token → List Token → Expr → Type 0 where
  change : (p : Place) (ts rest : List Token) (a : Expr) → Changes p ts rest a → Acts p ts rest a
  call : (p q : Place) (ts rest : List Token) (f : Expr) (bs : List Expr) →
      Spells 0 p ts rest (node q (ek.Call f bs)) → Acts p ts rest (node q (ek.Call f bs))

-- a type, or `var`
pub data Declares : Place → List Token → List Token → Option TypeExpr → Type 0 where
  by_value : (t : Token) (rest : List Token) → IsWord w.Var t → Declares t.place (t ∷ rest) rest None
  by_type : (ts rest : List Token) (a : TypeExpr) → WritesType ts rest a → Declares a.place ts rest (Some a)

-- an initial value, or none
pub data Initial : List Token → List Token → Option Expr → Type 0 where
  none : (rest : List Token) → Initial rest rest None
  some : (p : Place) (t : Token) (ts rest : List Token) (a : Expr) →
      IsSign s.Assign t → Spells 0 p ts rest a → Initial (t ∷ ts) rest (Some a)

-- a statement that a semicolon ends, without it
pub data Simple : Place → List Token → List Token → StmtKind → Type 0 where
  local : (x : List ℕ) (p : Place) (n : Token) (ts us rest : List Token) (a : Option TypeExpr) (value : Option Expr) →
      Declares p ts (n ∷ us) a → IsName x n → Initial us rest value → Simple p ts rest (st.Local a (ident n x) value)
  act : (p : Place) (ts rest : List Token) (a : Expr) → Acts p ts rest a → Simple p ts rest (st.Expr a)

-- the same, or nothing
pub data Start : List Token → List Token → Option Stmt → Type 0 where
  none : (rest : List Token) → Start rest rest None
  some : (p : Place) (ts rest : List Token) (kind : StmtKind) → Simple p ts rest kind → Start ts rest (Some (stmt p kind))

-- an expression, or nothing
pub data Condition : List Token → List Token → Option Expr → Type 0 where
  none : (rest : List Token) → Condition rest rest None
  some : (p : Place) (ts rest : List Token) (a : Expr) → Spells 0 p ts rest a → Condition ts rest (Some a)

-- a change or a call, or nothing
pub data Step : List Token → List Token → Option Expr → Type 0 where
  none : (rest : List Token) → Step rest rest None
  some : (p : Place) (ts rest : List Token) (a : Expr) → Acts p ts rest a → Step ts rest (Some a)

-- a constant behind `case`; what stands behind `-` is not below 0
pub data Constant : List Token → List Token → Label → Type 0 where
  number : (n : ℤ) (t : Token) (rest : List Token) → t.kind ≡ k.Number n → Constant (t ∷ rest) rest (record { place = t.place; kind = lk.Int n })
  minus : (n : ℕ) (t u : Token) (rest : List Token) →
      IsSign s.Minus t → u.kind ≡ k.Number (pos n) → Constant (t ∷ u ∷ rest) rest (record { place = t.place; kind = lk.Int (neg_ℤ (pos n)) })
  text : (x : List ℕ) (t : Token) (rest : List Token) → t.kind ≡ k.Text x → Constant (t ∷ rest) rest (record { place = t.place; kind = lk.Text x })
  yes : (t : Token) (rest : List Token) → IsWord w.True t → Constant (t ∷ rest) rest (record { place = t.place; kind = lk.Bool true })
  no : (t : Token) (rest : List Token) → IsWord w.False t → Constant (t ∷ rest) rest (record { place = t.place; kind = lk.Bool false })
  null : (t : Token) (rest : List Token) → IsWord w.Null t → Constant (t ∷ rest) rest (record { place = t.place; kind = lk.Null })

-- one label with its colon
pub data Labelled : List Token → List Token → Label → Type 0 where
  case_of : (t c : Token) (ts rest : List Token) (label : Label) →
      IsWord w.Case t → Constant ts (c ∷ rest) label → IsSign s.Colon c → Labelled (t ∷ ts) rest label
  default : (t c : Token) (rest : List Token) →
      IsWord w.Default t → IsSign s.Colon c → Labelled (t ∷ c ∷ rest) rest (record { place = t.place; kind = lk.Default })

-- one label or more
pub data Labels : List Token → List Token → List Label → Type 0 where
  one : (ts rest : List Token) (label : Label) → Labelled ts rest label → Labels ts rest (label ∷ [])
  more : (ts us rest : List Token) (label : Label) (labels : List Label) →
      Labelled ts us label → Labels us rest labels → Labels ts rest (label ∷ labels)

-- the last of the statements is a `break` or a `return`
pub data Leaves : List Stmt → Type 0 where
  by_break : (p : Place) → Leaves (stmt p st.Break ∷ [])
  by_return : (p : Place) (value : Option Expr) → Leaves (stmt p (st.Return value) ∷ [])
  later : (first : Stmt) (others : List Stmt) → Leaves others → Leaves (first ∷ others)

-- a `default`, counted
abbrev pub default_count : LabelKind → ℕ
default_count lk.Default = 1
default_count _ = 0

-- how many of the labels are `default`
abbrev pub defaults : List Label → ℕ
defaults [] = 0
defaults (label ∷ labels) = default_count label.kind + defaults labels

-- labels and the statements behind them
abbrev pub section : List Label → List Stmt → Section
section labels body = roll-Section (record { labels = labels; body = body })

-- Statement j f ts rest a: where j may jump, the tokens ts up to rest spell the statement a. Where f holds, `else` may follow it: no
-- `if` without `else` stands at its end.
mutual
  pub data Statement : Jumps → Bool → List Token → List Token → Stmt → Type 0 where
    simple : (j : Jumps) (f : Bool) (p : Place) (c : Token) (ts rest : List Token) (kind : StmtKind) →
        Simple p ts (c ∷ rest) kind → IsSign s.Semicolon c → Statement j f ts rest (stmt p kind)
    empty : (j : Jumps) (f : Bool) (c : Token) (rest : List Token) → IsSign s.Semicolon c → Statement j f (c ∷ rest) rest (stmt c.place st.Empty)
    block : (j : Jumps) (f : Bool) (o c : Token) (ts rest : List Token) (body : List Stmt) →
        IsSign s.OpenBrace o → Statements j ts (c ∷ rest) body → IsSign s.CloseBrace c → Statement j f (o ∷ ts) rest (stmt o.place (st.Block body))
    if_alone : (j : Jumps) (p : Place) (t o c : Token) (ts us rest : List Token) (a : Expr) (yes : Stmt) →
        IsWord w.If t → IsSign s.OpenRound o → Spells 0 p ts (c ∷ us) a → IsSign s.CloseRound c → Statement j false us rest yes →
        Statement j false (t ∷ o ∷ ts) rest (stmt t.place (st.If a yes None))
    if_else : (j : Jumps) (f : Bool) (p : Place) (t o c d : Token) (ts us vs rest : List Token) (a : Expr) (yes no : Stmt) →
        IsWord w.If t → IsSign s.OpenRound o → Spells 0 p ts (c ∷ us) a → IsSign s.CloseRound c → Statement j true us (d ∷ vs) yes →
        IsWord w.Else d → Statement j f vs rest no → Statement j f (t ∷ o ∷ ts) rest (stmt t.place (st.If a yes (Some no)))
    while_ : (j : Jumps) (f : Bool) (p : Place) (t o c : Token) (ts us rest : List Token) (a : Expr) (body : Stmt) →
        IsWord w.While t → IsSign s.OpenRound o → Spells 0 p ts (c ∷ us) a → IsSign s.CloseRound c → Statement in_loop f us rest body →
        Statement j f (t ∷ o ∷ ts) rest (stmt t.place (st.While a body))
    for_ : (j : Jumps) (f : Bool) (t o m n c : Token) (ts us vs xs rest : List Token) (start : Option Stmt) (condition step : Option Expr) (body : Stmt) →
        IsWord w.For t → IsSign s.OpenRound o → Start ts (m ∷ us) start → IsSign s.Semicolon m → Condition us (n ∷ vs) condition →
        IsSign s.Semicolon n → Step vs (c ∷ xs) step → IsSign s.CloseRound c → Statement in_loop f xs rest body →
        Statement j f (t ∷ o ∷ ts) rest (stmt t.place (st.For start condition step body))
    foreach_ : (j : Jumps) (f : Bool) (x : List ℕ) (p : Place) (t o v n i c : Token) (ts us rest : List Token) (a : Expr) (body : Stmt) →
        IsWord w.Foreach t → IsSign s.OpenRound o → IsWord w.Var v → IsName x n → IsWord w.In i → Spells 0 p ts (c ∷ us) a →
        IsSign s.CloseRound c → Statement in_loop f us rest body →
        Statement j f (t ∷ o ∷ v ∷ n ∷ i ∷ ts) rest (stmt t.place (st.ForEach (ident n x) a body))
    switch_ : (j : Jumps) (f : Bool) (p : Place) (t o c b d : Token) (ts us rest : List Token) (a : Expr) (sections : List Section) →
        IsWord w.Switch t → IsSign s.OpenRound o → Spells 0 p ts (c ∷ b ∷ us) a → IsSign s.CloseRound c → IsSign s.OpenBrace b →
        Sections (in_switch j) 1 us (d ∷ rest) sections → IsSign s.CloseBrace d →
        Statement j f (t ∷ o ∷ ts) rest (stmt t.place (st.Switch a sections))
    await_ : (j : Jumps) (f : Bool) (p q r : Place) (t n c : Token) (ts rest : List Token) (a : Expr) (bs : List Expr) →
        IsWord w.Await t → Spells 0 p ts (c ∷ rest) (node q (ek.Call (node r (ek.Member a (ident n (codes "InvokeAsync")))) bs)) → IsSign s.Semicolon c →
        Statement j f (t ∷ ts) rest (stmt t.place (st.Await (node q (ek.Call (node r (ek.Member a (ident n (codes "InvokeAsync")))) bs))))
    break_ : (j : Jumps) (f : Bool) (t c : Token) (rest : List Token) →
        j.breaks ≡ true → IsWord w.Break t → IsSign s.Semicolon c → Statement j f (t ∷ c ∷ rest) rest (stmt t.place st.Break)
    continue_ : (j : Jumps) (f : Bool) (t c : Token) (rest : List Token) →
        j.continues ≡ true → IsWord w.Continue t → IsSign s.Semicolon c → Statement j f (t ∷ c ∷ rest) rest (stmt t.place st.Continue)
    return_ : (j : Jumps) (f : Bool) (t c : Token) (ts rest : List Token) (value : Option Expr) →
        IsWord w.Return t → Condition ts (c ∷ rest) value → IsSign s.Semicolon c → Statement j f (t ∷ ts) rest (stmt t.place (st.Return value))

  -- statements one behind another
  pub data Statements : Jumps → List Token → List Token → List Stmt → Type 0 where
    no_statement : (j : Jumps) (rest : List Token) → Statements j rest rest []
    more_statements : (j : Jumps) (ts us rest : List Token) (first : Stmt) (others : List Stmt) →
        Statement j false ts us first → Statements j us rest others → Statements j ts rest (first ∷ others)

  -- sections of a `switch` one behind another, with at most so many labels `default`
  pub data Sections : Jumps → ℕ → List Token → List Token → List Section → Type 0 where
    no_section : (j : Jumps) (room : ℕ) (rest : List Token) → Sections j room rest rest []
    more_sections : (j : Jumps) (room : ℕ) (ts us vs rest : List Token) (labels : List Label) (body : List Stmt) (others : List Section) →
        Labels ts us labels → defaults labels ≤ room → Statements j us vs body → Leaves body → Sections j (room - defaults labels) vs rest others →
        Sections j room ts rest (section labels body ∷ others)

-- the tokens spell the statements, outside all loops
abbrev pub SpelledStatements : List Token → List Stmt → Type 0
SpelledStatements ts body = Statements no_jumps ts [] body
