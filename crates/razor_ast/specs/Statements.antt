-- Parts of statements in code with markup that have no markup in them.
use Rattle.std.specs.Prelude.{◌≡◌, ℕ, Bool, true, false, not, List, [], ◌∷◌, ◌++◌, Option}
use Rattle.std.specs.List.{list_all}
use Rattle.text_core.specs.declared.place.Place.{Place}
use Rattle.cs_ast.specs.declared.cs_type.TypeExpr.{TypeExpr}
use Rattle.cs_ast.specs.declared.expression.Expr.{Expr}
use Rattle.cs_ast.specs.declared.expression.Label.{Label}
use Rattle.cs_ast.specs.declared.expression.Stmt.{Stmt}
use Rattle.cs_ast.specs.declared.expression.StmtKind.{StmtKind}
use Rattle.cs_ast.specs.declared.expression.StmtKind.TheVariants as st
use Rattle.cs_ast.specs.declared.identifier.Ident.{Ident}
use Rattle.cs_token.specs.declared.token.Token.{Token}
use Rattle.cs_token.specs.declared.token.TokenKind.{TokenKind}
use Rattle.cs_token.specs.declared.token.TokenKind.TheVariants as t
use Rattle.cs_token.specs.declared.token.Sign.TheVariants as s
use Rattle.cs_token.specs.declared.token.Word.TheVariants as w
use Rattle.cs_grammar.specs.Expressions.{Spells}
use Rattle.cs_grammar.specs.Statements.{Start, Condition, Step, Labelled, Statement, no_jumps, stmt}
use Rattle.cs_grammar.specs.Tokens as tokens
use Rattle.razor_token.specs.declared.piece.Piece.{Piece}
use Rattle.razor_ast.specs.Pieces.{codes_of}
use Rattle.razor_ast.specs.declared.node.TNode.{TNode}
use Rattle.razor_ast.specs.declared.node.TNode.TheVariants as nd
use Rattle.razor_ast.specs.declared.node.TSection.{TSection, roll-TSection}

-- the semicolon
abbrev pub is_semicolon : TokenKind → Bool
is_semicolon (t.Sign s.Semicolon) = true
is_semicolon _ = false

-- the colon
abbrev pub is_colon : TokenKind → Bool
is_colon (t.Sign s.Colon) = true
is_colon _ = false

-- a statement without statements in it, and no jump
pub data IsSimple : StmtKind → Type 0 where
  local : (a : Option TypeExpr) (name : Ident) (value : Option Expr) → IsSimple (st.Local a name value)
  empty : IsSimple st.Empty
  act : (a : Expr) → IsSimple (st.Expr a)
  await_ : (a : Expr) → IsSimple (st.Await a)
  return_ : (value : Option Expr) → IsSimple (st.Return value)

-- Simple ps rest a: the pieces ps up to rest spell such a statement, to its semicolon.
pub data Simple : List Piece → List Piece → Stmt → Type 0 where
  simple : (ts : List Token) (c : Token) (rest : List Piece) (a : Stmt) →
      list_all (λ u. not (is_semicolon u.kind)) ts ≡ true → tokens.IsSign s.Semicolon c →
      Statement no_jumps true (ts ++ c ∷ []) [] a → IsSimple a.kind → Simple (codes_of (ts ++ c ∷ []) ++ rest) rest a

-- a label with its colon
pub data IsLabel : List Piece → List Piece → Label → Type 0 where
  label : (ts : List Token) (c : Token) (rest : List Piece) (a : Label) →
      list_all (λ u. not (is_colon u.kind)) ts ≡ true → tokens.IsSign s.Colon c →
      Labelled (ts ++ c ∷ []) [] a → IsLabel (codes_of (ts ++ c ∷ []) ++ rest) rest a

-- one label or more
pub data SomeLabels : List Piece → List Piece → List Label → Type 0 where
  one : (ps rest : List Piece) (a : Label) → IsLabel ps rest a → SomeLabels ps rest (a ∷ [])
  more : (ps us rest : List Piece) (a : Label) (labels : List Label) →
      IsLabel ps us a → SomeLabels us rest labels → SomeLabels ps rest (a ∷ labels)

-- what stands in the brackets of a `for`
pub data ForHead : List Token → Option Stmt → Option Expr → Option Expr → Type 0 where
  head : (m n : Token) (ts us vs : List Token) (start : Option Stmt) (condition step : Option Expr) →
      Start ts (m ∷ us) start → tokens.IsSign s.Semicolon m → Condition us (n ∷ vs) condition → tokens.IsSign s.Semicolon n →
      Step vs [] step → ForHead ts start condition step

-- what stands in the brackets of a `foreach`
pub data ForEachHead : List Token → Token → List ℕ → Expr → Type 0 where
  head : (x : List ℕ) (p : Place) (v n i : Token) (ts : List Token) (a : Expr) →
      tokens.IsWord w.Var v → tokens.IsName x n → tokens.IsWord w.In i → Spells 0 p ts [] a →
      ForEachHead (v ∷ n ∷ i ∷ ts) n x a

-- a `break` of a loop or a `switch`
abbrev pub break_at : Place → TNode
break_at p = nd.Statement (stmt p st.Break)

-- a `continue` of a loop
abbrev pub continue_at : Place → TNode
continue_at p = nd.Statement (stmt p st.Continue)

-- the last of the nodes is a `break` or a `return`
pub data Leaves : List TNode → Type 0 where
  by_break : (p : Place) → Leaves (break_at p ∷ [])
  by_return : (p : Place) (value : Option Expr) → Leaves (nd.Statement (stmt p (st.Return value)) ∷ [])
  later : (first : TNode) (others : List TNode) → Leaves others → Leaves (first ∷ others)

-- labels and what stands behind them
abbrev pub section : List Label → List TNode → TSection
section labels items = roll-TSection (record { labels = labels; items = items })
