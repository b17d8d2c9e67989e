-- How statements are read, from the left.
use Rattle.std.specs.Prelude.{ℕ, zero, suc, pos, ◌+◌, ◌-◌, ◌*◌, neg_ℤ, Bool, true, false, ◌||◌, nat_lt, if◌then◌else◌, List, [], ◌∷◌, ◌++◌, length, Option, Some, None}
use Rattle.text_core.specs.declared.place.Place.{Place}
use Rattle.cs_ast.specs.declared.expression.Expr.{Expr}
use Rattle.cs_ast.specs.declared.expression.Label.{Label}
use Rattle.cs_ast.specs.declared.expression.LabelKind.{LabelKind}
use Rattle.cs_ast.specs.declared.expression.LabelKind.TheVariants as lk
use Rattle.cs_ast.specs.declared.expression.Stmt.{Stmt}
use Rattle.cs_ast.specs.declared.expression.StmtKind.{StmtKind}
use Rattle.cs_ast.specs.declared.expression.StmtKind.TheVariants as st
use Rattle.cs_token.specs.declared.token.Token.{Token}
use Rattle.cs_token.specs.declared.token.TokenKind.{TokenKind}
use Rattle.cs_token.specs.declared.token.TokenKind.TheVariants as k
use Rattle.cs_token.specs.declared.token.Sign.{Sign}
use Rattle.cs_token.specs.declared.token.Sign.TheVariants as s
use Rattle.cs_token.specs.declared.token.Word.{Word}
use Rattle.cs_token.specs.declared.token.Word.TheVariants as w
use Rattle.cs_grammar.specs.Statements.{stmt, section, defaults}
use Rattle.cs_parse.specs.declared.statement.frame.Beginning.{Beginning}
use Rattle.cs_parse.specs.declared.statement.frame.Beginning.TheVariants as b
use Rattle.cs_parse.specs.declared.statement.frame.Frame.{Frame}
use Rattle.cs_parse.specs.declared.statement.frame.Frame.TheVariants as fr
use Rattle.cs_parse.specs.declared.statement.frame.Jumps.{Jumps}
use Rattle.cs_parse.specs.declared.statement.frame.Next.{Next}
use Rattle.cs_parse.specs.declared.statement.frame.Next.TheVariants as nx
use Rattle.cs_parse.specs.declared.statement.frame.OpenBlock.{OpenBlock}
use Rattle.cs_parse.specs.declared.statement.frame.OpenSection.{OpenSection}
use Rattle.cs_parse.specs.declared.statement.frame.OpenSwitch.{OpenSwitch}
use Rattle.cs_parse.specs.Reading.{Read, ◌>>=◌, is_sign, is_word, after, name_first}
use Rattle.cs_parse.specs.ExpressionReading.{expr_first}
use Rattle.cs_parse.specs.SimpleReading.{after_word, simple_first, start_first, condition_first, step_first}
use Rattle.cs_parse.specs.TreeViews.{is_invoke, leaves}

-- what a statement is that begins with a sign
unfoldable pub by_sign : Sign → Beginning
by_sign s.Semicolon = b.Empty
by_sign s.OpenBrace = b.Block
by_sign s.OpenRound = b.Simple
by_sign s.InterpolationStart = b.Simple
by_sign s.Minus = b.Simple
by_sign s.Plus = b.Simple
by_sign s.Not = b.Simple
by_sign _ = b.Nothing

-- what a statement is that begins with a word
unfoldable pub by_word : Word → Beginning
by_word w.If = b.If
by_word w.While = b.While
by_word w.For = b.For
by_word w.Foreach = b.ForEach
by_word w.Switch = b.Switch
by_word w.Await = b.Await
by_word w.Break = b.Break
by_word w.Continue = b.Continue
by_word w.Return = b.Return
by_word w.Var = b.Simple
by_word w.True = b.Simple
by_word w.False = b.Simple
by_word w.Null = b.Simple
by_word w.New = b.Simple
by_word w.Int = b.Simple
by_word w.Bool = b.Simple
by_word w.String = b.Simple
by_word w.ImmutableList = b.Simple
by_word w.EventCallback = b.Simple
by_word w.RenderFragment = b.Simple
by_word w.ChangeEventArgs = b.Simple
by_word w.EventArgs = b.Simple
by_word w.MouseEventArgs = b.Simple
by_word w.KeyboardEventArgs = b.Simple
by_word w.FocusEventArgs = b.Simple
by_word _ = b.Nothing

-- what a statement is that begins with a token
abbrev pub beginning : TokenKind → Beginning
beginning (k.Sign sign) = by_sign sign
beginning (k.Word word) = by_word word
beginning (k.Part x) = b.Nothing
beginning _ = b.Simple

abbrev pub is_something : Beginning → Bool
is_something b.Nothing = false
is_something _ = true

-- a statement begins here
abbrev pub begins : List Token → Bool
begins [] = false
begins (t ∷ ts) = is_something (beginning t.kind)

-- outside all loops and all `switch`
abbrev pub nowhere : Jumps
nowhere = record { breaks = false; continues = false }

-- in a loop
abbrev pub in_loop : Jumps
in_loop = record { breaks = true; continues = true }

-- in a `switch`
abbrev pub in_switch : Jumps → Jumps
in_switch jumps = record { breaks = true; continues = jumps.continues }

-- what follows, and the tokens from there on
abbrev pub Onward : Type 0
Onward = Option (Next × List Token)

-- a whole statement
abbrev pub done : Place → StmtKind → List Token → Onward
done p kind ts = Some (nx.Done (stmt p kind), ts)

-- the same before its semicolon
abbrev pub ended : Place → StmtKind → List Token → Onward
ended p kind ts = after s.Semicolon ts >>= λ r. done p kind r

-- an expression in round brackets
abbrev pub in_round : List Token → Read Expr
in_round ts = after s.OpenRound ts >>= λ r. (expr_first 0 r >>= λ x. (after s.CloseRound x.1 >>= λ q. Some (x.0, q)))

abbrev pub begun_if : Jumps → Place → List Token → Onward
begun_if j p ts = in_round ts >>= λ x. Some (nx.Inside (fr.Yes p j x.0) j, x.1)

abbrev pub begun_while : Place → List Token → Onward
begun_while p ts = in_round ts >>= λ x. Some (nx.Inside (fr.While p x.0) in_loop, x.1)

-- the three parts of a `for`, each with the sign behind it
abbrev pub for_start : List Token → Read (Option Stmt)
for_start ts = after s.OpenRound ts >>= λ o. (start_first o >>= λ x. (after s.Semicolon x.1 >>= λ r. Some (x.0, r)))

abbrev pub for_condition : List Token → Read (Option Expr)
for_condition ts = condition_first ts >>= λ x. (after s.Semicolon x.1 >>= λ r. Some (x.0, r))

abbrev pub for_step : List Token → Read (Option Expr)
for_step ts = step_first ts >>= λ x. (after s.CloseRound x.1 >>= λ r. Some (x.0, r))

abbrev pub begun_for : Place → List Token → Onward
begun_for p ts = for_start ts >>= λ x. (for_condition x.1 >>= λ y. (for_step y.1 >>= λ z. Some (nx.Inside (fr.For p x.0 y.0 z.0) in_loop, z.1)))

abbrev pub begun_for_each : Place → List Token → Onward
begun_for_each p ts =
    after s.OpenRound ts >>= λ o. (after_word w.Var o >>= λ v. (name_first v >>= λ n. (after_word w.In n.1 >>= λ i. (expr_first 0 i >>= λ x.
    (after s.CloseRound x.1 >>= λ c. Some (nx.Inside (fr.ForEach p n.0 x.0) in_loop, c))))))

abbrev pub begun_switch : Jumps → Place → List Token → Onward
begun_switch j p ts =
    in_round ts >>= λ x. (after s.OpenBrace x.1 >>= λ r. Some (nx.Switch (record { place = p; value = x.0; jumps = in_switch j; room = 1; sections = [] }), r))

abbrev pub begun_await : Place → List Token → Onward
begun_await p ts = expr_first 0 ts >>= λ x. if is_invoke x.0 then ended p (st.Await x.0) x.1 else None

abbrev pub begun_return : Place → List Token → Onward
begun_return p ts = condition_first ts >>= λ x. ended p (st.Return x.0) x.1

-- `break` or `continue`, where it may stand
abbrev pub begun_jump : Bool → Place → StmtKind → List Token → Onward
begun_jump allowed p kind ts = if allowed then ended p kind ts else None

-- a statement where jumps may stand, by the way it begins: its place, and the tokens behind the one there
abbrev pub begun : Jumps → Beginning → Place → List Token → Onward
begun j b.Empty p ts = done p st.Empty ts
begun j b.Block p ts = Some (nx.Block (record { place = p; jumps = j; found = [] }), ts)
begun j b.If p ts = begun_if j p ts
begun j b.While p ts = begun_while p ts
begun j b.For p ts = begun_for p ts
begun j b.ForEach p ts = begun_for_each p ts
begun j b.Switch p ts = begun_switch j p ts
begun j b.Await p ts = begun_await p ts
begun j b.Break p ts = begun_jump j.breaks p st.Break ts
begun j b.Continue p ts = begun_jump j.continues p st.Continue ts
begun j b.Return p ts = begun_return p ts
begun j b.Simple p ts = None
begun j b.Nothing p ts = None

-- a local, a change or a call with its semicolon
abbrev pub begun_simple : List Token → Onward
begun_simple ts = simple_first ts >>= λ x. (after s.Semicolon x.1 >>= λ r. Some (nx.Done x.0, r))

abbrev pub is_simple : Beginning → Bool
is_simple b.Simple = true
is_simple _ = false

abbrev pub begin : Jumps → List Token → Onward
begin j [] = None
begin j (t ∷ ts) = if is_simple (beginning t.kind) then begun_simple (t ∷ ts) else begun j (beginning t.kind) t.place ts

-- a label stands first
abbrev pub has_label : List Token → Bool
has_label [] = false
has_label (t ∷ ts) = is_word w.Case t.kind || is_word w.Default t.kind

abbrev pub label : Place → LabelKind → Label
label p kind = record { place = p; kind = kind }

-- the constants that are words
unfoldable pub constant_word : Word → Option LabelKind
constant_word w.True = Some (lk.Bool true)
constant_word w.False = Some (lk.Bool false)
constant_word w.Null = Some lk.Null
constant_word _ = None

-- a number behind `-`, not below 0
abbrev pub negated : Place → TokenKind → List Token → Read Label
negated p (k.Number (pos n)) ts = Some (label p (lk.Int (neg_ℤ (pos n))), ts)
negated p _ ts = None

abbrev pub negative : Place → List Token → Read Label
negative p [] = None
negative p (t ∷ ts) = negated p t.kind ts

abbrev pub constant_of : TokenKind → Place → List Token → Read Label
constant_of (k.Number n) p ts = Some (label p (lk.Int n), ts)
constant_of (k.Text x) p ts = Some (label p (lk.Text x), ts)
constant_of (k.Word word) p ts = constant_word word >>= λ kind. Some (label p kind, ts)
constant_of (k.Sign sign) p ts = if is_sign s.Minus (k.Sign sign) then negative p ts else None
constant_of _ p ts = None

-- the constant that stands first
abbrev pub constant : List Token → Read Label
constant [] = None
constant (t ∷ ts) = constant_of t.kind t.place ts

abbrev pub case_label : List Token → Read Label
case_label ts = constant ts >>= λ x. (after s.Colon x.1 >>= λ r. Some (x.0, r))

abbrev pub default_label : Place → List Token → Read Label
default_label p ts = after s.Colon ts >>= λ r. Some (label p lk.Default, r)

-- one label with its colon
abbrev pub labelled : List Token → Read Label
labelled [] = None
labelled (t ∷ ts) = if is_word w.Case t.kind then case_label ts else if is_word w.Default t.kind then default_label t.place ts else None

-- one label or more, with at most so many
unfoldable pub labels_in : ℕ → List Token → Read (List Label)
labels_in zero ts = None
labels_in (suc n) ts = labelled ts >>= λ x. if has_label x.1 then (labels_in n x.1 >>= λ y. Some (x.0 ∷ y.0, y.1)) else Some (x.0 ∷ [], x.1)

-- the labels that stand first
unfoldable pub labels_first : List Token → Read (List Label)
labels_first ts = labels_in (length ts + 1) ts

-- a statement more
abbrev pub block_with : OpenBlock → Stmt → OpenBlock
block_with o a = record o { found = o.found ++ a ∷ [] }

abbrev pub section_with : OpenSection → Stmt → OpenSection
section_with o a = record o { found = o.found ++ a ∷ [] }

-- a section begun, and ended
abbrev pub section_of : OpenSwitch → List Label → OpenSection
section_of o labels = record { before = record o { room = o.room - defaults labels }; labels = labels; found = [] }

abbrev pub switch_with : OpenSection → OpenSwitch
switch_with o = record o.before { sections = o.before.sections ++ section o.labels o.found ∷ [] }

-- in a block: a statement, or its end
abbrev pub block : OpenBlock → List Token → Onward
block o ts = if begins ts then Some (nx.Inside (fr.Block o) o.jumps, ts) else (after s.CloseBrace ts >>= λ r. done o.place (st.Block o.found) r)

-- in a section: a statement, or its end
abbrev pub section_on : OpenSection → List Token → Onward
section_on o ts =
    if begins ts then Some (nx.Inside (fr.Section o) o.before.jumps, ts)
    else if leaves o.found then Some (nx.Switch (switch_with o), ts) else None

-- in a `switch`: a section, or its end
abbrev pub labels_on : OpenSwitch → List Token → Onward
labels_on o ts = labels_first ts >>= λ x. if nat_lt o.room (defaults x.0) then None else Some (nx.Section (section_of o x.0), x.1)

abbrev pub switch : OpenSwitch → List Token → Onward
switch o ts = if has_label ts then labels_on o ts else (after s.CloseBrace ts >>= λ r. done o.place (st.Switch o.value o.sections) r)

-- behind the first branch of an `if`
abbrev pub otherwise : Place → Jumps → Expr → Stmt → List Token → Onward
otherwise p j x first ts = elim (after_word w.Else ts) [ Some r ↦ Some (nx.Inside (fr.No p x first) j, r) | None ↦ done p (st.If x first None) ts ]

-- behind a statement inside another one
abbrev pub resume : Frame → Stmt → List Token → Onward
resume (fr.Yes p j x) a ts = otherwise p j x a ts
resume (fr.No p x first) a ts = done p (st.If x first (Some a)) ts
resume (fr.While p x) a ts = done p (st.While x a) ts
resume (fr.For p start condition step) a ts = done p (st.For start condition step a) ts
resume (fr.ForEach p n x) a ts = done p (st.ForEach n x a) ts
resume (fr.Block o) a ts = Some (nx.Block (block_with o a), ts)
resume (fr.Section o) a ts = Some (nx.Section (section_with o a), ts)

-- What can be read at the front of tokens: a statement where jumps may stand; the end of a statement of which something follows.
pub record Reads : Type 0 where
  pub statement : Jumps → Read Stmt
  pub rest : Next → Read Stmt

abbrev pub no_reads : Reads
no_reads = record { statement = λ j. None; rest = λ next. None }

module _ (self : List Token → Reads) where
  abbrev pub on : Onward → Read Stmt
  on o = o >>= λ x. (self x.1).rest x.0

  abbrev pub rest : Next → List Token → Read Stmt
  rest (nx.Done a) ts = Some (a, ts)
  rest (nx.Inside f j) ts = (self ts).statement j >>= λ x. on (resume f x.0 x.1)
  rest (nx.Block o) ts = on (block o ts)
  rest (nx.Switch o) ts = on (switch o ts)
  rest (nx.Section o) ts = on (section_on o ts)

  abbrev pub step : List Token → Reads
  step ts = record { statement = λ j. on (begin j ts); rest = λ next. rest next ts }

-- with at most so many steps inside one another
unfoldable pub within : ℕ → List Token → Reads
within zero ts = no_reads
within (suc n) ts = step (within n) ts

-- more steps than reading the tokens takes
abbrev pub steps : List Token → ℕ
steps ts = 4 * length ts + 4

-- the statement that stands first
unfoldable pub statement_first : Jumps → List Token → Read Stmt
statement_first j ts = (within (steps ts) ts).statement j

-- the end of a statement of which something follows
unfoldable pub rest_first : Next → List Token → Read Stmt
rest_first next ts = (within (steps ts) ts).rest next

-- statements one behind another, at most so many
unfoldable pub statements_in : ℕ → Jumps → List Token → Read (List Stmt)
statements_in zero j ts = None
statements_in (suc n) j ts =
    if begins ts then (statement_first j ts >>= λ x. (statements_in n j x.1 >>= λ y. Some (x.0 ∷ y.0, y.1))) else Some ([], ts)

-- the statements that stand first
unfoldable pub statements_first : Jumps → List Token → Read (List Stmt)
statements_first j ts = statements_in (length ts + 1) j ts

-- The statement that what follows and the frames round it come to, innermost first.
abbrev pub unwind : List Frame → Stmt → List Token → Read Stmt
unwind [] a ts = Some (a, ts)
unwind (f ∷ fs) a ts = resume f a ts >>= λ x. (rest_first x.0 x.1 >>= λ y. unwind fs y.0 y.1)

abbrev pub meaning : List Frame → Next → List Token → Read Stmt
meaning fs next ts = rest_first next ts >>= λ x. unwind fs x.0 x.1
