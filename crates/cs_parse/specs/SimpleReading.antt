-- How locals, changes and calls are read.
use Rattle.std.specs.Prelude.{Bool, true, false, if◌then◌else◌, List, [], ◌∷◌, Option, Some, None}
use Rattle.std.specs.Borrow.{Bor}
use Rattle.text_core.specs.declared.place.Place.{Place}
use Rattle.cs_ast.specs.declared.cs_type.TypeExpr.{TypeExpr}
use Rattle.cs_ast.specs.declared.expression.Expr.{Expr}
use Rattle.cs_ast.specs.declared.expression.ExprKind.{out-ExprKind}
use Rattle.cs_ast.specs.declared.expression.ExprKind.TheVariants as ek
use Rattle.cs_ast.specs.declared.expression.Stmt.{Stmt}
use Rattle.cs_ast.specs.declared.expression.StmtKind.{StmtKind}
use Rattle.cs_ast.specs.declared.expression.StmtKind.TheVariants as st
use Rattle.cs_ast.specs.declared.identifier.Ident.{Ident}
use Rattle.cs_token.specs.declared.token.Token.{Token}
use Rattle.cs_token.specs.declared.token.TokenKind.{TokenKind}
use Rattle.cs_token.specs.declared.token.TokenKind.TheVariants as k
use Rattle.cs_token.specs.declared.token.Sign.{Sign}
use Rattle.cs_token.specs.declared.token.Sign.TheVariants as s
use Rattle.cs_token.specs.declared.token.Word.{Word}
use Rattle.cs_token.specs.declared.token.Word.TheVariants as w
use Rattle.cs_grammar.specs.Tables.{assignment, step_operator}
use Rattle.cs_grammar.specs.Expressions.{node}
use Rattle.cs_grammar.specs.Statements.{stmt}
use Rattle.cs_parse.specs.declared.statement.simple.Change.{Change}
use Rattle.cs_parse.specs.declared.statement.simple.Change.TheVariants as c
use Rattle.cs_parse.specs.Reading.{Read, ◌>>=◌, is_sign, is_word, has_sign, after, name_first}
use Rattle.cs_parse.specs.TypeReading.{type_first}
use Rattle.cs_parse.specs.TreeViews.{is_call}
use Rattle.cs_parse.specs.ExpressionReading.{expr_first}

-- the tokens behind this word
abbrev pub after_word : Word → List Token → Option (List Token)
after_word word [] = None
after_word word (t ∷ ts) = if is_word word t.kind then Some ts else None

-- the place of the token that stands first
abbrev pub place_first : List Token → Option Place
place_first [] = None
place_first (t ∷ ts) = Some t.place

-- a token is a name
abbrev pub is_name : TokenKind → Bool
is_name (k.Name x) = true
is_name _ = false

-- a name stands first
abbrev pub has_name : List Token → Bool
has_name [] = false
has_name (t ∷ ts) = is_name t.kind

-- what is there
abbrev pub some : {A : Type 0} → A × List Token → Read (Option A)
some x = Some (Some x.0, x.1)

-- what a sign does to the name before it
abbrev pub step_of : Sign → Option Change
step_of sign = elim (step_operator sign) [ Some op ↦ Some (c.Step op) | None ↦ None ]

abbrev pub change_of : Sign → Option Change
change_of sign = elim (assignment sign) [ Some op ↦ Some (c.Assign op) | None ↦ step_of sign ]

abbrev pub changing : TokenKind → Option Change
changing (k.Sign sign) = change_of sign
changing _ = None

-- what changes the name that stands first, and the tokens behind it
abbrev pub change_first : List Token → Option (Change × List Token)
change_first [] = None
change_first (n ∷ []) = None
change_first (n ∷ t ∷ ts) = if is_name n.kind then (changing t.kind >>= λ x. Some (x, ts)) else None

-- a change of a name
abbrev pub changed : Change → Ident → List Token → Read Expr
changed (c.Assign op) n ts = expr_first 0 ts >>= λ x. Some (node n.place (ek.Assign op n x.0), x.1)
changed (c.Step op) n ts = Some (node n.place (ek.Step op n), ts)

-- an expression that is a call
abbrev pub called : List Token → Read Expr
called ts = expr_first 0 ts >>= λ x. if is_call x.0 then Some x else None

-- a change or a call
abbrev pub act : List Token → Read Expr
act ts = elim (change_first ts) [ Some x ↦ name_first ts >>= (λ n. changed x.0 n.0 x.1) | None ↦ called ts ]

-- a type or `var`
abbrev pub type_or_var : List Token → Read (Option TypeExpr)
type_or_var ts = elim (after_word w.Var ts) [ Some r ↦ Some (None, r) | None ↦ type_first ts >>= some ]

-- the same where a name stands behind it
abbrev pub local_type : List Token → Read (Option TypeExpr)
local_type ts = type_or_var ts >>= λ x. if has_name x.1 then Some x else None

-- an initial value, or none
abbrev pub initial : List Token → Read (Option Expr)
initial ts = elim (after s.Assign ts) [ Some r ↦ expr_first 0 r >>= some | None ↦ Some (None, ts) ]

abbrev pub local : Option TypeExpr → List Token → Read StmtKind
local a ts = name_first ts >>= λ n. (initial n.1 >>= λ v. Some (st.Local a n.0 v.0, v.1))

-- a local, a change or a call
abbrev pub simple : List Token → Read StmtKind
simple ts = elim (local_type ts) [ Some x ↦ local x.0 x.1 | None ↦ act ts >>= (λ x. Some (st.Expr x.0, x.1)) ]

-- the same at its place
abbrev pub simple_first : List Token → Read Stmt
simple_first ts = place_first ts >>= λ p. (simple ts >>= λ x. Some (stmt p x.0, x.1))

-- an expression, or nothing before `;`
abbrev pub condition_first : List Token → Read (Option Expr)
condition_first ts = if has_sign s.Semicolon ts then Some (None, ts) else (expr_first 0 ts >>= some)

-- a change or a call, or nothing before `)`
abbrev pub step_first : List Token → Read (Option Expr)
step_first ts = if has_sign s.CloseRound ts then Some (None, ts) else (act ts >>= some)

-- a local, a change or a call, or nothing before `;`
abbrev pub start_first : List Token → Read (Option Stmt)
start_first ts = if has_sign s.Semicolon ts then Some (None, ts) else (simple_first ts >>= some)

-- what may be read, as the code has it
abbrev pub front_view : {A : Type 0} → Option (A × Bor (List Token)) → Read A
front_view None = None
front_view (Some x) = Some (x.0, x.1.now)
