-- How tokens are read as C#: by what the reader of C# reads, where they nest nowhere too deeply.
use Rattle.std.specs.Prelude.{Bool, true, false, not, if◌then◌else◌, List, [], ◌∷◌, Option, Some, None}
use Rattle.cs_ast.specs.declared.expression.Expr.{Expr}
use Rattle.cs_ast.specs.declared.expression.ExprKind.{ExprKind-F, out-ExprKind}
use Rattle.cs_ast.specs.declared.expression.Stmt.{Stmt}
use Rattle.cs_ast.specs.declared.expression.StmtKind.{StmtKind-F, out-StmtKind}
use Rattle.cs_ast.specs.declared.member.Member.{Member}
use Rattle.cs_ast.specs.declared.operators.CastOp.{CastOp}
use Rattle.cs_ast.specs.declared.operators.CastOp.TheVariants as co
use Rattle.cs_token.specs.declared.token.Token.{Token}
use Rattle.cs_token.specs.declared.token.TokenKind.{TokenKind}
use Rattle.cs_token.specs.declared.token.TokenKind.TheVariants as t
use Rattle.cs_grammar.specs.Nesting.{too_deep}
use Rattle.cs_parse.specs.BodyReading.{whole_statements}
use Rattle.cs_parse.specs.LambdaReading.{whole_spelled}
use Rattle.cs_parse.specs.MemberReading.{whole_members}
use Rattle.razor_reader.specs.declared.mark.Mark.TheVariants as m
use Rattle.razor_reader.specs.Reading.{◌>>=◌}
use Rattle.razor_reader.specs.TokenReading.{between}

-- what is read, where the tokens nest nowhere too deeply
abbrev pub flat : {A : Type 0} → (List Token → Option A) → List Token → Option A
flat read ts = elim (too_deep ts) [ None ↦ read ts | Some p ↦ None ]

-- an expression, an operand as markup, or a lambda
unfoldable pub spelled : List Token → Option Expr
spelled ts = flat whole_spelled ts

abbrev pub is_markup : CastOp → Bool
is_markup co.Markup = true
is_markup co.Text = false

abbrev pub is_lambda : Expr → Bool
is_lambda a = elim (out-ExprKind a.kind) [ ExprKind-F.Lambda name body ↦ true | _ ↦ false ]

-- neither a lambda nor markup
abbrev pub is_plain : Expr → Bool
is_plain a = elim (out-ExprKind a.kind) [ ExprKind-F.Lambda name body ↦ false | ExprKind-F.Cast op b ↦ not (is_markup op) | _ ↦ true ]

-- an expression
abbrev pub plain : List Token → Option Expr
plain ts = spelled ts >>= λ a. if is_plain a then Some a else None

-- an expression, or an operand as markup
abbrev pub value : List Token → Option Expr
value ts = spelled ts >>= λ a. if is_lambda a then None else Some a

abbrev pub is_name : TokenKind → Bool
is_name (t.Name x) = true
is_name _ = false

abbrev pub begins_with_name : List Token → Bool
begins_with_name [] = false
begins_with_name (u ∷ ts) = is_name u.kind

-- behind the at sign of content: a value in brackets, or a name and what goes on with it
abbrev pub shown : List Token → Option Expr
shown ts = if begins_with_name ts then plain ts else (between m.OpenRound m.CloseRound ts >>= value)

-- behind the at sign of a value, which may be in brackets as a whole
abbrev pub led : List Token → Option Expr
led ts = elim (spelled ts) [ Some a ↦ Some a | None ↦ between m.OpenRound m.CloseRound ts >>= spelled ]

-- members
unfoldable pub all_members : List Token → Option (List Member)
all_members ts = flat whole_members ts

-- members in braces
abbrev pub members : List Token → Option (List Member)
members ts = between m.OpenBrace m.CloseBrace ts >>= all_members

-- statements
unfoldable pub all_statements : List Token → Option (List Stmt)
all_statements ts = flat whole_statements ts

-- a statement without statements in it, and no jump
abbrev pub is_simple : Stmt → Bool
is_simple a = elim (out-StmtKind a.kind) [
  | StmtKind-F.Local cs_type name value ↦ true
  | StmtKind-F.Empty ↦ true
  | StmtKind-F.Expr b ↦ true
  | StmtKind-F.Await b ↦ true
  | StmtKind-F.Return value ↦ true
  | _ ↦ false
]

-- the only one
abbrev pub only : List Stmt → Option Stmt
only [] = None
only (a ∷ []) = Some a
only (a ∷ b ∷ others) = None

-- one such statement
abbrev pub simple : List Token → Option Stmt
simple ts = all_statements ts >>= λ body. (only body >>= λ a. if is_simple a then Some a else None)
