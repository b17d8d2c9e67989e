-- Which tokens code is printed as, by their kinds: a tree gives them, whatever the places in it.
use Rattle.std.specs.Prelude.{ℕ, pos, negsuc, suc, Bool, true, false, List, [], ◌∷◌, ◌++◌, map, codes, Option, Some, None, nat_le, if◌then◌else◌}
use Rattle.std.specs.List.{flat_map}
use Rattle.cs_ast.specs.declared.cs_type.TypeExpr.{TypeExpr}
use Rattle.cs_ast.specs.declared.cs_type.TypeKind.{TypeKind}
use Rattle.cs_ast.specs.declared.cs_type.TypeKind.TheOpen.{TypeKind-F}
use Rattle.cs_ast.specs.declared.cs_type.TypeKind.TheFolds.{fold-TypeExpr, fold-TypeKind}
use Rattle.cs_ast.specs.declared.expression.Body.{Body}
use Rattle.cs_ast.specs.declared.expression.Body.TheOpen.{Body-F, ExprKind-F, StmtKind-F, TextPart-F}
use Rattle.cs_ast.specs.declared.expression.Body.TheFolds.{fold-Body, fold-Expr, fold-ExprKind, fold-TextPart, fold-WithPart, fold-Stmt, fold-StmtKind, fold-Section}
use Rattle.cs_ast.specs.declared.expression.Expr.{Expr}
use Rattle.cs_ast.specs.declared.expression.ExprKind.{ExprKind}
use Rattle.cs_ast.specs.declared.expression.Label.{Label}
use Rattle.cs_ast.specs.declared.expression.LabelKind.{LabelKind}
use Rattle.cs_ast.specs.declared.expression.LabelKind.TheVariants as lk
use Rattle.cs_ast.specs.declared.expression.Section.{Section}
use Rattle.cs_ast.specs.declared.expression.Stmt.{Stmt}
use Rattle.cs_ast.specs.declared.expression.StmtKind.{StmtKind}
use Rattle.cs_ast.specs.declared.expression.TextPart.{TextPart}
use Rattle.cs_ast.specs.declared.expression.WithPart.{WithPart}
use Rattle.cs_ast.specs.declared.identifier.Ident.{Ident}
use Rattle.cs_ast.specs.declared.operators.AssignOp.{AssignOp}
use Rattle.cs_ast.specs.declared.operators.AssignOp.TheVariants as ao
use Rattle.cs_ast.specs.declared.operators.BinaryOp.{BinaryOp}
use Rattle.cs_ast.specs.declared.operators.BinaryOp.TheVariants as bo
use Rattle.cs_ast.specs.declared.operators.CastOp.{CastOp}
use Rattle.cs_ast.specs.declared.operators.CastOp.TheVariants as co
use Rattle.cs_ast.specs.declared.operators.StaticType.{StaticType}
use Rattle.cs_ast.specs.declared.operators.StaticType.TheVariants as sy
use Rattle.cs_ast.specs.declared.operators.StepOp.{StepOp}
use Rattle.cs_ast.specs.declared.operators.StepOp.TheVariants as so
use Rattle.cs_ast.specs.declared.operators.UnaryOp.{UnaryOp}
use Rattle.cs_ast.specs.declared.operators.UnaryOp.TheVariants as uo
use Rattle.cs_token.specs.declared.token.TokenKind.{TokenKind}
use Rattle.cs_token.specs.declared.token.TokenKind.TheVariants as k
use Rattle.cs_token.specs.declared.token.Sign.{Sign}
use Rattle.cs_token.specs.declared.token.Sign.TheVariants as s
use Rattle.cs_token.specs.declared.token.Word.{Word}
use Rattle.cs_token.specs.declared.token.Word.TheVariants as w
use Rattle.cs_grammar.specs.Tables.{level, left_level, right_level}

-- tokens by their kinds
abbrev pub Kinds : Type 0
Kinds = List TokenKind

-- the sign of an operator
unfoldable pub operator_sign : BinaryOp → Sign
operator_sign bo.Coalesce = s.QuestionQuestion
operator_sign bo.Or = s.Or
operator_sign bo.And = s.And
operator_sign bo.Equal = s.Equal
operator_sign bo.NotEqual = s.NotEqual
operator_sign bo.Less = s.Less
operator_sign bo.Greater = s.Greater
operator_sign bo.LessOrEqual = s.LessOrEqual
operator_sign bo.GreaterOrEqual = s.GreaterOrEqual
operator_sign bo.Add = s.Plus
operator_sign bo.Subtract = s.Minus
operator_sign bo.Multiply = s.Star
operator_sign bo.Divide = s.Slash
operator_sign bo.Remainder = s.Percent

unfoldable pub unary_sign : UnaryOp → Sign
unary_sign uo.Minus = s.Minus
unary_sign uo.Plus = s.Plus
unary_sign uo.Not = s.Not

unfoldable pub assignment_sign : AssignOp → Sign
assignment_sign ao.Set = s.Assign
assignment_sign ao.Add = s.AddAssign
assignment_sign ao.Subtract = s.SubtractAssign
assignment_sign ao.Multiply = s.MultiplyAssign
assignment_sign ao.Divide = s.DivideAssign
assignment_sign ao.Remainder = s.RemainderAssign

unfoldable pub step_sign : StepOp → Sign
step_sign so.Increment = s.PlusPlus
step_sign so.Decrement = s.MinusMinus

-- the word of a type in brackets
unfoldable pub cast_word : CastOp → Word
cast_word co.Text = w.String
cast_word co.Markup = w.MarkupString

-- the word of a type whose members are named
unfoldable pub static_word : StaticType → Word
static_word sy.Int = w.Int
static_word sy.Text = w.String

-- the word of a truth value
abbrev pub truth_word : Bool → Word
truth_word true = w.True
truth_word false = w.False

-- these with a comma before each
abbrev pub behind_commas : List Kinds → Kinds
behind_commas = flat_map (λ x. k.Sign s.Comma ∷ x)

-- these one behind another
abbrev pub joined : List Kinds → Kinds
joined = flat_map (λ x. x)

-- these with commas between them
abbrev pub listed : List Kinds → Kinds
listed [] = []
listed (x ∷ xs) = x ++ behind_commas xs

-- in round brackets, and in braces
abbrev pub in_round : Kinds → Kinds
in_round x = k.Sign s.OpenRound ∷ (x ++ k.Sign s.CloseRound ∷ [])

abbrev pub in_braces : Kinds → Kinds
in_braces x = k.Sign s.OpenBrace ∷ (x ++ k.Sign s.CloseBrace ∷ [])

-- the type in the brackets of another
abbrev pub of_type : Word → Kinds → Kinds
of_type word a = k.Word word ∷ k.Sign s.Less ∷ (a ++ k.Sign s.Greater ∷ [])

-- the same, where there may be none in its brackets
abbrev pub generic : Word → Option Kinds → Kinds
generic word None = k.Word word ∷ []
generic word (Some a) = of_type word a

-- a type by its parts
abbrev pub type_form : TypeKind-F Kinds Kinds → Kinds
type_form TypeKind-F.Int = k.Word w.Int ∷ []
type_form TypeKind-F.Bool = k.Word w.Bool ∷ []
type_form TypeKind-F.Text = k.Word w.String ∷ []
type_form (TypeKind-F.Named name) = k.Name name ∷ []
type_form (TypeKind-F.List a) = of_type w.ImmutableList a
type_form (TypeKind-F.Callback a) = generic w.EventCallback a
type_form (TypeKind-F.Fragment a) = generic w.RenderFragment a
type_form TypeKind-F.Change = k.Word w.ChangeEventArgs ∷ []
type_form TypeKind-F.Args = k.Word w.EventArgs ∷ []

-- a type
unfoldable pub type_kinds : TypeExpr → Kinds
type_kinds = fold-TypeExpr Kinds Kinds type_form (λ it. it.kind)

unfoldable pub type_kind_kinds : TypeKind → Kinds
type_kind_kinds = fold-TypeKind Kinds Kinds type_form (λ it. it.kind)

-- an expression: how tightly it holds its operands, and its tokens
pub record Printed : Type 0 where
  pub level : ℕ
  pub kinds : Kinds

-- where this level is asked: in brackets where it holds less tightly
abbrev pub at_level : ℕ → Printed → Kinds
at_level l x = if nat_le l x.level then x.kinds else in_round x.kinds

-- an expression as a whole
abbrev pub whole : Printed → Kinds
whole = at_level 0

-- it stands before a dot
abbrev pub postfix : Kinds → Printed
postfix x = record { level = 13; kinds = x }

unfoldable pub binary : BinaryOp → Printed → Printed → Printed
binary op a b = record { level = level op; kinds = at_level (left_level op) a ++ k.Sign (operator_sign op) ∷ at_level (right_level op) b }

unfoldable pub conditional : Printed → Printed → Printed → Printed
conditional a b c = record { level = 0; kinds = at_level 1 a ++ k.Sign s.Question ∷ (whole b ++ k.Sign s.Colon ∷ whole c) }

unfoldable pub with_parts : Printed → List Kinds → Printed
with_parts a parts = record { level = 10; kinds = at_level 10 a ++ k.Name (codes "with") ∷ in_braces (listed parts) }

unfoldable pub unary : UnaryOp → Printed → Printed
unary op a = record { level = 11; kinds = k.Sign (unary_sign op) ∷ at_level 11 a }

unfoldable pub cast : CastOp → Printed → Printed
cast op a = record { level = 11; kinds = in_round (k.Word (cast_word op) ∷ []) ++ at_level 11 a }

unfoldable pub null_member : Printed → List ℕ → Printed
null_member a name = record { level = 11; kinds = at_level 12 a ++ k.Sign s.QuestionDot ∷ k.Name name ∷ [] }

unfoldable pub member : Printed → List ℕ → Printed
member a name = postfix (at_level 13 a ++ k.Sign s.Dot ∷ k.Name name ∷ [])

unfoldable pub call : Printed → List Printed → Printed
call a bs = postfix (at_level 13 a ++ in_round (listed (map whole bs)))

unfoldable pub index : Printed → Printed → Printed
index a b = postfix (at_level 13 a ++ k.Sign s.OpenSquare ∷ (whole b ++ k.Sign s.CloseSquare ∷ []))

unfoldable pub new_record : List ℕ → List Printed → Printed
new_record name bs = postfix (k.Word w.New ∷ k.Name name ∷ in_round (listed (map whole bs)))

unfoldable pub empty_list : TypeExpr → Printed
empty_list a = postfix (of_type w.ImmutableList (type_kinds a) ++ k.Sign s.Dot ∷ k.Name (codes "Empty") ∷ [])

unfoldable pub static_member : StaticType → List ℕ → Printed
static_member owner name = postfix (k.Word (static_word owner) ∷ k.Sign s.Dot ∷ k.Name name ∷ [])

unfoldable pub interpolated : List Kinds → Printed
interpolated parts = postfix (k.Sign s.InterpolationStart ∷ (joined parts ++ k.Sign s.InterpolationEnd ∷ []))

unfoldable pub assign : AssignOp → List ℕ → Printed → Printed
assign op name a = record { level = 0; kinds = k.Name name ∷ k.Sign (assignment_sign op) ∷ whole a }

unfoldable pub step : StepOp → List ℕ → Printed
step op name = record { level = 0; kinds = k.Name name ∷ k.Sign (step_sign op) ∷ [] }

unfoldable pub lambda : Option Ident → Kinds → Printed
lambda None b = record { level = 0; kinds = k.Sign s.OpenRound ∷ k.Sign s.CloseRound ∷ k.Sign s.Arrow ∷ b }
lambda (Some name) b = record { level = 0; kinds = k.Name name.name ∷ k.Sign s.Arrow ∷ b }

-- an expression by its parts
abbrev pub expression_form : ExprKind-F Kinds Printed Kinds Kinds Printed Kinds Kinds Kinds → Printed
expression_form (ExprKind-F.Int n) = postfix (k.Number n ∷ [])
expression_form (ExprKind-F.Bool truth) = postfix (k.Word (truth_word truth) ∷ [])
expression_form (ExprKind-F.Text text) = postfix (k.Text text ∷ [])
expression_form ExprKind-F.Null = postfix (k.Word w.Null ∷ [])
expression_form (ExprKind-F.Interpolated parts) = interpolated parts
expression_form (ExprKind-F.Name name) = postfix (k.Name name ∷ [])
expression_form (ExprKind-F.Unary op a) = unary op a
expression_form (ExprKind-F.Cast op a) = cast op a
expression_form (ExprKind-F.Binary op a b) = binary op a b
expression_form (ExprKind-F.Conditional a b c) = conditional a b c
expression_form (ExprKind-F.With a parts) = with_parts a parts
expression_form (ExprKind-F.Member a name) = member a name.name
expression_form (ExprKind-F.NullMember a name) = null_member a name.name
expression_form (ExprKind-F.Call a bs) = call a bs
expression_form (ExprKind-F.Index a b) = index a b
expression_form (ExprKind-F.New name bs) = new_record name.name bs
expression_form (ExprKind-F.EmptyList a) = empty_list a
expression_form (ExprKind-F.Static owner name) = static_member owner name.name
expression_form (ExprKind-F.Assign op name a) = assign op name.name a
expression_form (ExprKind-F.Step op name) = step op name.name
expression_form (ExprKind-F.Lambda name b) = lambda name b

-- a piece of an interpolated text
abbrev pub in_hole : Kinds → Kinds
in_hole x = k.Sign s.HoleOpen ∷ (x ++ k.Sign s.HoleClose ∷ [])

abbrev pub text_form : TextPart-F Kinds Printed Kinds Kinds Printed Kinds Kinds Kinds → Kinds
text_form (TextPart-F.Literal text) = k.Part text ∷ []
text_form (TextPart-F.Hole a) = in_hole (whole a)

-- a part behind `with`
abbrev pub given : List ℕ → Printed → Kinds
given name a = k.Name name ∷ k.Sign s.Assign ∷ whole a

-- what stands behind the arrow of a lambda
abbrev pub body_form : Body-F Kinds Printed Kinds Kinds Printed Kinds Kinds Kinds → Kinds
body_form (Body-F.Value a) = whole a
body_form (Body-F.Body::Block statements) = in_braces (joined statements)

-- a type, or `var`
abbrev pub declared : Option TypeExpr → Kinds
declared None = k.Word w.Var ∷ []
declared (Some a) = type_kinds a

-- an initial value, if there is one
abbrev pub initial : Option Printed → Kinds
initial None = []
initial (Some a) = k.Sign s.Assign ∷ whole a

-- an expression, if there is one
abbrev pub optional : Option Printed → Kinds
optional None = []
optional (Some a) = whole a

-- this, and a semicolon
abbrev pub ended : Kinds → Kinds
ended x = x ++ k.Sign s.Semicolon ∷ []

-- the start of a `for`, which is a statement, and its semicolon
abbrev pub started : Option Kinds → Kinds
started None = k.Sign s.Semicolon ∷ []
started (Some x) = x

-- the other branch, if there is one
abbrev pub otherwise : Option Kinds → Kinds
otherwise None = []
otherwise (Some x) = k.Word w.Else ∷ x

unfoldable pub local : Option TypeExpr → List ℕ → Option Printed → Kinds
local a name value = declared a ++ k.Name name ∷ ended (initial value)

unfoldable pub if_else : Printed → Kinds → Option Kinds → Kinds
if_else a holds fails = k.Word w.If ∷ (in_round (whole a) ++ (holds ++ otherwise fails))

unfoldable pub while_loop : Printed → Kinds → Kinds
while_loop a body = k.Word w.While ∷ (in_round (whole a) ++ body)

unfoldable pub for_loop : Option Kinds → Option Printed → Option Printed → Kinds → Kinds
for_loop start condition next body =
    k.Word w.For ∷ (in_round (started start ++ (ended (optional condition) ++ optional next)) ++ body)

unfoldable pub foreach_loop : List ℕ → Printed → Kinds → Kinds
foreach_loop name a body =
    k.Word w.Foreach ∷ (in_round (k.Word w.Var ∷ k.Name name ∷ k.Word w.In ∷ whole a) ++ body)

unfoldable pub switch_of : Printed → List Kinds → Kinds
switch_of a sections = k.Word w.Switch ∷ (in_round (whole a) ++ in_braces (joined sections))

unfoldable pub return_of : Option Printed → Kinds
return_of a = k.Word w.Return ∷ ended (optional a)

unfoldable pub await_of : Printed → Kinds
await_of a = k.Word w.Await ∷ ended (whole a)

-- a statement by its parts
abbrev pub statement_form : StmtKind-F Kinds Printed Kinds Kinds Printed Kinds Kinds Kinds → Kinds
statement_form (StmtKind-F.Local a name value) = local a name.name value
statement_form StmtKind-F.Empty = k.Sign s.Semicolon ∷ []
statement_form (StmtKind-F.StmtKind::Block statements) = in_braces (joined statements)
statement_form (StmtKind-F.If a holds fails) = if_else a holds fails
statement_form (StmtKind-F.While a body) = while_loop a body
statement_form (StmtKind-F.For start condition next body) = for_loop start condition next body
statement_form (StmtKind-F.ForEach name a body) = foreach_loop name.name a body
statement_form (StmtKind-F.Switch a sections) = switch_of a sections
statement_form StmtKind-F.Break = k.Word w.Break ∷ k.Sign s.Semicolon ∷ []
statement_form StmtKind-F.Continue = k.Word w.Continue ∷ k.Sign s.Semicolon ∷ []
statement_form (StmtKind-F.Return a) = return_of a
statement_form (StmtKind-F.Expr a) = ended (whole a)
statement_form (StmtKind-F.Await a) = await_of a

-- a constant of a label; a number below 0 has its sign before it
abbrev pub constant : LabelKind → Kinds
constant (lk.Int (pos n)) = k.Number (pos n) ∷ []
constant (lk.Int (negsuc n)) = k.Sign s.Minus ∷ k.Number (pos (suc n)) ∷ []
constant (lk.Bool truth) = k.Word (truth_word truth) ∷ []
constant (lk.Text text) = k.Text text ∷ []
constant lk.Null = k.Word w.Null ∷ []
constant lk.Default = []

-- a label
abbrev pub label_kinds : LabelKind → Kinds
label_kinds lk.Default = k.Word w.Default ∷ k.Sign s.Colon ∷ []
label_kinds kind = k.Word w.Case ∷ (constant kind ++ k.Sign s.Colon ∷ [])

-- labels and the statements behind them
abbrev pub sectioned : List Label → List Kinds → Kinds
sectioned labels statements = joined (map (λ label. label_kinds label.kind) labels) ++ joined statements

-- an expression
unfoldable pub printed : Expr → Printed
printed =
    fold-Expr
    Kinds Printed Kinds Kinds Printed Kinds Kinds Kinds
    body_form expression_form statement_form text_form (λ it. it.kind) (λ it. sectioned it.labels it.body) (λ it. it.kind) (λ it. given it.name.name it.value)

unfoldable pub printed_kind : ExprKind → Printed
printed_kind =
    fold-ExprKind
    Kinds Printed Kinds Kinds Printed Kinds Kinds Kinds
    body_form expression_form statement_form text_form (λ it. it.kind) (λ it. sectioned it.labels it.body) (λ it. it.kind) (λ it. given it.name.name it.value)

-- a piece of an interpolated text
unfoldable pub text_kinds : TextPart → Kinds
text_kinds =
    fold-TextPart
    Kinds Printed Kinds Kinds Printed Kinds Kinds Kinds
    body_form expression_form statement_form text_form (λ it. it.kind) (λ it. sectioned it.labels it.body) (λ it. it.kind) (λ it. given it.name.name it.value)

-- a part behind `with`
unfoldable pub part_kinds : WithPart → Kinds
part_kinds =
    fold-WithPart
    Kinds Printed Kinds Kinds Printed Kinds Kinds Kinds
    body_form expression_form statement_form text_form (λ it. it.kind) (λ it. sectioned it.labels it.body) (λ it. it.kind) (λ it. given it.name.name it.value)

-- what stands behind the arrow of a lambda
unfoldable pub body_kinds : Body → Kinds
body_kinds =
    fold-Body
    Kinds Printed Kinds Kinds Printed Kinds Kinds Kinds
    body_form expression_form statement_form text_form (λ it. it.kind) (λ it. sectioned it.labels it.body) (λ it. it.kind) (λ it. given it.name.name it.value)

-- a statement
unfoldable pub statement_kinds : Stmt → Kinds
statement_kinds =
    fold-Stmt
    Kinds Printed Kinds Kinds Printed Kinds Kinds Kinds
    body_form expression_form statement_form text_form (λ it. it.kind) (λ it. sectioned it.labels it.body) (λ it. it.kind) (λ it. given it.name.name it.value)

unfoldable pub statement_kind_kinds : StmtKind → Kinds
statement_kind_kinds =
    fold-StmtKind
    Kinds Printed Kinds Kinds Printed Kinds Kinds Kinds
    body_form expression_form statement_form text_form (λ it. it.kind) (λ it. sectioned it.labels it.body) (λ it. it.kind) (λ it. given it.name.name it.value)

-- a section of a `switch`
unfoldable pub section_kinds : Section → Kinds
section_kinds =
    fold-Section
    Kinds Printed Kinds Kinds Printed Kinds Kinds Kinds
    body_form expression_form statement_form text_form (λ it. it.kind) (λ it. sectioned it.labels it.body) (λ it. it.kind) (λ it. given it.name.name it.value)

-- statements one behind another
abbrev pub statements_kinds : List Stmt → Kinds
statements_kinds statements = joined (map statement_kinds statements)
