-- What expressions and statements come to: by recursion on their trees.
use Rattle.std.specs.Prelude.{List, map, option_map}
use Rattle.text_core.specs.declared.place.Place.{Place}
use Rattle.cs_ast.specs.declared.code.Code.{Code}
use Rattle.cs_ast.specs.declared.code.Code.TheVariants as c
use Rattle.cs_ast.specs.declared.cs_type.CsType.TheVariants as t
use Rattle.cs_ast.specs.declared.expression.Expr.{Expr}
use Rattle.cs_ast.specs.declared.expression.ExprKind.{ExprKind}
use Rattle.cs_ast.specs.declared.expression.Section.{Section}
use Rattle.cs_ast.specs.declared.expression.Stmt.{Stmt}
use Rattle.cs_ast.specs.declared.expression.StmtKind.{StmtKind}
use Rattle.cs_ast.specs.declared.expression.TextPart.{TextPart}
use Rattle.cs_ast.specs.declared.expression.WithPart.{WithPart}
use Rattle.cs_ast.specs.declared.expression.Body.TheOpen.{ExprKind-F, StmtKind-F, TextPart-F}
use Rattle.cs_ast.specs.declared.expression.Body.TheFolds.{fold-Expr, fold-ExprKind, fold-TextPart, fold-WithPart, fold-Stmt, fold-StmtKind, fold-Section}
use Rattle.cs_ast.specs.declared.scope.Scope.{Scope}
use Rattle.cs_rules.specs.declared.callee.Callee.{Callee}
use Rattle.cs_rules.specs.declared.checked.Checked.{Checked}
use Rattle.cs_rules.specs.declared.checked.ExprType.{ExprType}
use Rattle.cs_rules.specs.declared.checked.ExprType.TheVariants.{Null}
use Rattle.cs_rules.specs.Judged.{Judged, fine, mismatch, ◌>>=◌}
use Rattle.cs_rules.specs.Types.{checked}
use Rattle.cs_rules.specs.Library.{static_callee, callee_of_value}
use Rattle.cs_rules.specs.Expressions as e
use Rattle.cs_rules.specs.Expressions.{Value, Given}
use Rattle.cs_rules.specs.Statements as st
use Rattle.cs_rules.specs.Statements.{Statement, done}

-- what an expression comes to in each scope: as a value, and as what is called
pub record Uses : Type 0 where
  pub value : Value
  pub callee : Scope → Judged Callee

-- a form of expression, with what its parts come to in their places
abbrev pub Form : Type 0
Form = ExprKind-F (Unit {0}) (Place → Uses) (Place → Statement) (Scope → Judged Code) Uses (ExprType → Scope → Judged Code) Statement Given

abbrev pub Form_of_statement : Type 0
Form_of_statement = StmtKind-F (Unit {0}) (Place → Uses) (Place → Statement) (Scope → Judged Code) Uses (ExprType → Scope → Judged Code) Statement Given

-- as a value
unfoldable pub value_of_form : Form → Place → Value
value_of_form (ExprKind-F.Int number) place s = fine (checked place (c.Int number) t.Int)
value_of_form (ExprKind-F.Bool truth) place s = fine (checked place (c.Bool truth) t.Bool)
value_of_form (ExprKind-F.Text text) place s = fine (checked place (c.Text text) t.Text)
value_of_form ExprKind-F.Null place s = fine (record { place = place; code = c.Null; expr_type = Null })
value_of_form (ExprKind-F.Interpolated parts) place s = e.interpolated parts place s
value_of_form (ExprKind-F.Name name) place s = e.name_read name place s
value_of_form (ExprKind-F.Unary op a) place s = e.unary op a.value place s
value_of_form (ExprKind-F.Cast op a) place s = e.cast op a.value place s
value_of_form (ExprKind-F.Binary op a b) place s = e.binary op a.value b.value place s
value_of_form (ExprKind-F.Conditional test a b) place s = e.conditional test.value a.value b.value place s
value_of_form (ExprKind-F.With a parts) place s = e.with_of a.value parts place s
value_of_form (ExprKind-F.Member a name) place s = e.member a.value name place s
value_of_form (ExprKind-F.NullMember a name) place s = e.member_or_null a.value name place s
value_of_form (ExprKind-F.Call target arguments) place s = e.call target.callee (map (λ a. a.value) arguments) place s
value_of_form (ExprKind-F.Index a i) place s = e.index a.value i.value place s
value_of_form (ExprKind-F.New name arguments) place s = e.new name (map (λ a. a.value) arguments) place s
value_of_form (ExprKind-F.EmptyList cs_type) place s = e.empty_list cs_type place s
value_of_form (ExprKind-F.Static of name) place s = e.static_member of name place s
value_of_form (ExprKind-F.Assign op target a) place s = e.assign op target a.value place s
value_of_form (ExprKind-F.Step op target) place s = e.step op target place s
value_of_form (ExprKind-F.Lambda argument body) place s = mismatch place

-- as what is called: a method, a member of the library, or a value
unfoldable pub callee_of_form : Form → Place → Scope → Judged Callee
callee_of_form (ExprKind-F.Name name) place s = e.name_called name place s
callee_of_form (ExprKind-F.Member a name) place s = e.member_called a.value name place s
callee_of_form (ExprKind-F.Static of name) place s = static_callee place of name
callee_of_form form place s = value_of_form form place s >>= callee_of_value

unfoldable pub uses_of_form : Form → Place → Uses
uses_of_form form place = record { value = value_of_form form place; callee = callee_of_form form place }

unfoldable pub text_part : TextPart-F (Unit {0}) (Place → Uses) (Place → Statement) (Scope → Judged Code) Uses (ExprType → Scope → Judged Code) Statement Given → Scope → Judged Code
text_part (TextPart-F.Literal text) s = fine (c.Piece text)
text_part (TextPart-F.Hole a) s = e.hole a.value s

-- a statement
unfoldable pub statement_of_form : Form_of_statement → Place → Statement
statement_of_form (StmtKind-F.Local cs_type name value) place s = st.local cs_type name (option_map (λ a. a.value) value) s
statement_of_form StmtKind-F.Empty place s = fine (done s c.Empty)
statement_of_form (StmtKind-F.StmtKind::Block body) place s = st.block body s
statement_of_form (StmtKind-F.If test holds fails) place s = st.if_else test.value holds fails s
statement_of_form (StmtKind-F.While test body) place s = st.while_loop test.value body s
statement_of_form (StmtKind-F.For start test step body) place s = st.for_loop start (option_map (λ a. a.value) test) (option_map (λ a. a.value) step) body s
statement_of_form (StmtKind-F.ForEach name list body) place s = st.for_each name list.value body s
statement_of_form (StmtKind-F.Switch a sections) place s = st.switch_of a.value sections s
statement_of_form StmtKind-F.Break place s = fine (done s c.Break)
statement_of_form StmtKind-F.Continue place s = fine (done s c.Continue)
statement_of_form (StmtKind-F.Return a) place s = st.return_of (option_map (λ x. x.value) a) place s
statement_of_form (StmtKind-F.Expr a) place s = st.perform a.value s
statement_of_form (StmtKind-F.Await a) place s = st.perform a.value s

-- what an expression comes to
unfoldable pub uses : Expr → Uses
uses =
    fold-Expr (Unit {0}) (Place → Uses) (Place → Statement) (Scope → Judged Code) Uses (ExprType → Scope → Judged Code) Statement Given
    (λ body. tt) uses_of_form statement_of_form text_part (λ it. it.kind it.place) (λ it. st.section it.labels it.body)
    (λ it. it.kind it.place) (λ it. record { name = it.name; value = it.value.value })

-- what a form of expression comes to at a place
unfoldable pub uses_of_kind : ExprKind → Place → Uses
uses_of_kind =
    fold-ExprKind (Unit {0}) (Place → Uses) (Place → Statement) (Scope → Judged Code) Uses (ExprType → Scope → Judged Code) Statement Given
    (λ body. tt) uses_of_form statement_of_form text_part (λ it. it.kind it.place) (λ it. st.section it.labels it.body)
    (λ it. it.kind it.place) (λ it. record { name = it.name; value = it.value.value })

-- what a piece of an interpolated text comes to
unfoldable pub piece : TextPart → Scope → Judged Code
piece =
    fold-TextPart (Unit {0}) (Place → Uses) (Place → Statement) (Scope → Judged Code) Uses (ExprType → Scope → Judged Code) Statement Given
    (λ body. tt) uses_of_form statement_of_form text_part (λ it. it.kind it.place) (λ it. st.section it.labels it.body)
    (λ it. it.kind it.place) (λ it. record { name = it.name; value = it.value.value })

-- what a part behind `with` comes to
unfoldable pub given : WithPart → Given
given =
    fold-WithPart (Unit {0}) (Place → Uses) (Place → Statement) (Scope → Judged Code) Uses (ExprType → Scope → Judged Code) Statement Given
    (λ body. tt) uses_of_form statement_of_form text_part (λ it. it.kind it.place) (λ it. st.section it.labels it.body)
    (λ it. it.kind it.place) (λ it. record { name = it.name; value = it.value.value })

-- what a statement comes to
unfoldable pub statement : Stmt → Statement
statement =
    fold-Stmt (Unit {0}) (Place → Uses) (Place → Statement) (Scope → Judged Code) Uses (ExprType → Scope → Judged Code) Statement Given
    (λ body. tt) uses_of_form statement_of_form text_part (λ it. it.kind it.place) (λ it. st.section it.labels it.body)
    (λ it. it.kind it.place) (λ it. record { name = it.name; value = it.value.value })

-- what a form of statement comes to at a place
unfoldable pub statement_of_kind : StmtKind → Place → Statement
statement_of_kind =
    fold-StmtKind (Unit {0}) (Place → Uses) (Place → Statement) (Scope → Judged Code) Uses (ExprType → Scope → Judged Code) Statement Given
    (λ body. tt) uses_of_form statement_of_form text_part (λ it. it.kind it.place) (λ it. st.section it.labels it.body)
    (λ it. it.kind it.place) (λ it. record { name = it.name; value = it.value.value })

-- what a section of a `switch` comes to, by the type of what decides
unfoldable pub section : Section → ExprType → Scope → Judged Code
section =
    fold-Section (Unit {0}) (Place → Uses) (Place → Statement) (Scope → Judged Code) Uses (ExprType → Scope → Judged Code) Statement Given
    (λ body. tt) uses_of_form statement_of_form text_part (λ it. it.kind it.place) (λ it. st.section it.labels it.body)
    (λ it. it.kind it.place) (λ it. record { name = it.name; value = it.value.value })

-- an expression as a value in a scope: its code and type, or the first rule that it breaks
abbrev pub value_in : Scope → Expr → Judged Checked
value_in scope a = (uses a).value scope

abbrev pub callee_in : Scope → Expr → Judged Callee
callee_in scope a = (uses a).callee scope

-- the statements of a body in a scope: their code, a block, or the first rule that they break
abbrev pub body_in : Scope → List Stmt → Judged Code
body_in scope body = st.in_order (map statement body) scope >>= λ codes. fine (c.Block codes)
