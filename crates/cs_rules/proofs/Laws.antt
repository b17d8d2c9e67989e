-- The equations of what trees come to.
use Rattle.std.proofs.Common.{◌≡◌, ℕ, List, map, refl, sym, ap, ◌∙◌}
use Rattle.std.specs.Prelude.{ℤ, Bool, Option, Some, None, option_map}
use Rattle.text_core.specs.declared.place.Place.{Place}
use Rattle.cs_ast.specs.declared.code.Code.{Code}
use Rattle.cs_ast.specs.declared.code.Code.TheVariants as c
use Rattle.cs_ast.specs.declared.cs_type.CsType.TheVariants as ty
use Rattle.cs_ast.specs.declared.cs_type.TypeExpr.{TypeExpr}
use Rattle.cs_ast.specs.declared.expression.Body.{Body}
use Rattle.cs_ast.specs.declared.expression.Body.TheOpen.{ExprKind-F, StmtKind-F, TextPart-F}
use Rattle.cs_ast.specs.declared.expression.Body.TheFolds.{fold_out-Expr, fold_out-Stmt, fold_out-Section, fold_out-WithPart, fold-roll-ExprKind, fold-roll-StmtKind, fold-roll-TextPart, map-ExprKind, map-StmtKind}
use Rattle.cs_ast.specs.declared.expression.Body.TheViews.{roll-ExprKind, roll-StmtKind, out-ExprKind, roll-out-ExprKind}
use Rattle.cs_ast.specs.declared.expression.Expr.{Expr}
use Rattle.cs_ast.specs.declared.expression.ExprKind.{ExprKind}
use Rattle.cs_ast.specs.declared.expression.ExprKind.TheVariants as ek
use Rattle.cs_ast.specs.declared.expression.Section.{Section, out-Section}
use Rattle.cs_ast.specs.declared.expression.Stmt.{Stmt}
use Rattle.cs_ast.specs.declared.expression.StmtKind.{StmtKind}
use Rattle.cs_ast.specs.declared.expression.StmtKind.TheVariants as sk
use Rattle.cs_ast.specs.declared.expression.TextPart.{TextPart}
use Rattle.cs_ast.specs.declared.expression.TextPart.TheVariants as tp
use Rattle.cs_ast.specs.declared.expression.WithPart.{WithPart}
use Rattle.cs_ast.specs.declared.identifier.Ident.{Ident}
use Rattle.cs_ast.specs.declared.operators.AssignOp.{AssignOp}
use Rattle.cs_ast.specs.declared.operators.BinaryOp.{BinaryOp}
use Rattle.cs_ast.specs.declared.operators.CastOp.{CastOp}
use Rattle.cs_ast.specs.declared.operators.StaticType.{StaticType}
use Rattle.cs_ast.specs.declared.operators.StepOp.{StepOp}
use Rattle.cs_ast.specs.declared.operators.UnaryOp.{UnaryOp}
use Rattle.cs_ast.specs.declared.scope.Scope.{Scope}
use Rattle.cs_rules.specs.declared.checked.ExprType.{ExprType}
use Rattle.cs_rules.specs.declared.checked.ExprType.TheVariants.{Null}
use Rattle.cs_rules.specs.Judged.{Judged, fine, mismatch, ◌>>=◌}
use Rattle.cs_rules.specs.Types.{checked}
use Rattle.cs_rules.specs.Library.{static_callee, callee_of_value}
use Rattle.cs_rules.specs.Expressions as e
use Rattle.cs_rules.specs.Expressions.{Given}
use Rattle.cs_rules.specs.Statements as st
use Rattle.cs_rules.specs.Statements.{Statement, done}
use Rattle.cs_rules.specs.Trees.{Uses, value_of_form, callee_of_form, uses_of_form, statement_of_form, text_part, uses, uses_of_kind, piece, given, statement, statement_of_kind, section}

pub uses_law : (a : Expr) → uses a ≡ uses_of_kind a.kind a.place
unfolding uses uses_of_kind
uses_law a =
    fold_out-Expr (Unit {0}) (Place → Uses) (Place → Statement) (Scope → Judged Code) Uses (ExprType → Scope → Judged Code) Statement Given
    (λ body. tt) uses_of_form statement_of_form text_part (λ it. it.kind it.place) (λ it. st.section it.labels it.body)
    (λ it. it.kind it.place) (λ it. record { name = it.name; value = it.value.value }) a

pub statement_law : (a : Stmt) → statement a ≡ statement_of_kind a.kind a.place
unfolding statement statement_of_kind
statement_law a =
    fold_out-Stmt (Unit {0}) (Place → Uses) (Place → Statement) (Scope → Judged Code) Uses (ExprType → Scope → Judged Code) Statement Given
    (λ body. tt) uses_of_form statement_of_form text_part (λ it. it.kind it.place) (λ it. st.section it.labels it.body)
    (λ it. it.kind it.place) (λ it. record { name = it.name; value = it.value.value }) a

pub given_law : (a : WithPart) → given a ≡ record { name = a.name; value = (uses a.value).value }
unfolding given uses
given_law a =
    fold_out-WithPart (Unit {0}) (Place → Uses) (Place → Statement) (Scope → Judged Code) Uses (ExprType → Scope → Judged Code) Statement Given
    (λ body. tt) uses_of_form statement_of_form text_part (λ it. it.kind it.place) (λ it. st.section it.labels it.body)
    (λ it. it.kind it.place) (λ it. record { name = it.name; value = it.value.value }) a

pub section_law : (a : Section) → section a ≡ st.section (out-Section a).labels (map statement (out-Section a).body)
unfolding section statement
section_law a =
    fold_out-Section (Unit {0}) (Place → Uses) (Place → Statement) (Scope → Judged Code) Uses (ExprType → Scope → Judged Code) Statement Given
    (λ body. tt) uses_of_form statement_of_form text_part (λ it. it.kind it.place) (λ it. st.section it.labels it.body)
    (λ it. it.kind it.place) (λ it. record { name = it.name; value = it.value.value }) a

abbrev KindLayer : Type 0
KindLayer = ExprKind-F Body ExprKind StmtKind TextPart Expr Section Stmt WithPart

abbrev in_kind : KindLayer → ExprKind-F (Unit {0}) (Place → Uses) (Place → Statement) (Scope → Judged Code) Uses (ExprType → Scope → Judged Code) Statement Given
in_kind = map-ExprKind Body ExprKind StmtKind TextPart Expr Section Stmt WithPart (Unit {0}) (Place → Uses) (Place → Statement) (Scope → Judged Code) Uses (ExprType → Scope → Judged Code) Statement Given
    (λ body. tt) uses_of_kind statement_of_kind piece uses section statement given

-- a form at its root
at_kind : (kind : ExprKind) (x : KindLayer) (place : Place) → roll-ExprKind x ≡ kind → uses_of_kind kind place ≡ uses_of_form (in_kind x) place
unfolding uses uses_of_kind piece given statement statement_of_kind section
at_kind kind x place is = ap (λ k. uses_of_kind k place) (sym is) ∙ ap (λ f. f place) (fold-roll-ExprKind (Unit {0}) (Place → Uses) (Place → Statement) (Scope → Judged Code) Uses (ExprType → Scope → Judged Code) Statement Given
    (λ body. tt) uses_of_form statement_of_form text_part (λ it. it.kind it.place) (λ it. st.section it.labels it.body)
    (λ it. it.kind it.place) (λ it. record { name = it.name; value = it.value.value }) x)

-- as a value
valued : (kind : ExprKind) (x : KindLayer) (place : Place) (s : Scope) → roll-ExprKind x ≡ kind → (uses_of_kind kind place).value s ≡ value_of_form (in_kind x) place s
unfolding uses_of_form
valued kind x place s is = ap (λ u. u.value s) (at_kind kind x place is)

-- as what is called
called : (kind : ExprKind) (x : KindLayer) (place : Place) (s : Scope) → roll-ExprKind x ≡ kind → (uses_of_kind kind place).callee s ≡ callee_of_form (in_kind x) place s
unfolding uses_of_form
called kind x place s is = ap (λ u. u.callee s) (at_kind kind x place is)

pub int_value : (n : ℤ) (place : Place) (s : Scope) → (uses_of_kind (ek.Int n) place).value s ≡ fine (checked place (c.Int n) ty.Int)
unfolding value_of_form
int_value n place s = valued (ek.Int n) (ExprKind-F.Int n) place s (ek.rolls-Int n)

pub bool_value : (b : Bool) (place : Place) (s : Scope) → (uses_of_kind (ek.Bool b) place).value s ≡ fine (checked place (c.Bool b) ty.Bool)
unfolding value_of_form
bool_value b place s = valued (ek.Bool b) (ExprKind-F.Bool b) place s (ek.rolls-Bool b)

pub text_value : (t : List ℕ) (place : Place) (s : Scope) → (uses_of_kind (ek.Text t) place).value s ≡ fine (checked place (c.Text t) ty.Text)
unfolding value_of_form
text_value t place s = valued (ek.Text t) (ExprKind-F.Text t) place s (ek.rolls-Text t)

pub null_value : (place : Place) (s : Scope) → (uses_of_kind ek.Null place).value s ≡ fine (record { place = place; code = c.Null; expr_type = Null })
unfolding value_of_form
null_value place s = valued ek.Null ExprKind-F.Null place s ek.rolls-Null

pub interpolated_value : (parts : List TextPart) (place : Place) (s : Scope) → (uses_of_kind (ek.Interpolated parts) place).value s ≡ e.interpolated (map piece parts) place s
unfolding value_of_form
interpolated_value parts place s = valued (ek.Interpolated parts) (ExprKind-F.Interpolated parts) place s (ek.rolls-Interpolated parts)

pub name_value : (n : List ℕ) (place : Place) (s : Scope) → (uses_of_kind (ek.Name n) place).value s ≡ e.name_read n place s
unfolding value_of_form
name_value n place s = valued (ek.Name n) (ExprKind-F.Name n) place s (ek.rolls-Name n)

pub unary_value : (op : UnaryOp) (a : Expr) (place : Place) (s : Scope) → (uses_of_kind (ek.Unary op a) place).value s ≡ e.unary op (uses a).value place s
unfolding value_of_form
unary_value op a place s = valued (ek.Unary op a) (ExprKind-F.Unary op a) place s (ek.rolls-Unary op a)

pub cast_value : (op : CastOp) (a : Expr) (place : Place) (s : Scope) → (uses_of_kind (ek.Cast op a) place).value s ≡ e.cast op (uses a).value place s
unfolding value_of_form
cast_value op a place s = valued (ek.Cast op a) (ExprKind-F.Cast op a) place s (ek.rolls-Cast op a)

pub binary_value : (op : BinaryOp) (a b : Expr) (place : Place) (s : Scope) → (uses_of_kind (ek.Binary op a b) place).value s ≡ e.binary op (uses a).value (uses b).value place s
unfolding value_of_form
binary_value op a b place s = valued (ek.Binary op a b) (ExprKind-F.Binary op a b) place s (ek.rolls-Binary op a b)

pub conditional_value : (a b d : Expr) (place : Place) (s : Scope) → (uses_of_kind (ek.Conditional a b d) place).value s ≡ e.conditional (uses a).value (uses b).value (uses d).value place s
unfolding value_of_form
conditional_value a b d place s = valued (ek.Conditional a b d) (ExprKind-F.Conditional a b d) place s (ek.rolls-Conditional a b d)

pub with_value : (a : Expr) (parts : List WithPart) (place : Place) (s : Scope) → (uses_of_kind (ek.With a parts) place).value s ≡ e.with_of (uses a).value (map given parts) place s
unfolding value_of_form
with_value a parts place s = valued (ek.With a parts) (ExprKind-F.With a parts) place s (ek.rolls-With a parts)

pub member_value : (a : Expr) (n : Ident) (place : Place) (s : Scope) → (uses_of_kind (ek.Member a n) place).value s ≡ e.member (uses a).value n place s
unfolding value_of_form
member_value a n place s = valued (ek.Member a n) (ExprKind-F.Member a n) place s (ek.rolls-Member a n)

pub null_member_value : (a : Expr) (n : Ident) (place : Place) (s : Scope) → (uses_of_kind (ek.NullMember a n) place).value s ≡ e.member_or_null (uses a).value n place s
unfolding value_of_form
null_member_value a n place s = valued (ek.NullMember a n) (ExprKind-F.NullMember a n) place s (ek.rolls-NullMember a n)

pub call_value : (a : Expr) (xs : List Expr) (place : Place) (s : Scope) → (uses_of_kind (ek.Call a xs) place).value s ≡ e.call (uses a).callee (map (λ x. x.value) (map uses xs)) place s
unfolding value_of_form
call_value a xs place s = valued (ek.Call a xs) (ExprKind-F.Call a xs) place s (ek.rolls-Call a xs)

pub index_value : (a b : Expr) (place : Place) (s : Scope) → (uses_of_kind (ek.Index a b) place).value s ≡ e.index (uses a).value (uses b).value place s
unfolding value_of_form
index_value a b place s = valued (ek.Index a b) (ExprKind-F.Index a b) place s (ek.rolls-Index a b)

pub new_value : (n : Ident) (xs : List Expr) (place : Place) (s : Scope) → (uses_of_kind (ek.New n xs) place).value s ≡ e.new n (map (λ x. x.value) (map uses xs)) place s
unfolding value_of_form
new_value n xs place s = valued (ek.New n xs) (ExprKind-F.New n xs) place s (ek.rolls-New n xs)

pub empty_list_value : (t : TypeExpr) (place : Place) (s : Scope) → (uses_of_kind (ek.EmptyList t) place).value s ≡ e.empty_list t place s
unfolding value_of_form
empty_list_value t place s = valued (ek.EmptyList t) (ExprKind-F.EmptyList t) place s (ek.rolls-EmptyList t)

pub static_value : (t : StaticType) (n : Ident) (place : Place) (s : Scope) → (uses_of_kind (ek.Static t n) place).value s ≡ e.static_member t n place s
unfolding value_of_form
static_value t n place s = valued (ek.Static t n) (ExprKind-F.Static t n) place s (ek.rolls-Static t n)

pub assign_value : (op : AssignOp) (n : Ident) (a : Expr) (place : Place) (s : Scope) → (uses_of_kind (ek.Assign op n a) place).value s ≡ e.assign op n (uses a).value place s
unfolding value_of_form
assign_value op n a place s = valued (ek.Assign op n a) (ExprKind-F.Assign op n a) place s (ek.rolls-Assign op n a)

pub step_value : (op : StepOp) (n : Ident) (place : Place) (s : Scope) → (uses_of_kind (ek.Step op n) place).value s ≡ e.step op n place s
unfolding value_of_form
step_value op n place s = valued (ek.Step op n) (ExprKind-F.Step op n) place s (ek.rolls-Step op n)

pub lambda_value : (n : Option Ident) (b : Body) (place : Place) (s : Scope) → (uses_of_kind (ek.Lambda n b) place).value s ≡ mismatch place
unfolding value_of_form
lambda_value n b place s = valued (ek.Lambda n b) (ExprKind-F.Lambda n b) place s (ek.rolls-Lambda n b)

pub name_called : (n : List ℕ) (place : Place) (s : Scope) → (uses_of_kind (ek.Name n) place).callee s ≡ e.name_called n place s
unfolding callee_of_form
name_called n place s = called (ek.Name n) (ExprKind-F.Name n) place s (ek.rolls-Name n)

pub member_called : (a : Expr) (n : Ident) (place : Place) (s : Scope) → (uses_of_kind (ek.Member a n) place).callee s ≡ e.member_called (uses a).value n place s
unfolding callee_of_form
member_called a n place s = called (ek.Member a n) (ExprKind-F.Member a n) place s (ek.rolls-Member a n)

pub static_called : (t : StaticType) (n : Ident) (place : Place) (s : Scope) → (uses_of_kind (ek.Static t n) place).callee s ≡ static_callee place t n
unfolding callee_of_form
static_called t n place s = called (ek.Static t n) (ExprKind-F.Static t n) place s (ek.rolls-Static t n)

other_form : (x : KindLayer) (place : Place) (s : Scope)
    → ((n : List ℕ) → roll-ExprKind x ≡ ek.Name n → ⊥)
    → ((a : Expr) (n : Ident) → roll-ExprKind x ≡ ek.Member a n → ⊥)
    → ((t : StaticType) (n : Ident) → roll-ExprKind x ≡ ek.Static t n → ⊥)
    → callee_of_form (in_kind x) place s ≡ value_of_form (in_kind x) place s >>= callee_of_value
unfolding callee_of_form
other_form (ExprKind-F.Name n) place s name member static = absurd (name n (ek.rolls-Name n))
other_form (ExprKind-F.Member a n) place s name member static = absurd (member a n (ek.rolls-Member a n))
other_form (ExprKind-F.Static t n) place s name member static = absurd (static t n (ek.rolls-Static t n))
other_form _ place s name member static = refl

-- what is called is a value, but for names, members and `int.N`, `string.N`
pub other_callee : (kind : ExprKind) (place : Place) (s : Scope)
    → ((n : List ℕ) → kind ≡ ek.Name n → ⊥)
    → ((a : Expr) (n : Ident) → kind ≡ ek.Member a n → ⊥)
    → ((t : StaticType) (n : Ident) → kind ≡ ek.Static t n → ⊥)
    → (uses_of_kind kind place).callee s ≡ (uses_of_kind kind place).value s >>= callee_of_value
other_callee kind place s name member static =
    let is : roll-ExprKind (out-ExprKind kind) ≡ kind = roll-out-ExprKind kind in
    called kind (out-ExprKind kind) place s is
    ∙ other_form (out-ExprKind kind) place s (λ n h. name n (sym is ∙ h)) (λ a n h. member a n (sym is ∙ h)) (λ t n h. static t n (sym is ∙ h))
    ∙ ap (λ j. j >>= callee_of_value) (sym (valued kind (out-ExprKind kind) place s is))

abbrev StatementLayer : Type 0
StatementLayer = StmtKind-F Body ExprKind StmtKind TextPart Expr Section Stmt WithPart

abbrev in_statement : StatementLayer → StmtKind-F (Unit {0}) (Place → Uses) (Place → Statement) (Scope → Judged Code) Uses (ExprType → Scope → Judged Code) Statement Given
in_statement = map-StmtKind Body ExprKind StmtKind TextPart Expr Section Stmt WithPart (Unit {0}) (Place → Uses) (Place → Statement) (Scope → Judged Code) Uses (ExprType → Scope → Judged Code) Statement Given
    (λ body. tt) uses_of_kind statement_of_kind piece uses section statement given

at_statement : (kind : StmtKind) (x : StatementLayer) (place : Place) (s : Scope) → roll-StmtKind x ≡ kind → statement_of_kind kind place s ≡ statement_of_form (in_statement x) place s
unfolding uses uses_of_kind piece given statement statement_of_kind section
at_statement kind x place s is = ap (λ k. statement_of_kind k place s) (sym is) ∙ ap (λ f. f place s) (fold-roll-StmtKind (Unit {0}) (Place → Uses) (Place → Statement) (Scope → Judged Code) Uses (ExprType → Scope → Judged Code) Statement Given
    (λ body. tt) uses_of_form statement_of_form text_part (λ it. it.kind it.place) (λ it. st.section it.labels it.body)
    (λ it. it.kind it.place) (λ it. record { name = it.name; value = it.value.value }) x)

pub local_statement : (cs_type : Option TypeExpr) (n : Ident) (a : Option Expr) (place : Place) (s : Scope) → statement_of_kind (sk.Local cs_type n a) place s ≡ st.local cs_type n (option_map (λ x. x.value) (option_map uses a)) s
unfolding statement_of_form
local_statement cs_type n None place s = at_statement (sk.Local cs_type n None) (StmtKind-F.Local cs_type n None) place s (sk.rolls-Local cs_type n None)
local_statement cs_type n (Some a) place s = at_statement (sk.Local cs_type n (Some a)) (StmtKind-F.Local cs_type n (Some a)) place s (sk.rolls-Local cs_type n (Some a))

pub empty_statement : (place : Place) (s : Scope) → statement_of_kind sk.Empty place s ≡ fine (done s c.Empty)
unfolding statement_of_form
empty_statement place s = at_statement sk.Empty StmtKind-F.Empty place s sk.rolls-Empty

pub block_statement : (body : List Stmt) (place : Place) (s : Scope) → statement_of_kind (sk.Block body) place s ≡ st.block (map statement body) s
unfolding statement_of_form
block_statement body place s = at_statement (sk.Block body) (StmtKind-F.StmtKind::Block body) place s (sk.rolls-Block body)

pub if_statement : (a : Expr) (b : Stmt) (d : Option Stmt) (place : Place) (s : Scope) → statement_of_kind (sk.If a b d) place s ≡ st.if_else (uses a).value (statement b) (option_map statement d) s
unfolding statement_of_form
if_statement a b None place s = at_statement (sk.If a b None) (StmtKind-F.If a b None) place s (sk.rolls-If a b None)
if_statement a b (Some d) place s = at_statement (sk.If a b (Some d)) (StmtKind-F.If a b (Some d)) place s (sk.rolls-If a b (Some d))

pub while_statement : (a : Expr) (b : Stmt) (place : Place) (s : Scope) → statement_of_kind (sk.While a b) place s ≡ st.while_loop (uses a).value (statement b) s
unfolding statement_of_form
while_statement a b place s = at_statement (sk.While a b) (StmtKind-F.While a b) place s (sk.rolls-While a b)

pub for_statement : (a : Option Stmt) (b d : Option Expr) (body : Stmt) (place : Place) (s : Scope) → statement_of_kind (sk.For a b d body) place s ≡ st.for_loop (option_map statement a) (option_map (λ x. x.value) (option_map uses b)) (option_map (λ x. x.value) (option_map uses d)) (statement body) s
unfolding statement_of_form
for_statement None None None body place s = at_statement (sk.For None None None body) (StmtKind-F.For None None None body) place s (sk.rolls-For None None None body)
for_statement None None (Some d) body place s = at_statement (sk.For None None (Some d) body) (StmtKind-F.For None None (Some d) body) place s (sk.rolls-For None None (Some d) body)
for_statement None (Some b) None body place s = at_statement (sk.For None (Some b) None body) (StmtKind-F.For None (Some b) None body) place s (sk.rolls-For None (Some b) None body)
for_statement None (Some b) (Some d) body place s = at_statement (sk.For None (Some b) (Some d) body) (StmtKind-F.For None (Some b) (Some d) body) place s (sk.rolls-For None (Some b) (Some d) body)
for_statement (Some a) None None body place s = at_statement (sk.For (Some a) None None body) (StmtKind-F.For (Some a) None None body) place s (sk.rolls-For (Some a) None None body)
for_statement (Some a) None (Some d) body place s = at_statement (sk.For (Some a) None (Some d) body) (StmtKind-F.For (Some a) None (Some d) body) place s (sk.rolls-For (Some a) None (Some d) body)
for_statement (Some a) (Some b) None body place s = at_statement (sk.For (Some a) (Some b) None body) (StmtKind-F.For (Some a) (Some b) None body) place s (sk.rolls-For (Some a) (Some b) None body)
for_statement (Some a) (Some b) (Some d) body place s = at_statement (sk.For (Some a) (Some b) (Some d) body) (StmtKind-F.For (Some a) (Some b) (Some d) body) place s (sk.rolls-For (Some a) (Some b) (Some d) body)

pub for_each_statement : (n : Ident) (a : Expr) (body : Stmt) (place : Place) (s : Scope) → statement_of_kind (sk.ForEach n a body) place s ≡ st.for_each n (uses a).value (statement body) s
unfolding statement_of_form
for_each_statement n a body place s = at_statement (sk.ForEach n a body) (StmtKind-F.ForEach n a body) place s (sk.rolls-ForEach n a body)

pub switch_statement : (a : Expr) (sections : List Section) (place : Place) (s : Scope) → statement_of_kind (sk.Switch a sections) place s ≡ st.switch_of (uses a).value (map section sections) s
unfolding statement_of_form
switch_statement a sections place s = at_statement (sk.Switch a sections) (StmtKind-F.Switch a sections) place s (sk.rolls-Switch a sections)

pub break_statement : (place : Place) (s : Scope) → statement_of_kind sk.Break place s ≡ fine (done s c.Break)
unfolding statement_of_form
break_statement place s = at_statement sk.Break StmtKind-F.Break place s sk.rolls-Break

pub continue_statement : (place : Place) (s : Scope) → statement_of_kind sk.Continue place s ≡ fine (done s c.Continue)
unfolding statement_of_form
continue_statement place s = at_statement sk.Continue StmtKind-F.Continue place s sk.rolls-Continue

pub return_statement : (a : Option Expr) (place : Place) (s : Scope) → statement_of_kind (sk.Return a) place s ≡ st.return_of (option_map (λ x. x.value) (option_map uses a)) place s
unfolding statement_of_form
return_statement None place s = at_statement (sk.Return None) (StmtKind-F.Return None) place s (sk.rolls-Return None)
return_statement (Some a) place s = at_statement (sk.Return (Some a)) (StmtKind-F.Return (Some a)) place s (sk.rolls-Return (Some a))

pub expr_statement : (a : Expr) (place : Place) (s : Scope) → statement_of_kind (sk.Expr a) place s ≡ st.perform (uses a).value s
unfolding statement_of_form
expr_statement a place s = at_statement (sk.Expr a) (StmtKind-F.Expr a) place s (sk.rolls-Expr a)

pub await_statement : (a : Expr) (place : Place) (s : Scope) → statement_of_kind (sk.Await a) place s ≡ st.perform (uses a).value s
unfolding statement_of_form
await_statement a place s = at_statement (sk.Await a) (StmtKind-F.Await a) place s (sk.rolls-Await a)

pub literal_piece : (text : List ℕ) (s : Scope) → piece (tp.Literal text) s ≡ fine (c.Piece text)
unfolding piece text_part
literal_piece text s = ap (λ k. piece k s) (sym (tp.rolls-Literal text)) ∙ ap (λ f. f s) (fold-roll-TextPart (Unit {0}) (Place → Uses) (Place → Statement) (Scope → Judged Code) Uses (ExprType → Scope → Judged Code) Statement Given
    (λ body. tt) uses_of_form statement_of_form text_part (λ it. it.kind it.place) (λ it. st.section it.labels it.body)
    (λ it. it.kind it.place) (λ it. record { name = it.name; value = it.value.value }) (TextPart-F.Literal text))

pub hole_piece : (a : Expr) (s : Scope) → piece (tp.Hole a) s ≡ e.hole (uses a).value s
unfolding piece text_part uses
hole_piece a s = ap (λ k. piece k s) (sym (tp.rolls-Hole a)) ∙ ap (λ f. f s) (fold-roll-TextPart (Unit {0}) (Place → Uses) (Place → Statement) (Scope → Judged Code) Uses (ExprType → Scope → Judged Code) Statement Given
    (λ body. tt) uses_of_form statement_of_form text_part (λ it. it.kind it.place) (λ it. st.section it.labels it.body)
    (λ it. it.kind it.place) (λ it. record { name = it.name; value = it.value.value }) (TextPart-F.Hole a))
