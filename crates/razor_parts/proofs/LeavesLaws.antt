-- The equations of what leaves statements.
use Rattle.std.proofs.Common.{◌≡◌, ℕ, List, map, refl, sym, ap, ◌∙◌}
use Rattle.std.specs.Prelude.{ℤ, Bool, true, false, ◌&&◌, ◌||◌, Option, Some, None, option_map}
use Rattle.cs_ast.specs.declared.cs_type.TypeExpr.{TypeExpr}
use Rattle.cs_ast.specs.declared.expression.Body.{Body}
use Rattle.cs_ast.specs.declared.expression.Body.TheVariants as bo
use Rattle.cs_ast.specs.declared.expression.Body.TheOpen.{Body-F, ExprKind-F, StmtKind-F}
use Rattle.cs_ast.specs.declared.expression.Body.TheFolds.{fold_out-Expr, fold-roll-ExprKind, map-ExprKind}
use Rattle.cs_ast.specs.declared.expression.Body.TheViews.{roll-ExprKind, out-Body, out-roll-Body}
use Rattle.cs_ast.specs.declared.expression.Expr.{Expr}
use Rattle.cs_ast.specs.declared.expression.ExprKind.{ExprKind}
use Rattle.cs_ast.specs.declared.expression.ExprKind.TheVariants as ek
use Rattle.cs_ast.specs.declared.expression.Section.{Section, out-Section}
use Rattle.cs_ast.specs.declared.expression.Stmt.{Stmt}
use Rattle.cs_ast.specs.declared.expression.StmtKind.{StmtKind}
use Rattle.cs_ast.specs.declared.expression.StmtKind.TheVariants as sk
use Rattle.cs_ast.specs.declared.expression.TextPart.{TextPart}
use Rattle.cs_ast.specs.declared.expression.WithPart.{WithPart}
use Rattle.cs_ast.specs.declared.identifier.Ident.{Ident}
use Rattle.cs_ast.specs.declared.operators.AssignOp.{AssignOp}
use Rattle.cs_ast.specs.declared.operators.BinaryOp.{BinaryOp}
use Rattle.cs_ast.specs.declared.operators.CastOp.{CastOp}
use Rattle.cs_ast.specs.declared.operators.StaticType.{StaticType}
use Rattle.cs_ast.specs.declared.operators.StepOp.{StepOp}
use Rattle.cs_ast.specs.declared.operators.UnaryOp.{UnaryOp}
use Rattle.cs_rules.specs.Statements.{has_default}
use Rattle.cs_accepted.specs.Leaves.{Leaves, SectionLeaves, plain, in_order, branches, looped, started, always, any_section, switched, section_of, true_form, leaves_form, is_true, is_true_kind, leaves, leaves_of_kind, section_leaves}
use Rattle.cs_accepted.proofs.StatementTrees.{leaves_law, leaves_at, section_leaves_law as sections_law}
use Rattle.razor_rules.specs.Bodies.{reaches_end, level_ends}

pub or_on : (a b c : Bool) → ((a || b) || c) ≡ (a || (b || c))
or_on true b c = refl
or_on false b c = refl

pub or_false : (a : Bool) → (a || false) ≡ a
or_false true = refl
or_false false = refl

pub and_on : (a b c : Bool) → ((a && b) && c) ≡ (a && (b && c))
and_on true b c = refl
and_on false b c = refl

pub and_true : (a : Bool) → (a && true) ≡ a
and_true true = refl
and_true false = refl

pub section_leaves_law : (a : Section) → section_leaves a ≡ section_of (has_default (out-Section a).labels) (in_order (map leaves (out-Section a).body))
section_leaves_law a = sections_law a

true_law : (a : Expr) → is_true a ≡ is_true_kind a.kind
unfolding is_true is_true_kind
true_law a =
    fold_out-Expr (Unit {0}) Bool Leaves (Unit {0}) Bool SectionLeaves Leaves (Unit {0})
    (λ body. tt) true_form leaves_form (λ it. tt) (λ it. it.kind) (λ it. section_of (has_default it.labels) (in_order it.body)) (λ it. it.kind) (λ it. tt) a

abbrev Layer : Type 0
Layer = ExprKind-F Body ExprKind StmtKind TextPart Expr Section Stmt WithPart

true_at : (a : Expr) (x : Layer) → a.kind ≡ roll-ExprKind x → is_true a ≡ true_form (map-ExprKind Body ExprKind StmtKind TextPart Expr Section Stmt WithPart (Unit {0}) Bool Leaves (Unit {0}) Bool SectionLeaves Leaves (Unit {0}) (λ z. tt) is_true_kind leaves_of_kind (λ z. tt) is_true section_leaves leaves (λ z. tt) x)
unfolding is_true is_true_kind leaves leaves_of_kind section_leaves
true_at a x is =
    true_law a ∙ ap is_true_kind is
    ∙ fold-roll-ExprKind (Unit {0}) Bool Leaves (Unit {0}) Bool SectionLeaves Leaves (Unit {0})
    (λ body. tt) true_form leaves_form (λ it. tt) (λ it. it.kind) (λ it. section_of (has_default it.labels) (in_order it.body)) (λ it. it.kind) (λ it. tt) x

pub value_ends : (a : Expr) → reaches_end (bo.Value a) ≡ false
unfolding reaches_end
value_ends a = ap level_ends (ap out-Body (sym (bo.rolls-Value a)) ∙ out-roll-Body (Body-F.Value a))

pub block_ends : (body : List Stmt) → reaches_end (bo.Block body) ≡ (in_order (map leaves body)).ends
unfolding reaches_end
block_ends body = ap level_ends (ap out-Body (sym (bo.rolls-Block body)) ∙ out-roll-Body (Body-F.Body::Block body))

pub true_int : (e : Expr) (n : ℤ) → e.kind ≡ ek.Int n → is_true e ≡ false
true_int e n is = true_at e (ExprKind-F.Int n) (is ∙ sym (ek.rolls-Int n))

pub true_bool : (e : Expr) (b : Bool) → e.kind ≡ ek.Bool b → is_true e ≡ b
true_bool e b is = true_at e (ExprKind-F.Bool b) (is ∙ sym (ek.rolls-Bool b))

pub true_text : (e : Expr) (t : List ℕ) → e.kind ≡ ek.Text t → is_true e ≡ false
true_text e t is = true_at e (ExprKind-F.Text t) (is ∙ sym (ek.rolls-Text t))

pub true_null : (e : Expr) → e.kind ≡ ek.Null → is_true e ≡ false
true_null e is = true_at e ExprKind-F.Null (is ∙ sym ek.rolls-Null)

pub true_interpolated : (e : Expr) (parts : List TextPart) → e.kind ≡ ek.Interpolated parts → is_true e ≡ false
true_interpolated e parts is = true_at e (ExprKind-F.Interpolated parts) (is ∙ sym (ek.rolls-Interpolated parts))

pub true_name : (e : Expr) (n : List ℕ) → e.kind ≡ ek.Name n → is_true e ≡ false
true_name e n is = true_at e (ExprKind-F.Name n) (is ∙ sym (ek.rolls-Name n))

pub true_unary : (e : Expr) (op : UnaryOp) (a : Expr) → e.kind ≡ ek.Unary op a → is_true e ≡ false
true_unary e op a is = true_at e (ExprKind-F.Unary op a) (is ∙ sym (ek.rolls-Unary op a))

pub true_cast : (e : Expr) (op : CastOp) (a : Expr) → e.kind ≡ ek.Cast op a → is_true e ≡ false
true_cast e op a is = true_at e (ExprKind-F.Cast op a) (is ∙ sym (ek.rolls-Cast op a))

pub true_binary : (e : Expr) (op : BinaryOp) (a b : Expr) → e.kind ≡ ek.Binary op a b → is_true e ≡ false
true_binary e op a b is = true_at e (ExprKind-F.Binary op a b) (is ∙ sym (ek.rolls-Binary op a b))

pub true_conditional : (e : Expr) (a b d : Expr) → e.kind ≡ ek.Conditional a b d → is_true e ≡ false
true_conditional e a b d is = true_at e (ExprKind-F.Conditional a b d) (is ∙ sym (ek.rolls-Conditional a b d))

pub true_with : (e : Expr) (a : Expr) (parts : List WithPart) → e.kind ≡ ek.With a parts → is_true e ≡ false
true_with e a parts is = true_at e (ExprKind-F.With a parts) (is ∙ sym (ek.rolls-With a parts))

pub true_member : (e : Expr) (a : Expr) (n : Ident) → e.kind ≡ ek.Member a n → is_true e ≡ false
true_member e a n is = true_at e (ExprKind-F.Member a n) (is ∙ sym (ek.rolls-Member a n))

pub true_null_member : (e : Expr) (a : Expr) (n : Ident) → e.kind ≡ ek.NullMember a n → is_true e ≡ false
true_null_member e a n is = true_at e (ExprKind-F.NullMember a n) (is ∙ sym (ek.rolls-NullMember a n))

pub true_call : (e : Expr) (a : Expr) (xs : List Expr) → e.kind ≡ ek.Call a xs → is_true e ≡ false
true_call e a xs is = true_at e (ExprKind-F.Call a xs) (is ∙ sym (ek.rolls-Call a xs))

pub true_index : (e : Expr) (a b : Expr) → e.kind ≡ ek.Index a b → is_true e ≡ false
true_index e a b is = true_at e (ExprKind-F.Index a b) (is ∙ sym (ek.rolls-Index a b))

pub true_new : (e : Expr) (n : Ident) (xs : List Expr) → e.kind ≡ ek.New n xs → is_true e ≡ false
true_new e n xs is = true_at e (ExprKind-F.New n xs) (is ∙ sym (ek.rolls-New n xs))

pub true_empty_list : (e : Expr) (t : TypeExpr) → e.kind ≡ ek.EmptyList t → is_true e ≡ false
true_empty_list e t is = true_at e (ExprKind-F.EmptyList t) (is ∙ sym (ek.rolls-EmptyList t))

pub true_static : (e : Expr) (t : StaticType) (n : Ident) → e.kind ≡ ek.Static t n → is_true e ≡ false
true_static e t n is = true_at e (ExprKind-F.Static t n) (is ∙ sym (ek.rolls-Static t n))

pub true_assign : (e : Expr) (op : AssignOp) (n : Ident) (a : Expr) → e.kind ≡ ek.Assign op n a → is_true e ≡ false
true_assign e op n a is = true_at e (ExprKind-F.Assign op n a) (is ∙ sym (ek.rolls-Assign op n a))

pub true_step : (e : Expr) (op : StepOp) (n : Ident) → e.kind ≡ ek.Step op n → is_true e ≡ false
true_step e op n is = true_at e (ExprKind-F.Step op n) (is ∙ sym (ek.rolls-Step op n))

pub true_lambda : (e : Expr) (n : Option Ident) (b : Body) → e.kind ≡ ek.Lambda n b → is_true e ≡ false
true_lambda e n b is = true_at e (ExprKind-F.Lambda n b) (is ∙ sym (ek.rolls-Lambda n b))

pub leaves_local : (it : Stmt) (t : Option TypeExpr) (n : Ident) (value : Option Expr) → it.kind ≡ sk.Local t n value → leaves it ≡ plain
leaves_local it t n None is = leaves_law it ∙ ap leaves_of_kind is ∙ leaves_at (sk.Local t n None) (StmtKind-F.Local t n None) (sk.rolls-Local t n None)
leaves_local it t n (Some value) is = leaves_law it ∙ ap leaves_of_kind is ∙ leaves_at (sk.Local t n (Some value)) (StmtKind-F.Local t n (Some value)) (sk.rolls-Local t n (Some value))

pub leaves_empty : (it : Stmt) → it.kind ≡ sk.Empty → leaves it ≡ plain
leaves_empty it is = leaves_law it ∙ ap leaves_of_kind is ∙ leaves_at sk.Empty StmtKind-F.Empty sk.rolls-Empty

pub leaves_block : (it : Stmt) (body : List Stmt) → it.kind ≡ sk.Block body → leaves it ≡ in_order (map leaves body)
leaves_block it body is = leaves_law it ∙ ap leaves_of_kind is ∙ leaves_at (sk.Block body) (StmtKind-F.StmtKind::Block body) (sk.rolls-Block body)

pub leaves_if : (it : Stmt) (a : Expr) (holds : Stmt) (fails : Option Stmt) → it.kind ≡ sk.If a holds fails → leaves it ≡ branches (leaves holds) (option_map leaves fails)
leaves_if it a holds None is = leaves_law it ∙ ap leaves_of_kind is ∙ leaves_at (sk.If a holds None) (StmtKind-F.If a holds None) (sk.rolls-If a holds None)
leaves_if it a holds (Some fails) is = leaves_law it ∙ ap leaves_of_kind is ∙ leaves_at (sk.If a holds (Some fails)) (StmtKind-F.If a holds (Some fails)) (sk.rolls-If a holds (Some fails))

pub leaves_while : (it : Stmt) (a : Expr) (body : Stmt) → it.kind ≡ sk.While a body → leaves it ≡ looped (is_true a) (leaves body)
leaves_while it a body is = leaves_law it ∙ ap leaves_of_kind is ∙ leaves_at (sk.While a body) (StmtKind-F.While a body) (sk.rolls-While a body)

for_form : (it : Stmt) (start : Option Stmt) (test step : Option Expr) (body : Stmt) → it.kind ≡ sk.For start test step body → leaves it ≡ started (option_map leaves start) (looped (always (option_map is_true test)) (leaves body))
for_form it None None None body is = leaves_law it ∙ ap leaves_of_kind is ∙ leaves_at (sk.For None None None body) (StmtKind-F.For None None None body) (sk.rolls-For None None None body)
for_form it None None (Some step) body is = leaves_law it ∙ ap leaves_of_kind is ∙ leaves_at (sk.For None None (Some step) body) (StmtKind-F.For None None (Some step) body) (sk.rolls-For None None (Some step) body)
for_form it None (Some test) None body is = leaves_law it ∙ ap leaves_of_kind is ∙ leaves_at (sk.For None (Some test) None body) (StmtKind-F.For None (Some test) None body) (sk.rolls-For None (Some test) None body)
for_form it None (Some test) (Some step) body is = leaves_law it ∙ ap leaves_of_kind is ∙ leaves_at (sk.For None (Some test) (Some step) body) (StmtKind-F.For None (Some test) (Some step) body) (sk.rolls-For None (Some test) (Some step) body)
for_form it (Some start) None None body is = leaves_law it ∙ ap leaves_of_kind is ∙ leaves_at (sk.For (Some start) None None body) (StmtKind-F.For (Some start) None None body) (sk.rolls-For (Some start) None None body)
for_form it (Some start) None (Some step) body is = leaves_law it ∙ ap leaves_of_kind is ∙ leaves_at (sk.For (Some start) None (Some step) body) (StmtKind-F.For (Some start) None (Some step) body) (sk.rolls-For (Some start) None (Some step) body)
for_form it (Some start) (Some test) None body is = leaves_law it ∙ ap leaves_of_kind is ∙ leaves_at (sk.For (Some start) (Some test) None body) (StmtKind-F.For (Some start) (Some test) None body) (sk.rolls-For (Some start) (Some test) None body)
for_form it (Some start) (Some test) (Some step) body is = leaves_law it ∙ ap leaves_of_kind is ∙ leaves_at (sk.For (Some start) (Some test) (Some step) body) (StmtKind-F.For (Some start) (Some test) (Some step) body) (sk.rolls-For (Some start) (Some test) (Some step) body)

pub leaves_for : (it : Stmt) (start : Option Stmt) (test step : Option Expr) (body : Stmt) (ever : Bool) → it.kind ≡ sk.For start test step body → ever ≡ always (option_map is_true test) → leaves it ≡ started (option_map leaves start) (looped ever (leaves body))
leaves_for it start test step body ever is same = for_form it start test step body is ∙ ap (λ (b : Bool). started (option_map leaves start) (looped b (leaves body))) (sym same)

pub leaves_for_each : (it : Stmt) (n : Ident) (a : Expr) (body : Stmt) → it.kind ≡ sk.ForEach n a body → leaves it ≡ looped false (leaves body)
leaves_for_each it n a body is = leaves_law it ∙ ap leaves_of_kind is ∙ leaves_at (sk.ForEach n a body) (StmtKind-F.ForEach n a body) (sk.rolls-ForEach n a body)

pub leaves_switch : (it : Stmt) (a : Expr) (sections : List Section) → it.kind ≡ sk.Switch a sections → leaves it ≡ switched (any_section (map section_leaves sections))
leaves_switch it a sections is = leaves_law it ∙ ap leaves_of_kind is ∙ leaves_at (sk.Switch a sections) (StmtKind-F.Switch a sections) (sk.rolls-Switch a sections)

pub leaves_break : (it : Stmt) → it.kind ≡ sk.Break → leaves it ≡ record { breaks = true; continues = false; ends = false }
leaves_break it is = leaves_law it ∙ ap leaves_of_kind is ∙ leaves_at sk.Break StmtKind-F.Break sk.rolls-Break

pub leaves_continue : (it : Stmt) → it.kind ≡ sk.Continue → leaves it ≡ record { breaks = false; continues = true; ends = false }
leaves_continue it is = leaves_law it ∙ ap leaves_of_kind is ∙ leaves_at sk.Continue StmtKind-F.Continue sk.rolls-Continue

pub leaves_return : (it : Stmt) (value : Option Expr) → it.kind ≡ sk.Return value → leaves it ≡ record { breaks = false; continues = false; ends = false }
leaves_return it None is = leaves_law it ∙ ap leaves_of_kind is ∙ leaves_at (sk.Return None) (StmtKind-F.Return None) (sk.rolls-Return None)
leaves_return it (Some value) is = leaves_law it ∙ ap leaves_of_kind is ∙ leaves_at (sk.Return (Some value)) (StmtKind-F.Return (Some value)) (sk.rolls-Return (Some value))

pub leaves_expr : (it : Stmt) (a : Expr) → it.kind ≡ sk.Expr a → leaves it ≡ plain
leaves_expr it a is = leaves_law it ∙ ap leaves_of_kind is ∙ leaves_at (sk.Expr a) (StmtKind-F.Expr a) (sk.rolls-Expr a)

pub leaves_await : (it : Stmt) (a : Expr) → it.kind ≡ sk.Await a → leaves it ≡ plain
leaves_await it a is = leaves_law it ∙ ap leaves_of_kind is ∙ leaves_at (sk.Await a) (StmtKind-F.Await a) (sk.rolls-Await a)
