-- Every statement that breaks no rule may stand where it stands: by induction on its tree.
use Rattle.std.proofs.Common.{◌≡◌, List, [], ◌∷◌, map, sym, ap, subst, ◌∙◌}
use Rattle.std.specs.Prelude.{Bool, true, false, option_map, Option, Some, None}
use Rattle.text_core.specs.declared.place.Place.{Place}
use Rattle.cs_ast.specs.declared.code.Code.TheVariants as c
use Rattle.cs_ast.specs.declared.expression.Body.{Body}
use Rattle.cs_ast.specs.declared.expression.Body.TheOpen.{ExprKind-F, StmtKind-F}
use Rattle.cs_ast.specs.declared.expression.Body.TheFolds.{ind-Stmt, map-ExprKind, map-StmtKind, fold_out-Expr, fold_out-Stmt, fold_out-Section, fold-roll-ExprKind, fold-roll-StmtKind}
use Rattle.cs_ast.specs.declared.expression.Body.TheViews.{roll-ExprKind, roll-StmtKind, out-ExprKind, roll-out-ExprKind, out-roll-Section}
use Rattle.cs_ast.specs.declared.expression.Expr.{Expr}
use Rattle.cs_ast.specs.declared.expression.ExprKind.{ExprKind}
use Rattle.cs_ast.specs.declared.expression.ExprKind.TheVariants as ek
use Rattle.cs_ast.specs.declared.expression.Section.{Section, Section-F, roll-Section, out-Section}
use Rattle.cs_ast.specs.declared.expression.Stmt.{Stmt, Stmt-F, roll-Stmt}
use Rattle.cs_ast.specs.declared.expression.StmtKind.{StmtKind}
use Rattle.cs_ast.specs.declared.expression.StmtKind.TheVariants as sk
use Rattle.cs_ast.specs.declared.expression.TextPart.{TextPart}
use Rattle.cs_ast.specs.declared.expression.WithPart.{WithPart}
use Rattle.cs_ast.specs.declared.scope.Scope.{Scope}
use Rattle.cs_rules.specs.Judged.{fine}
use Rattle.cs_rules.specs.Statements.{Statement, done, has_default}
use Rattle.cs_rules.specs.Statements as st
use Rattle.cs_rules.specs.Trees.{Uses, uses, uses_of_kind, statement, statement_of_kind, section}
use Rattle.cs_rules.proofs.Laws as law
use Rattle.cs_accepted.specs.Accepted.{IfFine}
use Rattle.cs_accepted.specs.Leaves.{Leaves, SectionLeaves, plain, branches, looped, always, any_section, switched, section_of, true_form, leaves_form, is_true, is_true_kind, leaves, leaves_of_kind, section_leaves}
use Rattle.cs_accepted.specs.Leaves as leave
use Rattle.cs_accepted.specs.Sound.{ValueSound, DoneFits, StatementSound, SectionSound}
use Rattle.cs_accepted.proofs.ExpressionTrees.{expression_tree}
use Rattle.cs_accepted.proofs.StatementForms.{empty_sound, break_sound, continue_sound, perform_sound, OptionSound, no_value, a_value, local_sound, AllStatements, no_statement, a_statement, block_sound, BranchSound, no_branch, a_branch, if_sound, IsAlways, while_sound}
use Rattle.cs_accepted.proofs.LoopForms.{StartSound, no_start, a_start, TestSound, no_test, a_test, for_sound, for_each_sound, section_sound, AllSections, no_section, a_section, switch_sound, return_sound}

-- the word `true`
abbrev KindLayer : Type 0
KindLayer = ExprKind-F Body ExprKind StmtKind TextPart Expr Section Stmt WithPart

true_law : (a : Expr) → is_true a ≡ is_true_kind a.kind
unfolding is_true is_true_kind
true_law a =
    fold_out-Expr (Unit {0}) Bool Leaves (Unit {0}) Bool SectionLeaves Leaves (Unit {0})
    (λ body. tt) true_form leaves_form (λ it. tt) (λ it. it.kind) (λ it. section_of (has_default it.labels) (leave.in_order it.body)) (λ it. it.kind) (λ it. tt) a

true_at : (x : KindLayer) → is_true_kind (roll-ExprKind x) ≡ true_form (map-ExprKind Body ExprKind StmtKind TextPart Expr Section Stmt WithPart (Unit {0}) Bool Leaves (Unit {0}) Bool SectionLeaves Leaves (Unit {0}) (λ z. tt) is_true_kind leaves_of_kind (λ z. tt) is_true section_leaves leaves (λ z. tt) x)
unfolding is_true is_true_kind leaves leaves_of_kind section_leaves
true_at x =
    fold-roll-ExprKind (Unit {0}) Bool Leaves (Unit {0}) Bool SectionLeaves Leaves (Unit {0})
    (λ body. tt) true_form leaves_form (λ it. tt) (λ it. it.kind) (λ it. section_of (has_default it.labels) (leave.in_order it.body)) (λ it. it.kind) (λ it. tt) x

true_layer : (x : KindLayer) → true_form (map-ExprKind Body ExprKind StmtKind TextPart Expr Section Stmt WithPart (Unit {0}) Bool Leaves (Unit {0}) Bool SectionLeaves Leaves (Unit {0}) (λ z. tt) is_true_kind leaves_of_kind (λ z. tt) is_true section_leaves leaves (λ z. tt) x) ≡ true → roll-ExprKind x ≡ ek.Bool true
true_layer (ExprKind-F.Bool b) e = ek.rolls-Bool b ∙ ap (λ z. ek.Bool z) e
true_layer _ e = absurd (cc)

true_kind : (kind : ExprKind) → is_true_kind kind ≡ true → kind ≡ ek.Bool true
true_kind kind e =
    let is : roll-ExprKind (out-ExprKind kind) ≡ kind = roll-out-ExprKind kind in
    sym is ∙ true_layer (out-ExprKind kind) (sym (true_at (out-ExprKind kind)) ∙ ap is_true_kind is ∙ e)

true_always : (a : Expr) → is_true a ≡ true → IsAlways (uses a).value
true_always a e s =
    (a.place, ap (λ (u : Uses). u.value s) (law.uses_law a ∙ ap (λ k. uses_of_kind k a.place) (true_kind a.kind (sym (true_law a) ∙ e))) ∙ law.bool_value true a.place s)

-- what leaves the forms of statements
abbrev StatementLayer : Type 0
StatementLayer = StmtKind-F Body ExprKind StmtKind TextPart Expr Section Stmt WithPart

pub leaves_law : (a : Stmt) → leaves a ≡ leaves_of_kind a.kind
unfolding leaves leaves_of_kind
leaves_law a =
    fold_out-Stmt (Unit {0}) Bool Leaves (Unit {0}) Bool SectionLeaves Leaves (Unit {0})
    (λ body. tt) true_form leaves_form (λ it. tt) (λ it. it.kind) (λ it. section_of (has_default it.labels) (leave.in_order it.body)) (λ it. it.kind) (λ it. tt) a

pub leaves_at : (kind : StmtKind) (x : StatementLayer) → roll-StmtKind x ≡ kind → leaves_of_kind kind ≡ leaves_form (map-StmtKind Body ExprKind StmtKind TextPart Expr Section Stmt WithPart (Unit {0}) Bool Leaves (Unit {0}) Bool SectionLeaves Leaves (Unit {0}) (λ z. tt) is_true_kind leaves_of_kind (λ z. tt) is_true section_leaves leaves (λ z. tt) x)
unfolding is_true is_true_kind leaves leaves_of_kind section_leaves
leaves_at kind x is =
    ap leaves_of_kind (sym is)
    ∙ fold-roll-StmtKind (Unit {0}) Bool Leaves (Unit {0}) Bool SectionLeaves Leaves (Unit {0})
    (λ body. tt) true_form leaves_form (λ it. tt) (λ it. it.kind) (λ it. section_of (has_default it.labels) (leave.in_order it.body)) (λ it. it.kind) (λ it. tt) x

pub section_leaves_law : (a : Section) → section_leaves a ≡ section_of (has_default (out-Section a).labels) (leave.in_order (map leaves (out-Section a).body))
unfolding leaves section_leaves
section_leaves_law a =
    fold_out-Section (Unit {0}) Bool Leaves (Unit {0}) Bool SectionLeaves Leaves (Unit {0})
    (λ body. tt) true_form leaves_form (λ it. tt) (λ it. it.kind) (λ it. section_of (has_default it.labels) (leave.in_order it.body)) (λ it. it.kind) (λ it. tt) a

-- the claims
abbrev KindSound : StmtKind → Type 0
KindSound kind = (place : Place) → StatementSound (leaves_of_kind kind) (statement_of_kind kind place)

abbrev StmtSound : Stmt → Type 0
StmtSound a = StatementSound (leaves a) (statement a)

abbrev PartSound : Section → Type 0
PartSound a = SectionSound (section_leaves a) (section a)

abbrev SuchKind : Type 0
SuchKind = (x : StmtKind) × KindSound x

abbrev SuchStmt : Type 0
SuchStmt = (x : Stmt) × StmtSound x

abbrev SuchSection : Type 0
SuchSection = (x : Section) × PartSound x

abbrev SuchExpr : Type 0
SuchExpr = (x : Expr) × Unit {0}

abbrev Layer : Type 0
Layer = StmtKind-F ((x : Body) × Unit {0}) ((x : ExprKind) × Unit {0}) SuchKind ((x : TextPart) × Unit {0}) SuchExpr SuchSection SuchStmt ((x : WithPart) × Unit {0})

abbrev known : Layer → StatementLayer
known y = map-StmtKind ((x : Body) × Unit {0}) ((x : ExprKind) × Unit {0}) SuchKind ((x : TextPart) × Unit {0}) SuchExpr SuchSection SuchStmt ((x : WithPart) × Unit {0}) Body ExprKind StmtKind TextPart Expr Section Stmt WithPart
    (λ z. z.0) (λ z. z.0) (λ z. z.0) (λ z. z.0) (λ z. z.0) (λ z. z.0) (λ z. z.0) (λ z. z.0) y

same_statement : (l l' : Leaves) (a b : Statement) → l ≡ l' → ((s : Scope) → a s ≡ b s) → StatementSound l' b → StatementSound l a
same_statement l l' a b e is h = subst (λ z. StatementSound z a) (sym e) (λ j at locals s allows fit. subst (IfFine (λ d. DoneFits at locals s j l'.ends d)) (sym (is s)) (h j at locals s allows fit))

value_of : (a : Expr) → ValueSound (uses a).value
value_of a = (expression_tree a).as_value

value_sound : (a : Option SuchExpr) → OptionSound (option_map (λ (x : Uses). x.value) (option_map uses (option_map (λ (z : SuchExpr). z.0) a)))
value_sound None = no_value
value_sound (Some a) = a_value (uses a.0).value (value_of a.0)

statements_sound : (body : List SuchStmt) → AllStatements (map leaves (map (λ (z : SuchStmt). z.0) body)) (map statement (map (λ (z : SuchStmt). z.0) body))
statements_sound [] = no_statement
statements_sound (one ∷ others) = a_statement (leaves one.0) (map leaves (map (λ (z : SuchStmt). z.0) others)) (statement one.0) (map statement (map (λ (z : SuchStmt). z.0) others)) one.1 (statements_sound others)

sections_sound : (sections : List SuchSection) → AllSections (map section_leaves (map (λ (z : SuchSection). z.0) sections)) (map section (map (λ (z : SuchSection). z.0) sections))
sections_sound [] = no_section
sections_sound (one ∷ others) = a_section (section_leaves one.0) (map section_leaves (map (λ (z : SuchSection). z.0) others)) (section one.0) (map section (map (λ (z : SuchSection). z.0) others)) one.1 (sections_sound others)

branch_sound : (o : Option SuchStmt) → BranchSound (option_map leaves (option_map (λ (z : SuchStmt). z.0) o)) (option_map statement (option_map (λ (z : SuchStmt). z.0) o))
branch_sound None = no_branch
branch_sound (Some a) = a_branch (leaves a.0) (statement a.0) a.1

start_sound : (o : Option SuchStmt) → StartSound (option_map leaves (option_map (λ (z : SuchStmt). z.0) o)) (option_map statement (option_map (λ (z : SuchStmt). z.0) o))
start_sound None = no_start
start_sound (Some a) = a_start (leaves a.0) (statement a.0) a.1

test_sound : (o : Option SuchExpr) → TestSound (always (option_map is_true (option_map (λ (z : SuchExpr). z.0) o))) (option_map (λ (x : Uses). x.value) (option_map uses (option_map (λ (z : SuchExpr). z.0) o)))
test_sound None = no_test
test_sound (Some a) = a_test (is_true a.0) (uses a.0).value (value_of a.0) (true_always a.0)

-- the forms of statements
go : (y : Layer) → KindSound (roll-StmtKind (known y))
go (StmtKind-F.Local type n None) =
    subst KindSound (sym (sk.rolls-Local type n None)) (λ place. same_statement (leaves_of_kind (sk.Local type n None)) plain (statement_of_kind (sk.Local type n None) place) (st.local type n (option_map (λ (x : Uses). x.value) (option_map uses None)))
    (leaves_at (sk.Local type n None) (StmtKind-F.Local type n None) (sk.rolls-Local type n None)) (law.local_statement type n None place) (local_sound type n (option_map (λ (x : Uses). x.value) (option_map uses None)) (value_sound None)))
go (StmtKind-F.Local type n (Some a)) =
    subst KindSound (sym (sk.rolls-Local type n (Some a.0))) (λ place. same_statement (leaves_of_kind (sk.Local type n (Some a.0))) plain (statement_of_kind (sk.Local type n (Some a.0)) place) (st.local type n (option_map (λ (x : Uses). x.value) (option_map uses (Some a.0))))
    (leaves_at (sk.Local type n (Some a.0)) (StmtKind-F.Local type n (Some a.0)) (sk.rolls-Local type n (Some a.0))) (law.local_statement type n (Some a.0) place) (local_sound type n (option_map (λ (x : Uses). x.value) (option_map uses (Some a.0))) (value_sound (Some a))))
go StmtKind-F.Empty = subst KindSound (sym sk.rolls-Empty) (λ place. same_statement (leaves_of_kind sk.Empty) plain (statement_of_kind sk.Empty place) (λ s. fine (done s c.Empty)) (leaves_at sk.Empty StmtKind-F.Empty sk.rolls-Empty) (law.empty_statement place) empty_sound)
go (StmtKind-F.StmtKind::Block body) =
    let bare : List Stmt = map (λ (z : SuchStmt). z.0) body in
    subst KindSound (sym (sk.rolls-Block bare)) (λ place. same_statement (leaves_of_kind (sk.Block bare)) (leave.in_order (map leaves bare)) (statement_of_kind (sk.Block bare) place) (st.block (map statement bare))
    (leaves_at (sk.Block bare) (StmtKind-F.StmtKind::Block bare) (sk.rolls-Block bare)) (law.block_statement bare place) (block_sound (map leaves bare) (map statement bare) (statements_sound body)))
go (StmtKind-F.If a b None) =
    subst KindSound (sym (sk.rolls-If a.0 b.0 None)) (λ place. same_statement (leaves_of_kind (sk.If a.0 b.0 None)) (branches (leaves b.0) (option_map leaves None)) (statement_of_kind (sk.If a.0 b.0 None) place) (st.if_else (uses a.0).value (statement b.0) (option_map statement None))
    (leaves_at (sk.If a.0 b.0 None) (StmtKind-F.If a.0 b.0 None) (sk.rolls-If a.0 b.0 None)) (law.if_statement a.0 b.0 None place) (if_sound (uses a.0).value (leaves b.0) (statement b.0) (option_map leaves None) (option_map statement None) (value_of a.0) b.1 (branch_sound None)))
go (StmtKind-F.If a b (Some d)) =
    subst KindSound (sym (sk.rolls-If a.0 b.0 (Some d.0))) (λ place. same_statement (leaves_of_kind (sk.If a.0 b.0 (Some d.0))) (branches (leaves b.0) (option_map leaves (Some d.0))) (statement_of_kind (sk.If a.0 b.0 (Some d.0)) place) (st.if_else (uses a.0).value (statement b.0) (option_map statement (Some d.0)))
    (leaves_at (sk.If a.0 b.0 (Some d.0)) (StmtKind-F.If a.0 b.0 (Some d.0)) (sk.rolls-If a.0 b.0 (Some d.0))) (law.if_statement a.0 b.0 (Some d.0) place) (if_sound (uses a.0).value (leaves b.0) (statement b.0) (option_map leaves (Some d.0)) (option_map statement (Some d.0)) (value_of a.0) b.1 (branch_sound (Some d))))
go (StmtKind-F.While a b) =
    subst KindSound (sym (sk.rolls-While a.0 b.0)) (λ place. same_statement (leaves_of_kind (sk.While a.0 b.0)) (looped (is_true a.0) (leaves b.0)) (statement_of_kind (sk.While a.0 b.0) place) (st.while_loop (uses a.0).value (statement b.0))
    (leaves_at (sk.While a.0 b.0) (StmtKind-F.While a.0 b.0) (sk.rolls-While a.0 b.0)) (law.while_statement a.0 b.0 place) (while_sound (is_true a.0) (uses a.0).value (leaves b.0) (statement b.0) (true_always a.0) (value_of a.0) b.1))
go (StmtKind-F.For None None None b) =
    subst KindSound (sym (sk.rolls-For None None None b.0)) (λ place. same_statement (leaves_of_kind (sk.For None None None b.0)) (leave.started (option_map leaves None) (looped (always (option_map is_true None)) (leaves b.0))) (statement_of_kind (sk.For None None None b.0) place)
    (st.for_loop (option_map statement None) (option_map (λ (x : Uses). x.value) (option_map uses None)) (option_map (λ (x : Uses). x.value) (option_map uses None)) (statement b.0))
    (leaves_at (sk.For None None None b.0) (StmtKind-F.For None None None b.0) (sk.rolls-For None None None b.0)) (law.for_statement None None None b.0 place)
    (for_sound (option_map leaves None) (option_map statement None) (always (option_map is_true None)) (option_map (λ (x : Uses). x.value) (option_map uses None)) (option_map (λ (x : Uses). x.value) (option_map uses None)) (leaves b.0) (statement b.0) (start_sound None) (test_sound None) (value_sound None) b.1))
go (StmtKind-F.For None None (Some step) b) =
    subst KindSound (sym (sk.rolls-For None None (Some step.0) b.0)) (λ place. same_statement (leaves_of_kind (sk.For None None (Some step.0) b.0)) (leave.started (option_map leaves None) (looped (always (option_map is_true None)) (leaves b.0))) (statement_of_kind (sk.For None None (Some step.0) b.0) place)
    (st.for_loop (option_map statement None) (option_map (λ (x : Uses). x.value) (option_map uses None)) (option_map (λ (x : Uses). x.value) (option_map uses (Some step.0))) (statement b.0))
    (leaves_at (sk.For None None (Some step.0) b.0) (StmtKind-F.For None None (Some step.0) b.0) (sk.rolls-For None None (Some step.0) b.0)) (law.for_statement None None (Some step.0) b.0 place)
    (for_sound (option_map leaves None) (option_map statement None) (always (option_map is_true None)) (option_map (λ (x : Uses). x.value) (option_map uses None)) (option_map (λ (x : Uses). x.value) (option_map uses (Some step.0))) (leaves b.0) (statement b.0) (start_sound None) (test_sound None) (value_sound (Some step)) b.1))
go (StmtKind-F.For None (Some test) None b) =
    subst KindSound (sym (sk.rolls-For None (Some test.0) None b.0)) (λ place. same_statement (leaves_of_kind (sk.For None (Some test.0) None b.0)) (leave.started (option_map leaves None) (looped (always (option_map is_true (Some test.0))) (leaves b.0))) (statement_of_kind (sk.For None (Some test.0) None b.0) place)
    (st.for_loop (option_map statement None) (option_map (λ (x : Uses). x.value) (option_map uses (Some test.0))) (option_map (λ (x : Uses). x.value) (option_map uses None)) (statement b.0))
    (leaves_at (sk.For None (Some test.0) None b.0) (StmtKind-F.For None (Some test.0) None b.0) (sk.rolls-For None (Some test.0) None b.0)) (law.for_statement None (Some test.0) None b.0 place)
    (for_sound (option_map leaves None) (option_map statement None) (always (option_map is_true (Some test.0))) (option_map (λ (x : Uses). x.value) (option_map uses (Some test.0))) (option_map (λ (x : Uses). x.value) (option_map uses None)) (leaves b.0) (statement b.0) (start_sound None) (test_sound (Some test)) (value_sound None) b.1))
go (StmtKind-F.For None (Some test) (Some step) b) =
    subst KindSound (sym (sk.rolls-For None (Some test.0) (Some step.0) b.0)) (λ place. same_statement (leaves_of_kind (sk.For None (Some test.0) (Some step.0) b.0)) (leave.started (option_map leaves None) (looped (always (option_map is_true (Some test.0))) (leaves b.0))) (statement_of_kind (sk.For None (Some test.0) (Some step.0) b.0) place)
    (st.for_loop (option_map statement None) (option_map (λ (x : Uses). x.value) (option_map uses (Some test.0))) (option_map (λ (x : Uses). x.value) (option_map uses (Some step.0))) (statement b.0))
    (leaves_at (sk.For None (Some test.0) (Some step.0) b.0) (StmtKind-F.For None (Some test.0) (Some step.0) b.0) (sk.rolls-For None (Some test.0) (Some step.0) b.0)) (law.for_statement None (Some test.0) (Some step.0) b.0 place)
    (for_sound (option_map leaves None) (option_map statement None) (always (option_map is_true (Some test.0))) (option_map (λ (x : Uses). x.value) (option_map uses (Some test.0))) (option_map (λ (x : Uses). x.value) (option_map uses (Some step.0))) (leaves b.0) (statement b.0) (start_sound None) (test_sound (Some test)) (value_sound (Some step)) b.1))
go (StmtKind-F.For (Some start) None None b) =
    subst KindSound (sym (sk.rolls-For (Some start.0) None None b.0)) (λ place. same_statement (leaves_of_kind (sk.For (Some start.0) None None b.0)) (leave.started (option_map leaves (Some start.0)) (looped (always (option_map is_true None)) (leaves b.0))) (statement_of_kind (sk.For (Some start.0) None None b.0) place)
    (st.for_loop (option_map statement (Some start.0)) (option_map (λ (x : Uses). x.value) (option_map uses None)) (option_map (λ (x : Uses). x.value) (option_map uses None)) (statement b.0))
    (leaves_at (sk.For (Some start.0) None None b.0) (StmtKind-F.For (Some start.0) None None b.0) (sk.rolls-For (Some start.0) None None b.0)) (law.for_statement (Some start.0) None None b.0 place)
    (for_sound (option_map leaves (Some start.0)) (option_map statement (Some start.0)) (always (option_map is_true None)) (option_map (λ (x : Uses). x.value) (option_map uses None)) (option_map (λ (x : Uses). x.value) (option_map uses None)) (leaves b.0) (statement b.0) (start_sound (Some start)) (test_sound None) (value_sound None) b.1))
go (StmtKind-F.For (Some start) None (Some step) b) =
    subst KindSound (sym (sk.rolls-For (Some start.0) None (Some step.0) b.0)) (λ place. same_statement (leaves_of_kind (sk.For (Some start.0) None (Some step.0) b.0)) (leave.started (option_map leaves (Some start.0)) (looped (always (option_map is_true None)) (leaves b.0))) (statement_of_kind (sk.For (Some start.0) None (Some step.0) b.0) place)
    (st.for_loop (option_map statement (Some start.0)) (option_map (λ (x : Uses). x.value) (option_map uses None)) (option_map (λ (x : Uses). x.value) (option_map uses (Some step.0))) (statement b.0))
    (leaves_at (sk.For (Some start.0) None (Some step.0) b.0) (StmtKind-F.For (Some start.0) None (Some step.0) b.0) (sk.rolls-For (Some start.0) None (Some step.0) b.0)) (law.for_statement (Some start.0) None (Some step.0) b.0 place)
    (for_sound (option_map leaves (Some start.0)) (option_map statement (Some start.0)) (always (option_map is_true None)) (option_map (λ (x : Uses). x.value) (option_map uses None)) (option_map (λ (x : Uses). x.value) (option_map uses (Some step.0))) (leaves b.0) (statement b.0) (start_sound (Some start)) (test_sound None) (value_sound (Some step)) b.1))
go (StmtKind-F.For (Some start) (Some test) None b) =
    subst KindSound (sym (sk.rolls-For (Some start.0) (Some test.0) None b.0)) (λ place. same_statement (leaves_of_kind (sk.For (Some start.0) (Some test.0) None b.0)) (leave.started (option_map leaves (Some start.0)) (looped (always (option_map is_true (Some test.0))) (leaves b.0))) (statement_of_kind (sk.For (Some start.0) (Some test.0) None b.0) place)
    (st.for_loop (option_map statement (Some start.0)) (option_map (λ (x : Uses). x.value) (option_map uses (Some test.0))) (option_map (λ (x : Uses). x.value) (option_map uses None)) (statement b.0))
    (leaves_at (sk.For (Some start.0) (Some test.0) None b.0) (StmtKind-F.For (Some start.0) (Some test.0) None b.0) (sk.rolls-For (Some start.0) (Some test.0) None b.0)) (law.for_statement (Some start.0) (Some test.0) None b.0 place)
    (for_sound (option_map leaves (Some start.0)) (option_map statement (Some start.0)) (always (option_map is_true (Some test.0))) (option_map (λ (x : Uses). x.value) (option_map uses (Some test.0))) (option_map (λ (x : Uses). x.value) (option_map uses None)) (leaves b.0) (statement b.0) (start_sound (Some start)) (test_sound (Some test)) (value_sound None) b.1))
go (StmtKind-F.For (Some start) (Some test) (Some step) b) =
    subst KindSound (sym (sk.rolls-For (Some start.0) (Some test.0) (Some step.0) b.0)) (λ place. same_statement (leaves_of_kind (sk.For (Some start.0) (Some test.0) (Some step.0) b.0)) (leave.started (option_map leaves (Some start.0)) (looped (always (option_map is_true (Some test.0))) (leaves b.0))) (statement_of_kind (sk.For (Some start.0) (Some test.0) (Some step.0) b.0) place)
    (st.for_loop (option_map statement (Some start.0)) (option_map (λ (x : Uses). x.value) (option_map uses (Some test.0))) (option_map (λ (x : Uses). x.value) (option_map uses (Some step.0))) (statement b.0))
    (leaves_at (sk.For (Some start.0) (Some test.0) (Some step.0) b.0) (StmtKind-F.For (Some start.0) (Some test.0) (Some step.0) b.0) (sk.rolls-For (Some start.0) (Some test.0) (Some step.0) b.0)) (law.for_statement (Some start.0) (Some test.0) (Some step.0) b.0 place)
    (for_sound (option_map leaves (Some start.0)) (option_map statement (Some start.0)) (always (option_map is_true (Some test.0))) (option_map (λ (x : Uses). x.value) (option_map uses (Some test.0))) (option_map (λ (x : Uses). x.value) (option_map uses (Some step.0))) (leaves b.0) (statement b.0) (start_sound (Some start)) (test_sound (Some test)) (value_sound (Some step)) b.1))
go (StmtKind-F.ForEach n a b) =
    subst KindSound (sym (sk.rolls-ForEach n a.0 b.0)) (λ place. same_statement (leaves_of_kind (sk.ForEach n a.0 b.0)) (looped false (leaves b.0)) (statement_of_kind (sk.ForEach n a.0 b.0) place) (st.for_each n (uses a.0).value (statement b.0))
    (leaves_at (sk.ForEach n a.0 b.0) (StmtKind-F.ForEach n a.0 b.0) (sk.rolls-ForEach n a.0 b.0)) (law.for_each_statement n a.0 b.0 place) (for_each_sound n (uses a.0).value (leaves b.0) (statement b.0) (value_of a.0) b.1))
go (StmtKind-F.Switch a sections) =
    let bare : List Section = map (λ (z : SuchSection). z.0) sections in
    subst KindSound (sym (sk.rolls-Switch a.0 bare)) (λ place. same_statement (leaves_of_kind (sk.Switch a.0 bare)) (switched (any_section (map section_leaves bare))) (statement_of_kind (sk.Switch a.0 bare) place) (st.switch_of (uses a.0).value (map section bare))
    (leaves_at (sk.Switch a.0 bare) (StmtKind-F.Switch a.0 bare) (sk.rolls-Switch a.0 bare)) (law.switch_statement a.0 bare place) (switch_sound (uses a.0).value (map section_leaves bare) (map section bare) (value_of a.0) (sections_sound sections)))
go StmtKind-F.Break = subst KindSound (sym sk.rolls-Break) (λ place. same_statement (leaves_of_kind sk.Break) (record { breaks = true; continues = false; ends = false }) (statement_of_kind sk.Break place) (λ s. fine (done s c.Break)) (leaves_at sk.Break StmtKind-F.Break sk.rolls-Break) (law.break_statement place) break_sound)
go StmtKind-F.Continue = subst KindSound (sym sk.rolls-Continue) (λ place. same_statement (leaves_of_kind sk.Continue) (record { breaks = false; continues = true; ends = false }) (statement_of_kind sk.Continue place) (λ s. fine (done s c.Continue)) (leaves_at sk.Continue StmtKind-F.Continue sk.rolls-Continue) (law.continue_statement place) continue_sound)
go (StmtKind-F.Return None) =
    subst KindSound (sym (sk.rolls-Return None)) (λ place. same_statement (leaves_of_kind (sk.Return None)) (record { breaks = false; continues = false; ends = false }) (statement_of_kind (sk.Return None) place) (st.return_of (option_map (λ (x : Uses). x.value) (option_map uses None)) place)
    (leaves_at (sk.Return None) (StmtKind-F.Return None) (sk.rolls-Return None)) (law.return_statement None place) (return_sound (option_map (λ (x : Uses). x.value) (option_map uses None)) place (value_sound None)))
go (StmtKind-F.Return (Some a)) =
    subst KindSound (sym (sk.rolls-Return (Some a.0))) (λ place. same_statement (leaves_of_kind (sk.Return (Some a.0))) (record { breaks = false; continues = false; ends = false }) (statement_of_kind (sk.Return (Some a.0)) place) (st.return_of (option_map (λ (x : Uses). x.value) (option_map uses (Some a.0))) place)
    (leaves_at (sk.Return (Some a.0)) (StmtKind-F.Return (Some a.0)) (sk.rolls-Return (Some a.0))) (law.return_statement (Some a.0) place) (return_sound (option_map (λ (x : Uses). x.value) (option_map uses (Some a.0))) place (value_sound (Some a))))
go (StmtKind-F.Expr a) =
    subst KindSound (sym (sk.rolls-Expr a.0)) (λ place. same_statement (leaves_of_kind (sk.Expr a.0)) plain (statement_of_kind (sk.Expr a.0) place) (st.perform (uses a.0).value)
    (leaves_at (sk.Expr a.0) (StmtKind-F.Expr a.0) (sk.rolls-Expr a.0)) (law.expr_statement a.0 place) (perform_sound (uses a.0).value (value_of a.0)))
go (StmtKind-F.Await a) =
    subst KindSound (sym (sk.rolls-Await a.0)) (λ place. same_statement (leaves_of_kind (sk.Await a.0)) plain (statement_of_kind (sk.Await a.0) place) (st.perform (uses a.0).value)
    (leaves_at (sk.Await a.0) (StmtKind-F.Await a.0) (sk.rolls-Await a.0)) (law.await_statement a.0 place) (perform_sound (uses a.0).value (value_of a.0)))

go_stmt : (y : Stmt-F ((x : Body) × Unit {0}) ((x : ExprKind) × Unit {0}) SuchKind ((x : TextPart) × Unit {0}) SuchExpr SuchSection SuchStmt ((x : WithPart) × Unit {0})) → StmtSound (record { place = y.place; kind = y.kind.0 })
go_stmt y =
    let a : Stmt = record { place = y.place; kind = y.kind.0 } in
    same_statement (leaves a) (leaves_of_kind y.kind.0) (statement a) (statement_of_kind y.kind.0 y.place) (leaves_law a) (λ s. ap (λ f. f s) (law.statement_law a)) (y.kind.1 y.place)

go_section : (y : Section-F ((x : Body) × Unit {0}) ((x : ExprKind) × Unit {0}) SuchKind ((x : TextPart) × Unit {0}) SuchExpr SuchSection SuchStmt ((x : WithPart) × Unit {0})) (a : Section) → out-Section a ≡ record { labels = y.labels; body = map (λ (z : SuchStmt). z.0) y.body } → PartSound a
go_section y a is =
    let bare : List Stmt = map (λ (z : SuchStmt). z.0) y.body in
    subst (λ z. SectionSound z (section a)) (sym (section_leaves_law a ∙ ap (λ o. section_of (has_default o.labels) (leave.in_order (map leaves o.body))) is))
    (subst (λ z. SectionSound (section_of (has_default y.labels) (leave.in_order (map leaves bare))) z) (sym (law.section_law a ∙ ap (λ o. st.section o.labels (map statement o.body)) is))
    (section_sound y.labels (map leaves bare) (map statement bare) (statements_sound y.body)))

pub statement_tree : (a : Stmt) → StatementSound (leaves a) (statement a)
statement_tree =
    ind-Stmt (λ x. Unit {0}) (λ x. Unit {0}) KindSound (λ x. Unit {0}) (λ x. Unit {0}) PartSound StmtSound (λ x. Unit {0})
    (λ x y is. tt)
    (λ x y is. tt)
    (λ x y is. subst (λ z. KindSound (roll-StmtKind z)) is (go y))
    (λ x y is. tt)
    (λ x y is. tt)
    (λ x y is. subst (λ z. PartSound (roll-Section z)) is (go_section y (roll-Section (record { labels = y.labels; body = map (λ (z : SuchStmt). z.0) y.body })) (out-roll-Section _)))
    (λ x y is. subst (λ z. StmtSound (roll-Stmt z)) is (go_stmt y))
    (λ x y is. tt)
