-- The equations of nodes, and what their tests, starts and lists come to.
use Rattle.std.proofs.Common.{◌≡◌, ℕ, List, [], ◌++◌, map, refl, sym, ap, subst, ◌∙◌}
use Rattle.std.specs.Prelude.{Bool, true, false, if◌then◌else◌, option_map, Option, Some, None}
use Rattle.std.specs.List.{flat_map}
use Rattle.cs_ast.specs.declared.code.Code.{Code}
use Rattle.cs_ast.specs.declared.cs_type.CsType.{CsType}
use Rattle.cs_ast.specs.declared.cs_type.CsType.TheVariants as t
use Rattle.cs_ast.specs.declared.expression.Expr.{Expr}
use Rattle.cs_ast.specs.declared.expression.Label.{Label}
use Rattle.cs_ast.specs.declared.expression.Stmt.{Stmt}
use Rattle.cs_ast.specs.declared.expression.StmtKind.{StmtKind, out-StmtKind}
use Rattle.cs_ast.specs.declared.expression.StmtKind.TheVariants as sk
use Rattle.cs_ast.specs.declared.scope.Scope.{Scope}
use Rattle.cs_rules.specs.declared.checked.Checked.{Checked}
use Rattle.cs_rules.specs.Judged.{Judged, fine, breaks, ◌>>=◌}
use Rattle.cs_rules.specs.Statements as st
use Rattle.cs_rules.specs.Statements.{condition, Done, done}
use Rattle.cs_rules.specs.declared.rule.Rule.TheVariants.{TypeMismatch}
use Rattle.cs_rules.specs.Types.{fits as type_fits, fitting}
use Rattle.cs_rules.specs.Trees.{statement}
use Rattle.cs_forbidden.specs.Trees as forbidding
use Rattle.cs_typing.specs.Types.{Types}
use Rattle.cs_typing.specs.Expressions.{Surroundings, CodeHas}
use Rattle.cs_typing.specs.Statements.{Condition, Stepping}
use Rattle.cs_typing.specs.Statements as typed
use Rattle.cs_accepted.proofs.OperatorLemmas.{some_type}
use Rattle.cs_accepted.proofs.TypeLemmas.{fits_has}
use Rattle.drawing_meaning.specs.Acts.{Act}
use Rattle.razor_ast.specs.Statements.{IsSimple, section}
use Rattle.razor_ast.specs.Statements as simple
use Rattle.razor_ast.specs.declared.node.TNode.{TNode, TNode-F, roll-TNode}
use Rattle.razor_ast.specs.declared.node.TNode.TheFolds.{fold-roll-TNode, fold_out-TSection, fold-TSection, map-TNode}
use Rattle.razor_ast.specs.declared.node.TNode.TheViews.{out-roll-TSection}
use Rattle.razor_ast.specs.declared.node.TSection.{TSection}
use Rattle.razor_rules.specs.declared.finding.Broken.{Broken}
use Rattle.razor_rules.specs.Findings.{found, found_then}
use Rattle.razor_rules.specs.Scopes.{Home}
use Rattle.razor_rules.specs.declared.ground.Ground.{Ground}
use Rattle.razor_rules.specs.Parts as rule_part
use Rattle.razor_rules.specs.Templates as rule
use Rattle.razor_rules.specs.Templates.{option_list, declared_by, test_rules, step_rules, behind_start}
use Rattle.razor_rules.specs.Values.{value}
use Rattle.razor_rules.proofs.TemplateLaws as rule_law
use Rattle.page_meaning.specs.Nodes.{section_of}
use Rattle.page_meaning.specs.Parts as page
use Rattle.page_meaning.specs.Resolved.{Resolves, alone, if_there, value_code}
use Rattle.page_meaning.specs.Resolved.{◌>>=◌ as ◌>>>=◌}
use Rattle.page_typing.specs.Acts.{SimpleHas, StartHas, ActsHave}
use Rattle.page_typing.specs.Acts as acts
use Rattle.page_typing.specs.Formed.{IsStart}
use Rattle.page_typing.specs.Formed as formed
use Rattle.page_typing.specs.Homes.{surroundings, HomeFits}
use Rattle.page_typing.specs.Resolving.{Resolved}
use Rattle.page_typing.specs.TemplateScopes.{TemplateScope}
use Rattle.page_typing.proofs.Capturing.{template_fits}
use Rattle.page_typing.proofs.NarrowLambdas.{both_fine}
use Rattle.page_typing.proofs.ResolvedParts.{alone_resolved, then_resolved, one_resolved, two_resolved}
use Rattle.page_typing.proofs.TemplateStatements.{stated}
use Rattle.page_typing.proofs.TemplateValues.{ValueAt, value_at, code_resolved, found_nothing, no_first}

-- a section of a `switch`
pub section_part : TSection → page.Part_of_switch
section_part = fold-TSection page.Part page.Part_of_switch page.part (λ it. record { does = page.any_does it.items; section = section_of it.labels (page.in_order it.items) })

pub part_at : (node : TNode) (x : TNode-F TNode TSection) → roll-TNode x ≡ node → page.part_of node ≡ page.part (map-TNode TNode TSection page.Part page.Part_of_switch page.part_of section_part x)
unfolding page.part_of section_part
part_at node x is = ap page.part_of (sym is) ∙ fold-roll-TNode page.Part page.Part_of_switch page.part (λ it. record { does = page.any_does it.items; section = section_of it.labels (page.in_order it.items) }) x

pub section_at : (labels : List Label) (items : List TNode) → section_part (section labels items) ≡ record { does = page.any_does (map page.part_of items); section = section_of labels (page.in_order (map page.part_of items)) }
unfolding page.part_of section_part
section_at labels items =
    fold_out-TSection page.Part page.Part_of_switch page.part (λ it. record { does = page.any_does it.items; section = section_of it.labels (page.in_order it.items) }) (section labels items)
    ∙ ap (λ o. record { does = page.any_does (map page.part_of o.items); section = section_of o.labels (page.in_order (map page.part_of o.items)) }) (out-roll-TSection (record { labels = labels; items = items }))

pub rule_section_at : (home : Home) (labels : List Label) (items : List TNode) → rule.part_of_section home (section labels items) ≡ record { does = λ deed. rule_part.any_does (map (rule.part_of home) items) deed; rules = rule.section_rules labels (map (rule.part_of home) items) }
rule_section_at home labels items =
    rule_law.section_law home (section labels items)
    ∙ ap (λ o. record { does = λ deed. rule_part.any_does (map (rule.part_of home) o.items) deed; rules = rule.section_rules o.labels (map (rule.part_of home) o.items) }) (out-roll-TSection (record { labels = labels; items = items }))

-- where nothing is found, what comes first is fine and nothing is found behind it
pub found_then_nothing : {A : Type 0} (j : Judged A) (next : A → List Broken) → found_then j next ≡ [] → (x : A) × (j ≡ fine x) × (next x ≡ [])
found_then_nothing (fine x) next e = (x, refl, e)
found_then_nothing (breaks rule place) next e = absurd (cc)

-- what follows a declaration, or doesn't
pub next_is : (o : Option (List ℕ)) (others : List rule_part.Part) (g : Ground) (after : Scope) → (o ≡ None → after ≡ g.scope) → ((rule_part.next o others g after).scope ≡ after) × ((rule_part.next o others g after).in_switch ≡ g.in_switch)
next_is None others g after h = (sym (h refl), refl)
next_is (Some name) others g after h = (refl, refl)

pub start_is : (o : Option (List ℕ)) (g : Ground) (after : Scope) → (o ≡ None → after ≡ g.scope) → (behind_start o g after).scope ≡ after
start_is None g after h = sym (h refl)
start_is (Some name) g after h = refl

pub acts_append : (at : Surroundings) (components b : Bool) (locals between inner : List CsType) (xs ys : List Act) → ActsHave at components b locals between xs → ActsHave at components b between inner ys → ActsHave at components b locals inner (xs ++ ys)
acts_append at components b locals between inner xs ys (acts.none _ _) g = g
acts_append at components b locals between inner xs ys (acts.more _ _ middle _ one others h hs) g = acts.more b locals middle inner one (others ++ ys) h (acts_append at components b middle between inner others ys hs g)

-- a type that fits
pub fitted : (wanted : CsType) (x : Checked) (code : Code) → fitting wanted x ≡ fine code → type_fits x.expr_type wanted ≡ true
unfolding fitting
fitted wanted x code e = by (type_fits x.expr_type wanted) e
  where
    by : (b : Bool) → (if b then fine x.code else breaks TypeMismatch x.place) ≡ fine code → b ≡ true
    by true e1 = refl
    by false e1 = absurd (cc)

module _ (types : Types) (components : Bool) where
  -- what is made of three
  pub three_resolved : {A B C D : Type 0} (P : A → Type 0) (R : B → Type 0) (S : C → Type 0) (Q : D → Type 0) (j : Resolves A) (k : Resolves B) (l : Resolves C) (f : A → B → C → D) → Resolved types components P j → Resolved types components R k → Resolved types components S l → ((x : A) (y : B) (z : C) → P x → R y → S z → Q (f x y z)) → Resolved types components Q (j >>>= λ x. (k >>>= λ y. (l >>>= λ z. alone (f x y z))))
  three_resolved {A} {B} {C} {D} P R S Q j k l f r s u g =
      then_resolved types components P (λ w. (y : B) × (z : C) × (w ≡ f r.it.made y z) × R y × S z) Q j (λ x. (k >>>= λ y. (l >>>= λ z. alone (f x y z)))) r
      (two_resolved types components R S (λ w. (y : B) × (z : C) × (w ≡ f r.it.made y z) × R y × S z) k l (f r.it.made) s u (λ y z p q. (y, z, refl, p, q)))
      (λ w p m. subst Q (sym m.2) (g r.it.made m.0 m.1 p m.3 m.4))

module _ (home : Home) (types : Types) (components : Bool) (fits : HomeFits types home) where
  abbrev at : Surroundings
  at = surroundings types home

  -- an expression as a value in a template
  pub valued : (g : Ground) (locals : List CsType) (a : Expr) (x : Checked) → TemplateScope home g.scope locals → value g a ≡ fine x → ValueAt at locals g.scope a x
  valued g locals a x template e = value_at at locals g.scope g.forbidden a x (template_fits home (λ deed. false) at g.scope locals fits.members template) e

  -- a test
  pub test_resolved : (g : Ground) (locals : List CsType) (a : Expr) → TemplateScope home g.scope locals → test_rules a g ≡ [] → Resolved types components (λ code. CodeHas at locals t.Bool code) (value_code g.scope a)
  unfolding condition
  test_resolved g locals a template e =
      let none = found_nothing (condition (forbidding.uses g.forbidden a).value g.scope) e in
      let one = both_fine (value g a) (λ x. fitting t.Bool x) none.0 none.1 in
      let v = valued g locals a one.0 template one.1 in
      code_resolved types components at locals g.scope a one.0 (λ code. CodeHas at locals t.Bool code) v (fits_has at locals one.0.expr_type t.Bool v.code (fitted t.Bool one.0 none.0 one.2) v.has)

  any_resolved : (g : Ground) (locals : List CsType) (a : Expr) → TemplateScope home g.scope locals → found (value g a) ≡ [] → Resolved types components (λ code. (type : CsType) × CodeHas at locals type code) (value_code g.scope a)
  any_resolved g locals a template e =
      let none = found_nothing (value g a) e in
      let v = valued g locals a none.0 template none.1 in
      code_resolved types components at locals g.scope a none.0 (λ code. (type : CsType) × CodeHas at locals type code) v (some_type (λ type. CodeHas at locals type v.code) none.0.expr_type v.has)

  -- tests and steps that may be absent
  pub tests_resolved : (g : Ground) (locals : List CsType) (a : Option Expr) → TemplateScope home g.scope locals → flat_map (λ one. test_rules one g) (option_list a) ≡ [] → Resolved types components (λ o. Condition at locals o) (if_there (value_code g.scope) a)
  tests_resolved g locals None template e = alone_resolved types components (λ o. Condition at locals o) None typed.none
  tests_resolved g locals (Some a) template e =
      one_resolved types components (λ code. CodeHas at locals t.Bool code) (λ o. Condition at locals o) (value_code g.scope a) (λ code. Some code) (test_resolved g locals a template (no_first (test_rules a g) [] e)) (λ code h. typed.some code h)

  pub steps_resolved : (g : Ground) (locals : List CsType) (a : Option Expr) → TemplateScope home g.scope locals → flat_map (λ one. step_rules one g) (option_list a) ≡ [] → Resolved types components (λ o. Stepping at locals o) (if_there (value_code g.scope) a)
  steps_resolved g locals None template e = alone_resolved types components (λ o. Stepping at locals o) None typed.none
  steps_resolved g locals (Some a) template e =
      one_resolved types components (λ code. (type : CsType) × CodeHas at locals type code) (λ o. Stepping at locals o) (value_code g.scope a) (λ code. Some code) (any_resolved g locals a template (no_first (found (value g a)) [] e)) (λ code h. typed.some h.0 code h.1)

  -- what decides, whose type isn't looked at
  pub decided_resolved : (g : Ground) (locals : List CsType) (a : Expr) (x : Checked) → TemplateScope home g.scope locals → value g a ≡ fine x → Resolved types components (λ code. (type : CsType) × CodeHas at locals type code) (value_code g.scope a)
  decided_resolved g locals a x template e = any_resolved g locals a template (ap found e)

  -- the start of a `for`
  pub record Begun (g : Ground) (locals : List CsType) (start : Option Stmt) (inner : Ground) : Type 0 where
    pub code : Option Code
    pub within : List CsType
    pub is : st.started (option_map statement start) g.scope ≡ fine (code, inner.scope)
    pub has : StartHas at locals within code
    pub template : TemplateScope home inner.scope within

  start_level : (g : Ground) (one : Stmt) (kind : StmtKind) (d : Done) → IsStart kind → one.kind ≡ kind → forbidding.statement g.forbidden one g.scope ≡ fine d → rule.statement_level (out-StmtKind one.kind) one g ≡ []
  start_level g one kind d (formed.local type name value) is e = ap (λ l. rule.statement_level l one g) (ap out-StmtKind is ∙ sk.outs-Local type name value) ∙ ap found e
  start_level g one kind d (formed.act a) is e = ap (λ l. rule.statement_level l one g) (ap out-StmtKind is ∙ sk.outs-Expr a) ∙ ap found e

  start_simple : (kind : StmtKind) → IsStart kind → IsSimple kind
  start_simple kind (formed.local type name value) = simple.local type name value
  start_simple kind (formed.act a) = simple.act a

  pub begun : (g : Ground) (locals : List CsType) (start : Option Stmt) (inner : Ground) → ((a : Stmt) → start ≡ Some a → IsStart a.kind) → TemplateScope home g.scope locals → rule.started start g ≡ fine inner → Begun g locals start inner
  begun g locals None inner kinds template e = let same : g ≡ inner = cc in record { code = None; within = locals; is = ap (λ (z : Ground). fine (None, z.scope)) same; has = acts.none; template = subst (λ (z : Ground). TemplateScope home z.scope locals) same template }
  begun g locals (Some one) inner kinds template e =
      let first = both_fine (forbidding.statement g.forbidden one g.scope) (λ it. fine (behind_start (declared_by one) g it.scope)) inner e in
      let s = stated home types fits g locals one (start_simple one.kind (kinds one refl)) template (start_level g one one.kind first.0 (kinds one refl) refl first.1) in
      let scope_same : first.0.scope ≡ s.after = scope_eq first.0.scope s.after (sym (ap (λ j. j >>= λ it. fine it.scope) first.1) ∙ s.forbids) in
      let inner_is : behind_start (declared_by one) g s.after ≡ inner = ap (behind_start (declared_by one) g) (sym scope_same) ∙ ground_eq (behind_start (declared_by one) g first.0.scope) inner first.2 in
      let scope_is : inner.scope ≡ s.after = ap (λ (z : Ground). z.scope) (sym inner_is) ∙ start_is (declared_by one) g s.after s.same in
      record {
        code = Some s.code;
        within = s.inner;
        is = ap (λ j. j >>= λ it. fine (Some it.code, it.scope)) s.means ∙ ap (λ z. fine (Some s.code, z)) (sym scope_is);
        has = acts.some s.inner s.code s.has;
        template = subst (λ z. TemplateScope home z s.inner) (sym scope_is) s.template;
      }
    where
      scope_eq : (x y : Scope) → fine x ≡ fine y → x ≡ y
      scope_eq x y e1 = cc

      ground_eq : (x y : Ground) → fine x ≡ fine y → x ≡ y
      ground_eq x y e1 = cc
