-- What each form of node comes to.
use Rattle.std.proofs.Common.{◌≡◌, ℕ, List, [], ◌∷◌, map, refl, sym, ap, ◌∙◌}
use Rattle.std.specs.Prelude.{Option, Some, None, option_map}
use Rattle.text_core.specs.declared.place.Place.{Place}
use Rattle.cs_ast.specs.declared.code.Code.{Code}
use Rattle.cs_ast.specs.declared.expression.Expr.{Expr}
use Rattle.cs_ast.specs.declared.expression.Label.{Label}
use Rattle.cs_ast.specs.declared.expression.Stmt.{Stmt}
use Rattle.cs_ast.specs.declared.expression.StmtKind.{StmtKind-F, out-StmtKind}
use Rattle.cs_ast.specs.declared.identifier.Ident.{Ident}
use Rattle.cs_ast.specs.declared.scope.Scope.{Scope}
use Rattle.cs_meaning.specs.Sections.{Section}
use Rattle.cs_rules.specs.declared.checked.Checked.{Checked}
use Rattle.cs_rules.specs.Expressions.{items_of}
use Rattle.cs_rules.specs.Judged.{Judged, fine, breaks}
use Rattle.cs_rules.specs.Judged as judging
use Rattle.cs_rules.specs.Judged.{◌>>=◌ as ◌>>>=◌}
use Rattle.cs_rules.specs.Names.{with_local}
use Rattle.cs_rules.specs.Statements.{started, Done}
use Rattle.cs_rules.specs.Trees.{value_in, statement}
use Rattle.drawing_meaning.specs.Acts.{Act}
use Rattle.drawing_meaning.specs.Nodes as act
use Rattle.drawing_meaning.specs.Turns as turns
use Rattle.razor_ast.specs.declared.attribute.Attribute.{Attribute}
use Rattle.razor_ast.specs.declared.node.TNode.{TNode, TNode-F}
use Rattle.razor_ast.specs.declared.node.TNode.TheVariants as nd
use Rattle.razor_ast.specs.declared.node.TSection.{TSection}
use Rattle.razor_rules.specs.Scopes.{Home}
use Rattle.razor_rules.specs.Templates.{Level}
use Rattle.page_meaning.specs.Attributes.{dressed}
use Rattle.page_meaning.specs.Nodes as page
use Rattle.page_meaning.specs.Nodes.{appears}
use Rattle.page_meaning.specs.Parts as parts
use Rattle.page_meaning.specs.Parts.{Part, Part_of_switch, part_of}
use Rattle.page_meaning.specs.Resolved as resolved
use Rattle.page_meaning.specs.Resolved.{Makes, Resolves}
use Rattle.page_meaning.specs.Resolved.{◌>>=◌ as ◌>>~◌}
use Rattle.frame_parts.specs.Attributes as attributes_spec
use Rattle.frame_parts.specs.Nodes as spec
use Rattle.frame_parts.specs.Order as order
use Rattle.frame_parts.specs.Sections.{part_of_section}
use Rattle.frame_parts.specs.Steps as steps
use Rattle.frame_parts.specs.Steps.{Numbered, Steps, step, code_in, ◌>>=◌}
use Rattle.frame_parts.specs.Tags as tags
use Rattle.frame_parts.proofs.AttributeLaws.{dressed_law}
use Rattle.frame_parts.proofs.OrderLaws.{in_order_law}
use Rattle.frame_parts.proofs.PartLaws.{part_at}
use Rattle.frame_parts.proofs.StepLaws.{each_law, judged_made, step_alone, step_judged, then_by, then_made, value_law}
use Rattle.frame_parts.proofs.TagLaws.{component_law}

judged_twice : {A B C D : Type 0} (first : Judged A) (second : A → Judged B) (f : A → B → C) (p : C → Steps D) (before : Numbered) →
    (steps.judged first >>= (λ x. steps.judged (second x) >>= (λ y. p (f x y)))) before ≡ (steps.judged (first >>>= (λ x. second x >>>= (λ y. fine (f x y)))) >>= p) before
judged_twice (breaks rule place) second f p before = refl
judged_twice (fine x) second f p before = within (second x)
  where
    within : (it : Judged _) → (steps.judged it >>= (λ y. p (f x y))) before ≡ (steps.judged (it >>>= (λ y. fine (f x y))) >>= p) before
    within (fine y) = refl
    within (breaks rule place) = refl

judged_thrice : {A B C D E : Type 0} (first : Judged A) (second : A → Judged B) (third : A → Judged C) (f : A → B → C → D) (p : D → Steps E) (before : Numbered) →
    (steps.judged first >>= (λ x. steps.judged (second x) >>= (λ y. steps.judged (third x) >>= (λ z. p (f x y z))))) before
    ≡ (steps.judged (first >>>= (λ x. second x >>>= (λ y. third x >>>= (λ z. fine (f x y z))))) >>= p) before
judged_thrice (breaks rule place) second third f p before = refl
judged_thrice (fine x) second third f p before = within (second x) (third x)
  where
    within : (it : Judged _) (other : Judged _) →
        (steps.judged it >>= (λ y. steps.judged other >>= (λ z. p (f x y z)))) before ≡ (steps.judged (it >>>= (λ y. other >>>= (λ z. fine (f x y z)))) >>= p) before
    within (breaks rule place) other = refl
    within (fine y) (fine z) = refl
    within (fine y) (breaks rule place) = refl

module _ (home : Home) (s : Scope) where
  element_step : (number : ℕ) (name : List ℕ) (attributes : List Attribute) (children : List Part) (before : Numbered) →
      step (page.element number name attributes (parts.in_order children) home s) before ≡ spec.element home s number name attributes children before
  unfolding page.element
  element_step number name attributes children before =
      then_by (dressed home s name attributes) (λ worn. parts.in_order children home s >>~ (λ inside. resolved.alone (act.element number name worn inside ∷ [])))
      (attributes_spec.dressed home s name attributes attributes) (λ worn. order.in_order home children s >>= (λ inside. steps.alone (act.element number name worn inside ∷ [])))
      (dressed_law home s name attributes)
      (λ worn now. then_made (parts.in_order children home s) (order.in_order home children s) (λ inside. act.element number name worn inside ∷ []) (in_order_law home children s) now)
      before

  text_step : (number : ℕ) (said : List ℕ) (before : Numbered) → step (page.text number said home s) before ≡ fine (act.text number said ∷ [], before)
  unfolding page.text
  text_step number said before = step_alone (act.text number said ∷ []) before

  raw_step : (number : ℕ) (said : List ℕ) (before : Numbered) → step (page.raw number said home s) before ≡ fine (act.raw number said ∷ [], before)
  unfolding page.raw
  raw_step number said before = step_alone (act.raw number said ∷ []) before

  content_step : (number : ℕ) (a : Expr) (before : Numbered) → step (page.content number a home s) before ≡ steps.judged (spec.content s number a) before
  unfolding page.content
  content_step number a before =
      then_made (resolved.judged (value_in s a)) (steps.judged (value_in s a)) (λ x. act.content number (appears x.expr_type) x.code ∷ []) (step_judged (value_in s a)) before
      ∙ judged_made (value_in s a) (λ x. act.content number (appears x.expr_type) x.code ∷ []) before

  plain_step : (one : Stmt) (before : Numbered) →
      step (resolved.judged (statement one s) >>~ (λ it. resolved.alone (act.statement it.code ∷ []))) before ≡ steps.judged (spec.plain_statement s one) before
  plain_step one before =
      then_made (resolved.judged (statement one s)) (steps.judged (statement one s)) (λ it. act.statement it.code ∷ []) (step_judged (statement one s)) before
      ∙ judged_made (statement one s) (λ it. act.statement it.code ∷ []) before

  level_step : (level : Level) (one : Stmt) (before : Numbered) → step (page.statement_level level one s) before ≡ steps.judged (spec.statement_level level s one) before
  level_step StmtKind-F.Break one before = step_alone (act.break_out ∷ []) before
  level_step StmtKind-F.Empty one before = plain_step one before
  level_step StmtKind-F.Continue one before = plain_step one before
  level_step (StmtKind-F.Local cs_type name value) one before = plain_step one before
  level_step (StmtKind-F.StmtKind::Block body) one before = plain_step one before
  level_step (StmtKind-F.If a holds fails) one before = plain_step one before
  level_step (StmtKind-F.While a body) one before = plain_step one before
  level_step (StmtKind-F.For start test next body) one before = plain_step one before
  level_step (StmtKind-F.ForEach name a body) one before = plain_step one before
  level_step (StmtKind-F.Switch a sections) one before = plain_step one before
  level_step (StmtKind-F.Return a) one before = plain_step one before
  level_step (StmtKind-F.Expr a) one before = plain_step one before
  level_step (StmtKind-F.Await a) one before = plain_step one before

  statement_step : (one : Stmt) (before : Numbered) → step (page.plain_statement one home s) before ≡ steps.judged (spec.statement_form s one) before
  unfolding page.plain_statement spec.statement_form
  statement_step one before = level_step (out-StmtKind one.kind) one before

  block_step : (items : List Part) (before : Numbered) → step (page.block (parts.in_order items) home s) before ≡ spec.block home s items before
  unfolding page.block
  block_step items before = then_made (parts.in_order items home s) (order.in_order home items s) (λ acts. act.block acts ∷ []) (in_order_law home items s) before

  other_step : (other : Option Part) (before : Numbered) → step (page.or_nothing (option_map (λ (one : Part). one.makes) other) home s) before ≡ spec.or_nothing home s other before
  other_step None before = step_alone [] before
  other_step (Some one) before = refl

  branch_step : (test : Expr) (one : Part) (other : Option Part) (before : Numbered) →
      step (page.branch test one.makes (option_map (λ (it : Part). it.makes) other) home s) before ≡ spec.branch home s test one other before
  unfolding page.branch
  branch_step test one other before =
      then_by (resolved.value_code s test)
      (λ code. one.makes home s >>~ (λ holds. page.or_nothing (option_map (λ (it : Part). it.makes) other) home s >>~ (λ fails. resolved.alone (act.branch code holds fails ∷ []))))
      (steps.judged (code_in s test)) (λ code. step (one.makes home s) >>= (λ holds. spec.or_nothing home s other >>= (λ fails. steps.alone (act.branch code holds fails ∷ []))))
      (value_law s test)
      (λ code now. then_by (one.makes home s) (λ holds. page.or_nothing (option_map (λ (it : Part). it.makes) other) home s >>~ (λ fails. resolved.alone (act.branch code holds fails ∷ [])))
      (step (one.makes home s)) (λ holds. spec.or_nothing home s other >>= (λ fails. steps.alone (act.branch code holds fails ∷ [])))
      (λ later. refl)
      (λ holds later. then_made (page.or_nothing (option_map (λ (it : Part). it.makes) other) home s) (spec.or_nothing home s other) (λ fails. act.branch code holds fails ∷ []) (other_step other) later)
      now)
      before

  pub section_step : (labels : List Label) (items : List Part) (before : Numbered) →
      step (page.section_acts home s (page.section_of labels (parts.in_order items))) before ≡ spec.section home s labels items before
  section_step labels items before = then_made (parts.in_order items home s) (order.in_order home items s) (λ acts. spec.section_of labels acts) (in_order_law home items s) before

  sections_step : (all : List Part_of_switch) (before : Numbered) → step (resolved.each (page.section_acts home s) (map (λ (one : Part_of_switch). one.section) all)) before ≡ spec.sections home s all before
  sections_step [] before = step_alone [] before
  sections_step (one ∷ others) before =
      then_by (page.section_acts home s one.section) (λ y. resolved.each (page.section_acts home s) (map (λ (it : Part_of_switch). it.section) others) >>~ (λ ys. resolved.alone (y ∷ ys)))
      (spec.section_of_part home s one) (λ y. spec.sections home s others >>= (λ ys. steps.alone (y ∷ ys)))
      (λ now. refl)
      (λ y now. then_made (resolved.each (page.section_acts home s) (map (λ (it : Part_of_switch). it.section) others)) (spec.sections home s others) (λ ys. y ∷ ys) (sections_step others) now)
      before

  switch_step : (a : Expr) (all : List Part_of_switch) (before : Numbered) → step (page.switch a (map (λ (one : Part_of_switch). one.section) all) home s) before ≡ spec.switch home s a all before
  unfolding page.switch
  switch_step a all before =
      then_by (resolved.value_code s a) (λ code. resolved.each (page.section_acts home s) (map (λ (one : Part_of_switch). one.section) all) >>~ (λ acts. resolved.alone (act.switch code acts ∷ [])))
      (steps.judged (code_in s a)) (λ code. spec.sections home s all >>= (λ acts. steps.alone (act.switch code acts ∷ [])))
      (value_law s a)
      (λ code now. then_made (resolved.each (page.section_acts home s) (map (λ (one : Part_of_switch). one.section) all)) (spec.sections home s all) (λ acts. act.switch code acts ∷ []) (sections_step all) now)
      before

  while_step : (number : ℕ) (test : Expr) (body : Part) (before : Numbered) → step (page.while_loop number test body.turn_key body.makes home s) before ≡ spec.while_loop home s number test body before
  unfolding page.while_loop
  while_step number test body before =
      then_by (resolved.value_code s test) (λ code. body.makes home s >>~ (λ turn. resolved.alone (turns.while_loop number code body.turn_key turn ∷ [])))
      (steps.judged (code_in s test)) (λ code. step (body.makes home s) >>= (λ turn. steps.alone (turns.while_loop number code body.turn_key turn ∷ [])))
      (value_law s test)
      (λ code now. then_made (body.makes home s) (step (body.makes home s)) (λ turn. turns.while_loop number code body.turn_key turn ∷ []) (λ later. refl) now)
      before

  for_each_step : (number : ℕ) (name : List ℕ) (list : Expr) (body : Part) (before : Numbered) →
      step (page.for_each number name list body.turn_key body.makes home s) before ≡ spec.for_each home s number name list body before
  unfolding page.for_each
  for_each_step number name list body before =
      then_by (resolved.judged (value_in s list))
      (λ x. resolved.judged (items_of x.place x.expr_type) >>~ (λ item. body.makes home (with_local s name item) >>~ (λ turn. resolved.alone (turns.for_each number x.code body.turn_key turn ∷ []))))
      (steps.judged (value_in s list))
      (λ x. steps.judged (items_of x.place x.expr_type) >>= (λ item. step (body.makes home (with_local s name item)) >>= (λ turn. steps.alone (turns.for_each number x.code body.turn_key turn ∷ []))))
      (step_judged (value_in s list))
      (λ x now. then_by (resolved.judged (items_of x.place x.expr_type)) (λ item. body.makes home (with_local s name item) >>~ (λ turn. resolved.alone (turns.for_each number x.code body.turn_key turn ∷ [])))
      (steps.judged (items_of x.place x.expr_type)) (λ item. step (body.makes home (with_local s name item)) >>= (λ turn. steps.alone (turns.for_each number x.code body.turn_key turn ∷ [])))
      (step_judged (items_of x.place x.expr_type))
      (λ item later. then_made (body.makes home (with_local s name item)) (step (body.makes home (with_local s name item))) (λ turn. turns.for_each number x.code body.turn_key turn ∷ []) (λ last. refl) later)
      now)
      before
      ∙ judged_twice (value_in s list) (λ x. items_of x.place x.expr_type) (λ x item. (item, x.code))
      (λ it. step (body.makes home (with_local s name it.0)) >>= (λ turn. steps.alone (turns.for_each number it.1 body.turn_key turn ∷ []))) before

  optional_step : (inner : Scope) (a : Option Expr) (before : Numbered) → step (resolved.if_there (resolved.value_code inner) a) before ≡ steps.judged (judging.if_there (code_in inner) a) before
  optional_step inner None before = step_alone None before
  optional_step inner (Some a) before =
      then_made (resolved.value_code inner a) (steps.judged (code_in inner a)) (λ code. Some code) (value_law inner a) before ∙ judged_made (code_in inner a) (λ code. Some code) before

  for_step : (number : ℕ) (start : Option Stmt) (test next : Option Expr) (body : Part) (before : Numbered) →
      step (page.for_loop number start test next body.turn_key body.makes home s) before ≡ spec.for_loop home s number start test next body before
  unfolding page.for_loop
  for_step number start test next body before =
      then_by (resolved.judged (started (option_map statement start) s))
      (λ first. resolved.if_there (resolved.value_code first.1) test >>~ (λ code. resolved.if_there (resolved.value_code first.1) next >>~ (λ after. body.makes home first.1 >>~ (λ turn.
      resolved.alone (turns.for_loop number first.0 code after body.turn_key turn ∷ [])))))
      (steps.judged (started (option_map statement start) s))
      (λ first. steps.judged (judging.if_there (code_in first.1) test) >>= (λ code. steps.judged (judging.if_there (code_in first.1) next) >>= (λ after. step (body.makes home first.1) >>= (λ turn.
      steps.alone (turns.for_loop number first.0 code after body.turn_key turn ∷ [])))))
      (step_judged (started (option_map statement start) s))
      (λ first now. then_by (resolved.if_there (resolved.value_code first.1) test)
      (λ code. resolved.if_there (resolved.value_code first.1) next >>~ (λ after. body.makes home first.1 >>~ (λ turn. resolved.alone (turns.for_loop number first.0 code after body.turn_key turn ∷ []))))
      (steps.judged (judging.if_there (code_in first.1) test))
      (λ code. steps.judged (judging.if_there (code_in first.1) next) >>= (λ after. step (body.makes home first.1) >>= (λ turn. steps.alone (turns.for_loop number first.0 code after body.turn_key turn ∷ []))))
      (optional_step first.1 test)
      (λ code later. then_by (resolved.if_there (resolved.value_code first.1) next)
      (λ after. body.makes home first.1 >>~ (λ turn. resolved.alone (turns.for_loop number first.0 code after body.turn_key turn ∷ [])))
      (steps.judged (judging.if_there (code_in first.1) next))
      (λ after. step (body.makes home first.1) >>= (λ turn. steps.alone (turns.for_loop number first.0 code after body.turn_key turn ∷ [])))
      (optional_step first.1 next)
      (λ after last. then_made (body.makes home first.1) (step (body.makes home first.1)) (λ turn. turns.for_loop number first.0 code after body.turn_key turn ∷ []) (λ end. refl) last)
      later)
      now)
      before
      ∙ judged_thrice (started (option_map statement start) s) (λ first. judging.if_there (code_in first.1) test) (λ first. judging.if_there (code_in first.1) next) (λ first code after. ((first.0, code, after), first.1))
      (λ it. step (body.makes home it.1) >>= (λ turn. steps.alone (turns.for_loop number it.0.0 it.0.1 it.0.2 body.turn_key turn ∷ []))) before

  pub element_law : (n : ℕ) (p : Place) (nm : Ident) (atts : List Attribute) (cs : List TNode) (before : Numbered) → step ((part_of (nd.Element n p nm atts cs)).makes home s) before ≡ spec.element home s n nm.name atts (map part_of cs) before
  element_law n p nm atts cs before = ap (λ (it : Part). step (it.makes home s) before) (part_at (nd.Element n p nm atts cs) (TNode-F.Element n p nm atts cs) (nd.rolls-Element n p nm atts cs)) ∙ element_step n nm.name atts (map part_of cs) before

  pub child_law : (n : ℕ) (p : Place) (nm : Ident) (atts : List Attribute) (cs : List TNode) (before : Numbered) → step ((part_of (nd.Child n p nm atts cs)).makes home s) before ≡ tags.component home s n p nm atts (map part_of cs) before
  child_law n p nm atts cs before = ap (λ (it : Part). step (it.makes home s) before) (part_at (nd.Child n p nm atts cs) (TNode-F.Child n p nm atts cs) (nd.rolls-Child n p nm atts cs)) ∙ component_law home s n p nm atts (map part_of cs) before

  pub text_law : (n : ℕ) (p : Place) (t : List ℕ) (before : Numbered) → step ((part_of (nd.Text n p t)).makes home s) before ≡ fine (act.text n t ∷ [], before)
  text_law n p t before = ap (λ (it : Part). step (it.makes home s) before) (part_at (nd.Text n p t) (TNode-F.Text n p t) (nd.rolls-Text n p t)) ∙ text_step n t before

  pub raw_law : (n : ℕ) (p : Place) (t : List ℕ) (before : Numbered) → step ((part_of (nd.Raw n p t)).makes home s) before ≡ fine (act.raw n t ∷ [], before)
  raw_law n p t before = ap (λ (it : Part). step (it.makes home s) before) (part_at (nd.Raw n p t) (TNode-F.Raw n p t) (nd.rolls-Raw n p t)) ∙ raw_step n t before

  pub content_law : (n : ℕ) (p : Place) (a : Expr) (before : Numbered) → step ((part_of (nd.Content n p a)).makes home s) before ≡ steps.judged (spec.content s n a) before
  content_law n p a before = ap (λ (it : Part). step (it.makes home s) before) (part_at (nd.Content n p a) (TNode-F.Content n p a) (nd.rolls-Content n p a)) ∙ content_step n a before

  pub group_law : (p : Place) (cs : List TNode) (before : Numbered) → step ((part_of (nd.Group p cs)).makes home s) before ≡ order.in_order home (map part_of cs) s before
  group_law p cs before = ap (λ (it : Part). step (it.makes home s) before) (part_at (nd.Group p cs) (TNode-F.Group p cs) (nd.rolls-Group p cs)) ∙ in_order_law home (map part_of cs) s before

  pub statement_law : (st : Stmt) (before : Numbered) → step ((part_of (nd.Statement st)).makes home s) before ≡ steps.judged (spec.statement_form s st) before
  statement_law st before = ap (λ (it : Part). step (it.makes home s) before) (part_at (nd.Statement st) (TNode-F.Statement st) (nd.rolls-Statement st)) ∙ statement_step st before

  pub block_law : (p : Place) (cs : List TNode) (before : Numbered) → step ((part_of (nd.Block p cs)).makes home s) before ≡ spec.block home s (map part_of cs) before
  block_law p cs before = ap (λ (it : Part). step (it.makes home s) before) (part_at (nd.Block p cs) (TNode-F.Block p cs) (nd.rolls-Block p cs)) ∙ block_step (map part_of cs) before

  pub if_law : (p : Place) (a : Expr) (h : TNode) (o : Option TNode) (before : Numbered) → step ((part_of (nd.If p a h o)).makes home s) before ≡ spec.branch home s a (part_of h) (option_map part_of o) before
  if_law p a h None before = ap (λ (it : Part). step (it.makes home s) before) (part_at (nd.If p a h None) (TNode-F.If p a h None) (nd.rolls-If p a h None)) ∙ branch_step a (part_of h) (option_map part_of None) before
  if_law p a h (Some o) before = ap (λ (it : Part). step (it.makes home s) before) (part_at (nd.If p a h (Some o)) (TNode-F.If p a h (Some o)) (nd.rolls-If p a h (Some o))) ∙ branch_step a (part_of h) (option_map part_of (Some o)) before

  pub switch_law : (p : Place) (a : Expr) (ss : List TSection) (before : Numbered) → step ((part_of (nd.Switch p a ss)).makes home s) before ≡ spec.switch home s a (map part_of_section ss) before
  switch_law p a ss before = ap (λ (it : Part). step (it.makes home s) before) (part_at (nd.Switch p a ss) (TNode-F.Switch p a ss) (nd.rolls-Switch p a ss)) ∙ switch_step a (map part_of_section ss) before

  pub for_law : (n : ℕ) (p : Place) (s0 : Option Stmt) (a : Option Expr) (b : Option Expr) (h : TNode) (before : Numbered) → step ((part_of (nd.For n p s0 a b h)).makes home s) before ≡ spec.for_loop home s n s0 a b (part_of h) before
  for_law n p s0 a b h before = ap (λ (it : Part). step (it.makes home s) before) (part_at (nd.For n p s0 a b h) (TNode-F.For n p s0 a b h) (nd.rolls-For n p s0 a b h)) ∙ for_step n s0 a b (part_of h) before

  pub for_each_law : (n : ℕ) (p : Place) (nm : Ident) (a : Expr) (h : TNode) (before : Numbered) → step ((part_of (nd.ForEach n p nm a h)).makes home s) before ≡ spec.for_each home s n nm.name a (part_of h) before
  for_each_law n p nm a h before = ap (λ (it : Part). step (it.makes home s) before) (part_at (nd.ForEach n p nm a h) (TNode-F.ForEach n p nm a h) (nd.rolls-ForEach n p nm a h)) ∙ for_each_step n nm.name a (part_of h) before

  pub while_law : (n : ℕ) (p : Place) (a : Expr) (h : TNode) (before : Numbered) → step ((part_of (nd.While n p a h)).makes home s) before ≡ spec.while_loop home s n a (part_of h) before
  while_law n p a h before = ap (λ (it : Part). step (it.makes home s) before) (part_at (nd.While n p a h) (TNode-F.While n p a h) (nd.rolls-While n p a h)) ∙ while_step n a (part_of h) before
