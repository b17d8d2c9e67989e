-- What the tags of components come to.
use Rattle.std.proofs.Common.{◌≡◌, ℕ, List, [], ◌∷◌, ◌++◌, map, refl, sym, ap, ◌∙◌, inl, inr}
use Rattle.std.specs.Prelude.{Bool, true, false, not, codes, filter, if◌then◌else◌, Option, Some, None}
use Rattle.std.specs.List.{flat_map, list_all}
use Rattle.std.proofs.lemmas.Bool.{cases_Bool}
use Rattle.text_core.specs.declared.place.Place.{Place}
use Rattle.cs_ast.specs.declared.cs_type.CsType.{CsType}
use Rattle.cs_ast.specs.declared.expression.Expr.{Expr}
use Rattle.cs_ast.specs.declared.expression.Stmt.{Stmt}
use Rattle.cs_ast.specs.declared.identifier.Ident.{Ident}
use Rattle.cs_ast.specs.declared.scope.Scope.{Scope}
use Rattle.cs_rules.specs.declared.rule.Rule.TheVariants.{UnknownComponent, UnknownParameter}
use Rattle.cs_rules.specs.Judged.{Judged, fine, breaks, known, mismatch}
use Rattle.cs_rules.specs.Judged.{◌>>=◌ as ◌>>>=◌}
use Rattle.drawing_meaning.specs.Acts.{Act}
use Rattle.drawing_meaning.specs.Tags as act
use Rattle.drawing_meaning.specs.Tags.{Gives, given_text, given_value, given_key}
use Rattle.razor_ast.specs.declared.attribute.Attribute.{Attribute}
use Rattle.razor_ast.specs.declared.attribute.AttributeKind.{AttributeKind}
use Rattle.razor_ast.specs.declared.attribute.AttributeKind.TheVariants as ak
use Rattle.razor_ast.specs.declared.attribute.Given.{Given}
use Rattle.razor_ast.specs.declared.attribute.Given.TheVariants as given
use Rattle.razor_ast.specs.declared.node.TNode.{TNode, TNode-F}
use Rattle.razor_ast.specs.declared.node.TNode.TheVariants as nd
use Rattle.razor_ast.specs.declared.node.TSection.{TSection}
use Rattle.razor_rules.specs.Parameters.{Tagged, tagged, fragment_taken}
use Rattle.razor_rules.specs.Scopes.{Home}
use Rattle.razor_rules.specs.Tags.{context_in, context_name}
use Rattle.razor_rules.specs.Templates.{option_list}
use Rattle.page_meaning.specs.Captures.{used, positions_of}
use Rattle.page_meaning.specs.Parts as page
use Rattle.page_meaning.specs.Parts.{Part, Tag, part_of, content_of, counted, is_fragment_tag}
use Rattle.page_meaning.specs.Placed.{template}
use Rattle.page_meaning.specs.Resolved as resolved
use Rattle.page_meaning.specs.Resolved.{place_at}
use Rattle.page_meaning.specs.Resolved.{◌>>=◌ as ◌>>~◌}
use Rattle.page_meaning.specs.Tags as page_tags
use Rattle.page_meaning.specs.Tags.{Target, target_of, supplied_code}
use Rattle.frame_parts.specs.Order as order
use Rattle.frame_parts.specs.Steps as steps
use Rattle.frame_parts.specs.Steps.{Numbered, Steps, step, code_in, ◌>>=◌}
use Rattle.frame_parts.specs.Tags as spec
use Rattle.frame_parts.proofs.OrderLaws.{in_order_law}
use Rattle.frame_parts.proofs.PartLaws.{part_at}
use Rattle.frame_parts.proofs.StepLaws.{each_law, each_of_law, made_through, step_alone, step_judged, step_template, then_by, then_made, value_made}

-- attributes
module _ (home : Home) (s : Scope) (target : Target) where
  expression_law : (number : ℕ) (it : ℕ × CsType) (a : Expr) (before : Numbered) → step (page_tags.expression_gift home s target number it a) before ≡ spec.expression_gift home s number it a before
  expression_law number it a before = then_made (supplied_code home s number it.1 a) (step (supplied_code home s number it.1 a)) (λ code. given_value it.0 code ∷ []) (λ now. refl) before

  said_law : (number : ℕ) (it : ℕ × CsType) (place : Place) (a : Option Expr) (before : Numbered) → step (page_tags.if_said home s target number it place a) before ≡ spec.if_said home s number it place a before
  said_law number it place None before = step_judged (mismatch place) before
  said_law number it place (Some a) before = expression_law number it a before

  given_law : (number : ℕ) (it : ℕ × CsType) (as_text : Bool) (one : Given) (before : Numbered) → step (page_tags.given_gift home s target number it as_text one) before ≡ spec.given_gift home s number it as_text one before
  given_law number it as_text given.Nothing before = step_alone (given_text it.0 [] ∷ []) before
  given_law number it true (given.Text place said a) before = step_alone (given_text it.0 said ∷ []) before
  given_law number it false (given.Text place said a) before = said_law number it place a before
  given_law number it as_text (given.Value a) before = expression_law number it a before

  parameter_law : (number : ℕ) (one : Given) (place : Place) (name : List ℕ) (before : Numbered) →
      step (page_tags.parameter_gift home s target number one place name) before ≡ spec.parameter_gift home s target number one place name before
  unfolding page_tags.parameter_gift
  parameter_law number one place name before =
      then_by (resolved.judged (known UnknownParameter place (target.parameter name))) (λ it. page_tags.given_gift home s target number it (page_tags.takes_text target name it.1) one)
      (steps.judged (known UnknownParameter place (target.parameter name))) (λ it. spec.given_gift home s number it (page_tags.takes_text target name it.1) one)
      (step_judged (known UnknownParameter place (target.parameter name))) (λ it now. given_law number it (page_tags.takes_text target name it.1) one now) before

  attribute_law : (kind : AttributeKind) (place : Place) (name : List ℕ) (before : Numbered) → step (page_tags.attribute_gift home s target kind place name) before ≡ spec.attribute_gift home s target kind place name before
  attribute_law (ak.Parameter number one) place name before = parameter_law number one place name before
  attribute_law (ak.Key a) place name before = value_made s a (λ code. given_key code ∷ []) before
  attribute_law (ak.Mixed number parts) place name before = step_alone [] before
  attribute_law (ak.Event number a) place name before = step_alone [] before
  attribute_law (ak.Bind number field) place name before = step_alone [] before
  attribute_law ak.BindEvent place name before = step_alone [] before
  attribute_law (ak.Context number said) place name before = step_alone [] before

  attributes_law : (attributes : List Attribute) (before : Numbered) → step (page_tags.attribute_gifts home s target attributes) before ≡ spec.attribute_gifts home s target attributes before
  attributes_law attributes before =
      each_of_law (λ one. page_tags.attribute_gift home s target one.kind one.place one.name) (λ one. spec.attribute_gift home s target one.kind one.place one.name)
      (λ one now. attribute_law one.kind one.place one.name now) attributes before

-- fragments
module _ (around : Tagged) (target : Target) (home : Home) (s : Scope) where
  template_law : (number : ℕ) (parts : List Part) (argument : Option CsType) (name : Ident) (before : Numbered) →
      step (page.fragment_template around target home s number (content_of parts) argument name) before ≡ spec.fragment_template home s number parts argument name before
  unfolding page.fragment_template
  template_law number parts argument name before =
      then_by (page.in_order parts home (spec.fragment_scope home s parts argument name))
      (λ acts. resolved.put (place_at home number) (template (page.fragment_signature home s (content_of parts) argument) acts))
      (order.in_order home parts (spec.fragment_scope home s parts argument name)) (λ acts. steps.put_template (place_at home number) acts)
      (in_order_law home parts (spec.fragment_scope home s parts argument name))
      (λ acts now. step_template (place_at home number) (page.fragment_signature home s (content_of parts) argument) acts now) before

  -- a fragment that is given so
  abbrev page_gift : spec.Giving → List ℕ → ℕ → Place → Option Ident → Option Ident → List Part → resolved.Resolves Gives
  page_gift gives name number place own outer parts =
      resolved.judged (known UnknownParameter place (fragment_taken around name)) >>~ (λ argument.
      page.fragment_template around target home s number (content_of parts) argument (context_name own outer place) >>~ (λ placed.
      resolved.judged (known UnknownParameter place (target.parameter name)) >>~ (λ it.
      resolved.alone (gives it.0 (place_at home number) (spec.captured s parts)))))

  gift_law : (gives : spec.Giving) (name : List ℕ) (number : ℕ) (place : Place) (own outer : Option Ident) (parts : List Part) (before : Numbered) →
      step (page_gift gives name number place own outer parts) before ≡ spec.gift_of around target home s gives name number place own outer parts before
  gift_law gives name number place own outer parts before =
      then_by (resolved.judged (known UnknownParameter place (fragment_taken around name)))
      (λ argument. page.fragment_template around target home s number (content_of parts) argument (context_name own outer place) >>~ (λ placed.
      resolved.judged (known UnknownParameter place (target.parameter name)) >>~ (λ it. resolved.alone (gives it.0 (place_at home number) (spec.captured s parts)))))
      (steps.judged (known UnknownParameter place (fragment_taken around name)))
      (λ argument. spec.fragment_template home s number parts argument (context_name own outer place) >>= (λ placed.
      steps.judged (known UnknownParameter place (target.parameter name)) >>= (λ it. steps.alone (gives it.0 (place_at home number) (spec.captured s parts)))))
      (step_judged (known UnknownParameter place (fragment_taken around name)))
      (λ argument now. then_by (page.fragment_template around target home s number (content_of parts) argument (context_name own outer place))
      (λ placed. resolved.judged (known UnknownParameter place (target.parameter name)) >>~ (λ it. resolved.alone (gives it.0 (place_at home number) (spec.captured s parts))))
      (spec.fragment_template home s number parts argument (context_name own outer place))
      (λ placed. steps.judged (known UnknownParameter place (target.parameter name)) >>= (λ it. steps.alone (gives it.0 (place_at home number) (spec.captured s parts))))
      (template_law number parts argument (context_name own outer place))
      (λ placed later. then_made (resolved.judged (known UnknownParameter place (target.parameter name))) (steps.judged (known UnknownParameter place (target.parameter name)))
      (λ it. gives it.0 (place_at home number) (spec.captured s parts)) (step_judged (known UnknownParameter place (target.parameter name))) later)
      now)
      before

  -- the tag of a fragment with such content
  abbrev tag_with : ℕ → List ℕ → Place → Option Ident → List Part → Tag
  tag_with number name place context parts = record { number = number; name = name; place = place; context = context; content = content_of parts }

  tag_law : (outer : Option Ident) (number : ℕ) (name : List ℕ) (place : Place) (context : Option Ident) (parts : List Part) (before : Numbered) →
      spec.tag_gift around target home s outer (Some (tag_with number name place context parts)) before ≡ spec.one_gift around target home s act.given_fragment name number place context outer parts before
  unfolding page.fragment_gift
  tag_law outer number name place context parts before =
      ap (λ (it : Judged (Gives × Numbered)). it >>>= (λ one. fine (one.0 ∷ [], one.1))) (gift_law act.given_fragment name number place context outer parts before)

  loose_law : (number : ℕ) (place : Place) (outer : Option Ident) (parts : List Part) (before : Numbered) →
      step (page.content_gift around target home s number place outer (content_of parts) >>~ (λ it. resolved.alone (it ∷ []))) before ≡ spec.loose_gift around target home s number place outer parts before
  unfolding page.content_gift
  loose_law number place outer parts before =
      then_made (page_gift act.given_content (codes "ChildContent") number place outer None parts) (spec.gift_of around target home s act.given_content (codes "ChildContent") number place outer None parts)
      (λ it. it ∷ []) (gift_law act.given_content (codes "ChildContent") number place outer None parts) before

  nothing_first : (it : Judged (List Gives × Numbered)) → it ≡ (it >>>= (λ more. fine ([] ++ more.0, more.1)))
  nothing_first (fine more) = refl
  nothing_first (breaks rule place) = refl

  abbrev single : Gives × Numbered → Judged (List Gives × Numbered)
  single it = fine (it.0 ∷ [], it.1)

  one_first : (first : Judged (Gives × Numbered)) (others : Steps (List Gives)) →
      (first >>>= (λ it. (others >>= (λ more. steps.alone (it.0 ∷ more))) it.1))
      ≡ ((first >>>= single) >>>= (λ ys. (others >>= (λ more. steps.alone (ys.0 ++ more))) ys.1))
  one_first (fine it) others = refl
  one_first (breaks rule place) others = refl

  -- a part that counts
  tag_first : (outer : Option Ident) (tag : Option Tag) (rest : List Tag) (before : Numbered) →
      steps.each (λ one. step (page.fragment_gift around target home s outer one)) (option_list tag ++ rest) before
      ≡ (spec.tag_gift around target home s outer tag >>= (λ ys. steps.each (λ one. step (page.fragment_gift around target home s outer one)) rest >>= (λ more. steps.alone (ys ++ more)))) before
  tag_first outer None rest before = nothing_first (steps.each (λ one. step (page.fragment_gift around target home s outer one)) rest before)
  tag_first outer (Some one) rest before = one_first (step (page.fragment_gift around target home s outer one) before) (steps.each (λ it. step (page.fragment_gift around target home s outer it)) rest)

  abbrev tags_in : List Part → List Tag
  tags_in parts = flat_map (λ one. option_list one.tag) (counted parts)

  abbrev tag_steps : Option Ident → List Tag → Steps (List Gives)
  tag_steps outer tags = steps.each (λ one. step (page.fragment_gift around target home s outer one)) tags

  blank_first : (outer : Option Ident) (one : Part) (others : List Part) (before : Numbered) → one.blank ≡ true →
      tag_steps outer (tags_in (one ∷ others)) before ≡ (spec.part_gift around target home s outer one >>= (λ ys. tag_steps outer (tags_in others) >>= (λ more. steps.alone (ys ++ more)))) before
  blank_first outer one others before h = rw h (nothing_first (tag_steps outer (tags_in others) before))

  counted_first : (outer : Option Ident) (one : Part) (others : List Part) (before : Numbered) → one.blank ≡ false →
      tag_steps outer (tags_in (one ∷ others)) before ≡ (spec.part_gift around target home s outer one >>= (λ ys. tag_steps outer (tags_in others) >>= (λ more. steps.alone (ys ++ more)))) before
  counted_first outer one others before h = rw h (tag_first outer one.tag (tags_in others) before)

  part_first : (outer : Option Ident) (one : Part) (others : List Part) (before : Numbered) →
      tag_steps outer (tags_in (one ∷ others)) before ≡ (spec.part_gift around target home s outer one >>= (λ ys. tag_steps outer (tags_in others) >>= (λ more. steps.alone (ys ++ more)))) before
  part_first outer one others before = elim (cases_Bool one.blank) [ inl h ↦ blank_first outer one others before h | inr h ↦ counted_first outer one others before h ]

  then_same : {A : Type 0} (it : Judged (A × Numbered)) (f g : A → Steps (List Gives)) → ((x : A) (now : Numbered) → f x now ≡ g x now) → (it >>>= (λ one. f one.0 one.1)) ≡ (it >>>= (λ one. g one.0 one.1))
  then_same (fine one) f g same = same one.0 one.1
  then_same (breaks rule place) f g same = refl

  tags_law : (outer : Option Ident) (parts : List Part) (before : Numbered) → tag_steps outer (tags_in parts) before ≡ spec.tag_gifts around target home s outer parts before
  tags_law outer [] before = refl
  tags_law outer (one ∷ others) before =
      part_first outer one others before
      ∙ then_same (spec.part_gift around target home s outer one before) (λ ys. tag_steps outer (tags_in others) >>= (λ more. steps.alone (ys ++ more)))
      (λ ys. spec.tag_gifts around target home s outer others >>= (λ more. steps.alone (ys ++ more)))
      (λ ys now. ap (λ (it : Judged (List Gives × Numbered)). it >>>= (λ more. fine (ys ++ more.0, more.1))) (tags_law outer others now))

  inside_law : (number : ℕ) (place : Place) (outer : Option Ident) (parts : List Part) (before : Numbered) →
      step (page.gifts_inside around target home s (page.inside around parts) number place outer) before ≡ spec.gifts_inside around target home s number place outer parts before
  inside_law number place outer parts before =
      elim (cases_Bool (list_all (is_fragment_tag around) (counted parts))) [
        | inl h ↦
            rw h (each_law (page.fragment_gift around target home s outer) (λ one. step (page.fragment_gift around target home s outer one)) (λ one now. refl) (tags_in parts) before ∙ tags_law outer parts before)
        | inr h ↦ rw h (loose_law number place outer parts before)
      ]

  gifts_law : (number : ℕ) (place : Place) (attributes : List Attribute) (parts : List Part) (before : Numbered) →
      step (page.component_of around target home s number place attributes (page.inside around parts)) before
      ≡ (spec.all_gifts around target home s number place attributes parts >>= (λ gifts. steps.alone (act.component number target.made gifts ∷ []))) before
  gifts_law number place attributes parts before =
      then_by (page_tags.attribute_gifts home s target attributes)
      (λ first. page.gifts_inside around target home s (page.inside around parts) number place (context_in attributes) >>~ (λ more. resolved.alone (act.component number target.made (first ++ more) ∷ [])))
      (spec.attribute_gifts home s target attributes)
      (λ first. spec.gifts_inside around target home s number place (context_in attributes) parts >>= (λ more. steps.alone (act.component number target.made (first ++ more) ∷ [])))
      (attributes_law home s target attributes)
      (λ first now. then_made (page.gifts_inside around target home s (page.inside around parts) number place (context_in attributes)) (spec.gifts_inside around target home s number place (context_in attributes) parts)
      (λ more. act.component number target.made (first ++ more) ∷ []) (inside_law number place (context_in attributes) parts) now)
      before
      ∙ sym (made_through (spec.attribute_gifts home s target attributes) (λ first. spec.gifts_inside around target home s number place (context_in attributes) parts) (λ first more. first ++ more)
      (λ gifts. act.component number target.made gifts ∷ []) before)

pub component_law : (home : Home) (s : Scope) (number : ℕ) (place : Place) (name : Ident) (attributes : List Attribute) (parts : List Part) (before : Numbered) →
    step (page.component number place name attributes parts home s) before ≡ spec.component home s number place name attributes parts before
unfolding page.component
component_law home s number place name attributes parts before =
    then_by (resolved.judged (known UnknownComponent name.place (tagged home name.name)))
    (λ around. resolved.judged (known UnknownComponent name.place (target_of home.components s name.name attributes)) >>~ (λ target.
    page.component_of around target home s number place attributes (page.inside around parts)))
    (steps.judged (known UnknownComponent name.place (tagged home name.name)))
    (λ around. steps.judged (known UnknownComponent name.place (target_of home.components s name.name attributes)) >>= (λ target.
    spec.all_gifts around target home s number place attributes parts >>= (λ gifts. steps.alone (act.component number target.made gifts ∷ []))))
    (step_judged (known UnknownComponent name.place (tagged home name.name)))
    (λ around now. then_by (resolved.judged (known UnknownComponent name.place (target_of home.components s name.name attributes)))
    (λ target. page.component_of around target home s number place attributes (page.inside around parts))
    (steps.judged (known UnknownComponent name.place (target_of home.components s name.name attributes)))
    (λ target. spec.all_gifts around target home s number place attributes parts >>= (λ gifts. steps.alone (act.component number target.made gifts ∷ [])))
    (step_judged (known UnknownComponent name.place (target_of home.components s name.name attributes)))
    (λ target later. gifts_law around target home s number place attributes parts later)
    now)
    before

-- what each form of node gives as the tag of a fragment
module _ (around : Tagged) (target : Target) (home : Home) (s : Scope) (outer : Option Ident) (before : Numbered) where
  pub element_gift : (n : ℕ) (p : Place) (nm : Ident) (atts : List Attribute) (cs : List TNode) → spec.tag_gift around target home s outer (part_of (nd.Element n p nm atts cs)).tag before ≡ fine ([], before)
  element_gift n p nm atts cs = ap (λ (it : Part). spec.tag_gift around target home s outer it.tag before) (part_at (nd.Element n p nm atts cs) (TNode-F.Element n p nm atts cs) (nd.rolls-Element n p nm atts cs))

  pub child_gift : (n : ℕ) (p : Place) (nm : Ident) (atts : List Attribute) (cs : List TNode) → spec.tag_gift around target home s outer (part_of (nd.Child n p nm atts cs)).tag before ≡ spec.one_gift around target home s act.given_fragment nm.name n p (context_in atts) outer (map part_of cs) before
  child_gift n p nm atts cs = ap (λ (it : Part). spec.tag_gift around target home s outer it.tag before) (part_at (nd.Child n p nm atts cs) (TNode-F.Child n p nm atts cs) (nd.rolls-Child n p nm atts cs)) ∙ tag_law around target home s outer n nm.name p (context_in atts) (map part_of cs) before

  pub text_gift : (n : ℕ) (p : Place) (t : List ℕ) → spec.tag_gift around target home s outer (part_of (nd.Text n p t)).tag before ≡ fine ([], before)
  text_gift n p t = ap (λ (it : Part). spec.tag_gift around target home s outer it.tag before) (part_at (nd.Text n p t) (TNode-F.Text n p t) (nd.rolls-Text n p t))

  pub raw_gift : (n : ℕ) (p : Place) (t : List ℕ) → spec.tag_gift around target home s outer (part_of (nd.Raw n p t)).tag before ≡ fine ([], before)
  raw_gift n p t = ap (λ (it : Part). spec.tag_gift around target home s outer it.tag before) (part_at (nd.Raw n p t) (TNode-F.Raw n p t) (nd.rolls-Raw n p t))

  pub content_gift : (n : ℕ) (p : Place) (a : Expr) → spec.tag_gift around target home s outer (part_of (nd.Content n p a)).tag before ≡ fine ([], before)
  content_gift n p a = ap (λ (it : Part). spec.tag_gift around target home s outer it.tag before) (part_at (nd.Content n p a) (TNode-F.Content n p a) (nd.rolls-Content n p a))

  pub group_gift : (p : Place) (cs : List TNode) → spec.tag_gift around target home s outer (part_of (nd.Group p cs)).tag before ≡ fine ([], before)
  group_gift p cs = ap (λ (it : Part). spec.tag_gift around target home s outer it.tag before) (part_at (nd.Group p cs) (TNode-F.Group p cs) (nd.rolls-Group p cs))

  pub statement_gift : (st : Stmt) → spec.tag_gift around target home s outer (part_of (nd.Statement st)).tag before ≡ fine ([], before)
  statement_gift st = ap (λ (it : Part). spec.tag_gift around target home s outer it.tag before) (part_at (nd.Statement st) (TNode-F.Statement st) (nd.rolls-Statement st))

  pub block_gift : (p : Place) (cs : List TNode) → spec.tag_gift around target home s outer (part_of (nd.Block p cs)).tag before ≡ fine ([], before)
  block_gift p cs = ap (λ (it : Part). spec.tag_gift around target home s outer it.tag before) (part_at (nd.Block p cs) (TNode-F.Block p cs) (nd.rolls-Block p cs))

  pub if_gift : (p : Place) (a : Expr) (h : TNode) (o : Option TNode) → spec.tag_gift around target home s outer (part_of (nd.If p a h o)).tag before ≡ fine ([], before)
  if_gift p a h None = ap (λ (it : Part). spec.tag_gift around target home s outer it.tag before) (part_at (nd.If p a h None) (TNode-F.If p a h None) (nd.rolls-If p a h None))
  if_gift p a h (Some o) = ap (λ (it : Part). spec.tag_gift around target home s outer it.tag before) (part_at (nd.If p a h (Some o)) (TNode-F.If p a h (Some o)) (nd.rolls-If p a h (Some o)))

  pub switch_gift : (p : Place) (a : Expr) (ss : List TSection) → spec.tag_gift around target home s outer (part_of (nd.Switch p a ss)).tag before ≡ fine ([], before)
  switch_gift p a ss = ap (λ (it : Part). spec.tag_gift around target home s outer it.tag before) (part_at (nd.Switch p a ss) (TNode-F.Switch p a ss) (nd.rolls-Switch p a ss))

  pub for_gift : (n : ℕ) (p : Place) (s0 : Option Stmt) (a : Option Expr) (b : Option Expr) (h : TNode) → spec.tag_gift around target home s outer (part_of (nd.For n p s0 a b h)).tag before ≡ fine ([], before)
  for_gift n p s0 a b h = ap (λ (it : Part). spec.tag_gift around target home s outer it.tag before) (part_at (nd.For n p s0 a b h) (TNode-F.For n p s0 a b h) (nd.rolls-For n p s0 a b h))

  pub for_each_gift : (n : ℕ) (p : Place) (nm : Ident) (a : Expr) (h : TNode) → spec.tag_gift around target home s outer (part_of (nd.ForEach n p nm a h)).tag before ≡ fine ([], before)
  for_each_gift n p nm a h = ap (λ (it : Part). spec.tag_gift around target home s outer it.tag before) (part_at (nd.ForEach n p nm a h) (TNode-F.ForEach n p nm a h) (nd.rolls-ForEach n p nm a h))

  pub while_gift : (n : ℕ) (p : Place) (a : Expr) (h : TNode) → spec.tag_gift around target home s outer (part_of (nd.While n p a h)).tag before ≡ fine ([], before)
  while_gift n p a h = ap (λ (it : Part). spec.tag_gift around target home s outer it.tag before) (part_at (nd.While n p a h) (TNode-F.While n p a h) (nd.rolls-While n p a h))
