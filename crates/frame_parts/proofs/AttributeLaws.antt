-- What the attributes of elements come to.
use Rattle.std.proofs.Common.{◌≡◌, ℕ, ◌+◌, List, [], ◌∷◌, refl, ap, ◌∙◌}
use Rattle.std.specs.Prelude.{drop, Some}
use Rattle.cs_ast.specs.declared.code.Code.TheVariants as c
use Rattle.cs_ast.specs.declared.cs_type.CsType.{CsType}
use Rattle.cs_ast.specs.declared.cs_type.CsType.TheVariants as t
use Rattle.cs_ast.specs.declared.expression.Expr.{Expr}
use Rattle.cs_ast.specs.declared.identifier.Ident.{Ident}
use Rattle.cs_ast.specs.declared.scope.Scope.{Scope}
use Rattle.cs_rules.specs.Judged as judging
use Rattle.drawing_meaning.specs.Attributes as act
use Rattle.drawing_meaning.specs.Attributes.{Dresses, wears, keyed_by}
use Rattle.drawing_meaning.specs.Texts.{literal, shown_code}
use Rattle.razor_ast.specs.declared.attribute.Attribute.{Attribute}
use Rattle.razor_ast.specs.declared.attribute.AttributeKind.{AttributeKind}
use Rattle.razor_ast.specs.declared.attribute.AttributeKind.TheVariants as ak
use Rattle.razor_ast.specs.declared.attribute.ValuePart.{ValuePart}
use Rattle.razor_ast.specs.declared.attribute.ValuePart.TheVariants as part
use Rattle.razor_rules.specs.Elements.{event_type}
use Rattle.razor_rules.specs.Scopes.{Home}
use Rattle.page_meaning.specs.Attributes as page
use Rattle.page_meaning.specs.Attributes.{bind_kind}
use Rattle.page_meaning.specs.Callbacks.{callback}
use Rattle.page_meaning.specs.Placed.{body, signature}
use Rattle.page_meaning.specs.Resolved as resolved
use Rattle.page_meaning.specs.Resolved.{place_at}
use Rattle.page_meaning.specs.Resolved.{◌>>=◌ as ◌>>~◌}
use Rattle.frame_parts.specs.Attributes as spec
use Rattle.frame_parts.specs.Steps as steps
use Rattle.frame_parts.specs.Steps.{Numbered, step, code_in, ◌>>=◌}
use Rattle.frame_parts.proofs.StepLaws.{each_judged, each_of_law, judged_through, step_alone, step_body, step_judged, then_by, then_made, value_law, value_made}

module _ (home : Home) (s : Scope) (element : List ℕ) (attributes : List Attribute) where
  said_law : (one : ValuePart) (before : Numbered) → step (page.said_by home s element attributes one) before ≡ steps.judged (spec.said_by s one) before
  said_law (part.Literal said) before = step_alone (literal said) before
  said_law (part.Shown a) before = value_made s a shown_code before

  joined_law : (number : ℕ) (name : List ℕ) (parts : List ValuePart) (before : Numbered) →
      step (resolved.each (page.said_by home s element attributes) parts >>~ (λ said. resolved.alone (wears (act.mixed number name said) ∷ []))) before
      ≡ (steps.judged (spec.joined s number name parts) >>= (λ worn. steps.alone (worn ∷ []))) before
  joined_law number name parts before =
      then_made (resolved.each (page.said_by home s element attributes) parts) (steps.judged (judging.each (spec.said_by s) parts)) (λ said. wears (act.mixed number name said) ∷ [])
      (each_judged (page.said_by home s element attributes) (spec.said_by s) said_law parts) before
      ∙ judged_through (judging.each (spec.said_by s) parts) (λ said. wears (act.mixed number name said)) (λ (worn : Dresses). worn ∷ []) before

  mixed_law : (number : ℕ) (name : List ℕ) (parts : List ValuePart) (before : Numbered) →
      step (page.mixed home s element attributes number name parts) before ≡ (steps.judged (spec.mixed s number name parts) >>= (λ worn. steps.alone (worn ∷ []))) before
  unfolding page.mixed
  mixed_law number name [] before = step_alone (wears (act.empty number name) ∷ []) before
  mixed_law number name (part.Literal said ∷ []) before = joined_law number name (part.Literal said ∷ []) before
  mixed_law number name (part.Shown a ∷ []) before =
      then_made (resolved.value_code s a) (steps.judged (code_in s a)) (λ code. wears (act.whole number name code) ∷ []) (value_law s a) before
      ∙ judged_through (code_in s a) (λ code. wears (act.whole number name code)) (λ (worn : Dresses). worn ∷ []) before
  mixed_law number name (part.Literal said ∷ other ∷ others) before = joined_law number name (part.Literal said ∷ other ∷ others) before
  mixed_law number name (part.Shown a ∷ other ∷ others) before = joined_law number name (part.Shown a ∷ other ∷ others) before

  key_law : (a : Expr) (before : Numbered) → step (page.key home s element attributes a) before ≡ (steps.judged (spec.key s a) >>= (λ worn. steps.alone (worn ∷ []))) before
  unfolding page.key
  key_law a before =
      then_made (resolved.value_code s a) (steps.judged (code_in s a)) (λ code. keyed_by code ∷ []) (value_law s a) before
      ∙ judged_through (code_in s a) keyed_by (λ (worn : Dresses). worn ∷ []) before

  event_law : (number : ℕ) (name : List ℕ) (a : Expr) (before : Numbered) → step (page.event home s element attributes number name a) before ≡ spec.event home s number name a before
  unfolding page.event
  event_law number name a before =
      then_made (callback home s number a (Some (event_type name))) (step (callback home s number a (Some (event_type name)))) (λ code. wears (act.event number (drop 1 name) code) ∷ []) (λ now. refl) before

  bound_law : (number : ℕ) (name : Ident) (before : Numbered) → step (page.bound home s element attributes number name) before ≡ spec.bound home element attributes number name before
  unfolding page.bound
  bound_law number name before =
      then_by (resolved.judged (spec.bound_field home name)) (λ field. page.bound_to home s element attributes number field) (steps.judged (spec.bound_field home name))
      (λ field. steps.put_body (place_at home (number + 1)) (c.Bind field.0 (bind_kind field.1)) >>= (λ placed. steps.alone (spec.bound_parts home element attributes number field)))
      (step_judged (spec.bound_field home name))
      (λ field now. then_made (resolved.put (place_at home (number + 1)) (body (signature home (t.Change ∷ []) t.Nothing) (c.Bind field.0 (bind_kind field.1))))
      (steps.put_body (place_at home (number + 1)) (c.Bind field.0 (bind_kind field.1))) (λ placed. spec.bound_parts home element attributes number field)
      (step_body (place_at home (number + 1)) (signature home (t.Change ∷ []) t.Nothing) (c.Bind field.0 (bind_kind field.1))) now)
      before

  attribute_law : (kind : AttributeKind) (name : List ℕ) (before : Numbered) → step (page.attribute home s element attributes kind name) before ≡ spec.attribute home s element attributes kind name before
  attribute_law (ak.Mixed number parts) name before = mixed_law number name parts before
  attribute_law (ak.Key a) name before = key_law a before
  attribute_law (ak.Event number a) name before = event_law number name a before
  attribute_law (ak.Bind number field) name before = bound_law number field before
  attribute_law ak.BindEvent name before = step_alone [] before
  attribute_law (ak.Parameter number given) name before = step_alone [] before
  attribute_law (ak.Context number said) name before = step_alone [] before

  pub dressed_law : (before : Numbered) → step (page.dressed home s element attributes) before ≡ spec.dressed home s element attributes attributes before
  dressed_law before =
      each_of_law (λ one. page.attribute home s element attributes one.kind one.name) (λ one. spec.attribute home s element attributes one.kind one.name) (λ one now. attribute_law one.kind one.name now)
      attributes before
