-- Tags whose parts fit the types of parameters supply values of these types.
use Rattle.std.proofs.Common.{◌≡◌, ℕ, List, [], ◌∷◌, ◌++◌, refl, sym, ap, subst, ◌∙◌}
use Rattle.std.specs.Prelude.{Bool, Some}
use Rattle.cs_ast.specs.declared.cs_type.CsType.{CsType}
use Rattle.cs_ast.specs.declared.cs_type.CsType.TheVariants as t
use Rattle.cs_ast.specs.declared.value.Value.{Value}
use Rattle.cs_ast.specs.declared.value.Value.TheVariants as v
use Rattle.cs_meaning.specs.Calls.{in_front, picked}
use Rattle.cs_typing.specs.Types.{Types}
use Rattle.cs_typing.specs.Values.{ValueHas, ValuesHave}
use Rattle.cs_typing.specs.Values as values
use Rattle.cs_typing.specs.Expressions.{Surroundings, LocalsAre}
use Rattle.cs_typing.specs.Expressions as locals_are
use Rattle.cs_typing.proofs.ValueLists.{value_in}
use Rattle.drawing_meaning.specs.declared.output.Gifts.{Gifts}
use Rattle.drawing_meaning.specs.Drawing.{Drawing, and_then, known}
use Rattle.drawing_meaning.specs.Stages.{Stage, code_value}
use Rattle.drawing_meaning.specs.Tags.{Gives, given_text, given_value, given_key, given_content, given_fragment, one_gift, all_given}
use Rattle.frame_core.specs.declared.item.ItemParameter.{ItemParameter}
use Rattle.page_typing.specs.Drawings.{DrawnFits, DrawingHas, ValueDrawn, StageHas}
use Rattle.page_typing.specs.Acts.{Captures, GivesHave}
use Rattle.page_typing.specs.Acts as acts
use Rattle.page_typing.proofs.Drawing.{then_drawn, paid, code_drawn}
use Rattle.program_typing.specs.Tags.{Parameters, GiveFits, GivesFit, ParametersHave, SuppliedSo}
use Rattle.program_typing.specs.Tags as tags

-- what fits has types
pub gives_have : (at : Surroundings) (locals : List CsType) (parameters : Parameters) (all : List Gives) → GivesFit at locals parameters all → GivesHave at locals all
gives_have at locals parameters all tags.none = acts.none
gives_have at locals parameters all (tags.more _ others (tags.text place said e) hs) = acts.more _ others (acts.text place said) (gives_have at locals parameters others hs)
gives_have at locals parameters all (tags.more _ others (tags.value place type code e h) hs) = acts.more _ others (acts.value place type code h) (gives_have at locals parameters others hs)
gives_have at locals parameters all (tags.more _ others (tags.key type code h) hs) = acts.more _ others (acts.key type code h) (gives_have at locals parameters others hs)
gives_have at locals parameters all (tags.more _ others (tags.content place number positions it e) hs) = acts.more _ others (acts.content place number positions it) (gives_have at locals parameters others hs)
gives_have at locals parameters all (tags.more _ others (tags.fragment place number positions it e) hs) = acts.more _ others (acts.fragment place number positions it) (gives_have at locals parameters others hs)

both_have : (types : Types) (parameters : Parameters) (xs ys : List ItemParameter) → ParametersHave types parameters xs → ParametersHave types parameters ys → ParametersHave types parameters (xs ++ ys)
both_have types parameters [] ys h g = g
both_have types parameters (x ∷ xs) ys h g = (h.0, both_have types parameters xs ys h.1 g)

module _ (at : Surroundings) (components : Bool) (stage : Stage) (stands : StageHas at components stage) (locals : List CsType) (parameters : Parameters) where
  abbrev Supplied : Gifts → Drawing → Type 0
  Supplied it d = SuppliedSo at.types locals parameters it d

  -- the locals that are captured
  captured_have : (ts : List CsType) (numbers : List ℕ) (xs : List Value) → LocalsAre locals ts numbers → ValuesHave at.types locals xs → (captures : List Value) × (picked xs numbers ≡ Some captures) × ValuesHave at.types ts captures
  unfolding picked
  captured_have ts numbers xs locals_are.none hs = ([], refl, values.none)
  captured_have ts numbers xs (locals_are.more type others number rest e es) hs =
      let x = value_in at.types locals xs number type hs e in
      let k = captured_have others rest xs es hs in
      (x.0 ∷ k.0, ap (λ o. in_front o (picked xs rest)) x.1 ∙ ap (in_front (Some x.0)) k.1, values.more type others x.0 k.0 x.2 k.2)

  -- a fragment of the present instance
  content_supplied : (place number : ℕ) (positions : List ℕ) (key : Value) (d : Drawing) (it : Captures at locals number positions) → parameters place ≡ Some (t.Fragment it.argument) → DrawingHas at.types locals d → DrawnFits Supplied (given_content place number positions stage key d)
  unfolding given_content
  content_supplied place number positions key d it e h =
      let k = captured_have it.captured positions d.state.locals it.positions_are h.0 in
      let is : ValueHas at.types (t.Fragment it.argument) (v.Fragment stage.around.who number k.0) =
      values.fragment it.argument it.captured it.template stage.around.who number k.0 it.numbered (stands.around.there ∙ ap (λ z. Some z) (sym it.own)) it.locals_are k.2 in
      subst (λ o. DrawnFits Supplied (and_then (known o d) (λ captures. one_gift place (v.Fragment stage.around.who number captures) key))) (sym k.1)
      ((record { type = t.Fragment it.argument; declared = e; has = is }, tt), h)

  give_supplied : (one : Gives) (key : Value) (d : Drawing) → GiveFits at locals parameters one → DrawingHas at.types locals d → DrawnFits Supplied (one stage key d)
  unfolding given_text given_value given_key given_fragment
  give_supplied one key d (tags.text place said e) h = paid at.types locals Supplied _ d h (λ d1 k. ((record { type = t.Text; declared = e; has = values.text said }, tt), k))
  give_supplied one key d (tags.value place type code e ha) h =
      paid at.types locals Supplied _ d h (λ d1 k. then_drawn (ValueDrawn at.types locals type) Supplied (code_value code stage d1) _ (code_drawn at locals type code stage d1 stands.around ha k)
      (λ x d2 m. ((record { type = type; declared = e; has = m.0 }, tt), m.1)))
  give_supplied one key d (tags.key type code ha) h = then_drawn (ValueDrawn at.types locals type) Supplied (code_value code stage d) _ (code_drawn at locals type code stage d stands.around ha h) (λ x d1 k. (tt, k.1))
  give_supplied one key d (tags.content place number positions it e) h = content_supplied place number positions key d it e h
  give_supplied one key d (tags.fragment place number positions it e) h = paid at.types locals Supplied _ d h (λ d1 k. content_supplied place number positions key d1 it e k)

  pub gives_supplied : (all : List Gives) (key : Value) (d : Drawing) → GivesFit at locals parameters all → DrawingHas at.types locals d → DrawnFits Supplied (all_given all stage key d)
  unfolding all_given
  gives_supplied all key d tags.none h = (tt, h)
  gives_supplied all key d (tags.more one others ho hs) h =
      then_drawn Supplied Supplied (one stage key d) _ (give_supplied one key d ho h)
      (λ first d1 k. then_drawn Supplied Supplied (all_given others stage first.key d1) _ (gives_supplied others first.key d1 hs k.1)
      (λ rest d2 m. (both_have at.types parameters first.supplied rest.supplied k.0 m.0, m.1)))
