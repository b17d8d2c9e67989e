-- Attributes, and what tags of components give, keep to the types.
use Rattle.std.proofs.Common.{◌≡◌, ℕ, ◌+◌, List, [], ◌∷◌, ◌++◌, refl, sym, ap, subst, ◌∙◌, inl, inr}
use Rattle.std.specs.Prelude.{Bool, true, false, if◌then◌else◌, Option, Some, None}
use Rattle.cs_ast.specs.Texts.{text_of}
use Rattle.cs_ast.specs.declared.code.Code.{Code}
use Rattle.cs_ast.specs.declared.cs_type.CsType.{CsType}
use Rattle.cs_ast.specs.declared.cs_type.CsType.TheVariants as t
use Rattle.cs_ast.specs.declared.value.Value.{Value}
use Rattle.cs_ast.specs.declared.value.Value.TheVariants as v
use Rattle.cs_meaning.specs.Calls.{in_front, picked}
use Rattle.cs_meaning.specs.Kinds.{truth_of, is_null, callback_in}
use Rattle.cs_typing.specs.Types.{Types}
use Rattle.cs_typing.specs.Values.{Accepts, ValueHas, ValuesHave}
use Rattle.cs_typing.specs.Values as values
use Rattle.cs_typing.specs.Operators.{Shows}
use Rattle.cs_typing.specs.Expressions.{Surroundings, CodeHas, LocalsAre}
use Rattle.cs_typing.specs.Expressions as locals_are
use Rattle.cs_typing.proofs.OperatorLemmas as operators
use Rattle.cs_typing.proofs.ValueKinds.{is_callback}
use Rattle.cs_typing.proofs.ValueLists.{value_in}
use Rattle.drawing_meaning.specs.Attributes.{with_text, with_handler, handler_of, empty, whole, mixed, event, own_handler, Dresses, wears, all_worn}
use Rattle.drawing_meaning.specs.declared.output.Dress.{Dress}
use Rattle.drawing_meaning.specs.Drawing.{Drawing, gives, Draws, and_then, begun, bytes_of, known}
use Rattle.drawing_meaning.specs.Stages.{Stage, code_value}
use Rattle.drawing_meaning.specs.Tags.{Gives, given_text, given_value, given_key, given_content, given_fragment, one_gift, all_given}
use Rattle.drawing_meaning.specs.Texts.{Says, shown, some_shown, text_by_truth, attribute_text, all_said, shown_code}
use Rattle.frame_core.specs.declared.item_attribute.ItemAttribute.{ItemAttribute}
use Rattle.page_typing.specs.Drawings.{DrawnFits, DrawingHas, HandlersHave, event_argument, ValueDrawn, StageHas}
use Rattle.page_typing.specs.Acts.{SaysHave, DressHas, DressesHave, Captures, GiveHas, GivesHave}
use Rattle.page_typing.specs.Acts as acts
use Rattle.page_typing.proofs.Drawing.{then_drawn, weaker_drawn, paid, begun_drawn, known_drawn, shown_drawn, code_drawn}

module _ (types : Types) (locals : List CsType) where
  some_shown_drawn : (x : Value) (said : List ℕ) (d : Drawing) → text_of x ≡ Some said → DrawingHas types locals d → DrawnFits (λ y d1. DrawingHas types locals d1) (some_shown x d)
  some_shown_drawn x said d e h = then_drawn (λ y d1. DrawingHas types locals d1) (λ y d1. DrawingHas types locals d1) (shown x d) (λ text d1. gives (Some text) d1) (shown_drawn types locals x said d e h) (λ y d1 k. k)

  by_truth : (truth : Option Bool) (x : Value) (said : List ℕ) (d : Drawing) → text_of x ≡ Some said → DrawingHas types locals d → DrawnFits (λ y d1. DrawingHas types locals d1) (text_by_truth truth x d)
  by_truth (Some b) x said d e h = h
  by_truth None x said d e h = by (is_null x)
    where
      by : (b : Bool) → DrawnFits (λ y d1. DrawingHas types locals d1) ((if b then (λ d1. gives None d1) else some_shown x) d)
      by true = h
      by false = some_shown_drawn x said d e h

  -- the text of an attribute
  attribute_drawn : (type : CsType) (x : Value) (d : Drawing) → Shows type → ValueHas types type x → DrawingHas types locals d → DrawnFits (λ y d1. DrawingHas types locals d1) (attribute_text x d)
  attribute_drawn type x d s hx h = let k = operators.shown types locals type x s hx in by_truth (truth_of x) x k.0 d k.1 h

  -- attributes and handlers, over such locals
  abbrev pub Made : List ItemAttribute → Drawing → Type 0
  Made made d = HandlersHave types made × DrawingHas types locals d

  text_drawn : (number : ℕ) (name : List ℕ) (said : Option (List ℕ)) (d : Drawing) → DrawingHas types locals d → DrawnFits Made (with_text number name said d)
  text_drawn number name None d h = (tt, h)
  text_drawn number name (Some said) d h = then_drawn (λ y d1. DrawingHas types locals d1) Made (begun (bytes_of name + bytes_of said) d) _ (begun_drawn types locals (bytes_of name + bytes_of said) d h) (λ y d1 k. ((tt, tt), k))

  handler_drawn : (number : ℕ) (name : List ℕ) (it : ℕ × ℕ × List Value) (d : Drawing) → ValueHas types (t.Callback (Some (event_argument name))) (v.Callback it.0 it.1 it.2) → DrawingHas types locals d → DrawnFits Made (with_handler number name it d)
  handler_drawn number name it d typed h = then_drawn (λ y d1. DrawingHas types locals d1) Made (begun (bytes_of name) d) _ (begun_drawn types locals (bytes_of name) d h) (λ y d1 k. ((typed, tt), k))

  -- a callback as a handler
  callback_drawn : (number : ℕ) (name : List ℕ) (x : Value) (d : Drawing) → ValueHas types (t.Callback (Some (event_argument name))) x → DrawingHas types locals d → DrawnFits Made (handler_of number name x d)
  callback_drawn number name x d hx h =
      elim (is_callback types (t.Callback (Some (event_argument name))) (Some (event_argument name)) x hx refl) [
        | inl e ↦ subst (λ z. DrawnFits Made (handler_of number name z d)) (sym e) (tt, h)
        | inr r ↦ subst (λ z. DrawnFits Made (handler_of number name z d)) (sym r.is)
            (subst (λ z. DrawnFits Made (and_then (known (callback_in z) d) (with_handler number name))) (sym (v.outs-Callback r.who r.place r.captures)) (handler_drawn number name (r.who, r.place, r.captures) d (subst (λ z. ValueHas types (t.Callback (Some (event_argument name))) z) r.is hx) h))
      ]

handlers_append : (types : Types) (xs ys : List ItemAttribute) → HandlersHave types xs → HandlersHave types ys → HandlersHave types (xs ++ ys)
handlers_append types [] ys h g = g
handlers_append types (x ∷ xs) ys h g = (h.0, handlers_append types xs ys h.1 g)

module _ (at : Surroundings) (components : Bool) (locals : List CsType) (stage : Stage) (has : StageHas at components stage) where
  abbrev there : Drawing → Type 0
  there d = DrawingHas at.types locals d

  value_drawn : (type : CsType) (a : Code) (d : Drawing) → CodeHas at locals type a → there d → DrawnFits (ValueDrawn at.types locals type) (code_value a stage d)
  value_drawn type a d h hd = code_drawn at locals type a stage d has.around h hd

  said_drawn : (parts : List Says) (d : Drawing) → SaysHave at locals parts → there d → DrawnFits (λ y d1. there d1) (all_said parts stage d)
  unfolding all_said
  said_drawn parts d acts.none h = h
  said_drawn parts d (acts.literal_text said others hs) h = then_drawn (λ y d1. there d1) (λ y d1. there d1) (all_said others stage d) _ (said_drawn others d hs h) (λ y d1 k. k)
  said_drawn parts d (acts.shown type a others s ha hs) h =
      then_drawn (λ y d1. there d1) (λ y d1. there d1) (shown_code a stage d) _
      (then_drawn (ValueDrawn at.types locals type) (λ y d1. there d1) (code_value a stage d) (λ x. known (text_of x)) (value_drawn type a d ha h)
      (λ x d1 k. let said = operators.shown at.types locals type x s k.0 in weaker_drawn (λ y d2. Unit {0} × there d2) (λ y d2. there d2) (known (text_of x) d1) (λ y d2 m. m.1) (known_drawn at.types locals (λ y. Unit {0}) (text_of x) said.0 d1 said.1 tt k.1)))
      (λ y d1 k. then_drawn (λ z d2. there d2) (λ z d2. there d2) (all_said others stage d1) _ (said_drawn others d1 hs k) (λ z d2 m. m))

  abbrev Attributes : List ItemAttribute → Drawing → Type 0
  Attributes made d = Made at.types locals made d

  abbrev Worn : Dress → Drawing → Type 0
  Worn it d = HandlersHave at.types it.worn × there d

  -- behind attributes the locals are as they were
  wears_drawn : (makes : Stage → Draws (List ItemAttribute)) (key : Value) (d : Drawing) → DrawnFits Attributes (makes stage d) → DrawnFits Worn (wears makes stage key d)
  wears_drawn makes key d h = then_drawn Attributes Worn (makes stage d) _ h (λ y d1 k. k)

  dress_drawn : (one : Dresses) (key : Value) (d : Drawing) → DressHas at locals one → there d → DrawnFits Worn (one stage key d)
  unfolding empty whole mixed event own_handler
  dress_drawn one key d (acts.empty number name) h = wears_drawn (empty number name) key d (paid at.types locals Attributes (λ u. with_text number name (Some [])) d h (λ d1 k. text_drawn at.types locals number name (Some []) d1 k))
  dress_drawn one key d (acts.whole number name type a s ha) h =
      wears_drawn (whole number name a) key d
      (paid at.types locals Attributes _ d h
      (λ d1 k. then_drawn (ValueDrawn at.types locals type) Attributes (code_value a stage d1) _ (value_drawn type a d1 ha k)
      (λ x d2 m. then_drawn (λ y d3. there d3) Attributes (attribute_text x d2) (λ said. with_text number name said) (attribute_drawn at.types locals type x d2 s m.0 m.1) (λ said d3 n. text_drawn at.types locals number name said d3 n))))
  dress_drawn one key d (acts.mixed number name parts hs) h =
      wears_drawn (mixed number name parts) key d
      (paid at.types locals Attributes _ d h
      (λ d1 k. then_drawn (λ y d2. there d2) Attributes (all_said parts stage d1) _ (said_drawn parts d1 hs k)
      (λ said d2 m. then_drawn (λ y d3. there d3) Attributes (some_shown (v.Text said) d2) (λ text. with_text number name text) (some_shown_drawn at.types locals (v.Text said) said d2 refl m) (λ text d3 n. text_drawn at.types locals number name text d3 n))))
  dress_drawn one key d (acts.event number name a ha) h =
      wears_drawn (event number name a) key d
      (paid at.types locals Attributes _ d h
      (λ d1 k. then_drawn (ValueDrawn at.types locals (t.Callback (Some (event_argument name)))) Attributes (code_value a stage d1) (handler_of number name) (value_drawn (t.Callback (Some (event_argument name))) a d1 ha k)
      (λ x d2 m. callback_drawn at.types locals number name x d2 m.0 m.1)))
  dress_drawn one key d (acts.own_handler number name place body e o l change) h =
      let typed : ValueHas at.types (t.Callback (Some (event_argument name))) (v.Callback stage.around.who place []) = values.callback (Some (event_argument name)) t.Change [] body stage.around.who place [] e (has.around.there ∙ ap (λ z. Some z) (sym o)) l (subst (λ z. Accepts (Some z) t.Change) (sym change) (values.argument t.Change)) values.none in
      wears_drawn (own_handler number name place) key d (paid at.types locals Attributes _ d h (λ d1 k. handler_drawn at.types locals number name (stage.around.who, place, []) d1 typed k))
  dress_drawn one key d (acts.key type a ha) h = then_drawn (ValueDrawn at.types locals type) Worn (code_value a stage d) _ (value_drawn type a d ha h) (λ x d1 k. (tt, k.1))

  pub dresses_drawn : (all : List Dresses) (key : Value) (d : Drawing) → DressesHave at locals all → there d → DrawnFits Worn (all_worn all stage key d)
  unfolding all_worn
  dresses_drawn all key d acts.none h = (tt, h)
  dresses_drawn all key d (acts.more one others ho hs) h =
      then_drawn Worn Worn (one stage key d) _ (dress_drawn one key d ho h)
      (λ first d1 k. then_drawn Worn Worn (all_worn others stage first.key d1) _ (dresses_drawn others first.key d1 hs k.1) (λ y d2 m. (handlers_append at.types first.worn y.worn k.0 m.0, m.1)))

  -- the locals that are captured
  captured_have : (ts : List CsType) (numbers : List ℕ) (xs : List Value) → LocalsAre locals ts numbers → ValuesHave at.types locals xs → (captures : List Value) × (picked xs numbers ≡ Some captures) × ValuesHave at.types ts captures
  unfolding picked
  captured_have ts numbers xs locals_are.none hs = ([], refl, values.none)
  captured_have ts numbers xs (locals_are.more type others number rest e es) hs =
      let x = value_in at.types locals xs number type hs e in
      let k = captured_have others rest xs es hs in
      (x.0 ∷ k.0, ap (λ o. in_front o (picked xs rest)) x.1 ∙ ap (in_front (Some x.0)) k.1, values.more type others x.0 k.0 x.2 k.2)

  -- a fragment over the locals at these positions
  content_drawn : (place number : ℕ) (positions : List ℕ) (key : Value) (d : Drawing) → Captures at locals number positions → there d → DrawnFits (λ y d1. there d1) (given_content place number positions stage key d)
  unfolding given_content
  content_drawn place number positions key d c h =
      let k = captured_have c.captured positions d.state.locals c.positions_are h.0 in
      subst (λ o. DrawnFits (λ y d1. there d1) (and_then (known o d) (λ captures. one_gift place (v.Fragment stage.around.who number captures) key))) (sym k.1) h

  give_drawn : (one : Gives) (key : Value) (d : Drawing) → GiveHas at locals one → there d → DrawnFits (λ y d1. there d1) (one stage key d)
  unfolding given_text given_value given_key given_fragment
  give_drawn one key d (acts.text place said) h = paid at.types locals (λ y d1. there d1) _ d h (λ d1 k. k)
  give_drawn one key d (acts.value place type a ha) h =
      paid at.types locals (λ y d1. there d1) _ d h (λ d1 k. then_drawn (ValueDrawn at.types locals type) (λ y d2. there d2) (code_value a stage d1) _ (value_drawn type a d1 ha k) (λ x d2 m. m.1))
  give_drawn one key d (acts.key type a ha) h = then_drawn (ValueDrawn at.types locals type) (λ y d1. there d1) (code_value a stage d) _ (value_drawn type a d ha h) (λ x d1 k. k.1)
  give_drawn one key d (acts.content place number positions c) h = content_drawn place number positions key d c h
  give_drawn one key d (acts.fragment place number positions c) h = paid at.types locals (λ y d1. there d1) _ d h (λ d1 k. content_drawn place number positions key d1 c k)

  pub gives_drawn : (all : List Gives) (key : Value) (d : Drawing) → GivesHave at locals all → there d → DrawnFits (λ y d1. there d1) (all_given all stage key d)
  unfolding all_given
  gives_drawn all key d acts.none h = h
  gives_drawn all key d (acts.more one others ho hs) h =
      then_drawn (λ y d1. there d1) (λ y d1. there d1) (one stage key d) _ (give_drawn one key d ho h)
      (λ first d1 k. then_drawn (λ y d2. there d2) (λ y d2. there d2) (all_given others stage first.key d1) _ (gives_drawn others first.key d1 hs k) (λ y d2 m. m))
