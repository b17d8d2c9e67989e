-- Calls, callbacks and fragments keep to the types.
use Rattle.std.proofs.Common.{◌≡◌, ℕ, List, [], ◌∷◌, ◌++◌, refl, sym, ap, subst, ◌∙◌, inl, inr}
use Rattle.std.proofs.lemmas.List.{append-nil}
use Rattle.std.specs.Prelude.{Option, Some, None}
use Rattle.cs_ast.specs.declared.cs_type.CsType.{CsType}
use Rattle.cs_ast.specs.declared.cs_type.CsType.TheVariants as t
use Rattle.cs_ast.specs.declared.value.Value.{Value}
use Rattle.cs_ast.specs.declared.value.Value.TheVariants as v
use Rattle.cs_meaning.specs.State.{State, with_receiver}
use Rattle.cs_meaning.specs.Outcome.{gives, Meaning, and_then, found}
use Rattle.cs_meaning.specs.Scopes.{nothing, all_of}
use Rattle.cs_meaning.specs.Calls.{Running, filled, called, in_front, picked, callback, invoked, with_capture}
use Rattle.cs_meaning.specs.Expressions.{two_operands}
use Rattle.cs_typing.specs.Types.{Signature, Types}
use Rattle.cs_typing.specs.Values.{Accepts, awaited, ValueHas, ValuesHave}
use Rattle.cs_typing.specs.Values as has
use Rattle.cs_typing.specs.Expressions.{arguments_or_one, LocalsAre}
use Rattle.cs_typing.specs.Expressions as code
use Rattle.cs_typing.specs.States.{AreThere, Keeps, StateHas}
use Rattle.cs_typing.specs.States as states
use Rattle.cs_typing.specs.Outcomes.{Fits, no_jump, Typed, Gives}
use Rattle.cs_typing.proofs.ValueKinds.{is_callback}
use Rattle.cs_typing.proofs.ValueLists.{one_more, value_in}
use Rattle.cs_typing.proofs.Fitting.{Within, then_fits, weaker_fits}
use Rattle.cs_typing.proofs.Reading.{two_fit, callback_used, fragment_used}
use Rattle.cs_typing.proofs.ListLemmas.{AllGive, AllTyped, all_fit}

-- a value of this type, with what outlives a body, and the locals as they were
abbrev pub Returned : Types → CsType → List Value → Value → State → Type 0
Returned types type locals x s = ValueHas types type x × Keeps types s × (s.locals ≡ locals)

-- calls keep to the signatures of bodies, from any state
abbrev pub RunsWell : Types → Running → Type 0
RunsWell types run =
    (who number : ℕ) (body : Signature) (locals : List Value) (s : State) → types.bodies number ≡ Some body → types.instances who ≡ Some body.component →
    ValuesHave types body.locals locals → Keeps types s → Fits (no_jump types) (Returned types body.result s.locals) (run who number locals s)

-- the exits of an expression are those of an expression
pub same_exits : (types : Types) → Within (no_jump types) (no_jump types)
same_exits types = record { breaks_too = λ s h. h; continues_too = λ s h. h; returns_too = λ x s h. h; faults_too = λ s h. h }

-- one receiver more
one_more_there : (types : Types) (receivers : List ℕ) (who component : ℕ) → AreThere types receivers → types.instances who ≡ Some component → AreThere types (receivers ++ who ∷ [])
one_more_there types receivers who component states.none e = states.more who component [] e states.none
one_more_there types receivers who component (states.more one its others h hs) e = states.more one its (others ++ who ∷ []) h (one_more_there types others who component hs e)

-- a callback without argument stands for one with an argument
wider_accepts : (type last : CsType) (argument : Option CsType) → Accepts argument last → argument ≡ None → Accepts (Some type) last
wider_accepts type last argument (has.argument _) e = absurd (cc)
wider_accepts type last argument (has.unnamed _) e = has.unnamed (Some type)

module _ (types : Types) (locals : List CsType) where
  -- the locals of a body
  filled_have : (ts : List CsType) (xs : List Value) → ValuesHave types ts xs → ValuesHave types (arguments_or_one ts) (filled xs)
  filled_have ts xs has.none = has.more t.Nothing [] v.Null [] (has.anything v.Null) has.none
  filled_have ts xs (has.more type others x rest h hs) = has.more type others x rest h hs

  pub call_gives : (run : Running) (who number : ℕ) (body : Signature) (takes : List CsType) (arguments : List Meaning)
      → RunsWell types run → types.bodies number ≡ Some body → types.instances who ≡ Some body.component → body.locals ≡ arguments_or_one takes → AllGive types locals takes arguments → Gives types locals body.result (called run who number arguments)
  call_gives run who number body takes arguments well numbered there are h s hs =
      then_fits (no_jump types) (AllTyped types locals takes) (Typed types locals body.result) (all_of arguments s) (λ xs s1. run who number (filled xs) s1) (all_fit types locals takes arguments s h hs)
      (λ xs s1 k. returned xs s1 k.1 (well who number body (filled xs) s1 numbered there (subst (λ ts. ValuesHave types ts (filled xs)) (sym are) (filled_have takes xs k.0)) k.1.1))
    where
      returned : (xs : List Value) (s1 : State) → StateHas types locals s1 → Fits (no_jump types) (Returned types body.result s1.locals) (run who number (filled xs) s1) → Fits (no_jump types) (Typed types locals body.result) (run who number (filled xs) s1)
      returned xs s1 hs1 f =
          weaker_fits (no_jump types) (no_jump types) (Returned types body.result s1.locals) (Typed types locals body.result) (run who number (filled xs) s1) (same_exits types)
          (λ x s2 l. (l.0, (subst (λ ys. ValuesHave types locals ys) (sym l.2) hs1.0, l.1))) f

  -- the locals that are captured
  captured_have : (ts : List CsType) (numbers : List ℕ) (xs : List Value) → LocalsAre locals ts numbers → ValuesHave types locals xs → (captures : List Value) × (picked xs numbers ≡ Some captures) × ValuesHave types ts captures
  unfolding picked
  captured_have ts numbers xs code.none hs = ([], refl, has.none)
  captured_have ts numbers xs (code.more type others number rest e es) hs =
      let x = value_in types locals xs number type hs e in
      let k = captured_have others rest xs es hs in
      (x.0 ∷ k.0, ap (λ o. in_front o (picked xs rest)) x.1 ∙ ap (in_front (Some x.0)) k.1, has.more type others x.0 k.0 x.2 k.2)

  pub callback_gives : (who number : ℕ) (body : Signature) (argument : Option CsType) (last : CsType) (captured : List CsType) (captures : List ℕ)
      → types.bodies number ≡ Some body → types.instances who ≡ Some body.component → body.locals ≡ captured ++ last ∷ [] → Accepts argument last → LocalsAre locals captured captures → Gives types locals (t.Callback argument) (callback who number captures)
  callback_gives who number body argument last captured captures numbered there are accepts picks s hs =
      let k = captured_have captured captures s.locals picks hs.0 in
      subst (λ o. Fits (no_jump types) (Typed types locals (t.Callback argument)) (and_then (found o s) (λ xs s1. gives (v.Callback who number xs) s1))) (sym k.1)
      (has.callback argument last captured body who number k.0 numbered there are accepts k.2, hs)

  -- a callback without argument where one with an argument is wanted
  wider : (type : CsType) (x : Value) → ValueHas types (t.Callback None) x → ValueHas types (t.Callback (Some type)) x
  wider type x h =
      elim (is_callback types (t.Callback None) None x h refl) [
        | inl e ↦ subst (λ z. ValueHas types (t.Callback (Some type)) z) (sym e) (has.null (t.Callback (Some type)) (has.callback (Some type)))
        | inr it ↦ subst (λ z. ValueHas types (t.Callback (Some type)) z) (sym it.is) (has.callback (Some type) it.last it.captured it.body it.who it.place it.captures it.numbered it.there it.locals_are (wider_accepts type it.last None it.accepts refl) it.have)
      ]

  pub wider_gives : (type : CsType) (a : Meaning) → Gives types locals (t.Callback None) a → Gives types locals (t.Callback (Some type)) a
  wider_gives type a h s hs =
      weaker_fits (no_jump types) (no_jump types) (Typed types locals (t.Callback None)) (Typed types locals (t.Callback (Some type))) (a s) (same_exits types) (λ x s1 k. (wider type x k.0, k.1)) (h s hs)

  -- what the last local of a callback's body takes
  accepted : (argument : Option CsType) (last : CsType) (x : Value) → Accepts argument last → ((type : CsType) → argument ≡ Some type → ValueHas types type x) → ValueHas types last x
  accepted argument last x (has.argument type) h = h type refl
  accepted argument last x (has.unnamed _) h = has.anything x

  invoked_fits : (run : Running) (argument : Option CsType) (x y : Value) (s : State) → RunsWell types run → ValueHas types (t.Callback argument) x → ((type : CsType) → argument ≡ Some type → ValueHas types type y) → StateHas types locals s → Fits (no_jump types) (Typed types locals t.Nothing) (invoked run x y s)
  invoked_fits run argument x y s well h g hs =
      callback_used types (Typed types locals t.Nothing) argument x (nothing s) (λ it s1. and_then (run it.0 it.1 (it.2 ++ y ∷ []) (with_receiver it.0 s1)) (λ z s2. nothing s2)) s h (has.anything v.Null, hs)
      (λ it. then_fits (no_jump types) (Returned types it.body.result s.locals) (Typed types locals t.Nothing) (run it.who it.place (it.captures ++ y ∷ []) (with_receiver it.who s)) (λ z s2. nothing s2)
      (well it.who it.place it.body (it.captures ++ y ∷ []) (with_receiver it.who s) it.numbered it.there
      (subst (λ ts. ValuesHave types ts (it.captures ++ y ∷ [])) (sym it.locals_are) (one_more types it.captured it.captures it.last y it.have (accepted argument it.last y it.accepts g)))
      (hs.1.0, one_more_there types s.receivers it.who it.body.component hs.1.1 it.there))
      (λ z s2 k. (has.anything v.Null, (subst (λ xs. ValuesHave types locals xs) (sym k.2) hs.0, k.1))))

  pub invoke_gives : (run : Running) (a : Meaning) → RunsWell types run → Gives types locals (t.Callback None) a → Gives types locals t.Nothing (two_operands a nothing (invoked run))
  invoke_gives run a well h s hs =
      two_fit types locals (t.Callback None) t.Nothing (Typed types locals t.Nothing) a nothing (invoked run) s h (λ s1 hs1. (has.anything v.Null, hs1)) hs
      (λ x y s1 hx hy hs1. invoked_fits run None x y s1 well hx (λ type e. absurd (cc)) hs1)

  pub invoke_with_gives : (run : Running) (type : CsType) (a b : Meaning) → RunsWell types run → Gives types locals (t.Callback (Some type)) a → Gives types locals type b → Gives types locals t.Nothing (two_operands a b (invoked run))
  invoke_with_gives run type a b well h g s hs =
      two_fit types locals (t.Callback (Some type)) type (Typed types locals t.Nothing) a b (invoked run) s h g hs
      (λ x y s1 hx hy hs1. invoked_fits run (Some type) x y s1 well hx (λ other e. let same : type ≡ other = cc in subst (λ z. ValueHas types z y) same hy) hs1)

  pub fill_gives : (type : CsType) (a b : Meaning) → Gives types locals (t.Fragment (Some type)) a → Gives types locals type b → Gives types locals (t.Fragment None) (two_operands a b with_capture)
  fill_gives type a b h g s hs =
      two_fit types locals (t.Fragment (Some type)) type (Typed types locals (t.Fragment None)) a b with_capture s h g hs
      (λ x y s1 hx hy hs1. fragment_used types (Typed types locals (t.Fragment None)) (Some type) x (λ it s2. gives (v.Fragment it.0 it.1 (it.2 ++ y ∷ [])) s2) s1 hx hs1.1
      (λ it. (has.fragment None (it.captured ++ type ∷ []) it.template it.who it.place (it.captures ++ y ∷ []) it.numbered it.there (it.locals_are ∙ sym (append-nil (it.captured ++ type ∷ []))) (one_more types it.captured it.captures type y it.have hy), hs1)))
