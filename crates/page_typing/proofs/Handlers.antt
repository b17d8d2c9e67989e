-- Handlers of pages run among the types.
use Rattle.std.proofs.Common.{◌≡◌, ℕ, List, [], ◌∷◌, ◌++◌, refl, sym, ap, subst, ◌∙◌, inl, inr}
use Rattle.std.specs.Prelude.{Some}
use Rattle.cs_ast.specs.declared.code.Code.{Code}
use Rattle.cs_ast.specs.declared.cs_type.CsType.{CsType}
use Rattle.cs_ast.specs.declared.cs_type.CsType.TheVariants as t
use Rattle.cs_ast.specs.declared.value.Value.{Value, Value-F, out-Value}
use Rattle.cs_ast.specs.declared.value.Value.TheVariants as v
use Rattle.cs_meaning.specs.Meaning.{setting}
use Rattle.cs_meaning.specs.Outcome.{Outcome}
use Rattle.cs_meaning.specs.Outcome as code
use Rattle.cs_meaning.specs.State.{Fields, State, over}
use Rattle.cs_typing.specs.Bodies.{BodiesHave}
use Rattle.cs_typing.specs.Outcomes.{Fits, no_jump, Left}
use Rattle.cs_typing.specs.States.{FieldsHave, Keeps}
use Rattle.cs_typing.specs.Types.{Types}
use Rattle.cs_typing.specs.Values.{Accepts, ValueHas, ValuesHave}
use Rattle.cs_typing.specs.Values as has
use Rattle.cs_typing.proofs.BodySoundness.{body_sound}
use Rattle.cs_typing.proofs.ValueKinds.{IsCallback, is_callback}
use Rattle.cs_typing.proofs.ValueLists.{one_more}
use Rattle.page_typing.specs.Drawings.{event_argument}
use Rattle.page_typing.specs.Handlers.{RunsAmong}

-- what is handed over is what the last local may be
accepted_has : (types : Types) (argument last : CsType) (x : Value) → Accepts (Some argument) last → ValueHas types argument x → ValueHas types last x
accepted_has types argument last x (has.argument _) h = h
accepted_has types argument last x (has.unnamed _) h = has.anything x

kept : (types : Types) (result : CsType) (it : Outcome Value) → Fits (no_jump types) (Left types result) it → Fits (no_jump types) (λ x s. Keeps types s) it
kept types result (code.gives x s) h = h.1
kept types result (code.faults met s) h = h
kept types result (code.breaks s) h = h
kept types result (code.continues s) h = h
kept types result (code.returns x s) h = h
kept types result code.stuck h = h

not_null : (who place : ℕ) (captures : List Value) → v.Callback who place captures ≡ v.Null → ⊥
not_null who place captures e = let k : Value-F.Callback who place captures ≡ Value-F.Null = sym (v.outs-Callback who place captures) ∙ ap out-Value e ∙ v.outs-Null in absurd (cc)

abbrev parts_of : ℕ → ℕ → List Value → ℕ × ℕ × List Value
parts_of who place captures = (who, place, captures)

same_parts : (who who' place place' : ℕ) (captures captures' : List Value) → v.Callback who place captures ≡ v.Callback who' place' captures' → parts_of who place captures ≡ parts_of who' place' captures'
same_parts who who' place place' captures captures' e = let k : Value-F.Callback who place captures ≡ Value-F.Callback who' place' captures' = sym (v.outs-Callback who place captures) ∙ ap out-Value e ∙ v.outs-Callback who' place' captures' in cc

module _ (types : Types) (parameters : Fields) (bodies : List (ℕ × Code)) (params : FieldsHave types types.parameters parameters) (have : BodiesHave types bodies) where
  callback_runs : (argument : CsType) (given : Value) (calls : ℕ) (s : State) (x : Value) (r : IsCallback types (Some argument) x) → ValueHas types argument given → Keeps types s
      → RunsAmong types (setting r.who parameters bodies calls) r.place r.captures given s
  callback_runs argument given calls s x r h keeps =
      let found = have.has r.place r.body r.numbered in
      let locals : ValuesHave types r.body.locals (r.captures ++ given ∷ []) = subst (λ z. ValuesHave types z (r.captures ++ given ∷ [])) (sym r.locals_are) (one_more types r.captured r.captures r.last given r.have (accepted_has types argument r.last given r.accepts h)) in
      (found.0, found.1, kept types r.body.result _ (body_sound types r.body (setting r.who parameters bodies calls) found.0 (over (r.captures ++ given ∷ []) s) (record { there = r.there; parameters_have = params; bodies_have = have }) found.2 (locals, keeps)).1)

  same_runs : (argument : CsType) (who place : ℕ) (captures : List Value) (given : Value) (calls : ℕ) (s : State) → ValueHas types (t.Callback (Some argument)) (v.Callback who place captures) → ValueHas types argument given → Keeps types s
      → RunsAmong types (setting who parameters bodies calls) place captures given s
  same_runs argument who place captures given calls s typed h keeps =
      elim (is_callback types (t.Callback (Some argument)) (Some argument) (v.Callback who place captures) typed refl) [
        | inl e ↦ absurd (not_null who place captures e)
        | inr r ↦ let same = same_parts who r.who place r.place captures r.captures r.is in
            subst (λ (z : ℕ × ℕ × List Value). RunsAmong types (setting z.0 parameters bodies calls) z.1 z.2 given s) (sym same) (callback_runs argument given calls s (v.Callback who place captures) r h keeps)
      ]

pub handlers_run : (types : Types) (parameters : Fields) (bodies : List (ℕ × Code)) (name : List ℕ) (who place : ℕ) (captures : List Value) (given : Value) (calls : ℕ) (s : State) → FieldsHave types types.parameters parameters → BodiesHave types bodies
    → ValueHas types (t.Callback (Some (event_argument name))) (v.Callback who place captures) → ValueHas types (event_argument name) given → Keeps types s → RunsAmong types (setting who parameters bodies calls) place captures given s
handlers_run types parameters bodies name who place captures given calls s params have typed h keeps = same_runs types parameters bodies params have (event_argument name) who place captures given calls s typed h keeps
