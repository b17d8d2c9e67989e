-- Bodies that keep to their signatures, and calls of them.
use Rattle.std.proofs.Common.{◌≡◌, ℕ, zero, suc, ◌+◌, ◌≤◌, List, refl, sym, subst, arith}
use Rattle.std.proofs.lemmas.Bool.{ltb-true, ltb-false}
use Rattle.std.specs.Prelude.{IsTrue, true, false, nat_lt}
use Rattle.std.specs.Prelude.{Bool as Truth}
use Rattle.cs_ast.specs.declared.cs_type.CsType.{CsType}
use Rattle.cs_ast.specs.declared.cs_type.CsType.TheVariants as t
use Rattle.cs_ast.specs.declared.code.Code.{Code}
use Rattle.cs_ast.specs.declared.value.Value.{Value}
use Rattle.cs_meaning.specs.State.{State, over}
use Rattle.cs_meaning.specs.Outcome.{Outcome, gives, breaks, continues, returns, faults, stuck, IsDefined}
use Rattle.cs_meaning.specs.Scopes.{of_body}
use Rattle.cs_meaning.specs.Meaning.{Setting, setting, entered, running, meaning, body_meaning}
use Rattle.cs_meaning.proofs.RecursionLaws.{deep_call, call_within}
use Rattle.cs_typing.specs.Types.{Signature, Types}
use Rattle.cs_typing.specs.Values.{ValueHas, ValuesHave}
use Rattle.cs_typing.specs.Values as has
use Rattle.cs_typing.specs.Expressions.{Surroundings, CodeHas}
use Rattle.cs_typing.specs.Statements.{Jumps, jumps, Runs}
use Rattle.cs_typing.specs.Settings.{SettingHas}
use Rattle.cs_typing.specs.Bodies.{surroundings_of, BodyHas, BodiesHave}
use Rattle.cs_typing.specs.Bodies as bodies
use Rattle.cs_typing.specs.States.{FieldsHave, StateHas}
use Rattle.cs_typing.specs.Outcomes.{Exits, Fits, no_jump, leaving, Typed, Ended, Left}
use Rattle.cs_typing.proofs.Fitting.{WithinBy, in_state_fits}
use Rattle.cs_typing.proofs.CallLemmas.{Returned, RunsWell}
use Rattle.cs_typing.proofs.ExpressionSoundness.{Stands, expression_gives}
use Rattle.cs_typing.proofs.StatementSoundness.{statement_does}

of_expression : (types : Types) (locals : List CsType) (type : CsType) (o : Outcome Value) → Fits (no_jump types) (Typed types locals type) o → Fits (no_jump types) (Left types type) (of_body o)
of_expression types locals type (gives x s) h = (h.0, h.1.1)
of_expression types locals type (breaks s) h = h
of_expression types locals type (continues s) h = h
of_expression types locals type (returns x s) h = absurd h
of_expression types locals type (faults fault s) h = h
of_expression types locals type stuck h = h

of_statement : (types : Types) (result : CsType) (locals inner : List CsType) (ends : Truth) (o : Outcome Value) → (IsTrue ends → result ≡ t.Nothing) → Fits (leaving types result (jumps false false) locals) (Ended types inner ends) o → Fits (no_jump types) (Left types result) (of_body o)
of_statement types result locals inner ends (gives x s) e h = (subst (λ z. ValueHas types z x) (sym (e h.0)) (has.anything x), h.1.1)
of_statement types result locals inner ends (breaks s) e h = absurd (cc)
of_statement types result locals inner ends (continues s) e h = absurd (cc)
of_statement types result locals inner ends (returns x s) e h = (h.0, h.1.1)
of_statement types result locals inner ends (faults fault s) e h = h
of_statement types result locals inner ends stuck e h = h

-- a body that keeps to its signature
pub body_fits : (types : Types) (body : Signature) (around : Setting) (code : Code) (s : State) → Stands (surroundings_of types body) around → BodyHas types body code → StateHas types body.locals s → Fits (no_jump types) (Left types body.result) (body_meaning around code s)
body_fits types body around code s stands (bodies.expression _ h) hs = of_expression types body.locals body.result (meaning around code s) (expression_gives (surroundings_of types body) around stands body.locals body.result code h s hs)
body_fits types body around code s stands (bodies.returning inner _ h) hs =
    of_statement types body.result body.locals inner false (meaning around code s) (λ d. absurd (cc)) (statement_does (surroundings_of types body) around stands body.result (jumps false false) body.locals inner false code h s hs)
body_fits types body around code s stands (bodies.ending inner _ e h) hs =
    of_statement types body.result body.locals inner true (meaning around code s) (λ d. e) (statement_does (surroundings_of types body) around stands body.result (jumps false false) body.locals inner true code h s hs)

-- behind a call the locals are as they were
back_to : (types : Types) (locals : List Value) → WithinBy (over locals) (no_jump types) (no_jump types)
back_to types locals = record { breaks_then = λ s h. h; continues_then = λ s h. h; returns_then = λ x s h. h; faults_then = λ s h. h }

-- calls keep to the signatures, however deep
pub calls_well : (count : ℕ) (types : Types) (around : Setting) → BodiesHave types around.bodies → FieldsHave types types.parameters around.parameters → 100 ≤ around.depth + count → RunsWell types (running around)
calls_well zero types around have params deep who number body locals s numbered there hs keeps =
    subst (Fits (no_jump types) (Returned types body.result s.locals)) (sym (deep_call around who number locals s (omega (arith, deep)))) keeps
calls_well (suc count) types around have params deep who number body locals s numbered there hs keeps = by (nat_lt around.depth 100) refl (calls_well count types (setting who around.parameters around.bodies (around.depth + 1)) have params (omega (arith, deep)))
  where
    code : Code
    code = (have.has number body numbered).0

    by : (d : Truth) → nat_lt around.depth 100 ≡ d → RunsWell types (running (setting who around.parameters around.bodies (around.depth + 1))) → Fits (no_jump types) (Returned types body.result s.locals) (running around who number locals s)
    by false e well = subst (Fits (no_jump types) (Returned types body.result s.locals)) (sym (deep_call around who number locals s (ltb-false around.depth 100 e))) keeps
    by true e well =
        let found = have.has number body numbered in
        subst (Fits (no_jump types) (Returned types body.result s.locals)) (sym (call_within around who number locals s (ltb-true around.depth 100 e)))
        (subst (λ o. Fits (no_jump types) (Returned types body.result s.locals) (entered around.parameters around.bodies (meaning (setting who around.parameters around.bodies (around.depth + 1))) locals o s)) (sym found.1)
        (in_state_fits (over s.locals) (no_jump types) (no_jump types) (Left types body.result) (Returned types body.result s.locals) (body_meaning (setting who around.parameters around.bodies (around.depth + 1)) found.0 (over locals s)) (back_to types s.locals)
        (λ x s1 k. (k.0, k.1, refl))
        (body_fits types body (setting who around.parameters around.bodies (around.depth + 1)) found.0 (over locals s) (record { there = there; parameters_have = params; well = well }) found.2 (hs, keeps))))

-- what fits is not stuck
fits_defined : (exits : Exits) (P : Value → State → Type 0) (o : Outcome Value) → Fits exits P o → IsDefined o
fits_defined exits P (gives x s) h = tt
fits_defined exits P (breaks s) h = tt
fits_defined exits P (continues s) h = tt
fits_defined exits P (returns x s) h = tt
fits_defined exits P (faults fault s) h = tt
fits_defined exits P stuck h = h

stands : (place : Surroundings) (around : Setting) → SettingHas place around → Stands place around
stands place around h = record { there = h.there; parameters_have = h.parameters_have; well = calls_well 100 place.types around h.bodies_have h.parameters_have (omega arith) }

-- expressions
pub expression_sound : (place : Surroundings) (around : Setting) (locals : List CsType) (type : CsType) (code : Code) (s : State) → SettingHas place around → CodeHas place locals type code → StateHas place.types locals s
    → IsDefined (meaning around code s) × Fits (no_jump place.types) (Typed place.types locals type) (meaning around code s)
expression_sound place around locals type code s fits h hs =
    let o = expression_gives place around (stands place around fits) locals type code h s hs in
    (fits_defined (no_jump place.types) (Typed place.types locals type) (meaning around code s) o, o)

-- statements
pub statement_sound : (place : Surroundings) (around : Setting) (result : CsType) (j : Jumps) (locals inner : List CsType) (ends : Truth) (code : Code) (s : State) → SettingHas place around → Runs place result j locals inner ends code → StateHas place.types locals s
    → IsDefined (meaning around code s) × Fits (leaving place.types result j locals) (Ended place.types inner ends) (meaning around code s)
statement_sound place around result j locals inner ends code s fits h hs =
    let o = statement_does place around (stands place around fits) result j locals inner ends code h s hs in
    (fits_defined (leaving place.types result j locals) (Ended place.types inner ends) (meaning around code s) o, o)

-- bodies
pub body_sound : (types : Types) (body : Signature) (around : Setting) (code : Code) (s : State) → SettingHas (surroundings_of types body) around → BodyHas types body code → StateHas types body.locals s
    → IsDefined (body_meaning around code s) × Fits (no_jump types) (Left types body.result) (body_meaning around code s)
body_sound types body around code s fits h hs =
    let o = body_fits types body around code s (stands (surroundings_of types body) around fits) h hs in
    (fits_defined (no_jump types) (Left types body.result) (body_meaning around code s) o, o)
