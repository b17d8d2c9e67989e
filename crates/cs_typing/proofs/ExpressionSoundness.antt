-- Code with types gives values with these types, and is never stuck: form by form, by recursion on its typing.
use Rattle.std.proofs.Common.{◌≡◌, ℕ, List, [], ◌∷◌, map, sym, ap, subst, ◌∙◌}
use Rattle.std.specs.Prelude.{slice_get, Some, None}
use Rattle.cs_ast.specs.declared.cs_type.CsType.{CsType}
use Rattle.cs_ast.specs.declared.cs_type.CsType.TheVariants as t
use Rattle.cs_ast.specs.declared.code.Code.{Code}
use Rattle.cs_ast.specs.declared.code.Code.TheVariants as c
use Rattle.cs_ast.specs.declared.value.Value.{Value}
use Rattle.cs_ast.specs.declared.value.Value.TheVariants as v
use Rattle.cs_meaning.specs.State.{State, state, spent}
use Rattle.cs_meaning.specs.Outcome.{gives, Meaning, charged, found}
use Rattle.cs_meaning.specs.Operators.{of_value, cast}
use Rattle.cs_meaning.specs.Reading.{indexed, part_of, part_or_null}
use Rattle.cs_meaning.specs.Variables.{assigned, operator_in, stepped}
use Rattle.cs_meaning.specs.Scopes.{nothing}
use Rattle.cs_meaning.specs.Calls.{called, callback, invoked, with_capture}
use Rattle.cs_meaning.specs.Expressions.{one_operand, two_operands, binary, conditional, interpolated, new_record, record_with, member_call}
use Rattle.cs_meaning.specs.Meaning.{Setting, running, meaning}
use Rattle.cs_meaning.proofs.Laws as law
use Rattle.cs_typing.specs.Types.{Types}
use Rattle.cs_typing.specs.Values.{HasNull, ValueHas, ValuesHave}
use Rattle.cs_typing.specs.Values as has
use Rattle.cs_typing.specs.Operators.{Shows}
use Rattle.cs_typing.specs.Operators as op
use Rattle.cs_typing.specs.Expressions.{Surroundings, CodeHas, CodesHave, PartsShow, ReplacementsHave}
use Rattle.cs_typing.specs.Expressions as e
use Rattle.cs_typing.specs.States.{FieldsHave, Keeps, StateHas}
use Rattle.cs_typing.specs.Outcomes.{Exits, Fits, no_jump, Typed, Gives}
use Rattle.cs_typing.proofs.ValueLists.{value_in}
use Rattle.cs_typing.proofs.Fitting.{weaker_fits, charged_fits}
use Rattle.cs_typing.proofs.Reading.{found_fits}
use Rattle.cs_typing.proofs.OperatorLemmas.{unary_gives, cast_gives, binary_gives, conditional_gives}
use Rattle.cs_typing.proofs.ListLemmas.{AllGive, AllShow, Positions, interpolated_gives, new_gives, part_gives, null_part_gives, index_gives, with_gives}
use Rattle.cs_typing.proofs.ListLemmas as list
use Rattle.cs_typing.proofs.LibraryLemmas.{library_gives}
use Rattle.cs_typing.proofs.CallLemmas.{RunsWell, same_exits, call_gives, callback_gives, wider_gives, invoke_gives, invoke_with_gives, fill_gives}
use Rattle.cs_typing.proofs.VariableLemmas.{assign_gives, step_gives, bind_gives}

-- what code runs in keeps to the types: the instance is there and of this component, the parameters have their types, and calls keep to the signatures
pub record Stands (place : Surroundings) (around : Setting) : Type 0 where
  pub there : place.types.instances around.who ≡ Some place.component
  pub parameters_have : FieldsHave place.types place.types.parameters around.parameters
  pub well : RunsWell place.types (running around)

-- behind the unit that code costs
pub charged_does : (types : Types) (exits : Exits) (locals : List CsType) (P : Value → State → Type 0) (code act : Meaning)
    → ((s : State) → code s ≡ charged 1 s act) → ((s : State) → Keeps types s → exits.on_fault (spent s)) → ((s : State) → StateHas types locals s → Fits exits P (act s)) → (s : State) → StateHas types locals s → Fits exits P (code s)
charged_does types exits locals P code act is f h s hs = subst (Fits exits P) (sym (is s)) (charged_fits exits P 1 s act (f s hs.1) (λ left. h (state s.locals s.fields s.receivers left) hs))

charges : (types : Types) (locals : List CsType) (type : CsType) (code act : Meaning) → ((s : State) → code s ≡ charged 1 s act) → Gives types locals type act → Gives types locals type code
charges types locals type code act is h s hs = charged_does types (no_jump types) locals (Typed types locals type) code act is (λ s1 k. k) h s hs

module _ (place : Surroundings) (around : Setting) (stands : Stands place around) (locals : List CsType) where
  mutual
    -- expressions
    pub expression_gives : (type : CsType) (code : Code) → CodeHas place locals type code → Gives place.types locals type (meaning around code)
    expression_gives type code (e.int n) = charges place.types locals t.Int (meaning around code) (λ s1. gives (v.Int n) s1) (law.int_law around n) (λ s hs. (has.int n, hs))
    expression_gives type code (e.bool b) = charges place.types locals t.Bool (meaning around code) (λ s1. gives (v.Bool b) s1) (law.bool_law around b) (λ s hs. (has.bool b, hs))
    expression_gives type code (e.text x) = charges place.types locals t.Text (meaning around code) (λ s1. gives (v.Text x) s1) (law.text_law around x) (λ s hs. (has.text x, hs))
    expression_gives type code (e.null _ nullable) = charges place.types locals type (meaning around code) (λ s1. gives v.Null s1) (law.null_law around) (λ s hs. (has.null type nullable, hs))
    expression_gives type code (e.field _ number h) =
        charges place.types locals type (meaning around code) (λ s1. found (State.fields s1 around.who number) s1) (law.field_law around number)
        (λ s hs. found_fits place.types locals type (State.fields s around.who number) s (hs.1.0 around.who place.component number type stands.there h) hs)
    expression_gives type code (e.parameter _ number h) =
        charges place.types locals type (meaning around code) (λ s1. found (around.parameters around.who number) s1) (law.parameter_law around number)
        (λ s hs. found_fits place.types locals type (around.parameters around.who number) s (stands.parameters_have around.who place.component number type stands.there h) hs)
    expression_gives type code (e.local _ number h) =
        charges place.types locals type (meaning around code) (λ s1. found (slice_get (State.locals s1) number) s1) (law.local_law around number)
        (λ s hs. found_fits place.types locals type (slice_get (State.locals s) number) s (value_in place.types locals s.locals number type hs.0 h) hs)
    expression_gives type code (e.interpolated parts h) =
        let k = parts_give parts h in
        charges place.types locals t.Text (meaning around code) (interpolated (map (meaning around) parts)) (law.interpolated_law around parts) (interpolated_gives place.types locals k.0 (map (meaning around) parts) k.1 k.2)
    expression_gives type code (e.unary o one _ a takes h) = charges place.types locals type (meaning around code) (one_operand (meaning around a) (of_value o)) (law.unary_law around o a) (unary_gives place.types locals o one type (meaning around a) takes (expression_gives one a h))
    expression_gives type code (e.cast o a h) = charges place.types locals t.Text (meaning around code) (one_operand (meaning around a) (cast o)) (law.cast_law around o a) (cast_gives place.types locals o (meaning around a) (expression_gives t.Text a h))
    expression_gives type code (e.binary o one other _ a b takes h g) =
        charges place.types locals type (meaning around code) (binary o (meaning around a) (meaning around b)) (law.binary_law around o a b) (binary_gives place.types locals o one other type (meaning around a) (meaning around b) takes (expression_gives one a h) (expression_gives other b g))
    expression_gives type code (e.conditional _ a b d h g k) =
        charges place.types locals type (meaning around code) (conditional (meaning around a) (meaning around b) (meaning around d)) (law.conditional_law around a b d)
        (conditional_gives place.types locals type (meaning around a) (meaning around b) (meaning around d) (expression_gives t.Bool a h) (expression_gives type b g) (expression_gives type d k))
    expression_gives type code (e.changed name r a positions values named h hs) =
        let k = replacements_give r.parts positions values hs in
        charges place.types locals type (meaning around code) (record_with (meaning around a) positions (map (meaning around) values)) (law.with_law around a positions values)
        (with_gives place.types locals name r (meaning around a) positions k.0 (map (meaning around) values) named k.1 (expression_gives (t.Rec name) a h) k.2)
    expression_gives type code (e.part name r _ a at named is h) = charges place.types locals type (meaning around code) (one_operand (meaning around a) (part_of at)) (law.part_law around a at) (part_gives place.types locals name r type (meaning around a) at named is (expression_gives (t.Rec name) a h))
    expression_gives type code (e.null_part name r _ a at named is nullable h) =
        charges place.types locals type (meaning around code) (one_operand (meaning around a) (part_or_null at)) (law.null_part_law around a at) (null_part_gives place.types locals name r type (meaning around a) at named is nullable (expression_gives (t.Rec name) a h))
    expression_gives type code (e.index _ a b h g) = charges place.types locals type (meaning around code) (two_operands (meaning around a) (meaning around b) indexed) (law.index_law around a b) (index_gives place.types locals type (meaning around a) (meaning around b) (expression_gives (t.List type) a h) (expression_gives t.Int b g))
    expression_gives type code (e.new name r parts named hs) = charges place.types locals type (meaning around code) (new_record r.number (map (meaning around) parts)) (law.new_law around r.number parts) (new_gives place.types locals name r (map (meaning around) parts) named (all_give r.parts parts hs))
    expression_gives type code (e.library member takes _ parts h hs) = charges place.types locals type (meaning around code) (member_call member (map (meaning around) parts)) (law.library_law around member parts) (library_gives place.types locals member takes type (map (meaning around) parts) h (all_give takes parts hs))
    expression_gives type code (e.call number body takes arguments numbered own are hs) =
        charges place.types locals type (meaning around code) (called (running around) around.who number (map (meaning around) arguments)) (law.call_law around number arguments)
        (call_gives place.types locals (running around) around.who number body takes (map (meaning around) arguments) stands.well numbered (stands.there ∙ ap (λ n. Some n) (sym own)) are (all_give takes arguments hs))
    expression_gives type code (e.callback number body argument last captured captures numbered own are accepts picks) =
        charges place.types locals type (meaning around code) (callback around.who number captures) (law.callback_law around number captures)
        (callback_gives place.types locals around.who number body argument last captured captures numbered (stands.there ∙ ap (λ n. Some n) (sym own)) are accepts picks)
    expression_gives type code (e.wider_callback inner a h) = wider_gives place.types locals inner (meaning around a) (expression_gives (t.Callback None) a h)
    expression_gives type code (e.fill inner a b h g) =
        charges place.types locals type (meaning around code) (two_operands (meaning around a) (meaning around b) with_capture) (law.fill_law around a b) (fill_gives place.types locals inner (meaning around a) (meaning around b) (expression_gives (t.Fragment (Some inner)) a h) (expression_gives inner b g))
    expression_gives type code (e.invoke a h) =
        charges place.types locals type (meaning around code) (two_operands (meaning around a) nothing (invoked (running around))) (law.invoke_law around a None) (invoke_gives place.types locals (running around) (meaning around a) stands.well (expression_gives (t.Callback None) a h))
    expression_gives type code (e.invoke_with inner a b h g) =
        charges place.types locals type (meaning around code) (two_operands (meaning around a) (meaning around b) (invoked (running around))) (law.invoke_law around a (Some b))
        (invoke_with_gives place.types locals (running around) inner (meaning around a) (meaning around b) stands.well (expression_gives (t.Callback (Some inner)) a h) (expression_gives inner b g))
    expression_gives type code (e.assign target o held value a h takes g) =
        charges place.types locals type (meaning around code) (assigned around.who target (operator_in o) (meaning around a)) (law.assign_law around target o a)
        (assign_gives place locals around.who stands.there o held value target (meaning around a) h takes (expression_gives value a g))
    expression_gives type code (e.step target o h) = charges place.types locals type (meaning around code) (stepped around.who target o) (law.step_law around target o) (step_gives place locals around.who stands.there o target h)
    expression_gives type code (e.bind kind number field first is binds) =
        λ s hs. subst (Fits (no_jump place.types) (Typed place.types locals t.Nothing)) (sym (law.bind_law around number kind s)) (bind_gives place locals around.who stands.there kind number field first is binds s hs)
    expression_gives type code (e.dropped inner a h) =
        λ s hs. weaker_fits (no_jump place.types) (no_jump place.types) (Typed place.types locals inner) (Typed place.types locals t.Nothing) (meaning around a s) (same_exits place.types) (λ x s1 k. (has.anything x, k.1)) (expression_gives inner a h s hs)

    all_give : (types : List CsType) (codes : List Code) → CodesHave place locals types codes → AllGive place.types locals types (map (meaning around) codes)
    all_give types codes e.none = list.none
    all_give types codes (e.more type others a rest h hs) = list.more type others (meaning around a) (map (meaning around) rest) (expression_gives type a h) (all_give others rest hs)

    parts_give : (parts : List Code) → PartsShow place locals parts → (types : List CsType) × AllShow types × AllGive place.types locals types (map (meaning around) parts)
    parts_give parts e.no_part = ([], list.none, list.none)
    parts_give parts (e.piece x rest hs) =
        let k = parts_give rest hs in
        (t.Text ∷ k.0, list.more t.Text k.0 op.text k.1, list.more t.Text k.0 (meaning around (c.Piece x)) (map (meaning around) rest) (λ s h. subst (Fits (no_jump place.types) (Typed place.types locals t.Text)) (sym (law.piece_law around x s)) (has.text x, h)) k.2)
    parts_give parts (e.hole type a rest show h hs) =
        let k = parts_give rest hs in
        (type ∷ k.0, list.more type k.0 show k.1, list.more type k.0 (meaning around a) (map (meaning around) rest) (expression_gives type a h) k.2)

    replacements_give : (parts : List CsType) (positions : List ℕ) (values : List Code) → ReplacementsHave place locals parts positions values → (types : List CsType) × Positions parts positions types × AllGive place.types locals types (map (meaning around) values)
    replacements_give parts positions values (e.unchanged _) = ([], list.none, list.none)
    replacements_give parts positions values (e.replaced _ type at others a rest is h hs) =
        let k = replacements_give parts others rest hs in
        (type ∷ k.0, list.more at others type k.0 is k.1, list.more type k.0 (meaning around a) (map (meaning around) rest) (expression_gives type a h) k.2)
