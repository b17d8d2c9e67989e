-- Whole programs.
use Rattle.std.proofs.Common.{◌≡◌, ℕ, zero, suc, ◌+◌, ◌<◌, List, [], ◌∷◌, ◌++◌, length, map, get_or, take, drop, refl, sym, ap, subst, ◌∙◌, arith}
use Rattle.std.specs.Prelude.{Option, Some, slice_get, sum}
use Rattle.std.specs.BTreeMap.{is_at}
use Rattle.std.specs.Map.{lookup}
use Rattle.std.specs.Ordering.{nat_cmp}
use Rattle.std.proofs.lemmas.List.{append-nil, drop_more, take_more, map-append}
use Rattle.std.proofs.lemmas.List.Sums.{sum_by_push}
use Rattle.std.proofs.lemmas.Map.Made.{lookup-map_values}
use mathlib.Core.Path.{fun_ext}
use Rattle.cs_ast.specs.declared.code.Code.{Code}
use Rattle.cs_meaning.specs.State.{Fields}
use Rattle.cs_rules.specs.Judged.{Judged, fine, breaks}
use Rattle.cs_rules.specs.Judged.{◌>>=◌ as ◌>>>=◌}
use Rattle.drawing_meaning.specs.Acts.{Act, all_siblings}
use Rattle.drawing_meaning.specs.Shows.{stage_at, at_first}
use Rattle.frame_program.specs.Frames as frames
use Rattle.frame_program.specs.Frames.{frames_of, component_items}
use Rattle.frame_program.specs.Operations.{act_of}
use Rattle.frame_program.specs.declared.compiled.Compiled.{Compiled}
use Rattle.frame_program.specs.declared.compiled.CompiledComponent.{CompiledComponent}
use Rattle.frame_program.specs.declared.compiled.CompiledField.{CompiledField}
use Rattle.frame_program.specs.declared.compiled.RunScope.{RunScope}
use Rattle.razor_ast.specs.declared.component.Component.{Component}
use Rattle.razor_rules.specs.Numbers.{span, first_number}
use Rattle.razor_rules.specs.Programs.{home_of}
use Rattle.page_meaning.specs.Items.{bodies, component_acts, items, items_from, items_of_acts, placed, placed_by, placed_from, templates}
use Rattle.page_meaning.specs.Placed.{Placed}
use Rattle.page_meaning.specs.Resolved as resolved
use Rattle.page_meaning.specs.Resolved.{Placing, Resolves, placing}
use Rattle.page_meaning.specs.Resolved.{◌>>=◌ as ◌>>~◌}
use Rattle.frame_compiler.specs.Compiles.{Compiles, Finding, first_broken, finding_or, made_by, meaning_of, meanings_from}
use Rattle.frame_parts.specs.Components.{Meaning, component_meaning, declared, field_in, meaning, parameter_in}
use Rattle.frame_compiler.specs.Answers.{Refuses}
use Rattle.frame_compiler.specs.Programs.{IsCompiled, components_from}
use Rattle.frame_compiler.specs.declared.fault.CompileFault.{CompileFault}
use Rattle.frame_compiler.specs.declared.fault.CompileFault.TheVariants as fault
use Rattle.std.specs.Prelude.{IfErr, IsErrAnd, Result, Ok, Err}
use Rattle.frame_parts.specs.Steps as steps
use Rattle.frame_parts.specs.Steps.{Numbered, Steps, step, in_front, with_placed, ◌>>=◌}
use Rattle.frame_parts.specs.Views.{acts_of}
use Rattle.frame_parts.proofs.FrontLemmas.{front_one}
use Rattle.frame_parts.proofs.StepLaws.{placed_more}

-- what a component comes to places what its template and its bodies do, and does what its template does
module _ {A B : Type 0} (fields parameters : Judged A) (acts : Resolves (List Act)) (whole : A → A → List Act → B) where
  abbrev all_of : Resolves B
  all_of = resolved.judged fields >>~ (λ fs. resolved.judged parameters >>~ (λ ps. acts >>~ (λ them. resolved.alone (whole fs ps them))))

part_placed : {A B : Type 0} (fields parameters : Judged A) (acts : Resolves (List Act)) (whole : A → A → List Act → B) (it : Placing B) → all_of fields parameters acts whole ≡ fine it → it.placed ≡ placed_by acts
part_placed (fine fs) (fine ps) (fine x) whole it is =
    let same : placing (whole fs ps x.made) (x.placed ++ []) ≡ it = cc in
    ap (λ (p : Placing _). p.placed) (sym same) ∙ append-nil x.placed
part_placed (fine fs) (fine ps) (breaks rule place) whole it is = absurd (cc)
part_placed (fine fs) (breaks rule place) acts whole it is = absurd (cc)
part_placed (breaks rule place) parameters acts whole it is = absurd (cc)

meaning_placed : (components : List Component) (position : ℕ) (one : Component) (it : Placing Meaning) → component_meaning (home_of components position one) one ≡ fine it →
    it.placed ≡ placed_by (component_acts (home_of components position one) one)
unfolding component_meaning
meaning_placed components position one it is =
    let home = home_of components position one in
    part_placed (declared (field_in home) one.members) (declared (parameter_in home) one.members) (component_acts home one) (λ fields parameters acts. meaning home one fields parameters acts) it is

part_acts : (fields parameters : Judged (List CompiledField)) (acts : Resolves (List Act)) (whole : List CompiledField → List CompiledField → List Act → Meaning) → ((fs ps : List CompiledField) (them : List Act) → (whole fs ps them).acts ≡ them) →
    (m : Meaning) → made_by (all_of fields parameters acts whole) ≡ fine m → made_by acts ≡ fine m.acts
part_acts (fine fs) (fine ps) (fine x) whole says m is =
    let same : whole fs ps x.made ≡ m = cc in
    ap fine (sym (says fs ps x.made) ∙ ap (λ (it : Meaning). it.acts) same)
part_acts (fine fs) (fine ps) (breaks rule place) whole says m is = absurd (cc)
part_acts (fine fs) (breaks rule place) acts whole says m is = absurd (cc)
part_acts (breaks rule place) parameters acts whole says m is = absurd (cc)

-- the components one after another
abbrev onto : Meaning → List Meaning × Numbered → Judged (List Meaning × Numbered)
onto first more = fine (first ∷ more.0, more.1)

behind_one : (first : Meaning) (rest : Judged (List Meaning × Numbered)) (ms : List Meaning) (now : Numbered) → (rest >>>= onto first) ≡ fine (ms, now) →
    (more : List Meaning) × (rest ≡ fine (more, now)) × (ms ≡ first ∷ more)
behind_one first (fine more) ms now is =
    let both : (first ∷ more.0, more.1) ≡ (ms, now) = cc in
    let list : first ∷ more.0 ≡ ms = ap (λ (it : List Meaning × Numbered). it.0) both in
    let end : more.1 ≡ now = ap (λ (it : List Meaning × Numbered). it.1) both in
    (more.0, ap (λ (n : Numbered). fine (more.0, n)) end, sym list)
behind_one first (breaks rule place) ms now is = absurd (cc)

one_more : (m : Resolves Meaning) (rest : Steps (List Meaning)) (meanings : Judged (List Meaning)) (here later : List (ℕ × Placed)) (before : Numbered) (ms : List Meaning) (now : Numbered) →
    ((it : Placing Meaning) → m ≡ fine it → it.placed ≡ here) →
    ((mid : Numbered) (more : List Meaning) → rest mid ≡ fine (more, now) → (meanings ≡ fine more) × (now ≡ with_placed later mid)) →
    (step m >>= (λ first. rest >>= (λ more. steps.alone (first ∷ more)))) before ≡ fine (ms, now) →
    ((made_by m >>>= (λ first. meanings >>>= (λ more. fine (first ∷ more)))) ≡ fine ms) × (now ≡ with_placed (here ++ later) before)
unfolding step
one_more (fine it) rest meanings here later before ms now placed further is =
    let found = behind_one it.made (rest (with_placed it.placed before)) ms now is in
    let known = further (with_placed it.placed before) found.0 found.1 in (
      ap (λ (them : Judged (List Meaning)). them >>>= (λ more. fine (it.made ∷ more))) known.0 ∙ ap fine (sym found.2),
      known.1 ∙ ap (λ (p : List (ℕ × Placed)). with_placed later (with_placed p before)) (placed it refl) ∙ sym (placed_more here later before),
    )
one_more (breaks rule place) rest meanings here later before ms now placed further is = absurd (cc)

from_made : (components : List Component) (position : ℕ) (xs : List Component) (before : Numbered) (ms : List Meaning) (now : Numbered) → components_from components position xs before ≡ fine (ms, now) →
    (meanings_from components position xs ≡ fine ms) × (now ≡ with_placed (placed_from components position xs) before)
from_made components position [] before ms now is =
    let both : ([], before) ≡ (ms, now) = cc in
    let list : [] ≡ ms = ap (λ (it : List Meaning × Numbered). it.0) both in
    let end : before ≡ now = ap (λ (it : List Meaning × Numbered). it.1) both in
    (ap fine list, sym end)
from_made components position (one ∷ others) before ms now is =
    one_more (component_meaning (home_of components position one) one) (components_from components (position + 1) others) (meanings_from components (position + 1) others)
    (placed_by (component_acts (home_of components position one) one)) (placed_from components (position + 1) others) before ms now (meaning_placed components position one)
    (λ mid more h. from_made components (position + 1) others mid more now h) is

abbrev pub nothing_yet : Numbered
nothing_yet = record { bodies = []; templates = [] }

pub whole_program : (components : List Component) (compiled : Compiled) →
    components_from components 0 components nothing_yet ≡ fine (map meaning_of compiled.components, record { bodies = compiled.bodies; templates = acts_of compiled.fragments }) → Compiles components compiled
unfolding bodies templates placed
whole_program components compiled is =
    let known = from_made components 0 components nothing_yet (map meaning_of compiled.components) (record { bodies = compiled.bodies; templates = acts_of compiled.fragments }) is in
    record {
      meanings = known.0;
      bodies = ap (λ (n : Numbered). n.bodies) known.1;
      fragments = λ number. sym (lookup-map_values (map act_of) (is_at (nat_cmp number)) compiled.fragments) ∙ ap (λ (n : Numbered). lookup (is_at (nat_cmp number)) n.templates) known.1;
    }

-- a step from component to component
pub components_more : (components : List Component) (position : ℕ) (one : Component) (before : Numbered) → position < length components → one ≡ get_or components position one →
    components_from components position (drop position components) before
    ≡ (step (component_meaning (home_of components position one) one) >>= (λ first. components_from components (position + 1) (drop (position + 1) components) >>= (λ more. steps.alone (first ∷ more)))) before
components_more components position one before within is =
    ap (λ xs. components_from components position xs before) (drop_more components position one within ∙ ap (λ x. x ∷ drop (position + 1) components) (sym is))

pub broken_more : (components : List Component) (position : ℕ) (one : Component) → position < length components → one ≡ get_or components position one →
    first_broken components position (drop position components)
    ≡ finding_or position (component_meaning (home_of components position one) one) (first_broken components (position + 1) (drop (position + 1) components))
broken_more components position one within is =
    ap (λ xs. first_broken components position xs) (drop_more components position one within ∙ ap (λ x. x ∷ drop (position + 1) components) (sym is))

pub number_more : (components : List Component) (position : ℕ) (one : Component) → position < length components → one ≡ get_or components position one →
    first_number components (position + 1) ≡ first_number components position + span one
number_more components position one within is =
    ap (λ cs. sum (map span cs)) (take_more components position one within ∙ ap (λ c. take position components ++ c ∷ []) (sym is))
    ∙ ap sum (map-append span (take position components) (one ∷ []))
    ∙ sum_by_push (λ x. x) (map span (take position components)) (span one)

-- what breaks a rule is found, and what does not is passed
pub broken_here : (position : ℕ) (m : Resolves Meaning) (before : Numbered) (rule : _) (place : _) (further : Option Finding) → step m before ≡ breaks rule place →
    finding_or position m further ≡ Some (record { file = position; rule = rule; place = place })
unfolding step
broken_here position (fine it) before rule place further is = absurd (cc)
broken_here position (breaks other at) before rule place further is =
    let r : other ≡ rule = cc in
    let p : at ≡ place = cc in
    ap (λ x. Some (record { file = position; rule = x; place = at })) r ∙ ap (λ x. Some (record { file = position; rule = rule; place = x })) p

pub fine_here : (position : ℕ) (m : Resolves Meaning) (before : Numbered) (it : Meaning × Numbered) (further : Option Finding) → step m before ≡ fine it → finding_or position m further ≡ further
unfolding step
fine_here position (fine x) before it further is = refl
fine_here position (breaks rule place) before it further is = absurd (cc)

-- one more component behind those that are compiled
pub compiled_more : (components : List Component) (position : ℕ) (one : Component) (all : List CompiledComponent) (it : CompiledComponent) (start before now : Numbered) →
    position < length components → one ≡ get_or components position one →
    components_from components 0 components start ≡ in_front (map meaning_of all) (components_from components position (drop position components) before) →
    step (component_meaning (home_of components position one) one) before ≡ fine (meaning_of it, now) →
    components_from components 0 components start ≡ in_front (map meaning_of (all ++ it ∷ [])) (components_from components (position + 1) (drop (position + 1) components) now)
compiled_more components position one all it start before now within is so_far known =
    let later = components_from components (position + 1) (drop (position + 1) components) in
    so_far
    ∙ ap (in_front (map meaning_of all)) (components_more components position one before within is
    ∙ ap (λ (here : Judged (Meaning × Numbered)). here >>>= (λ first. (later >>= (λ more. steps.alone (first.0 ∷ more))) first.1)) known)
    ∙ front_one (map meaning_of all) (meaning_of it) (later now)
    ∙ ap (λ (them : List Meaning). in_front them (later now)) (sym (map-append meaning_of all (it ∷ [])))

-- none before it breaks a rule, and it breaks none
pub none_more : (components : List Component) (position : ℕ) (one : Component) (it : Meaning) (before now : Numbered) → position < length components → one ≡ get_or components position one →
    first_broken components 0 components ≡ first_broken components position (drop position components) → step (component_meaning (home_of components position one) one) before ≡ fine (it, now) →
    first_broken components 0 components ≡ first_broken components (position + 1) (drop (position + 1) components)
none_more components position one it before now within is none known =
    none ∙ broken_more components position one within is
    ∙ fine_here position (component_meaning (home_of components position one) one) before (it, now) (first_broken components (position + 1) (drop (position + 1) components)) known

-- none before it breaks a rule, and it does
pub refuses_here : (components : List Component) (position : ℕ) (one : Component) (before now : Numbered) (why : CompileFault) → position < length components → one ≡ get_or components position one →
    first_broken components 0 components ≡ first_broken components position (drop position components) →
    IsCompiled position (component_meaning (home_of components position one) one) before now (Err why) → Refuses components why
refuses_here components position one before now (fault.Broken file rule place) within is none broken =
    none ∙ broken_more components position one within is
    ∙ broken_here position (component_meaning (home_of components position one) one) before rule place (first_broken components (position + 1) (drop (position + 1) components)) broken.1
    ∙ ap (λ (n : ℕ). Some (record { file = n; rule = rule; place = place })) (sym broken.0)
refuses_here components position one before now fault.Oom within is none broken = tt

pub handed_on : {A : Type 0} (r : Result A CompileFault) (why : CompileFault) (components : List Component) → IsErrAnd r (λ e. e ≡ why) → Refuses components why → IfErr r (λ e. Refuses components e)
handed_on (Ok value) why components same refuses = tt
handed_on (Err e) why components same refuses = subst (λ x. Refuses components x) (sym same) refuses

-- what is compiled at a position
cut_first : (first : Judged Meaning) (rest : Judged (List Meaning)) (ms : List Meaning) → (first >>>= (λ one. rest >>>= (λ more. fine (one ∷ more)))) ≡ fine ms →
    (one : Meaning) × (more : List Meaning) × (first ≡ fine one) × (rest ≡ fine more) × (ms ≡ one ∷ more)
cut_first (fine one) (fine more) ms is =
    let list : one ∷ more ≡ ms = cc in
    (one, more, refl, refl, sym list)
cut_first (fine one) (breaks rule place) ms is = absurd (cc)
cut_first (breaks rule place) rest ms is = absurd (cc)

abbrev At : List Component → ℕ → Component → List CompiledComponent → ℕ → Type 0
At components position component all i = (one : CompiledComponent) × (slice_get all i ≡ Some one) × (made_by (component_meaning (home_of components position component) component) ≡ fine (meaning_of one))

compiled_at : (components : List Component) (start : ℕ) (xs : List Component) (all : List CompiledComponent) (i : ℕ) (component : Component) →
    meanings_from components start xs ≡ fine (map meaning_of all) → slice_get xs i ≡ Some component → At components (start + i) component all i
compiled_at components start [] all i component is here = absurd (cc)
compiled_at components start (x ∷ xs) [] i component is here =
    let cut = cut_first (made_by (component_meaning (home_of components start x) x)) (meanings_from components (start + 1) xs) [] is in
    absurd (cc)
compiled_at components start (x ∷ xs) (one ∷ all) zero component is here =
    let cut = cut_first (made_by (component_meaning (home_of components start x) x)) (meanings_from components (start + 1) xs) (map meaning_of (one ∷ all)) is in
    let same : x ≡ component = cc in
    let first : cut.0 ≡ meaning_of one = cc in
    let number : start ≡ start + zero = omega arith in
    subst (λ (n : ℕ). At components n component (one ∷ all) zero) number
    (one, refl, subst (λ (c : Component). made_by (component_meaning (home_of components start c) c) ≡ fine (meaning_of one)) same (cut.2 ∙ ap fine first))
compiled_at components start (x ∷ xs) (one ∷ all) (suc i) component is here =
    let cut = cut_first (made_by (component_meaning (home_of components start x) x)) (meanings_from components (start + 1) xs) (map meaning_of (one ∷ all)) is in
    let more : cut.1 ≡ map meaning_of all = cc in
    let number : start + 1 + i ≡ start + suc i = omega arith in
    subst (λ (n : ℕ). At components n component (one ∷ all) (suc i)) number (compiled_at components (start + 1) xs all i component (cut.3 ∙ ap fine more) here)

fine_acts : (m : Resolves (List Act)) (acts : List Act) → made_by m ≡ fine acts → (stage : _) (d : _) → items_of_acts m stage d ≡ all_siblings acts stage d
fine_acts (fine it) acts is stage d =
    let same : it.made ≡ acts = cc in
    ap (λ (them : List Act). all_siblings them stage d) same
fine_acts (breaks rule place) acts is stage d = absurd (cc)

pub drawn : (components : List Component) (compiled : Compiled) (scope : RunScope) (component : Component) (fields parameters : Fields) → Compiles components compiled → slice_get components scope.component ≡ Some component →
    frames_of compiled scope fields parameters (record { left = 1000000; depth = 1 }) ≡ items components parameters fields scope.component component scope.who scope.depth
unfolding items_from component_meaning
drawn components compiled scope component fields parameters known here =
    let number : 0 + scope.component ≡ scope.component = omega arith in
    let at = subst (λ (n : ℕ). At components n component compiled.components scope.component) number (compiled_at components 0 components compiled.components scope.component component known.meanings here) in
    let home = home_of components scope.component component in
    let acts : made_by (component_acts home component) ≡ fine (map act_of at.0.operations) =
    part_acts (declared (field_in home) component.members) (declared (parameter_in home) component.members) (component_acts home component) (λ fs ps them. meaning home component fs ps them) (λ fs ps them. refl) (meaning_of at.0) at.2 in
    let d = at_first fields 1000000 in
    ap (λ (one : Option CompiledComponent). component_items one (stage_at parameters compiled.bodies (frames.templates_in compiled.fragments) scope.who 1 scope.depth) d) at.1
    ∙ ap (λ (of : List (ℕ × Code)). all_siblings (map act_of at.0.operations) (stage_at parameters of (frames.templates_in compiled.fragments) scope.who 1 scope.depth) d) known.bodies
    ∙ ap (λ (of : ℕ → Option (List Act)). all_siblings (map act_of at.0.operations) (stage_at parameters (bodies components) of scope.who 1 scope.depth) d) (fun_ext known.fragments)
    ∙ sym (fine_acts (component_acts home component) (map act_of at.0.operations) acts (stage_at parameters (bodies components) (templates components) scope.who 1 scope.depth) d)
