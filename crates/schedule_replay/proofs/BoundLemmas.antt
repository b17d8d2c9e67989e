-- What every schedule that bytes spell keeps to.
use Rattle.std.proofs.Common.{◌≡◌, ◌≤◌, ◌^◌, ℕ, ◌+◌, Bool, true, false, List, [], ◌∷◌, length, Some, None, Result, Ok, Err, refl, sym, ◌∙◌, subst, arith, ap}
use Rattle.std.specs.Prelude.{codes, encode_utf8_all, IfOk, if◌then◌else◌, nat_le, ◌&&◌, ◌||◌, not, option_and_then, option_map}
use Rattle.std.specs.Str.{bytes_eq, chars}
use Rattle.std.specs.declared.option.Option.{Option}
use Rattle.std.proofs.lemmas.Bool.{and_parts, leb-true}
use Rattle.serde_json.specs.Data.{Data, Items, no_items, item}
use Rattle.serde_json.specs.Find.{get, as_array, as_number, as_object, as_u64}
use Rattle.schedule_replay.specs.Every.{Every}
use Rattle.schedule_replay.specs.Schedule.{before_steps, event_name, flow_of, Gives, has_keys, has_size, HasShortName, IsSchedule, is_open, json_of, limit_of, open_of, Outline, outline_of, places_of, schedule_from, schedule_of, schedule_with, step_by, step_of, steps_from, text_at, user_of, user_step, weights, whole, whole_at, with_step, within}
use Rattle.schedule_replay.specs.declared.schedule.Schedule.{Schedule}
use Rattle.schedule_replay.specs.declared.schedule.ScheduleFault.{ScheduleFault}
use Rattle.schedule_replay.specs.declared.schedule.ScheduleFault.TheVariants as fault
use Rattle.schedule_replay.specs.declared.schedule.Step.{Step}
use Rattle.schedule_replay.specs.declared.schedule.Step.TheVariants.{Open, User, Flow}
use Rattle.schedule_replay.specs.declared.schedule.UserStep.{UserStep}

-- values that are there

same : {A : Type 0} (x y : A) → Some x ≡ Some y → x ≡ y
same x y e = cc

bound : {A B : Type 0} (f : A → Option B) (found : Option A) (y : B) → option_and_then f found ≡ Some y → (x : A) × (found ≡ Some x) × (f x ≡ Some y)
bound f None y e = absurd (cc)
bound f (Some x) y e = (x, refl, e)

mapped : {A B : Type 0} (f : A → B) (found : Option A) (y : B) → option_map f found ≡ Some y → (x : A) × (found ≡ Some x) × (f x ≡ y)
mapped f None y e = absurd (cc)
mapped f (Some x) y e = (x, refl, same (f x) y e)

tested : {A : Type 0} (test : Bool) (found : Option A) (y : A) → (if test then found else None) ≡ Some y → (test ≡ true) × (found ≡ Some y)
tested true found y e = (refl, e)
tested false found y e = absurd (cc)

-- numbers within bounds

within-bounds : (low high number n : ℕ) → within low high number ≡ Some n → (low ≤ n) × (n ≤ high)
within-bounds low high number n e =
    let parts = tested (nat_le low number && nat_le number high) (Some number) n e in
    let both = and_parts (nat_le low number) (nat_le number high) parts.0 in
    let is : number ≡ n = same number n parts.1 in
    (subst (λ (x : ℕ). low ≤ x) is (leb-true low number both.0), subst (λ (x : ℕ). x ≤ high) is (leb-true number high both.1))

whole-bounds : (low high : ℕ) (json : Data) (n : ℕ) → whole low high json ≡ Some n → (low ≤ n) × (n ≤ high)
whole-bounds low high json n e =
    let found = bound (within low high) (option_and_then as_u64 (as_number json)) n e in
    within-bounds low high found.0 n found.2

window-bounds : (found : Option Data) (n : ℕ) → limit_of 64 10 found ≡ Some n → (1 ≤ n) × (n ≤ 64)
window-bounds None n e = let is : 10 ≡ n = same 10 n e in (omega (arith, is), omega (arith, is))
window-bounds (Some json) n e = whole-bounds 1 64 json n e

-- the window of an outline
abbrev outline_with : Data → ℕ → Option Outline
outline_with json window =
    option_and_then (λ retain. option_map (λ steps. record { window = window; retain = retain; steps = steps }) (option_and_then as_array (get (codes "steps") json)))
    (limit_of 100 100 (get (codes "retain") json))

outline-bounds : (json : Data) (outline : Outline) → outline_of json ≡ Some outline → (1 ≤ outline.window) × (outline.window ≤ 64)
outline-bounds json outline e =
    let kept = tested (has_keys json) (option_and_then (outline_with json) (limit_of 64 10 (get (codes "window") json))) outline e in
    let window = bound (outline_with json) (limit_of 64 10 (get (codes "window") json)) outline kept.1 in
    let retain = bound (λ r. option_map (λ steps. record { window = window.0; retain = r; steps = steps }) (option_and_then as_array (get (codes "steps") json))) (limit_of 100 100 (get (codes "retain") json)) outline window.2 in
    let steps = mapped (λ items. record { window = window.0; retain = retain.0; steps = items }) (option_and_then as_array (get (codes "steps") json)) outline retain.2 in
    let is : window.0 ≡ outline.window = ap (λ (o : Outline). o.window) steps.2 in
    let limits = window-bounds (get (codes "window") json) window.0 window.1 in
    (subst (λ (x : ℕ). 1 ≤ x) is limits.0, subst (λ (x : ℕ). x ≤ 64) is limits.1)

-- the names of events

no-open : (opened : Bool) (json : Data) (user : UserStep) → open_of opened json ≡ Some (User user) → ⊥
no-open opened json user e =
    let kept = tested (not opened && has_size 2 (as_object json)) (option_map Open (whole_at 0 0 (codes "tab") json)) (User user) e in
    let found = mapped Open (whole_at 0 0 (codes "tab") json) (User user) kept.1 in
    let other : Open found.0 ≡ User user = found.2 in
    absurd (cc)

no-flow : (json : Data) (user : UserStep) → flow_of json ≡ Some (User user) → ⊥
no-flow json user e =
    let kept = tested (has_size 2 (as_object json)) (option_map Flow (whole_at 1 1000 (codes "count") json)) (User user) e in
    let found = mapped Flow (whole_at 1 1000 (codes "count") json) (User user) kept.1 in
    let other : Flow found.0 ≡ User user = found.2 in
    absurd (cc)

name-short : (bytes event : List ℕ) → event_name bytes ≡ Some event → length (encode_utf8_all event) ≤ 2 ^ 24
name-short bytes event e =
    let kept = tested (nat_le (length (encode_utf8_all (chars bytes))) (2 ^ 24)) (Some (chars bytes)) event e in
    let is : chars bytes ≡ event = same (chars bytes) event kept.1 in
    subst (λ (x : List ℕ). length (encode_utf8_all x) ≤ 2 ^ 24) is (leb-true _ _ kept.0)

event-of : (step : Step) (user : UserStep) → step ≡ User user → (tab : ℕ) (path event : List ℕ) → step ≡ user_step tab path event → event ≡ user.event
event-of step user is tab path event e =
    let made : UserStep = record { tab = tab; path = path; event = event } in
    let users : made ≡ user = cc in
    ap (λ (u : UserStep). u.event) users

user-short : (json : Data) (user : UserStep) → user_of json ≡ Some (User user) → length (encode_utf8_all user.event) ≤ 2 ^ 24
user-short json user e =
    let kept = tested (has_size 4 (as_object json)) _ (User user) e in
    let tab = bound _ (whole_at 0 0 (codes "tab") json) (User user) kept.1 in
    let path = bound _ (option_and_then places_of (option_and_then as_array (get (codes "path") json))) (User user) tab.2 in
    let event = mapped (λ name. user_step tab.0 path.0 name) (option_and_then event_name (text_at (codes "event") json)) (User user) path.2 in
    let name = bound event_name (text_at (codes "event") json) event.0 event.1 in
    let is : event.0 ≡ user.event = event-of (User user) user refl tab.0 path.0 event.0 (sym event.2) in
    subst (λ (x : List ℕ). length (encode_utf8_all x) ≤ 2 ^ 24) is (name-short name.0 event.0 name.2)

by-short : (opened is_open_word is_user is_flow : Bool) (json : Data) (user : UserStep)
    → (if is_open_word then open_of opened json else if is_user then user_of json else if is_flow then flow_of json else None) ≡ Some (User user) → length (encode_utf8_all user.event) ≤ 2 ^ 24
by-short opened true is_user is_flow json user e = absurd (no-open opened json user e)
by-short opened false true is_flow json user e = user-short json user e
by-short opened false false true json user e = absurd (no-flow json user e)
by-short opened false false false json user e = absurd (cc)

step-short : (opened : Bool) (json : Data) (step : Step) → step_of opened json ≡ Some step → HasShortName step
step-short opened json (Open tab) e = tt
step-short opened json (Flow count) e = tt
step-short opened json (User user) e =
    let word = bound (step_by opened json) (text_at (codes "do") json) (User user) e in
    by-short opened (bytes_eq word.0 (codes "open")) (bytes_eq word.0 (codes "user")) (bytes_eq word.0 (codes "flow")) json user word.2

behind-short : (step : Step) (rest : Result (List Step) ℕ) (steps : List Step) → HasShortName step → ((more : List Step) → rest ≡ Ok more → Every HasShortName more)
    → before_steps step rest ≡ Ok steps → Every HasShortName steps
behind-short step (Ok more) steps short all e =
    let is : step ∷ more ≡ steps = cc in
    subst (Every HasShortName) is (short, all more refl)
behind-short step (Err number) steps short all e = absurd (cc)

with-short : (number : ℕ) (found : Option Step) (rest : Step → Result (List Step) ℕ) (steps : List Step) → ((step : Step) → found ≡ Some step → HasShortName step)
    → ((step : Step) (more : List Step) → rest step ≡ Ok more → Every HasShortName more)
    → with_step number found (λ step. before_steps step (rest step)) ≡ Ok steps → Every HasShortName steps
with-short number None rest steps short all e = absurd (cc)
with-short number (Some step) rest steps short all e = behind-short step (rest step) steps (short step refl) (all step) e

steps-short : (number : ℕ) (opened : Bool) (items : Items) (steps : List Step) → steps_from number opened items ≡ Ok steps → Every HasShortName steps
steps-short number opened no_items steps e = let is : [] ≡ steps = cc in subst (Every HasShortName) is tt
steps-short number opened (item json items) steps e =
    with-short number (step_of opened json) (λ step. steps_from (number + 1) (opened || is_open step) items) steps (step-short opened json)
    (λ step more. steps-short (number + 1) (opened || is_open step) items more) e

-- the whole schedule

few-bounds : (outline : Outline) (steps : List Step) (few : Bool) → nat_le (weights steps) 100000 ≡ few → (schedule : Schedule) → Every HasShortName steps
    → (1 ≤ outline.window) × (outline.window ≤ 64)
    → (let made : Schedule = record { window = outline.window; retain = outline.retain; steps = steps } in let read : Result Schedule ScheduleFault = if few then Ok made else Err fault.TooMany in read ≡ Ok schedule)
    → IsSchedule schedule
few-bounds outline steps true test schedule short limits e =
    let made : Schedule = record { window = outline.window; retain = outline.retain; steps = steps } in
    let is : made ≡ schedule = cc in
    let kept : IsSchedule made = record { window_from = limits.0; window_to = limits.1; few = leb-true _ _ test; names = short } in
    subst IsSchedule is kept
few-bounds outline steps false test schedule short limits e = absurd (cc)

with-bounds : (outline : Outline) (read : Result (List Step) ℕ) (schedule : Schedule) → ((steps : List Step) → read ≡ Ok steps → Every HasShortName steps)
    → (1 ≤ outline.window) × (outline.window ≤ 64) → schedule_with outline read ≡ Ok schedule → IsSchedule schedule
with-bounds outline (Err number) schedule short limits e = absurd (cc)
with-bounds outline (Ok steps) schedule short limits e = few-bounds outline steps (nat_le (weights steps) 100000) refl schedule (short steps refl) limits e

from-bounds : (found : Option Outline) (schedule : Schedule) → ((outline : Outline) → found ≡ Some outline → (1 ≤ outline.window) × (outline.window ≤ 64))
    → schedule_from found ≡ Ok schedule → IsSchedule schedule
from-bounds None schedule limits e = absurd (cc)
from-bounds (Some outline) schedule limits e = with-bounds outline (steps_from 1 false outline.steps) schedule (steps-short 1 false outline.steps) (limits outline refl) e

pub schedule-bounds : (bytes : List ℕ) (schedule : Schedule) → schedule_of bytes ≡ Ok schedule → IsSchedule schedule
schedule-bounds bytes schedule e = from-bounds (option_and_then outline_of (json_of bytes)) schedule
    (λ outline found. let json = bound outline_of (json_of bytes) outline found in outline-bounds json.0 outline json.2) e

-- what a reading answers
pub given-bounds : (given : Result Schedule ScheduleFault) (outline : Outline) (json : Data) → Some outline ≡ outline_of json → Gives given (schedule_from (Some outline)) → IfOk given IsSchedule
given-bounds (Ok schedule) outline json found gives =
    from-bounds (Some outline) schedule (λ other is. let same_outline : outline ≡ other = same outline other is in outline-bounds json other (sym found ∙ ap Some same_outline)) (sym gives)
given-bounds (Err fault) outline json found gives = tt
