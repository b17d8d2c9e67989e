-- Which bytes spell a schedule: a JSON object with the list `steps` and, if wanted, `window` and `retain`.
use Rattle.std.specs.Prelude.{◌≡◌, ◌≤◌, ℕ, ◌+◌, ◌^◌, ◌-◌, Bool, true, false, ◌&&◌, ◌||◌, ◌==◌, not, nat_le, List, [], ◌∷◌, ◌++◌, length, map, sum, codes, Option, Some, None, option_and_then, option_map, Result, Ok, Err, if◌then◌else◌}
use Rattle.std.specs.Str.{chars, encode_utf8_all, is_utf8, bytes_eq}
use Rattle.serde_json.specs.Data.{Data, Items, no_items, item, Members, no_members, member}
use Rattle.serde_json.specs.Find.{get, as_number, as_u64, as_str, as_array, as_object}
use Rattle.serde_json.specs.Read.{read}
use Rattle.schedule_replay.specs.Every.{Every}
use Rattle.schedule_replay.specs.declared.schedule.Schedule.{Schedule}
use Rattle.schedule_replay.specs.declared.schedule.ScheduleFault.{ScheduleFault}
use Rattle.schedule_replay.specs.declared.schedule.ScheduleFault.TheVariants as fault
use Rattle.schedule_replay.specs.declared.schedule.Step.{Step as Steps}
use Rattle.schedule_replay.specs.declared.schedule.Step.TheVariants.{Open, User, Flow}

-- the JSON that bytes are
abbrev pub json_of : List ℕ → Option Data
json_of bytes = if is_utf8 bytes then read bytes else None

-- how many members an object has
abbrev pub count : Members → ℕ
count no_members = 0
count (member key json members) = 1 + count members

-- an object with just so many members
abbrev pub has_size : ℕ → Option Members → Bool
has_size size None = false
has_size size (Some members) = count members == size

-- a whole number within these bounds
abbrev pub within : ℕ → ℕ → ℕ → Option ℕ
within low high number = if nat_le low number && nat_le number high then Some number else None

abbrev pub whole : ℕ → ℕ → Data → Option ℕ
whole low high json = option_and_then (within low high) (option_and_then as_u64 (as_number json))

-- such a number as the member of this key
abbrev pub whole_at : ℕ → ℕ → List ℕ → Data → Option ℕ
whole_at low high key json = option_and_then (whole low high) (get key json)

-- the text that is the member of this key
abbrev pub text_at : List ℕ → Data → Option (List ℕ)
text_at key json = option_and_then as_str (get key json)

-- the places of a path, each below 2 ^ 32
abbrev pub places_of : Items → Option (List ℕ)
places_of no_items = Some []
places_of (item json items) = option_and_then (λ place. option_map (λ places. place ∷ places) (places_of items)) (whole 0 (2 ^ 32 - 1) json)

-- an event's name has at most 2 ^ 24 bytes
abbrev pub event_name : List ℕ → Option (List ℕ)
event_name bytes = if nat_le (length (encode_utf8_all (chars bytes))) (2 ^ 24) then Some (chars bytes) else None

-- `open` of tab 0, if it was not opened before
abbrev pub open_of : Bool → Data → Option Steps
open_of opened json = if not opened && has_size 2 (as_object json) then option_map Open (whole_at 0 0 (codes "tab") json) else None

-- `user` of tab 0, with a path and an event
abbrev pub user_step : ℕ → List ℕ → List ℕ → Steps
user_step tab path event = User (record { tab = tab; path = path; event = event })

abbrev pub user_of : Data → Option Steps
user_of json =
    if has_size 4 (as_object json)
    then option_and_then (λ tab. option_and_then (λ path. option_map (λ event. user_step tab path event)
    (option_and_then event_name (text_at (codes "event") json)))
    (option_and_then places_of (option_and_then as_array (get (codes "path") json))))
    (whole_at 0 0 (codes "tab") json)
    else None

-- `flow` of 1 to 1000 messages
abbrev pub flow_of : Data → Option Steps
flow_of json = if has_size 2 (as_object json) then option_map Flow (whole_at 1 1000 (codes "count") json) else None

-- a step, by its word
abbrev pub step_by : Bool → Data → List ℕ → Option Steps
step_by opened json word =
    if bytes_eq word (codes "open") then open_of opened json
    else if bytes_eq word (codes "user") then user_of json
    else if bytes_eq word (codes "flow") then flow_of json
    else None

abbrev pub step_of : Bool → Data → Option Steps
step_of opened json = option_and_then (step_by opened json) (text_at (codes "do") json)

abbrev pub is_open : Steps → Bool
is_open (Open tab) = true
is_open (User step) = false
is_open (Flow count) = false

-- the steps, or the number of the first that is none
abbrev pub with_step : ℕ → Option Steps → (Steps → Result (List Steps) ℕ) → Result (List Steps) ℕ
with_step number None rest = Err number
with_step number (Some step) rest = rest step

abbrev pub before_steps : Steps → Result (List Steps) ℕ → Result (List Steps) ℕ
before_steps step (Ok steps) = Ok (step ∷ steps)
before_steps step (Err number) = Err number

abbrev pub steps_from : ℕ → Bool → Items → Result (List Steps) ℕ
steps_from number opened no_items = Ok []
steps_from number opened (item json items) =
    with_step number (step_of opened json) (λ step. before_steps step (steps_from (number + 1) (opened || is_open step) items))

-- steps before those that are read behind them
abbrev pub behind_steps : List Steps → Result (List Steps) ℕ → Result (List Steps) ℕ
behind_steps front (Ok steps) = Ok (front ++ steps)
behind_steps front (Err number) = Err number

-- how many atomic steps a step may be
abbrev pub weight : Steps → ℕ
weight (Open tab) = 1
weight (User step) = 1
weight (Flow count) = count

abbrev pub weights : List Steps → ℕ
weights steps = sum (map weight steps)

-- a member that may be absent: a number from 1 to the highest, or the default
abbrev pub limit_of : ℕ → ℕ → Option Data → Option ℕ
limit_of high default None = Some default
limit_of high default (Some json) = whole 1 high json

abbrev pub presence : Option Data → ℕ
presence None = 0
presence (Some json) = 1

-- the object has these keys and no other
abbrev pub has_keys : Data → Bool
has_keys json = has_size (1 + presence (get (codes "window") json) + presence (get (codes "retain") json)) (as_object json)

-- the window, the number of circuits to retain, and the list of steps
pub record Outline : Type 0 where
  pub window : ℕ
  pub retain : ℕ
  pub steps : Items

abbrev pub outline_of : Data → Option Outline
outline_of json =
    if has_keys json
    then option_and_then (λ window. option_and_then (λ retain. option_map (λ steps. record { window = window; retain = retain; steps = steps })
    (option_and_then as_array (get (codes "steps") json)))
    (limit_of 100 100 (get (codes "retain") json)))
    (limit_of 64 10 (get (codes "window") json))
    else None

-- a schedule with these steps, of at most 100,000 atomic steps
abbrev pub schedule_with : Outline → Result (List Steps) ℕ → Result Schedule ScheduleFault
schedule_with outline (Err number) = Err (fault.Step number)
schedule_with outline (Ok steps) =
    if nat_le (weights steps) 100000 then Ok (record { window = outline.window; retain = outline.retain; steps = steps }) else Err fault.TooMany

abbrev pub schedule_from : Option Outline → Result Schedule ScheduleFault
schedule_from None = Err fault.Unread
schedule_from (Some outline) = schedule_with outline (steps_from 1 false outline.steps)

-- the schedule that bytes spell, or the first thing that is wrong with them
abbrev pub schedule_of : List ℕ → Result Schedule ScheduleFault
schedule_of bytes = schedule_from (option_and_then outline_of (json_of bytes))

-- a call gave this, or memory ran out
abbrev pub Gives : Result Schedule ScheduleFault → Result Schedule ScheduleFault → Type 0
Gives (Err fault.Oom) means = Unit {0}
Gives given means = given ≡ means

-- the name of an event is short enough for a message
abbrev pub HasShortName : Steps → Type 0
HasShortName (Open tab) = Unit {0}
HasShortName (User step) = length (encode_utf8_all step.event) ≤ 2 ^ 24
HasShortName (Flow count) = Unit {0}

-- what every schedule that bytes spell keeps to
pub record IsSchedule (schedule : Schedule) : Type 0 where
  pub window_from : 1 ≤ schedule.window
  pub window_to : schedule.window ≤ 64
  pub few : weights schedule.steps ≤ 100000
  pub names : Every HasShortName schedule.steps
