-- Refusals, and what a file that can't be read makes of the words.
use Rattle.std.proofs.Common.{◌≡◌, ◌≤◌, ℕ, List, [], ◌∷◌, ◌++◌, take, drop, Some, None, Result, Ok, Err, refl, sym, subst, ap, ◌∙◌, arith}
use Rattle.std.specs.Prelude.{map, get_or, slice_get, length, suc, ◌<◌, IsErrAnd}
use Rattle.std.proofs.lemmas.List.{map-append}
use Rattle.outside.specs.declared.files.FileRead.{FileRead}
use Rattle.outside.specs.declared.files.FileRead.TheVariants as read
use Rattle.outside.specs.Faults.{Rose}
use Rattle.outside.specs.Files.{Answers, OnFailed}
use Rattle.schedule_replay.specs.Every.{Every}
use Rattle.blazor_top.specs.declared.refusal.Stop.{Stop}
use Rattle.blazor_top.specs.declared.refusal.Stop.TheVariants as stop
use Rattle.blazor_top.specs.declared.status.Status.{Status}
use Rattle.blazor_top.specs.declared.status.Status.TheVariants as status
use Rattle.blazor_top.specs.Reading.{Contents, Named, named, component_file, IsThere, FirstSuch, here, behind}
use Rattle.blazor_top.specs.Program.{FileSpells}
use Rattle.first_click.specs.declared.component.Component.{Component}
use Rattle.first_click.proofs.OptionLemmas.{some_is, some_none}
use Rattle.blazor_top.specs.Lines.{refused_line}
use Rattle.blazor_top.proofs.PlaceLemmas.{at_place}
use Rattle.blazor_top.specs.Stopping.{OnStop, OnRefusal, Refuses, AnswerStops, StopsAt, Stopped, NoComponent, NoSchedule, PlaysNot, at_first, at_second, at_plan}

-- a refusal of this status and line
pub on_refuses : (s : Stop) (want : Status) (line : List ℕ) (P : Status → List ℕ → Type 0) → Refuses s want line → P want line → OnStop s P
on_refuses (stop.Refused refusal) want line P refuses holds =
    subst (λ (l : List ℕ). P refusal.status l) (sym refuses.1) (subst (λ (s : Status). P s line) (sym refuses.0) holds)
on_refuses stop.Oom want line P refuses holds = tt

-- what holds of a refusal, by another that holds of it
pub on_stop-map : (s : Stop) (P Q : Status → List ℕ → Type 0) → ((got : Status) (line : List ℕ) → P got line → Q got line) → OnStop s P → OnStop s Q
on_stop-map (stop.Refused refusal) P Q step holds = step refusal.status refusal.line holds
on_stop-map stop.Oom P Q step holds = tt

pub on_result-map : {A : Type 0} (r : Result A Stop) (P Q : Status → List ℕ → Type 0) → ((got : Status) (line : List ℕ) → P got line → Q got line)
    → OnRefusal r P → OnRefusal r Q
on_result-map (Ok value) P Q step holds = tt
on_result-map (Err e) P Q step holds = on_stop-map e P Q step holds

-- the same, handed on by another call
pub handed_on : {A : Type 0} (r : Result A Stop) (s : Stop) (P Q : Status → List ℕ → Type 0) → IsErrAnd r (λ e. e ≡ s) → ((got : Status) (line : List ℕ) → P got line → Q got line)
    → OnStop s P → OnRefusal r Q
handed_on (Ok value) s P Q same step holds = tt
handed_on (Err e) s P Q same step holds = on_stop-map e P Q step (subst (λ x. OnStop x P) (sym same) holds)

-- a count that rose in a part rose in the whole
pub rose-later : (first second third : ℕ) → Rose first second → second ≤ third → Rose first third
rose-later first second third rose later = omega (arith, rose, later)

pub rose-earlier : (first second third : ℕ) → first ≤ second → Rose second third → Rose first third
rose-earlier first second third earlier rose = omega (arith, earlier, rose)

module _ (held : Contents) where
  at_status : (rose : Type 0) (want got : Status) (file : Named) (line : List ℕ) → got ≡ want → StopsAt held rose want file line → StopsAt held rose got file line
  at_status rose want got file line same stops = subst (λ (s : Status). StopsAt held rose s file line) (sym same) stops

  -- the same, where the faults rose for another reason
  pub stops-map : (rose more : Type 0) (got : Status) (file : Named) (line : List ℕ) → (rose → more) → StopsAt held rose got file line → StopsAt held more got file line
  stops-map rose more status.Done file line step stops = absurd stops
  stops-map rose more status.Refused file line step stops = absurd stops
  stops-map rose more status.Usage file line step stops = absurd stops
  stops-map rose more status.Unscheduled file line step stops = absurd stops
  stops-map rose more status.Missing file line step stops = stops
  stops-map rose more status.Unread file line step stops = (step stops.0, stops.1)
  stops-map rose more status.TooLarge file line step stops = stops
  stops-map rose more status.Unwritten file line step stops = absurd stops
  stops-map rose more status.OutOfMemory file line step stops = absurd stops

  -- the first file is the one at which reading stops
  pub stopped-here : (rose : Type 0) (file : Named) (files : List Named) (got : Status) (line : List ℕ) → StopsAt held rose got file line → Stopped held rose (file ∷ files) got line
  stopped-here rose file files got line stops = (file, here file files stops)

  -- it is there, and reading stops behind it
  pub stopped-behind : (rose : Type 0) (other : Named) (files : List Named) (got : Status) (line : List ℕ) → IsThere held other → Stopped held rose files got line
      → Stopped held rose (other ∷ files) got line
  stopped-behind rose other files got line there stops = (stops.0, behind other stops.0 files there stops.1)

  pub stopped-after : (rose : Type 0) (front files : List Named) (got : Status) (line : List ℕ) → Every (IsThere held) front → Stopped held rose files got line
      → Stopped held rose (front ++ files) got line
  stopped-after rose [] files got line there stops = stops
  stopped-after rose (other ∷ front) files got line there stops =
      stopped-behind rose other (front ++ files) got line there.0 (stopped-after rose front files got line there.1 stops)

  first-map : (P Q : Named → Type 0) (files : List Named) (file : Named) → ((asked : Named) → P asked → Q asked) → FirstSuch (IsThere held) P files file → FirstSuch (IsThere held) Q files file
  first-map P Q _ _ step (here file files such) = here file files (step file such)
  first-map P Q _ _ step (behind other file files there first) = behind other file files there (first-map P Q files file step first)

  pub stopped-map : (rose more : Type 0) (files : List Named) (got : Status) (line : List ℕ) → (rose → more) → Stopped held rose files got line → Stopped held more files got line
  stopped-map rose more files got line step stops = (
    stops.0,
    first-map (λ asked. StopsAt held rose got asked line) (λ asked. StopsAt held more got asked line) files stops.0
        (λ asked. stops-map rose more got asked line step) stops.1,
  )

  pub every-push : (files : List Named) (file : Named) → Every (IsThere held) files → IsThere held file → Every (IsThere held) (files ++ file ∷ [])
  every-push [] file there more = (more, tt)
  every-push (other ∷ files) file there more = (there.0, every-push files file there.1 more)

-- what the reading of a file answered is why it stops
pub stops : (held : Contents) (rose : Type 0) (name : List ℕ) (limit : ℕ) (answer : FileRead) (got : Status) (line : List ℕ)
    → Answers held name limit answer → OnFailed answer rose → AnswerStops name answer got line → StopsAt held rose got (named name limit) line
stops held rose name limit (read.Bytes v) got line a f s = absurd s
stops (Some file) rose name limit read.Missing got line a f s = at_status (Some file) rose status.Missing got (named name limit) line s.0 (a, s.1)
stops None rose name limit read.Missing got line a f s = at_status None rose status.Missing got (named name limit) line s.0 (a, s.1)
stops (Some file) rose name limit read.TooLarge got line a f s = at_status (Some file) rose status.TooLarge got (named name limit) line s.0 (a, s.1)
stops None rose name limit read.TooLarge got line a f s = at_status None rose status.TooLarge got (named name limit) line s.0 (a, s.1)
stops held rose name limit read.Failed got line a f s = at_status held rose status.Unread got (named name limit) line s.0 (f, s.1)
stops held rose name limit read.Oom got line a f s = absurd s

-- reading stopped in a later part
pub stopped_later : (held middle : Contents) (first second third : ℕ) (files : List Named) (got : Status) (line : List ℕ) → middle ≡ held → first ≤ second
    → Stopped middle (Rose second third) files got line → Stopped held (Rose first third) files got line
stopped_later held middle first second third files got line same earlier stops =
    stopped-map held (Rose second third) (Rose first third) files got line (rose-earlier first second third earlier)
    (subst (λ (h : Contents). Stopped h (Rose second third) files got line) same stops)

-- reading stopped at this place
pub stopped_at : (held middle : Contents) (first second third : ℕ) (names : List (List ℕ)) (i : ℕ) (name : List ℕ) → middle ≡ held → first ≤ second
    → Every (IsThere held) (map component_file (take i names)) → i < length names → name ≡ get_or names i name
    → (got : Status) (line : List ℕ) → StopsAt middle (Rose second third) got (component_file name) line → Stopped held (Rose first third) (map component_file names) got line
stopped_at held middle first second third names i name same earlier there within is got line stops =
    let files : List Named = component_file name ∷ map component_file (drop (suc i) names) in
    let parts : map component_file names ≡ map component_file (take i names) ++ files =
    ap (map component_file) (at_place names i name within is) ∙ map-append component_file (take i names) (name ∷ drop (suc i) names) in
    let now : Stopped held (Rose first third) files got line =
    stopped_later held middle first second third files got line same earlier
    (stopped-here middle (Rose second third) (component_file name) (map component_file (drop (suc i) names)) got line stops) in
    subst (λ (fs : List Named). Stopped held (Rose first third) fs got line) (sym parts)
    (stopped-after held (Rose first third) (map component_file (take i names)) files got line there now)

-- a program is refused at its first file
pub plays_none : (name root planned spelled : List ℕ) (others : List (List ℕ)) (got : Status) (line : List ℕ) → NoComponent root spelled got line
    → PlaysNot name root planned spelled others got line
plays_none name root planned spelled others got line none =
    subst (λ (s : Status). PlaysNot name root planned spelled others s line) (sym none.refused)
    (subst (PlaysNot name root planned spelled others status.Refused) (sym none.is) (at_first others none.not_spelled))

none_some : {A : Type 0} (x : A) → None ≡ Some x → ⊥
none_some x e = cc

-- or at its second
pub plays_one : (name root planned spelled : List ℕ) (others : List (List ℕ)) (other : List ℕ) (component : Component) → slice_get others 0 ≡ Some other
    → FileSpells root spelled component → PlaysNot name root planned spelled others status.Refused (refused_line other)
plays_one name root planned spelled [] other component at spells = absurd (none_some other at)
plays_one name root planned spelled (second ∷ others) other component at spells =
    subst (λ (n : List ℕ). PlaysNot name root planned spelled (second ∷ others) status.Refused (refused_line n)) (some_is second other at)
    (at_second second others component spells)

-- nothing stands at the first place of none alone
pub none_at : (others : List (List ℕ)) → slice_get others 0 ≡ None → others ≡ []
none_at [] at = refl
none_at (other ∷ others) at = absurd (some_none other at)

-- or at its schedule
pub plays_not : (name root planned spelled : List ℕ) (others : List (List ℕ)) (component : Component) → others ≡ [] → FileSpells root spelled component
    → (got : Status) (line : List ℕ) → NoSchedule name planned got line → PlaysNot name root planned spelled others got line
plays_not name root planned spelled others component none spells got line wrong =
    subst (λ (o : List (List ℕ)). PlaysNot name root planned spelled o got line) (sym none) (at_plan component got line spells wrong)
