-- What the files that a command names spell.
use Rattle.std.specs.Prelude.{◌≡◌, ℕ, List, [], ◌∷◌, encode_utf8_all, Result}
use Rattle.first_click.specs.declared.component.Component.{Component}
use Rattle.first_click.specs.Component.{Spells}
use Rattle.schedule_replay.specs.declared.schedule.Schedule.{Schedule}
use Rattle.schedule_replay.specs.declared.schedule.ScheduleFault.{ScheduleFault}
use Rattle.schedule_replay.specs.Schedule.{schedule_of}
use Rattle.blazor_top.specs.declared.command.Command.{Command}
use Rattle.blazor_top.specs.declared.command.Command.TheVariants.{Ask, Replay}
use Rattle.blazor_top.specs.Reading.{Contents, Holds, component_file, schedule_file}

-- a file of this name and these bytes spells the component
abbrev pub FileSpells : List ℕ → List ℕ → Component → Type 0
FileSpells name bytes component = Spells (encode_utf8_all name) bytes component

-- a file of this name and these bytes spells no component
abbrev pub SpellsNone : List ℕ → List ℕ → Type 0
SpellsNone name bytes = (component : Component) → FileSpells name bytes component → ⊥

-- the file of this name is there, and spells the component
pub record HasComponent (held : Contents) (name : List ℕ) (component : Component) : Type 0 where
  pub bytes : List ℕ
  pub there : Holds held (component_file name) bytes
  pub spelled : FileSpells name bytes component

-- the file of this name is there, and spells no component
pub record HasNoComponent (held : Contents) (name : List ℕ) : Type 0 where
  pub bytes : List ℕ
  pub there : Holds held (component_file name) bytes
  pub not_spelled : SpellsNone name bytes

-- the file of this name is there, and its bytes spell the schedule, or this is the first thing that is wrong with them
pub record HasSchedule (held : Contents) (name : List ℕ) (found : Result Schedule ScheduleFault) : Type 0 where
  pub bytes : List ℕ
  pub there : Holds held (schedule_file name) bytes
  pub is : schedule_of bytes ≡ found

-- the files of a command that are to spell components of the first-click form, as a replay takes them so far
abbrev pub program_of : Command → List (List ℕ)
program_of (Ask question files) = []
program_of (Replay schedule root others) = root ∷ others

-- the file at which a program is refused: the first where it spells no component, else the second, for a program is one component so far
pub data RefusedAt (held : Contents) : List (List ℕ) → List ℕ → Type 0 where
  first : (name : List ℕ) (others : List (List ℕ)) → HasNoComponent held name → RefusedAt held (name ∷ others) name
  second : (name other : List ℕ) (others : List (List ℕ)) (component : Component) → HasComponent held name component
      → RefusedAt held (name ∷ other ∷ others) other
