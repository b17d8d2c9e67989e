-- How a run ends: what each status says of the words, of what files hold, and of what a sink tells before and after.
use Rattle.std.specs.Prelude.{◌≡◌, ℕ, List, [], Option, Some, ◌⊎◌, Ok, encode_utf8_all}
use Rattle.outside.specs.Sink.{Adds}
use Rattle.outside.specs.Writing.{AddsFront}
use Rattle.first_click.specs.declared.component.Component.{Component}
use Rattle.component_files.specs.declared.files.SourceFile.{SourceFile}
use Rattle.schedule_replay.specs.declared.schedule.Schedule.{Schedule}
use Rattle.schedule_replay.specs.Line.Transcript.{lines_text}
use Rattle.blazor_top.specs.declared.command.Command.{Command}
use Rattle.blazor_top.specs.declared.command.Command.TheVariants.{Ask, Replay}
use Rattle.blazor_top.specs.declared.status.Status.{Status}
use Rattle.blazor_top.specs.declared.status.Status.TheVariants.{Unwritten, OutOfMemory}
use Rattle.blazor_top.specs.Command.{command_of}
use Rattle.blazor_top.specs.Program.{HasComponent, HasSchedule}
use Rattle.blazor_top.specs.Reading.{Contents}
use Rattle.blazor_top.specs.Asking.{AreAnswerable}
use Rattle.blazor_top.specs.Checking.{AreHeld}
use Rattle.blazor_top.specs.Reply.{Replies}
use Rattle.blazor_top.specs.Status.{code_of}

-- the bytes that a sink tells
abbrev pub Told : Type 0
Told = Option (List ℕ)

-- lines, each with its end, in bytes
abbrev pub lines_bytes : List (List ℕ) → List ℕ
lines_bytes lines = encode_utf8_all (lines_text lines)

-- lines of this kind were written
abbrev pub Wrote : Told → Told → (List (List ℕ) → Type 0) → Type 0
Wrote old new Kind = (lines : List (List ℕ)) × Kind lines × Adds old new (lines_bytes lines)

-- a front of lines of this kind was written, but not all of them
abbrev pub CutOff : Told → Told → (List (List ℕ) → Type 0) → Type 0
CutOff old new Kind = (lines : List (List ℕ)) × Kind lines × AddsFront old new (lines_bytes lines)

-- the lines belong to these words, with some status
abbrev pub IsReply : List (List ℕ) → Contents → Type 0 → List (List ℕ) → Type 0
IsReply words held rose lines = (status : Status) × Replies words held rose status lines

-- what each status says; rose and faulted: the faults of the files and of the sink rose
abbrev pub Says : List (List ℕ) → Contents → Type 0 → Told → Told → Type 0 → Status → Type 0
Says words held rose old new faulted Unwritten = CutOff old new (IsReply words held rose) × faulted
Says words held rose old new faulted OutOfMemory = CutOff old new (IsReply words held rose) ⊎ (new ≡ old)
Says words held rose old new faulted status = Wrote old new (Replies words held rose status)

-- the number is that of a status
abbrev pub IsStatus : ℕ → Type 0
IsStatus number = (status : Status) × (number ≡ code_of status)

-- the files that a command names are there and accepted: what is asked of them has an answer; or they spell a schedule and one component of the first-click form
abbrev pub AreAccepted : Contents → Command → Type 0
AreAccepted held (Ask question names) = (files : List SourceFile) × AreHeld held names files × AreAnswerable question files
AreAccepted held (Replay name root others) =
    (others ≡ []) × ((schedule : Schedule) × HasSchedule held name (Ok schedule)) × ((component : Component) × HasComponent held root component)

-- the words ask for a command, and its files are told and accepted
pub record IsAccepted (words : List (List ℕ)) (held : Contents) : Type 0 where
  pub command : Command
  pub file : List ℕ → Option (List ℕ)
  pub asked : command_of words ≡ Some command
  pub told : held ≡ Some file
  pub accepted : AreAccepted (Some file) command

-- the writing of lines with this status ended with that one
pub data Finishes (status : Status) (lines : List (List ℕ)) (old new : Told) (faulted : Type 0) : Status → Type 0 where
  whole : Adds old new (lines_bytes lines) → Finishes status lines old new faulted status
  stopped : AddsFront old new (lines_bytes lines) → faulted → Finishes status lines old new faulted Unwritten
  no_memory : AddsFront old new (lines_bytes lines) → Finishes status lines old new faulted OutOfMemory
