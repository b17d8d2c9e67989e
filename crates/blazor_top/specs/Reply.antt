-- What the program is to write: lines, each of which gets its end.
use Rattle.std.specs.Prelude.{◌≡◌, ℕ, List, [], ◌∷◌, ◌++◌, codes, Some, None, ◌⊎◌, Ok, Err}
use Rattle.std.specs.Fmt.{decimal}
use Rattle.first_click.specs.declared.component.Component.{Component}
use Rattle.component_files.specs.declared.files.SourceFile.{SourceFile}
use Rattle.schedule_replay.specs.Every.{Every}
use Rattle.schedule_replay.specs.Schedule.{schedule_of}
use Rattle.schedule_replay.specs.declared.schedule.Schedule.{Schedule}
use Rattle.schedule_replay.specs.declared.schedule.ScheduleFault.TheVariants as fault
use Rattle.blazor_top.specs.declared.command.Command.{Command}
use Rattle.blazor_top.specs.declared.command.Command.TheVariants.{Ask, Replay}
use Rattle.blazor_top.specs.declared.command.Question.{Question}
use Rattle.blazor_top.specs.declared.status.Status.{Status}
use Rattle.blazor_top.specs.declared.status.Status.TheVariants as status
use Rattle.blazor_top.specs.Command.{command_of}
use Rattle.blazor_top.specs.Program.{HasComponent, HasSchedule, RefusedAt, program_of}
use Rattle.blazor_top.specs.Reading.{Contents, Named, Holds, IsThere, Lacks, Exceeds, FirstSuch, files_of, schedule_file}
use Rattle.blazor_top.specs.Asking.{Answered, Declined}
use Rattle.blazor_top.specs.Checking.{AreHeld}
use Rattle.blazor_top.specs.Lines.{usage_line, refused_line, missing_line, unread_line, too_large_line}
use Rattle.blazor_top.specs.Transcript.{IsTranscriptOf}

-- the bytes spell no schedule, and the line says what is wrong with them first
pub data Unscheduled (bytes : List ℕ) : List ℕ → Type 0 where
  unread : schedule_of bytes ≡ Err fault.Unread → Unscheduled bytes (codes "schedule unread")
  no_step : (number : ℕ) → schedule_of bytes ≡ Err (fault.Step number) → Unscheduled bytes (codes "schedule step " ++ decimal number)

-- the words ask for a replay, the files spell a schedule and one component, and the lines are the transcript
pub record IsReplayed (words : List (List ℕ)) (held : Contents) (lines : List (List ℕ)) : Type 0 where
  pub name : List ℕ
  pub root : List ℕ
  pub schedule : Schedule
  pub component : Component
  pub asked : command_of words ≡ Some (Replay name root [])
  pub planned : HasSchedule held name (Ok schedule)
  pub spelled : HasComponent held root component
  pub transcript : IsTranscriptOf component schedule lines

-- the words ask something of files that are there, and the lines are the answer
pub record IsAnswered (words : List (List ℕ)) (held : Contents) (lines : List (List ℕ)) : Type 0 where
  pub question : Question
  pub names : List (List ℕ)
  pub files : List SourceFile
  pub asked : command_of words ≡ Some (Ask question names)
  pub there : AreHeld held names files
  pub is : Answered question files lines

-- what the words ask for
abbrev pub IsOutput : List (List ℕ) → Contents → List (List ℕ) → Type 0
IsOutput words held lines = IsAnswered words held lines ⊎ IsReplayed words held lines

-- all files that the words name are there, and the program is none of the first-click form, by one of them
pub record IsNotYet (words : List (List ℕ)) (held : Contents) (lines : List (List ℕ)) : Type 0 where
  pub command : Command
  pub file : List ℕ
  pub asked : command_of words ≡ Some command
  pub there : Every (IsThere held) (files_of command)
  pub refused : RefusedAt held (program_of command) file
  pub is : lines ≡ refused_line file ∷ []

-- the words ask something of files that are there, and there is no answer
pub record IsDeclined (words : List (List ℕ)) (held : Contents) (lines : List (List ℕ)) : Type 0 where
  pub question : Question
  pub names : List (List ℕ)
  pub files : List SourceFile
  pub line : List ℕ
  pub asked : command_of words ≡ Some (Ask question names)
  pub there : AreHeld held names files
  pub refused : Declined question files line
  pub is : lines ≡ line ∷ []

-- the files are no program that is taken
abbrev pub IsRefusal : List (List ℕ) → Contents → List (List ℕ) → Type 0
IsRefusal words held lines = IsNotYet words held lines ⊎ IsDeclined words held lines

-- the words are no command
pub record IsUsage (words : List (List ℕ)) (lines : List (List ℕ)) : Type 0 where
  pub not_asked : command_of words ≡ None
  pub is : lines ≡ usage_line ∷ []

-- the words ask for a replay over one component, but the schedule's bytes spell none
pub record IsUnscheduled (words : List (List ℕ)) (held : Contents) (lines : List (List ℕ)) : Type 0 where
  pub name : List ℕ
  pub root : List ℕ
  pub component : Component
  pub bytes : List ℕ
  pub line : List ℕ
  pub asked : command_of words ≡ Some (Replay name root [])
  pub spelled : HasComponent held root component
  pub there : Holds held (schedule_file name) bytes
  pub wrong : Unscheduled bytes line
  pub is : lines ≡ line ∷ []

-- the first of the files that the words name, in their order, that is such, with the line about it: those before it are there
pub record IsStopped (words : List (List ℕ)) (held : Contents) (Such : Named → List ℕ → Type 0) (lines : List (List ℕ)) : Type 0 where
  pub command : Command
  pub file : Named
  pub line : List ℕ
  pub asked : command_of words ≡ Some command
  pub first : FirstSuch (IsThere held) (λ asked. Such asked line) (files_of command) file
  pub is : lines ≡ line ∷ []

-- the first file that the words name and that can't be read is not there
abbrev pub IsMissing : List (List ℕ) → Contents → List (List ℕ) → Type 0
IsMissing words held lines = IsStopped words held (λ file line. Lacks held file × (line ≡ missing_line file.name)) lines

-- it could not be read, and the faults of the files rose
abbrev pub IsUnread : List (List ℕ) → Contents → Type 0 → List (List ℕ) → Type 0
IsUnread words held rose lines = IsStopped words held (λ file line. rose × (line ≡ unread_line file.name)) lines

-- it is above its limit
abbrev pub IsLong : List (List ℕ) → Contents → List (List ℕ) → Type 0
IsLong words held lines = IsStopped words held (λ file line. Exceeds held file × (line ≡ too_large_line file.name)) lines

-- the words ask for a replay over one component, but the schedule has too many steps
pub record HasManySteps (words : List (List ℕ)) (held : Contents) (lines : List (List ℕ)) : Type 0 where
  pub name : List ℕ
  pub root : List ℕ
  pub component : Component
  pub asked : command_of words ≡ Some (Replay name root [])
  pub spelled : HasComponent held root component
  pub many : HasSchedule held name (Err fault.TooMany)
  pub is : lines ≡ too_large_line name ∷ []

abbrev pub IsTooLarge : List (List ℕ) → Contents → List (List ℕ) → Type 0
IsTooLarge words held lines = IsLong words held lines ⊎ HasManySteps words held lines

-- the lines belong to these words with this status; rose: the faults of the files rose
abbrev pub Replies : List (List ℕ) → Contents → Type 0 → Status → List (List ℕ) → Type 0
Replies words held rose status.Done lines = IsOutput words held lines
Replies words held rose status.Refused lines = IsRefusal words held lines
Replies words held rose status.Usage lines = IsUsage words lines
Replies words held rose status.Unscheduled lines = IsUnscheduled words held lines
Replies words held rose status.Missing lines = IsMissing words held lines
Replies words held rose status.Unread lines = IsUnread words held rose lines
Replies words held rose status.TooLarge lines = IsTooLarge words held lines
Replies words held rose status.Unwritten lines = ⊥
Replies words held rose status.OutOfMemory lines = ⊥
