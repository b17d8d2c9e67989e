-- How the parts of the program answer: with what was asked for, or with a refusal.
use Rattle.std.specs.Prelude.{◌≡◌, ℕ, List, [], ◌∷◌, Result, Ok, Err, ⊤}
use Rattle.outside.specs.declared.files.FileRead.{FileRead}
use Rattle.outside.specs.declared.files.FileRead.TheVariants as read
use Rattle.first_click.specs.declared.component.Component.{Component}
use Rattle.component_files.specs.declared.files.SourceFile.{SourceFile}
use Rattle.schedule_replay.specs.Schedule.{schedule_of}
use Rattle.schedule_replay.specs.declared.schedule.Schedule.{Schedule}
use Rattle.schedule_replay.specs.declared.schedule.ScheduleFault.TheVariants as fault
use Rattle.schedule_replay.specs.Every.{Every}
use Rattle.blazor_top.specs.declared.command.Command.{Command}
use Rattle.blazor_top.specs.declared.command.Command.TheVariants.{Ask, Replay}
use Rattle.blazor_top.specs.declared.command.Question.{Question}
use Rattle.blazor_top.specs.declared.refusal.Stop.{Stop}
use Rattle.blazor_top.specs.declared.refusal.Stop.TheVariants as stop
use Rattle.blazor_top.specs.declared.status.Status.{Status}
use Rattle.blazor_top.specs.declared.status.Status.TheVariants as status
use Rattle.blazor_top.specs.Program.{FileSpells, SpellsNone, HasComponent, HasSchedule, RefusedAt, program_of}
use Rattle.blazor_top.specs.Reading.{Contents, Named, Holds, IsThere, Lacks, Exceeds, FirstSuch, files_of, schedule_file}
use Rattle.blazor_top.specs.Asking.{Answered, Declined, IsNotTaken}
use Rattle.blazor_top.specs.Checking.{AreHeld, IsRefusedFor}
use Rattle.blazor_top.specs.Lines.{refused_line, missing_line, unread_line, too_large_line}
use Rattle.blazor_top.specs.Reply.{Unscheduled}
use Rattle.blazor_top.specs.Transcript.{IsTranscriptOf}

-- this holds of the refusal, if it is one
abbrev pub OnStop : Stop → (Status → List ℕ → Type 0) → Type 0
OnStop (stop.Refused refusal) P = P refusal.status refusal.line
OnStop stop.Oom P = ⊤

-- this holds of the refusal, where a call gives one
abbrev pub OnRefusal : {A : Type 0} → Result A Stop → (Status → List ℕ → Type 0) → Type 0
OnRefusal (Ok value) P = ⊤
OnRefusal (Err stop) P = OnStop stop P

-- the refusal with this status and this line, unless no memory was found for it
abbrev pub Refuses : Stop → Status → List ℕ → Type 0
Refuses (stop.Refused refusal) got line = (refusal.status ≡ got) × (refusal.line ≡ line)
Refuses stop.Oom got line = ⊤

-- what the reading of the file of this name answered is a refusal
abbrev pub AnswerStops : List ℕ → FileRead → Status → List ℕ → Type 0
AnswerStops name (read.Bytes bytes) got line = ⊥
AnswerStops name read.Missing got line = (got ≡ status.Missing) × (line ≡ missing_line name)
AnswerStops name read.TooLarge got line = (got ≡ status.TooLarge) × (line ≡ too_large_line name)
AnswerStops name read.Failed got line = (got ≡ status.Unread) × (line ≡ unread_line name)
AnswerStops name read.Oom got line = ⊥

-- why a file stops the reading; rose: the faults of the files rose
abbrev pub StopsAt : Contents → Type 0 → Status → Named → List ℕ → Type 0
StopsAt held rose status.Done file line = ⊥
StopsAt held rose status.Refused file line = ⊥
StopsAt held rose status.Usage file line = ⊥
StopsAt held rose status.Unscheduled file line = ⊥
StopsAt held rose status.Missing file line = Lacks held file × (line ≡ missing_line file.name)
StopsAt held rose status.Unread file line = rose × (line ≡ unread_line file.name)
StopsAt held rose status.TooLarge file line = Exceeds held file × (line ≡ too_large_line file.name)
StopsAt held rose status.Unwritten file line = ⊥
StopsAt held rose status.OutOfMemory file line = ⊥

-- the first of the files at which reading stops
abbrev pub Stopped : Contents → Type 0 → List Named → Status → List ℕ → Type 0
Stopped held rose files got line = (file : Named) × FirstSuch (IsThere held) (λ asked. StopsAt held rose got asked line) files file

-- a file of this name and these bytes is refused as a component
pub record NoComponent (name bytes : List ℕ) (got : Status) (line : List ℕ) : Type 0 where
  pub refused : got ≡ status.Refused
  pub is : line ≡ refused_line name
  pub not_spelled : SpellsNone name bytes

-- a file of this name and these bytes is refused as a schedule
pub data NoSchedule (name bytes : List ℕ) : Status → List ℕ → Type 0 where
  wrong : (line : List ℕ) → Unscheduled bytes line → NoSchedule name bytes status.Unscheduled line
  many : schedule_of bytes ≡ Err fault.TooMany → NoSchedule name bytes status.TooLarge (too_large_line name)

-- the bytes of a schedule and of the first file, which is the only one, lead to these lines
pub record Plays (root : List ℕ) (others : List (List ℕ)) (planned spelled : List ℕ) (lines : List (List ℕ)) : Type 0 where
  pub schedule : Schedule
  pub component : Component
  pub alone : others ≡ []
  pub is_schedule : schedule_of planned ≡ Ok schedule
  pub is_component : FileSpells root spelled component
  pub transcript : IsTranscriptOf component schedule lines

-- the bytes of a schedule of this name and of the first file, beside the others, are refused
pub data PlaysNot (name root : List ℕ) (planned spelled : List ℕ) : List (List ℕ) → Status → List ℕ → Type 0 where
  at_first : (others : List (List ℕ)) → SpellsNone root spelled → PlaysNot name root planned spelled others status.Refused (refused_line root)
  at_second : (other : List ℕ) (others : List (List ℕ)) (component : Component) → FileSpells root spelled component
      → PlaysNot name root planned spelled (other ∷ others) status.Refused (refused_line other)
  at_plan : (component : Component) (got : Status) (line : List ℕ) → FileSpells root spelled component → NoSchedule name planned got line
      → PlaysNot name root planned spelled [] got line

-- the files are refused as a program with this line
abbrev pub RefusesFor : List SourceFile → Status → List ℕ → Type 0
RefusesFor files got line = (got ≡ status.Refused) × IsRefusedFor files line

-- the files are a program that breaks no rule, and isn't taken so far, with this line
abbrev pub RefusesAsOther : List SourceFile → Status → List ℕ → Type 0
RefusesAsOther files got line = (got ≡ status.Refused) × IsNotTaken files line

-- the question has no answer of these files, with this line
abbrev pub Declines : Question → List SourceFile → Status → List ℕ → Type 0
Declines question files got line = (got ≡ status.Refused) × Declined question files line

-- what a command asks for
abbrev pub CommandOutput : Contents → Command → List (List ℕ) → Type 0
CommandOutput held (Ask question names) lines = (files : List SourceFile) × AreHeld held names files × Answered question files lines
CommandOutput held (Replay name root others) lines =
    (schedule : Schedule) × (component : Component) × (others ≡ []) × HasSchedule held name (Ok schedule) × HasComponent held root component
    × IsTranscriptOf component schedule lines

-- why a command is refused, with the status and the line; rose: the faults of the files rose
pub data CommandRefused (held : Contents) (rose : Type 0) : Command → Status → List ℕ → Type 0 where
  at_file : (command : Command) (got : Status) (line : List ℕ) → Stopped held rose (files_of command) got line → CommandRefused held rose command got line
  at_program : (command : Command) (file : List ℕ) → Every (IsThere held) (files_of command) → RefusedAt held (program_of command) file
      → CommandRefused held rose command status.Refused (refused_line file)
  at_question : (question : Question) (names : List (List ℕ)) (files : List SourceFile) (line : List ℕ) → AreHeld held names files → Declined question files line
      → CommandRefused held rose (Ask question names) status.Refused line
  at_schedule : (name root bytes : List ℕ) (component : Component) (got : Status) (line : List ℕ) → HasComponent held root component
      → Holds held (schedule_file name) bytes → NoSchedule name bytes got line → CommandRefused held rose (Replay name root []) got line
