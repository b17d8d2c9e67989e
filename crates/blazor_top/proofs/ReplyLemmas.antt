-- The answers of commands are the replies to the words.
use Rattle.std.proofs.Common.{◌≡◌, ℕ, List, [], ◌∷◌, Some, refl, sym, subst, inl, inr}
use Rattle.std.specs.Prelude.{map}
use Rattle.schedule_replay.specs.Every.{Every}
use Rattle.first_click.specs.declared.component.Component.{Component}
use Rattle.component_files.specs.declared.files.SourceFile.{SourceFile}
use Rattle.blazor_top.specs.declared.command.Command.{Command}
use Rattle.blazor_top.specs.declared.command.Command.TheVariants.{Ask, Replay}
use Rattle.blazor_top.specs.declared.command.Question.{Question}
use Rattle.blazor_top.specs.declared.status.Status.{Status}
use Rattle.blazor_top.specs.declared.status.Status.TheVariants as status
use Rattle.blazor_top.specs.Command.{command_of}
use Rattle.blazor_top.specs.Program.{HasComponent, HasNoComponent, first, second}
use Rattle.blazor_top.specs.Reading.{Contents, Named, Holds, IsThere, FirstSuch, here, behind, files_of, schedule_file, component_file}
use Rattle.blazor_top.specs.Checking.{AreHeld}
use Rattle.blazor_top.specs.Lines.{refused_line}
use Rattle.blazor_top.specs.Reply.{IsOutput, Replies}
use Rattle.blazor_top.specs.Stopping.{CommandOutput, CommandRefused, at_file, at_program, at_question, at_schedule, NoComponent, NoSchedule, wrong, many, PlaysNot, at_first, at_second, at_plan, Declines, StopsAt}

not_empty : (other : List ℕ) (others : List (List ℕ)) → other ∷ others ≡ [] → ⊥
not_empty other others e = cc

module _ (words : List (List ℕ)) (held : Contents) where
  pub is_output : (command : Command) (lines : List (List ℕ)) → command_of words ≡ Some command → CommandOutput held command lines → IsOutput words held lines
  is_output (Ask question names) lines asked out = inl (record { question = question; names = names; files = out.0; asked = asked; there = out.1; is = out.2 })
  is_output (Replay name root []) lines asked out =
      inr (record { name = name; root = root; schedule = out.0; component = out.1; asked = asked; planned = out.3; spelled = out.4; transcript = out.5 })
  is_output (Replay name root (other ∷ others)) lines asked out = absurd (not_empty other others out.2)

  -- there is no such file
  never_first : (files : List Named) (file : Named) → FirstSuch (IsThere held) (λ asked. ⊥) files file → ⊥
  never_first _ _ (here file files such) = such
  never_first _ _ (behind other file files there more) = never_first files file more

  of_file : (rose : Type 0) (command : Command) (file : Named) (got : Status) (line : List ℕ) → command_of words ≡ Some command
      → FirstSuch (IsThere held) (λ asked. StopsAt held rose got asked line) (files_of command) file → Replies words held rose got (line ∷ [])
  of_file rose command file status.Missing line asked at = record { command = command; file = file; line = line; asked = asked; first = at; is = refl }
  of_file rose command file status.Unread line asked at = record { command = command; file = file; line = line; asked = asked; first = at; is = refl }
  of_file rose command file status.TooLarge line asked at = inl (record { command = command; file = file; line = line; asked = asked; first = at; is = refl })
  of_file rose command file status.Done line asked at = absurd (never_first (files_of command) file at)
  of_file rose command file status.Refused line asked at = absurd (never_first (files_of command) file at)
  of_file rose command file status.Usage line asked at = absurd (never_first (files_of command) file at)
  of_file rose command file status.Unscheduled line asked at = absurd (never_first (files_of command) file at)
  of_file rose command file status.Unwritten line asked at = absurd (never_first (files_of command) file at)
  of_file rose command file status.OutOfMemory line asked at = absurd (never_first (files_of command) file at)

  of_schedule : (rose : Type 0) (name root bytes : List ℕ) (component : Component) (got : Status) (line : List ℕ) → command_of words ≡ Some (Replay name root [])
      → HasComponent held root component → Holds held (schedule_file name) bytes → NoSchedule name bytes got line → Replies words held rose got (line ∷ [])
  of_schedule rose name root bytes component _ _ asked spelled there (wrong line why) =
      record { name = name; root = root; component = component; bytes = bytes; line = line; asked = asked; spelled = spelled; there = there; wrong = why; is = refl }
  of_schedule rose name root bytes component _ _ asked spelled there (many why) =
      inr (record { name = name; root = root; component = component; asked = asked; spelled = spelled; many = record { bytes = bytes; there = there; is = why }; is = refl })

  pub refused : (rose : Type 0) (command : Command) (got : Status) (line : List ℕ) → command_of words ≡ Some command → CommandRefused held rose command got line
      → Replies words held rose got (line ∷ [])
  refused rose _ _ _ asked (at_file command got line stops) = of_file rose command stops.0 got line asked stops.1
  refused rose _ _ _ asked (at_program command file there at) = inl (record { command = command; file = file; asked = asked; there = there; refused = at; is = refl })
  refused rose _ _ _ asked (at_question question names files line there why) =
      inr (record { question = question; names = names; files = files; line = line; asked = asked; there = there; refused = why; is = refl })
  refused rose _ _ _ asked (at_schedule name root bytes component got line spelled there why) =
      of_schedule rose name root bytes component got line asked spelled there why

-- a replay is refused for what its files spell
pub replay_refused : (held : Contents) (rose : Type 0) (name root planned spelled : List ℕ) (others : List (List ℕ)) → Holds held (schedule_file name) planned
    → Holds held (component_file root) spelled → Every (IsThere held) (map component_file others)
    → (got : Status) (line : List ℕ) → PlaysNot name root planned spelled others got line → CommandRefused held rose (Replay name root others) got line
replay_refused held rose name root planned spelled _ plan there more _ _ (at_first others none) =
    at_program (Replay name root others) root ((planned, plan), ((spelled, there), more))
    (first root others (record { bytes = spelled; there = there; not_spelled = none }))
replay_refused held rose name root planned spelled _ plan there more _ _ (at_second other others component spells) =
    at_program (Replay name root (other ∷ others)) other ((planned, plan), ((spelled, there), more))
    (second root other others component (record { bytes = spelled; there = there; spelled = spells }))
replay_refused held rose name root planned spelled _ plan there more _ _ (at_plan component got line spells why) =
    at_schedule name root planned component got line (record { bytes = spelled; there = there; spelled = spells }) plan why

-- a question has no answer, for what the files spell
pub ask_refused : (held : Contents) (rose : Type 0) (question : Question) (names : List (List ℕ)) (files : List SourceFile) → AreHeld held names files
    → (got : Status) (line : List ℕ) → Declines question files got line → CommandRefused held rose (Ask question names) got line
ask_refused held rose question names files there got line why =
    subst (λ (s : Status). CommandRefused held rose (Ask question names) s line) (sym why.0) (at_question question names files line there why.1)
