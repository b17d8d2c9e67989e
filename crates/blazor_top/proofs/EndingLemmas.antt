-- What the end of a run says.
use Rattle.std.proofs.Common.{◌≡◌, ℕ, List, [], ◌∷◌, length, cond, eqb, sym, ap, ◌∙◌, subst, refl, inl, inr, ◌⊎◌, Some, Ok, Err, arith}
use Rattle.std.specs.Prelude.{Option}
use Rattle.outside.specs.Sink.{Adds}
use Rattle.first_click.specs.declared.component.Component.{Component}
use Rattle.first_click.proofs.OptionLemmas.{some_is, some_none}
use Rattle.schedule_replay.specs.Every.{Every}
use Rattle.schedule_replay.specs.declared.schedule.Schedule.{Schedule}
use Rattle.schedule_replay.specs.declared.schedule.ScheduleFault.{ScheduleFault}
use Rattle.schedule_replay.specs.declared.schedule.ScheduleFault.TheVariants as fault
use Rattle.schedule_replay.specs.Schedule.{schedule_of}
use Rattle.blazor_top.specs.declared.command.Command.{Command}
use Rattle.blazor_top.specs.declared.command.Command.TheVariants.{Ask, Replay}
use Rattle.blazor_top.specs.declared.status.Status.{Status}
use Rattle.blazor_top.specs.declared.status.Status.TheVariants.{Done, Refused, Usage, Unscheduled, Missing, Unread, Unwritten, TooLarge, OutOfMemory}
use Rattle.blazor_top.specs.Command.{command_of}
use Rattle.blazor_top.specs.Program.{FileSpells, HasComponent, HasNoComponent, HasSchedule, RefusedAt, first, second, program_of}
use Rattle.blazor_top.specs.Reading.{Contents, Named, Holds, IsThere, Lacks, Exceeds, FirstSuch, here, behind, component_file, schedule_file, files_of}
use Rattle.blazor_top.proofs.AskingLemmas.{never_declined}
use Rattle.blazor_top.proofs.CheckingLemmas.{all_held}
use Rattle.blazor_top.specs.Lines.{missing_line, unread_line, too_large_line}
use Rattle.blazor_top.specs.Reply.{Replies, IsStopped, IsRefusal, IsNotYet, IsDeclined, Unscheduled as IsWrong, unread, no_step}
use Rattle.blazor_top.specs.Run.{Told, Says, AreAccepted, IsAccepted, Finishes, whole, stopped, no_memory, lines_bytes}
use Rattle.blazor_top.specs.Status.{code_of}

status_of : ℕ → Status
status_of n =
    cond (eqb n 0) Done
    (cond (eqb n 1) Refused
    (cond (eqb n 2) Usage
    (cond (eqb n 3) Unscheduled
    (cond (eqb n 4) Missing
    (cond (eqb n 5) Unread
    (cond (eqb n 6) Unwritten
    (cond (eqb n 8) TooLarge OutOfMemory)))))))

status_of-code : (s : Status) → status_of (code_of s) ≡ s
unfolding status_of
status_of-code Done = refl
status_of-code Refused = refl
status_of-code Usage = refl
status_of-code Unscheduled = refl
status_of-code Missing = refl
status_of-code Unread = refl
status_of-code Unwritten = refl
status_of-code TooLarge = refl
status_of-code OutOfMemory = refl

one_code : (a b : Status) → code_of a ≡ code_of b → a ≡ b
one_code a b e = sym (status_of-code a) ∙ ap status_of e ∙ status_of-code b

not_empty : (other : List ℕ) (others : List (List ℕ)) → other ∷ others ≡ [] → ⊥
not_empty other others e = cc

head_is : (at : List ℕ) (others : List (List ℕ)) (name : List ℕ) → at ∷ others ≡ name ∷ [] → at ≡ name
head_is at others name e = cc

two_not_one : (one at : List ℕ) (others : List (List ℕ)) (name : List ℕ) → one ∷ at ∷ others ≡ name ∷ [] → ⊥
two_not_one one at others name e = cc

not_both : (schedule : Schedule) (wrong : ScheduleFault) → Ok schedule ≡ Err wrong → ⊥
not_both schedule wrong e = cc

-- of files that tell what they hold, a file that is there is neither absent nor too large, and has one content
module _ (file : List ℕ → Option (List ℕ)) where
  not_absent : (asked : Named) → IsThere (Some file) asked → Lacks (Some file) asked → ⊥
  not_absent asked there lacks = some_none there.0 (sym there.1.0 ∙ lacks)

  not_long : (asked : Named) → IsThere (Some file) asked → Exceeds (Some file) asked → ⊥
  not_long asked there exceeds =
      let same : there.0 ≡ exceeds.0 = some_is there.0 exceeds.0 (sym there.1.0 ∙ exceeds.1) in
      let count = ap length same in
      let short = there.1.1 in
      let long = exceeds.2 in
      omega (arith, count, short, long)

  -- where all files are there, none is first of another kind
  none_first : (Such : Named → Type 0) (files : List Named) (asked : Named) → Every (IsThere (Some file)) files → ((one : Named) → IsThere (Some file) one → Such one → ⊥)
      → FirstSuch (IsThere (Some file)) Such files asked → ⊥
  none_first Such _ _ there never (here asked files such) = never asked there.0 such
  none_first Such _ _ there never (behind other asked files before such) = none_first Such files asked there.1 never such

  -- the files of what is accepted are there
  component_there : (name : List ℕ) (component : Component) → HasComponent (Some file) name component → IsThere (Some file) (component_file name)
  component_there name component has = (has.bytes, has.there)

  all_there : (command : Command) → AreAccepted (Some file) command → Every (IsThere (Some file)) (files_of command)
  all_there (Ask question names) accepted = all_held (Some file) names accepted.0 accepted.1
  all_there (Replay name root []) accepted =
      ((accepted.1.1.bytes, accepted.1.1.there), (component_there root accepted.2.0 accepted.2.1, tt))
  all_there (Replay name root (other ∷ others)) accepted = absurd (not_empty other others accepted.0)

  -- a file that spells a component is not refused
  not_none : (name : List ℕ) (component : Component) → HasComponent (Some file) name component → HasNoComponent (Some file) name → ⊥
  not_none name component has none =
      let same : has.bytes ≡ none.bytes = some_is has.bytes none.bytes (sym has.there.0 ∙ none.there.0) in
      none.not_spelled component (subst (λ (b : List ℕ). FileSpells name b component) same has.spelled)

  one_file : (names : List (List ℕ)) (name at : List ℕ) (component : Component) → names ≡ name ∷ [] → HasComponent (Some file) name component → RefusedAt (Some file) names at → ⊥
  one_file _ name at component one has (first _ others none) = not_none name component has (subst (λ (n : List ℕ). HasNoComponent (Some file) n) (head_is at others name one) none)
  one_file _ name at component one has (second one_name _ others other_component other_has) = two_not_one one_name at others name one

  none_at_all : (names : List (List ℕ)) (at : List ℕ) → names ≡ [] → RefusedAt (Some file) names at → ⊥
  none_at_all _ at none (first name others has) = not_empty name others none
  none_at_all _ at none (second name other others component has) = not_empty name (other ∷ others) none

  not_refused : (command : Command) (at : List ℕ) → AreAccepted (Some file) command → RefusedAt (Some file) (program_of command) at → ⊥
  not_refused (Ask question names) at accepted refused = none_at_all [] at refl refused
  not_refused (Replay name root []) at accepted refused = one_file (root ∷ []) root at accepted.2.0 refl accepted.2.1 refused
  not_refused (Replay name root (other ∷ others)) at accepted refused = not_empty other others accepted.0

  -- bytes that spell a schedule have no fault
  one_schedule : (name bytes : List ℕ) (schedule : Schedule) (wrong : ScheduleFault) → HasSchedule (Some file) name (Ok schedule) → Holds (Some file) (schedule_file name) bytes
      → schedule_of bytes ≡ Err wrong → ⊥
  one_schedule name bytes schedule wrong has there fails =
      let same : has.bytes ≡ bytes = some_is has.bytes bytes (sym has.there.0 ∙ there.0) in
      not_both schedule wrong (sym has.is ∙ ap schedule_of same ∙ fails)

  not_wrong : (name bytes line : List ℕ) (schedule : Schedule) → HasSchedule (Some file) name (Ok schedule) → Holds (Some file) (schedule_file name) bytes → IsWrong bytes line → ⊥
  not_wrong name bytes _ schedule has there (unread fails) = one_schedule name bytes schedule fault.Unread has there fails
  not_wrong name bytes _ schedule has there (no_step number fails) = one_schedule name bytes schedule (fault.Step number) has there fails

module _ (words : List (List ℕ)) (held : Contents) (rose : Type 0) (old new : Told) (faulted : Type 0) where
  says_whole : (status : Status) (lines : List (List ℕ)) → Replies words held rose status lines → Adds old new (lines_bytes lines) → Says words held rose old new faulted status
  says_whole Done lines reply written = (lines, reply, written)
  says_whole Refused lines reply written = (lines, reply, written)
  says_whole Usage lines reply written = (lines, reply, written)
  says_whole Unscheduled lines reply written = (lines, reply, written)
  says_whole Missing lines reply written = (lines, reply, written)
  says_whole Unread lines reply written = (lines, reply, written)
  says_whole TooLarge lines reply written = (lines, reply, written)
  says_whole Unwritten lines reply written = absurd reply
  says_whole OutOfMemory lines reply written = absurd reply

  pub says : (status : Status) (lines : List (List ℕ)) (got : Status) → Replies words held rose status lines → Finishes status lines old new faulted got → Says words held rose old new faulted got
  says status lines _ reply (whole written) = says_whole status lines reply written
  says status lines _ reply (stopped front fault) = ((lines, (status, reply), front), fault)
  says status lines _ reply (no_memory front) = inl (lines, (status, reply), front)

  -- what a status says, told by its number
  pub says_at : (wanted got : Status) (number : ℕ) → number ≡ code_of got → number ≡ code_of wanted → Says words held rose old new faulted got → Says words held rose old new faulted wanted
  says_at wanted got number is asked s = subst (Says words held rose old new faulted) (one_code got wanted (sym is ∙ asked)) s

-- what is accepted meets no refusal
module _ (words : List (List ℕ)) (file : List ℕ → Option (List ℕ)) (command : Command) (asked : command_of words ≡ Some command) (accepted : AreAccepted (Some file) command) where
  same_command : (other : Command) → command_of words ≡ Some other → command ≡ other
  same_command other is = some_is command other (sym asked ∙ is)

  never_stopped : (Such : Named → List ℕ → Type 0) (lines : List (List ℕ)) → ((line : List ℕ) (one : Named) → IsThere (Some file) one → Such one line → ⊥)
      → IsStopped words (Some file) Such lines → ⊥
  never_stopped Such lines never stops =
      let good : AreAccepted (Some file) stops.command = subst (AreAccepted (Some file)) (same_command stops.command stops.asked) accepted in
      none_first file (λ one. Such one stops.line) (files_of stops.command) stops.file (all_there file stops.command good) (never stops.line) stops.first

  never_not_yet : (lines : List (List ℕ)) → IsNotYet words (Some file) lines → ⊥
  never_not_yet lines refusal =
      let good : AreAccepted (Some file) refusal.command = subst (AreAccepted (Some file)) (same_command refusal.command refusal.asked) accepted in
      not_refused file refusal.command refusal.file good refusal.refused

  never_answered : (lines : List (List ℕ)) → IsDeclined words (Some file) lines → ⊥
  never_answered lines refusal =
      let good : AreAccepted (Some file) (Ask refusal.question refusal.names) = subst (AreAccepted (Some file)) (same_command (Ask refusal.question refusal.names) refusal.asked) accepted in
      never_declined file refusal.question refusal.names good.0 refusal.files refusal.line good.1 good.2 refusal.there refusal.refused

  never_refused : (lines : List (List ℕ)) → IsRefusal words (Some file) lines → ⊥
  never_refused lines (inl refusal) = never_not_yet lines refusal
  never_refused lines (inr refusal) = never_answered lines refusal

  planned : (name root : List ℕ) → command_of words ≡ Some (Replay name root []) → (schedule : Schedule) × HasSchedule (Some file) name (Ok schedule)
  planned name root is = let good : AreAccepted (Some file) (Replay name root []) = subst (AreAccepted (Some file)) (same_command (Replay name root []) is) accepted in good.1

  never : (rose : Type 0) (got : Status) (lines : List (List ℕ)) → (rose → ⊥) → Replies words (Some file) rose got lines → got ≡ Done
  never rose Done lines quiet reply = refl
  never rose Refused lines quiet reply = absurd (never_refused lines reply)
  never rose Usage lines quiet reply = absurd (some_none command (sym asked ∙ reply.not_asked))
  never rose Unscheduled lines quiet reply =
      let plan = planned reply.name reply.root reply.asked in
      absurd (not_wrong file reply.name reply.bytes reply.line plan.0 plan.1 reply.there reply.wrong)
  never rose Missing lines quiet reply = absurd (never_stopped (λ one line. Lacks (Some file) one × (line ≡ missing_line one.name)) lines (λ line one there such. not_absent file one there such.0) reply)
  never rose Unread lines quiet reply = absurd (never_stopped (λ one line. rose × (line ≡ unread_line one.name)) lines (λ line one there such. quiet such.0) reply)
  never rose TooLarge lines quiet (inl long) = absurd (never_stopped (λ one line. Exceeds (Some file) one × (line ≡ too_large_line one.name)) lines (λ line one there such. not_long file one there such.0) long)
  never rose TooLarge lines quiet (inr steps) =
      let plan = planned steps.name steps.root steps.asked in
      absurd (one_schedule file steps.name steps.many.bytes plan.0 fault.TooMany plan.1 steps.many.there steps.many.is)
  never rose Unwritten lines quiet reply = absurd reply
  never rose OutOfMemory lines quiet reply = absurd reply

  done : (rose : Type 0) (old new : Told) (faulted : Type 0) (got : Status) (number : ℕ) → number ≡ code_of got → Says words (Some file) rose old new faulted got → (rose → ⊥) → (faulted → ⊥)
      → (number ≡ 0) ⊎ (number ≡ 9)
  done rose old new faulted Done number is s quiet well = inl is
  done rose old new faulted Refused number is s quiet well = inl (is ∙ ap code_of (never rose Refused s.0 quiet s.1))
  done rose old new faulted Usage number is s quiet well = inl (is ∙ ap code_of (never rose Usage s.0 quiet s.1))
  done rose old new faulted Unscheduled number is s quiet well = inl (is ∙ ap code_of (never rose Unscheduled s.0 quiet s.1))
  done rose old new faulted Missing number is s quiet well = inl (is ∙ ap code_of (never rose Missing s.0 quiet s.1))
  done rose old new faulted Unread number is s quiet well = inl (is ∙ ap code_of (never rose Unread s.0 quiet s.1))
  done rose old new faulted TooLarge number is s quiet well = inl (is ∙ ap code_of (never rose TooLarge s.0 quiet s.1))
  done rose old new faulted Unwritten number is s quiet well = absurd (well s.1)
  done rose old new faulted OutOfMemory number is s quiet well = inr is

-- so it is rendered or replayed, unless there was a fault or no memory
pub completes : (words : List (List ℕ)) (held : Contents) (rose : Type 0) (old new : Told) (faulted : Type 0) (got : Status) (number : ℕ) → number ≡ code_of got
    → Says words held rose old new faulted got → IsAccepted words held → (rose → ⊥) → (faulted → ⊥) → (number ≡ 0) ⊎ (number ≡ 9)
completes words held rose old new faulted got number is s accepted quiet well =
    done words accepted.file accepted.command accepted.asked accepted.accepted rose old new faulted got number is
    (subst (λ (h : Contents). Says words h rose old new faulted got) accepted.told s) quiet well
