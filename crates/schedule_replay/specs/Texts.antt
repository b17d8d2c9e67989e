-- How messages and answers stand in a transcript.
use Rattle.std.specs.Prelude.{ℕ, List, [], ◌∷◌, ◌++◌, codes, if◌then◌else◌, ◌==◌}
use Rattle.std.specs.Fmt.{decimal}
use Rattle.std.specs.List.{flat_map}
use Rattle.page_core.specs.declared.counts.Counts.{Counts}
use Rattle.page_core.specs.declared.faults.ApplyFault.{ApplyFault}
use Rattle.page_core.specs.declared.faults.ApplyFault.TheVariants as af
use Rattle.page_core.specs.declared.faults.BatchFault.{BatchFault}
use Rattle.page_core.specs.declared.faults.BatchFault.TheVariants as bf
use Rattle.hub_messages.specs.declared.answer.Asked.{Asked}
use Rattle.hub_messages.specs.declared.answer.Asked.TheVariants as ask
use Rattle.hub_messages.specs.declared.answer.Got.{Got}
use Rattle.hub_messages.specs.declared.answer.Got.TheVariants as got
use Rattle.hub_messages.specs.declared.down.Down.{Down}
use Rattle.hub_messages.specs.declared.down.Down.TheVariants as down
use Rattle.hub_messages.specs.declared.outcome.CircuitFault.{CircuitFault}
use Rattle.hub_messages.specs.declared.outcome.CircuitFault.TheVariants as fault
use Rattle.hub_messages.specs.declared.outcome.Outcome.{Outcome}
use Rattle.hub_messages.specs.declared.outcome.Outcome.TheVariants as outcome
use Rattle.hub_messages.specs.declared.outcome.Refusal.{Refusal}
use Rattle.hub_messages.specs.declared.outcome.Refusal.TheVariants as refusal
use Rattle.hub_messages.specs.declared.screen.ScreenFault.{ScreenFault}
use Rattle.hub_messages.specs.declared.screen.ScreenFault.TheVariants as screen
use Rattle.hub_messages.specs.declared.up.Up.{Up}
use Rattle.hub_messages.specs.declared.up.Up.TheVariants as up

-- a word and a number behind it
abbrev pub numbered : List ℕ → ℕ → List ℕ
numbered word number = word ++ codes " " ++ decimal number

-- a backslash, a line feed and a carriage return are written so that a line stays one line
abbrev pub escaped_character : ℕ → List ℕ
escaped_character c =
    if c == 92 then codes "\\\\"
    else if c == 10 then codes "\\n"
    else if c == 13 then codes "\\r"
    else c ∷ []

abbrev pub escaped : List ℕ → List ℕ
escaped = flat_map escaped_character

-- the texts of things, with another between each two
abbrev pub listed : {Thing : Type 0} → List ℕ → (Thing → List ℕ) → List Thing → List ℕ
listed between text [] = []
listed between text (thing ∷ things) = text thing ++ flat_map (λ other. between ++ text other) things

-- the numbers of a path, or a dash for none
abbrev pub path_text : List ℕ → List ℕ
path_text [] = codes "-"
path_text (place ∷ places) = listed (codes ".") decimal (place ∷ places)

abbrev pub outcome_text : Outcome → List ℕ
outcome_text outcome.Acted = codes "Acted"
outcome_text outcome.HandlerUnknown = codes "HandlerUnknown"
outcome_text (outcome.HandlerGone batch) = numbered (codes "HandlerGone") batch
outcome_text outcome.ComponentGone = codes "ComponentGone"
outcome_text outcome.WrongEvent = codes "WrongEvent"
outcome_text outcome.BadArguments = codes "BadArguments"

abbrev pub refusal_text : Refusal → List ℕ
refusal_text refusal.Malformed = codes "Malformed"
refusal_text refusal.NotConnected = codes "NotConnected"
refusal_text refusal.AlreadyConnected = codes "AlreadyConnected"
refusal_text refusal.CircuitUnknown = codes "CircuitUnknown"
refusal_text (refusal.AppliedAhead sent) = numbered (codes "AppliedAhead") sent
refusal_text (refusal.AckAhead sent) = numbered (codes "AckAhead") sent
refusal_text (refusal.GotAhead last) = numbered (codes "GotAhead") last
refusal_text (refusal.BatchesGone acked) = numbered (codes "BatchesGone") acked
refusal_text (refusal.Early next) = numbered (codes "Early") next
refusal_text (refusal.OutcomesFull oldest) = numbered (codes "OutcomesFull") oldest

abbrev pub fault_text : CircuitFault → List ℕ
fault_text fault.DivideByZero = codes "DivideByZero"
fault_text fault.Overflow = codes "Overflow"
fault_text fault.NullUse = codes "NullUse"
fault_text fault.IndexOutOfRange = codes "IndexOutOfRange"
fault_text fault.FuelSpent = codes "FuelSpent"
fault_text fault.CallDepth = codes "CallDepth"
fault_text fault.ValueTooLarge = codes "ValueTooLarge"
fault_text fault.DuplicateKey = codes "DuplicateKey"
fault_text fault.PageTooLarge = codes "PageTooLarge"
fault_text fault.TooManyComponents = codes "TooManyComponents"
fault_text fault.TooDeepTree = codes "TooDeepTree"
fault_text fault.Memory = codes "Memory"
fault_text fault.NumbersSpent = codes "NumbersSpent"

abbrev pub batch_fault_text : BatchFault → List ℕ
batch_fault_text bf.Short = codes "Short"
batch_fault_text bf.BadOffset = codes "BadOffset"
batch_fault_text bf.BadCount = codes "BadCount"
batch_fault_text bf.BadKind = codes "BadKind"
batch_fault_text bf.BadSubtree = codes "BadSubtree"
batch_fault_text bf.BadString = codes "BadString"
batch_fault_text bf.Oom = codes "Oom"

abbrev pub apply_fault_text : ApplyFault → List ℕ
apply_fault_text af.NoComponent = codes "NoComponent"
apply_fault_text af.NoSibling = codes "NoSibling"
apply_fault_text af.NotElement = codes "NotElement"
apply_fault_text af.NotText = codes "NotText"
apply_fault_text af.NoAttribute = codes "NoAttribute"
apply_fault_text af.BadPermutation = codes "BadPermutation"
apply_fault_text af.Unbalanced = codes "Unbalanced"
apply_fault_text af.Oom = codes "Oom"

abbrev pub screen_fault_text : ScreenFault → List ℕ
screen_fault_text (screen.Read fault) = batch_fault_text fault
screen_fault_text (screen.Apply fault) = apply_fault_text fault
screen_fault_text screen.Oom = codes "Oom"

-- a refusal, and the end of a circuit, behind their words
abbrev pub refused_text : Refusal → List ℕ
refused_text refusal = codes "Refused " ++ refusal_text refusal

abbrev pub ended_text : CircuitFault → List ℕ
ended_text fault = codes "Ended " ++ fault_text fault

-- an event's number and its outcome behind a word
abbrev pub told_text : List ℕ → ℕ → Outcome → List ℕ
told_text word event outcome = numbered word event ++ codes " " ++ outcome_text outcome

-- a message from the browser
abbrev pub connect_text : ℕ → ℕ → List ℕ
connect_text applied got = codes "Connect " ++ decimal applied ++ codes " " ++ decimal got

abbrev pub up_text : Up → List ℕ
up_text up.Start = codes "Start"
up_text (up.Connect number secret applied got) = connect_text applied got
up_text (up.Event number handler got name text) = numbered (codes "Event") number
up_text (up.Ack batch got) = numbered (codes "Ack") batch

-- a reply of the server
abbrev pub reply_text : Down → List ℕ
reply_text (down.Started number secret) = numbered (codes "Started") number
reply_text (down.Connected sent last) = codes "Connected"
reply_text (down.Batch number bytes) = numbered (codes "Batch") number
reply_text (down.Outcome event outcome) = told_text (codes "Outcome") event outcome
reply_text (down.Refused refusal) = refused_text refusal
reply_text (down.Ended fault) = ended_text fault

abbrev pub replies_text : List Down → List ℕ
replies_text [] = codes "nothing"
replies_text (reply ∷ replies) = listed (codes ", ") reply_text (reply ∷ replies)

-- a count that is not 0, by its name
abbrev pub count_text : List ℕ → ℕ → List ℕ
count_text name count = if count == 0 then [] else codes " " ++ name ++ codes "=" ++ decimal count

abbrev pub node_counts_text : Counts → List ℕ
node_counts_text counts =
    count_text (codes "prepend") counts.prepend ++ count_text (codes "remove") counts.remove
    ++ count_text (codes "set") counts.set ++ count_text (codes "unset") counts.unset
    ++ count_text (codes "text") counts.text

abbrev pub other_counts_text : Counts → List ℕ
other_counts_text counts =
    count_text (codes "in") counts.step_in ++ count_text (codes "out") counts.step_out
    ++ count_text (codes "markup") counts.markup ++ count_text (codes "move") counts.moves
    ++ count_text (codes "end") counts.ends

-- a batch that was applied, with all its counts
abbrev pub applied_text : ℕ → Counts → List ℕ
applied_text number counts = numbered (codes "Applied") number ++ node_counts_text counts ++ other_counts_text counts

abbrev pub bad_batch_text : ScreenFault → List ℕ
bad_batch_text fault = codes "BadBatch " ++ screen_fault_text fault

-- what the browser made of a message
abbrev pub answer_text : Got → List ℕ
answer_text got.OldConnection = codes "OldConnection"
answer_text got.Malformed = codes "Malformed"
answer_text got.Opened = codes "Opened"
answer_text (got.Refused refusal) = refused_text refusal
answer_text (got.Ended fault) = ended_text fault
answer_text got.NotOpen = codes "NotOpen"
answer_text (got.Answered event outcome) = told_text (codes "Answered") event outcome
answer_text (got.AnsweredAgain event) = numbered (codes "AnsweredAgain") event
answer_text got.Stray = codes "Stray"
answer_text (got.AgainAcked number) = numbered (codes "AgainAcked") number
answer_text (got.NotNext next) = numbered (codes "NotNext") next
answer_text (got.Applied number counts) = applied_text number counts
answer_text (got.BadBatch fault) = bad_batch_text fault

-- what became of an event at the browser
abbrev pub asked_text : Asked → List ℕ
asked_text ask.Over = codes "Over"
asked_text ask.NoNode = codes "NoNode"
asked_text ask.NoHandler = codes "NoHandler"
asked_text ask.EventsFull = codes "EventsFull"
asked_text (ask.Asked number) = numbered (codes "Event") number
