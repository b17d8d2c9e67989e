-- Codes: what is read of a code is what the code is of.
use Rattle.std.proofs.Common.{◌≡◌, ℕ, List, [], ◌∷◌, Some, None, inl, inr, eqb, refl, sym, ◌∙◌, ap}
use Rattle.std.specs.declared.option.Option.{Option}
use Rattle.std.specs.Option.{option_map}
use Rattle.std.proofs.lemmas.Bool.{eqb-true}
use Rattle.hub_messages.specs.declared.outcome.Outcome.{Outcome}
use Rattle.hub_messages.specs.declared.outcome.Outcome.TheVariants.{Acted, HandlerUnknown, HandlerGone, ComponentGone, WrongEvent, BadArguments}
use Rattle.hub_messages.specs.declared.outcome.Refusal.{Refusal}
use Rattle.hub_messages.specs.declared.outcome.Refusal.TheVariants.{Malformed, NotConnected, AlreadyConnected, CircuitUnknown, AppliedAhead, AckAhead, GotAhead, BatchesGone, Early, OutcomesFull}
use Rattle.hub_messages.specs.declared.outcome.CircuitFault.{CircuitFault}
use Rattle.hub_messages.specs.declared.outcome.CircuitFault.TheVariants.{DivideByZero, Overflow, NullUse, IndexOutOfRange, FuelSpent, CallDepth, ValueTooLarge, DuplicateKey, PageTooLarge, TooManyComponents, TooDeepTree, Memory, NumbersSpent}
use Rattle.hub_messages.specs.Spelling.Codes.{outcome_code, refusal_code, fault_code}
use Rattle.hub_messages.specs.Reading.Codes.{of_code, outcomes, refusals, numbered_refusals, faults, outcome_of, refusal_of, fault_of}
use Rattle.hub_messages.proofs.OptionLemmas.{some_is, some_none, chosen, kept}

-- each entry of a table is so
abbrev AllEntries : {A : Type 0} → (ℕ → A → Type 0) → List (ℕ × A) → Type 0
AllEntries P [] = Unit {0}
AllEntries P (entry ∷ table) = P entry.0 entry.1 × AllEntries P table

entry_of : {A : Type 0} (P : ℕ → A → Type 0) (table : List (ℕ × A)) (code : ℕ) (x : A) → AllEntries P table → of_code table code ≡ Some x → P code x
entry_of P [] code x all e = some_none x e
entry_of P (entry ∷ table) code x all e =
    elim (chosen (eqb code entry.0) (Some entry.1) (of_code table code) x e) [
      | inl here ↦ (
          let same : code ≡ entry.0 = eqb-true code entry.0 here.0 in
          let value : entry.1 ≡ x = some_is entry.1 x here.1 in
          rw (same, ← value) all.0
          )
      | inr later ↦ entry_of P table code x all.1 later.1
    ]

pub outcome_of-outcome_code : (outcome : Outcome) → outcome_of (outcome_code outcome).0 (outcome_code outcome).1 ≡ Some outcome
unfolding outcome_of
outcome_of-outcome_code Acted = refl
outcome_of-outcome_code HandlerUnknown = refl
outcome_of-outcome_code (HandlerGone batch) = refl
outcome_of-outcome_code ComponentGone = refl
outcome_of-outcome_code WrongEvent = refl
outcome_of-outcome_code BadArguments = refl

pub code_of_outcome : (code : ℕ) (value : Option ℕ) (outcome : Outcome) → outcome_of code value ≡ Some outcome → outcome_code outcome ≡ (code, value)
unfolding outcome_of
code_of_outcome code None outcome e =
    entry_of (λ (n : ℕ) (o : Outcome). outcome_code o ≡ (n, None)) outcomes code outcome (refl, (refl, (refl, (refl, (refl, tt))))) e
code_of_outcome code (Some value) outcome e =
    let found = kept (eqb code 3) (Some (HandlerGone value)) outcome e in
    let same : code ≡ 3 = eqb-true code 3 found.0 in
    let is : HandlerGone value ≡ outcome = some_is (HandlerGone value) outcome found.1 in
    rw (same, ← is) refl

pub refusal_of-refusal_code : (refusal : Refusal) → refusal_of (refusal_code refusal).0 (refusal_code refusal).1 ≡ Some refusal
unfolding refusal_of
refusal_of-refusal_code Malformed = refl
refusal_of-refusal_code NotConnected = refl
refusal_of-refusal_code AlreadyConnected = refl
refusal_of-refusal_code CircuitUnknown = refl
refusal_of-refusal_code (AppliedAhead sent) = refl
refusal_of-refusal_code (AckAhead sent) = refl
refusal_of-refusal_code (GotAhead last) = refl
refusal_of-refusal_code (BatchesGone acked) = refl
refusal_of-refusal_code (Early next) = refl
refusal_of-refusal_code (OutcomesFull oldest) = refl

numbered_of : (read : Option (ℕ → Refusal)) (value : ℕ) (refusal : Refusal) → option_map (λ r. r value) read ≡ Some refusal → (make : ℕ → Refusal) × (read ≡ Some make) × (make value ≡ refusal)
numbered_of None value refusal e = some_none refusal e
numbered_of (Some make) value refusal e = (make, refl, some_is (make value) refusal e)

pub code_of_refusal : (code : ℕ) (value : Option ℕ) (refusal : Refusal) → refusal_of code value ≡ Some refusal → refusal_code refusal ≡ (code, value)
unfolding refusal_of
code_of_refusal code None refusal e =
    entry_of (λ (n : ℕ) (r : Refusal). refusal_code r ≡ (n, None)) refusals code refusal (refl, (refl, (refl, (refl, tt)))) e
code_of_refusal code (Some value) refusal e =
    let found = numbered_of (of_code numbered_refusals code) value refusal e in
    let is : refusal_code (found.0 value) ≡ (code, Some value) =
    entry_of (λ (n : ℕ) (make : ℕ → Refusal). refusal_code (make value) ≡ (n, Some value)) numbered_refusals code found.0
    (refl, (refl, (refl, (refl, (refl, (refl, tt)))))) found.1 in
    ap refusal_code (sym found.2) ∙ is

pub fault_of-fault_code : (fault : CircuitFault) → fault_of (fault_code fault) ≡ Some fault
unfolding fault_of
fault_of-fault_code DivideByZero = refl
fault_of-fault_code Overflow = refl
fault_of-fault_code NullUse = refl
fault_of-fault_code IndexOutOfRange = refl
fault_of-fault_code FuelSpent = refl
fault_of-fault_code CallDepth = refl
fault_of-fault_code ValueTooLarge = refl
fault_of-fault_code DuplicateKey = refl
fault_of-fault_code PageTooLarge = refl
fault_of-fault_code TooManyComponents = refl
fault_of-fault_code TooDeepTree = refl
fault_of-fault_code Memory = refl
fault_of-fault_code NumbersSpent = refl

pub code_of_fault : (code : ℕ) (fault : CircuitFault) → fault_of code ≡ Some fault → fault_code fault ≡ code
unfolding fault_of
code_of_fault code fault e =
    entry_of (λ (n : ℕ) (f : CircuitFault). fault_code f ≡ n) faults code fault
    (refl, (refl, (refl, (refl, (refl, (refl, (refl, (refl, (refl, (refl, (refl, (refl, (refl, tt))))))))))))) e
