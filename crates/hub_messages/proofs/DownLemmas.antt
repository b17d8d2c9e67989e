-- Messages of the server: what was put is what is read, and the other way round.
use Rattle.std.proofs.Common.{◌≡◌, ℕ, suc, ◌≤◌, List, [], ◌∷◌, ◌++◌, length, drop, Some, None, Ok, Err, inl, inr, eqb, refl, sym, ◌∙◌, ap, append_assoc}
use Rattle.std.specs.declared.option.Option.{Option}
use Rattle.std.specs.declared.result.Result.{Result}
use Rattle.std.specs.Result.{IfOk}
use Rattle.std.specs.Prelude.{if◌then◌else◌}
use Rattle.std.proofs.lemmas.Bool.{eqb-true, eq-eqb}
use Rattle.text_core.specs.Words.{u64_bytes, u32_bytes, u32_at}
use Rattle.text_core.proofs.WordLemmas.{u32_at-u32_bytes, begins-u32_at}
use Rattle.hub_messages.specs.declared.hub_fault.HubFault.{HubFault}
use Rattle.hub_messages.specs.declared.hub_fault.HubFault.TheVariants as fault
use Rattle.hub_messages.specs.declared.outcome.Outcome.{Outcome as Outcomes}
use Rattle.hub_messages.specs.declared.outcome.Refusal.{Refusal}
use Rattle.hub_messages.specs.declared.outcome.CircuitFault.{CircuitFault}
use Rattle.hub_messages.specs.declared.down.Down.{Down}
use Rattle.hub_messages.specs.declared.down.Down.TheVariants.{Started, Connected, Batch, Outcome, Refused, Ended}
use Rattle.hub_messages.specs.Options.{◌>>=◌}
use Rattle.hub_messages.specs.Spelling.Fields.{numbers, coded}
use Rattle.hub_messages.specs.Spelling.Codes.{outcome_code, refusal_code, fault_code}
use Rattle.hub_messages.specs.Spelling.Messages.{down_bytes}
use Rattle.hub_messages.specs.Spelling.Spells.{IsDown, SpellsDown}
use Rattle.hub_messages.specs.Reading.Faults.{Gives}
use Rattle.hub_messages.specs.Reading.Fields.{byte_at, number_at, pair_at, nothing_in, number_in}
use Rattle.hub_messages.specs.Reading.Codes.{outcome_of, refusal_of, fault_of}
use Rattle.hub_messages.specs.Reading.Messages.{started_in, connected_in, batch_in, outcome_in, refused_in, ended_in, down_in}
use Rattle.hub_messages.proofs.OptionLemmas.{bind_some, some_is, some_none, chosen, kept}
use Rattle.hub_messages.proofs.FieldLemmas.{Bounded, number_at-u64_bytes, number_stands, pair_at-u64_bytes, pair_stands, bounded_behind, byte_stands, nothing_is, coded_reads, coded_stands, drop_u32}
use Rattle.hub_messages.proofs.CodeLemmas.{outcome_of-outcome_code, code_of_outcome, refusal_of-refusal_code, code_of_refusal, fault_of-fault_code, code_of_fault}

one_first : (a b : List ℕ) → (a ++ []) ++ b ≡ a ++ b
one_first a b = simp append_assoc

batch_reads : (number : ℕ) (bytes : List ℕ) → IsDown (Batch number bytes) → batch_in (u64_bytes number ++ (u32_bytes (length bytes) ++ bytes)) ≡ Some (Batch number bytes)
unfolding batch_in IsDown
batch_reads number bytes is =
    rw (
      number_at-u64_bytes number (u32_bytes (length bytes) ++ bytes) is.0,
      u32_at-u32_bytes (length bytes) bytes is.1,
      drop_u32 (length bytes) bytes,
      eq-eqb (length bytes) (length bytes) refl,
    )
    refl

outcome_reads : (event : ℕ) (outcome : Outcomes) → IsDown (Outcome event outcome) → outcome_in (u64_bytes event ++ coded (outcome_code outcome)) ≡ Some (Outcome event outcome)
unfolding outcome_in IsDown
outcome_reads event outcome is =
    let read = coded_reads (outcome_code outcome) is.1 in
    rw (number_at-u64_bytes event (coded (outcome_code outcome)) is.0, read.first, read.second, outcome_of-outcome_code outcome) refl

refused_reads : (refusal : Refusal) → IsDown (Refused refusal) → refused_in (coded (refusal_code refusal)) ≡ Some (Refused refusal)
unfolding refused_in IsDown
refused_reads refusal is =
    let read = coded_reads (refusal_code refusal) is in
    rw (read.first, read.second, refusal_of-refusal_code refusal) refl

ended_reads : (why : CircuitFault) → ended_in (fault_code why ∷ []) ≡ Some (Ended why)
unfolding ended_in
ended_reads why = rw (fault_of-fault_code why) refl

-- a message that was put is read back
pub down_in-down_bytes : (message : Down) → IsDown message → down_in (down_bytes message) ≡ Some message
unfolding down_in down_bytes IsDown started_in connected_in
down_in-down_bytes (Started number secret) is = rw (pair_at-u64_bytes number secret [] is.0 is.1.0) refl
down_in-down_bytes (Connected sent last) is = rw (pair_at-u64_bytes sent last [] is.0 is.1.0) refl
down_in-down_bytes (Batch number bytes) is =
    rw (one_first (u64_bytes number) (u32_bytes (length bytes) ++ bytes)) (batch_reads number bytes is)
down_in-down_bytes (Outcome event outcome) is =
    rw (one_first (u64_bytes event) (coded (outcome_code outcome))) (outcome_reads event outcome is)
down_in-down_bytes (Refused refusal) is = refused_reads refusal is
down_in-down_bytes (Ended why) is = ended_reads why

record DownStands (bytes : List ℕ) (message : Down) : Type 0 where
  spelled : bytes ≡ down_bytes message
  sayable : IsDown message

started_stands : (bytes : List ℕ) (message : Down) → Bounded bytes → started_in bytes ≡ Some message → DownStands (0x81 ∷ bytes) message
unfolding started_in down_bytes IsDown
started_stands bytes message bounds e =
    let one = bind_some (pair_at bytes) (λ (pair : (ℕ × ℕ) × List ℕ). nothing_in pair.1 >>= λ _. Some (Started pair.0.0 pair.0.1)) message e in
    let two = bind_some (nothing_in one.0.1) (λ (_ : Unit {0}). Some (Started one.0.0.0 one.0.0.1)) message one.2 in
    let same : Started one.0.0.0 one.0.0.1 ≡ message = some_is (Started one.0.0.0 one.0.0.1) message two.2 in
    let pair = pair_stands bytes one.0.0 one.0.1 bounds one.1 in
    let nothing = nothing_is one.0.1 two.0 two.1 in
    let whole : bytes ≡ numbers (one.0.0.0 ∷ one.0.0.1 ∷ []) = cc (pair.begins, nothing) in
    record {
      spelled = ap (λ (b : List ℕ). 0x81 ∷ b) whole ∙ ap down_bytes same;
      sayable = rw (← same) (pair.first_fits, (pair.second_fits, tt));
    }

connected_stands : (bytes : List ℕ) (message : Down) → Bounded bytes → connected_in bytes ≡ Some message → DownStands (0x82 ∷ bytes) message
unfolding connected_in down_bytes IsDown
connected_stands bytes message bounds e =
    let one = bind_some (pair_at bytes) (λ (pair : (ℕ × ℕ) × List ℕ). nothing_in pair.1 >>= λ _. Some (Connected pair.0.0 pair.0.1)) message e in
    let two = bind_some (nothing_in one.0.1) (λ (_ : Unit {0}). Some (Connected one.0.0.0 one.0.0.1)) message one.2 in
    let same : Connected one.0.0.0 one.0.0.1 ≡ message = some_is (Connected one.0.0.0 one.0.0.1) message two.2 in
    let pair = pair_stands bytes one.0.0 one.0.1 bounds one.1 in
    let nothing = nothing_is one.0.1 two.0 two.1 in
    let whole : bytes ≡ numbers (one.0.0.0 ∷ one.0.0.1 ∷ []) = cc (pair.begins, nothing) in
    record {
      spelled = ap (λ (b : List ℕ). 0x82 ∷ b) whole ∙ ap down_bytes same;
      sayable = rw (← same) (pair.first_fits, (pair.second_fits, tt));
    }

batch_stands : (bytes : List ℕ) (message : Down) → Bounded bytes → batch_in bytes ≡ Some message → DownStands (0x83 ∷ bytes) message
unfolding batch_in down_bytes IsDown
batch_stands bytes message bounds e =
    let one = bind_some (number_at bytes) (λ (n : ℕ × List ℕ). u32_at n.1 >>= λ size. if eqb (length (drop 4 n.1)) size then Some (Batch n.0 (drop 4 n.1)) else None) message e in
    let two = bind_some (u32_at one.0.1) (λ (size : ℕ). if eqb (length (drop 4 one.0.1)) size then Some (Batch one.0.0 (drop 4 one.0.1)) else None) message one.2 in
    let three = kept (eqb (length (drop 4 one.0.1)) two.0) (Some (Batch one.0.0 (drop 4 one.0.1))) message two.2 in
    let same : Batch one.0.0 (drop 4 one.0.1) ≡ message = some_is (Batch one.0.0 (drop 4 one.0.1)) message three.1 in
    let size : length (drop 4 one.0.1) ≡ two.0 = eqb-true (length (drop 4 one.0.1)) two.0 three.0 in
    let number = number_stands bytes one.0.0 one.0.1 bounds one.1 in
    let word = begins-u32_at one.0.1 two.0 number.bounds two.1 in
    let parts : bytes ≡ u64_bytes one.0.0 ++ (u32_bytes (length (drop 4 one.0.1)) ++ drop 4 one.0.1) = cc (number.begins, word.begins, size) in
    let whole : bytes ≡ numbers (one.0.0 ∷ []) ++ (u32_bytes (length (drop 4 one.0.1)) ++ drop 4 one.0.1) =
    parts ∙ sym (one_first (u64_bytes one.0.0) (u32_bytes (length (drop 4 one.0.1)) ++ drop 4 one.0.1)) in
    record {
      spelled = ap (λ (b : List ℕ). 0x83 ∷ b) whole ∙ ap down_bytes same;
      sayable = rw (← same) (number.fits, rw size word.fits);
    }

outcome_stands : (bytes : List ℕ) (message : Down) → Bounded bytes → outcome_in bytes ≡ Some message → DownStands (0x84 ∷ bytes) message
unfolding outcome_in down_bytes IsDown
outcome_stands bytes message bounds e =
    let one = bind_some (number_at bytes) (λ (n : ℕ × List ℕ). byte_at n.1 >>= λ code. number_in code.1 >>= λ value. outcome_of code.0 value >>= λ outcome. Some (Outcome n.0 outcome)) message e in
    let two = bind_some (byte_at one.0.1) (λ (code : ℕ × List ℕ). number_in code.1 >>= λ value. outcome_of code.0 value >>= λ outcome. Some (Outcome one.0.0 outcome)) message one.2 in
    let three = bind_some (number_in two.0.1) (λ (value : Option ℕ). outcome_of two.0.0 value >>= λ outcome. Some (Outcome one.0.0 outcome)) message two.2 in
    let four = bind_some (outcome_of two.0.0 three.0) (λ (outcome : Outcomes). Some (Outcome one.0.0 outcome)) message three.2 in
    let same : Outcome one.0.0 four.0 ≡ message = some_is (Outcome one.0.0 four.0) message four.2 in
    let number = number_stands bytes one.0.0 one.0.1 bounds one.1 in
    let byte = byte_stands one.0.1 two.0 two.1 in
    let tail = coded_stands two.0.1 two.0.0 three.0 (bounded_behind (two.0.0 ∷ []) two.0.1 (rw byte at number.bounds)) three.1 in
    let code = code_of_outcome two.0.0 three.0 four.0 four.1 in
    let parts : bytes ≡ u64_bytes one.0.0 ++ coded (outcome_code four.0) = cc (number.begins, byte, tail.is, code) in
    let whole : bytes ≡ numbers (one.0.0 ∷ []) ++ coded (outcome_code four.0) = parts ∙ sym (one_first (u64_bytes one.0.0) (coded (outcome_code four.0))) in
    record {
      spelled = ap (λ (b : List ℕ). 0x84 ∷ b) whole ∙ ap down_bytes same;
      sayable = rw (← same) (number.fits, rw code tail.sayable);
    }

refused_stands : (bytes : List ℕ) (message : Down) → Bounded bytes → refused_in bytes ≡ Some message → DownStands (0x85 ∷ bytes) message
unfolding refused_in down_bytes IsDown
refused_stands bytes message bounds e =
    let two = bind_some (byte_at bytes) (λ (code : ℕ × List ℕ). number_in code.1 >>= λ value. refusal_of code.0 value >>= λ refusal. Some (Refused refusal)) message e in
    let three = bind_some (number_in two.0.1) (λ (value : Option ℕ). refusal_of two.0.0 value >>= λ refusal. Some (Refused refusal)) message two.2 in
    let four = bind_some (refusal_of two.0.0 three.0) (λ (refusal : Refusal). Some (Refused refusal)) message three.2 in
    let same : Refused four.0 ≡ message = some_is (Refused four.0) message four.2 in
    let byte = byte_stands bytes two.0 two.1 in
    let tail = coded_stands two.0.1 two.0.0 three.0 (bounded_behind (two.0.0 ∷ []) two.0.1 (rw byte at bounds)) three.1 in
    let code = code_of_refusal two.0.0 three.0 four.0 four.1 in
    let whole : bytes ≡ coded (refusal_code four.0) = cc (byte, tail.is, code) in
    record {
      spelled = ap (λ (b : List ℕ). 0x85 ∷ b) whole ∙ ap down_bytes same;
      sayable = rw (← same) (rw code tail.sayable);
    }

ended_stands : (bytes : List ℕ) (message : Down) → ended_in bytes ≡ Some message → DownStands (0x86 ∷ bytes) message
unfolding ended_in down_bytes IsDown
ended_stands bytes message e =
    let one = bind_some (byte_at bytes) (λ (code : ℕ × List ℕ). fault_of code.0 >>= λ why. nothing_in code.1 >>= λ _. Some (Ended why)) message e in
    let two = bind_some (fault_of one.0.0) (λ (why : CircuitFault). nothing_in one.0.1 >>= λ _. Some (Ended why)) message one.2 in
    let three = bind_some (nothing_in one.0.1) (λ (_ : Unit {0}). Some (Ended two.0)) message two.2 in
    let same : Ended two.0 ≡ message = some_is (Ended two.0) message three.2 in
    let byte = byte_stands bytes one.0 one.1 in
    let nothing = nothing_is one.0.1 three.0 three.1 in
    let code = code_of_fault one.0.0 two.0 two.1 in
    let whole : bytes ≡ fault_code two.0 ∷ [] = cc (byte, nothing, code) in
    record { spelled = ap (λ (b : List ℕ). 0x86 ∷ b) whole ∙ ap down_bytes same; sayable = rw (← same) tt }

-- a message that was read is the one that was put
down_stands : (bytes : List ℕ) (message : Down) → Bounded bytes → down_in bytes ≡ Some message → DownStands bytes message
unfolding down_in
down_stands [] message bounds e = some_none message e
down_stands (kind ∷ rest) message bounds e =
    let behind : Bounded rest = λ i. bounds (suc i) in
    elim (chosen (eqb kind 0x81) _ _ message e) [
      | inl first ↦ (let is : kind ≡ 0x81 = eqb-true kind 0x81 first.0 in rw is (started_stands rest message behind first.1))
      | inr not_first ↦ elim (chosen (eqb kind 0x82) _ _ message not_first.1) [
        | inl second ↦ (let is : kind ≡ 0x82 = eqb-true kind 0x82 second.0 in rw is (connected_stands rest message behind second.1))
        | inr not_second ↦ elim (chosen (eqb kind 0x83) _ _ message not_second.1) [
          | inl third ↦ (let is : kind ≡ 0x83 = eqb-true kind 0x83 third.0 in rw is (batch_stands rest message behind third.1))
          | inr not_third ↦ elim (chosen (eqb kind 0x84) _ _ message not_third.1) [
            | inl fourth ↦ (let is : kind ≡ 0x84 = eqb-true kind 0x84 fourth.0 in rw is (outcome_stands rest message behind fourth.1))
            | inr not_fourth ↦ elim (chosen (eqb kind 0x85) _ _ message not_fourth.1) [
              | inl fifth ↦ (let is : kind ≡ 0x85 = eqb-true kind 0x85 fifth.0 in rw is (refused_stands rest message behind fifth.1))
              | inr not_fifth ↦ (
                  let sixth = kept (eqb kind 0x86) _ message not_fifth.1 in
                  let is : kind ≡ 0x86 = eqb-true kind 0x86 sixth.0 in
                  rw is (ended_stands rest message sixth.1)
                  )
            ]
          ]
        ]
      ]
    ]

-- bytes spell one message
pub one_down : (bytes : List ℕ) (a b : Down) → SpellsDown bytes a → SpellsDown bytes b → a ≡ b
one_down bytes a b first second =
    some_is a b (sym (down_in-down_bytes a first.sayable) ∙ ap down_in (sym first.spelled ∙ second.spelled) ∙ down_in-down_bytes b second.sayable)

-- what a reading gave is spelled, and where it gave nothing no message is spelled
pub down_spelled : (bytes : List ℕ) (r : Result Down HubFault) → Bounded bytes → length bytes ≤ 33554432 → Gives (λ message. message) r (down_in bytes) → IfOk r (λ message. SpellsDown bytes message)
down_spelled bytes (Ok message) bounds short read =
    let stands = down_stands bytes message bounds read in
    record { spelled = stands.spelled; sayable = stands.sayable; short = short }
down_spelled bytes (Err why) bounds short read = tt

pub down_only : (bytes : List ℕ) (r : Result Down HubFault) → IfOk r (λ message. SpellsDown bytes message) → IfOk r (λ message. (other : Down) → SpellsDown bytes other → other ≡ message)
down_only bytes (Ok message) spells = λ other spelled. one_down bytes other message spelled spells
down_only bytes (Err why) spells = tt

pub down_malformed : (bytes : List ℕ) (r : Result Down HubFault) → Gives (λ message. message) r (down_in bytes) → r ≡ Err fault.Malformed → (message : Down) → SpellsDown bytes message → ⊥
down_malformed bytes (Ok given) read e message spells = cc
down_malformed bytes (Err fault.Oom) read e message spells = cc
down_malformed bytes (Err fault.Malformed) read e message spells =
    let present : down_in bytes ≡ Some message = ap down_in spells.spelled ∙ down_in-down_bytes message spells.sayable in
    some_none message (sym read ∙ present)
