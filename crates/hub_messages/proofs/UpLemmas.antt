-- Messages of a browser: what was put is what is read, and the other way round.
use Rattle.std.proofs.Common.{◌≡◌, ℕ, suc, ◌^◌, ◌<◌, ◌≤◌, List, [], ◌∷◌, ◌++◌, length, Some, Ok, Err, inl, inr, eqb, arith, refl, sym, ◌∙◌, ap, append_assoc}
use Rattle.std.specs.declared.option.Option.{Option}
use Rattle.std.specs.declared.result.Result.{Result}
use Rattle.std.specs.Result.{IfOk}
use Rattle.std.specs.Prelude.{encode_utf8_all}
use Rattle.std.proofs.lemmas.Bool.{eqb-true}
use Rattle.std.proofs.lemmas.List.{length-append}
use Rattle.text_core.specs.Words.{u64_bytes}
use Rattle.text_core.specs.TextBytes.{text_bytes}
use Rattle.hub_messages.specs.declared.hub_fault.HubFault.{HubFault}
use Rattle.hub_messages.specs.declared.hub_fault.HubFault.TheVariants as fault
use Rattle.hub_messages.specs.declared.up.Up.{Up}
use Rattle.hub_messages.specs.declared.up.Up.TheVariants.{Start, Connect, Event, Ack}
use Rattle.hub_messages.specs.Options.{◌>>=◌}
use Rattle.hub_messages.specs.Spelling.Fields.{numbers, carried}
use Rattle.hub_messages.specs.Spelling.Messages.{up_bytes}
use Rattle.hub_messages.specs.Spelling.Spells.{IsUp, SpellsUp}
use Rattle.hub_messages.specs.Reading.Faults.{Gives}
use Rattle.hub_messages.specs.Reading.Fields.{number_at, pair_at, name_at, nothing_in, carried_in}
use Rattle.hub_messages.specs.Reading.Messages.{start_in, connect_in, event_in, ack_in, up_in}
use Rattle.hub_messages.proofs.OptionLemmas.{bind_some, some_is, some_none, chosen, kept}
use Rattle.hub_messages.proofs.FieldLemmas.{Bounded, number_at-u64_bytes, number_stands, pair_at-u64_bytes, pair_stands, name_at-text_bytes, text_stands, nothing_is, carried_in-carried, carried_stands, short_text}

three_first : (a b c d : List ℕ) → (a ++ (b ++ (c ++ []))) ++ d ≡ a ++ (b ++ (c ++ d))
three_first a b c d = simp append_assoc

-- a message that was put is read back
pub up_in-up_bytes : (message : Up) → IsUp message → up_in (up_bytes message) ≡ Some message
unfolding up_in up_bytes IsUp start_in connect_in event_in ack_in
up_in-up_bytes Start is = refl
up_in-up_bytes (Connect number secret applied got) is =
    rw (pair_at-u64_bytes number secret (u64_bytes applied ++ (u64_bytes got ++ [])) is.0 is.1.0, pair_at-u64_bytes applied got [] is.1.1.0 is.1.1.1.0) refl
up_in-up_bytes (Event number handler got name text) is =
    rw (
      three_first (u64_bytes number) (u64_bytes handler) (u64_bytes got) (text_bytes name ++ carried text),
      number_at-u64_bytes number (u64_bytes handler ++ (u64_bytes got ++ (text_bytes name ++ carried text))) is.0.0,
      pair_at-u64_bytes handler got (text_bytes name ++ carried text) is.0.1.0 is.0.1.1.0,
      name_at-text_bytes name (carried text) is.1,
      carried_in-carried text is.2,
    )
    refl
up_in-up_bytes (Ack batch got) is =
    rw (pair_at-u64_bytes batch got [] is.0 is.1.0) refl

record UpStands (bytes : List ℕ) (message : Up) : Type 0 where
  spelled : bytes ≡ up_bytes message
  sayable : IsUp message

start_stands : (bytes : List ℕ) (message : Up) → start_in bytes ≡ Some message → UpStands (0x01 ∷ bytes) message
unfolding start_in up_bytes IsUp
start_stands [] message e = some_none message e
start_stands (version ∷ rest) message e =
    let first = kept (eqb version 1) (nothing_in rest >>= λ _. Some Start) message e in
    let is : version ≡ 1 = eqb-true version 1 first.0 in
    let one = bind_some (nothing_in rest) (λ (_ : Unit {0}). Some Start) message first.1 in
    let nothing = nothing_is rest one.0 one.1 in
    let same : Start ≡ message = some_is Start message one.2 in
    record { spelled = rw (← same, is, nothing) refl; sayable = rw (← same) tt }

connect_stands : (bytes : List ℕ) (message : Up) → Bounded bytes → connect_in bytes ≡ Some message → UpStands (0x02 ∷ bytes) message
unfolding connect_in up_bytes IsUp
connect_stands [] message bounds e = some_none message e
connect_stands (version ∷ rest) message bounds e =
    let read = kept (eqb version 1) _ message e in
    let is : version ≡ 1 = eqb-true version 1 read.0 in
    let one = bind_some (pair_at rest) (λ (first : (ℕ × ℕ) × List ℕ). pair_at first.1 >>= λ second. nothing_in second.1 >>= λ _. Some (Connect first.0.0 first.0.1 second.0.0 second.0.1)) message read.1 in
    let two = bind_some (pair_at one.0.1) (λ (second : (ℕ × ℕ) × List ℕ). nothing_in second.1 >>= λ _. Some (Connect one.0.0.0 one.0.0.1 second.0.0 second.0.1)) message one.2 in
    let three = bind_some (nothing_in two.0.1) (λ (_ : Unit {0}). Some (Connect one.0.0.0 one.0.0.1 two.0.0.0 two.0.0.1)) message two.2 in
    let same : Connect one.0.0.0 one.0.0.1 two.0.0.0 two.0.0.1 ≡ message = some_is (Connect one.0.0.0 one.0.0.1 two.0.0.0 two.0.0.1) message three.2 in
    let first = pair_stands rest one.0.0 one.0.1 (λ i. bounds (suc i)) one.1 in
    let second = pair_stands one.0.1 two.0.0 two.0.1 first.bounds two.1 in
    let nothing = nothing_is two.0.1 three.0 three.1 in
    let whole : rest ≡ numbers (one.0.0.0 ∷ one.0.0.1 ∷ two.0.0.0 ∷ two.0.0.1 ∷ []) = cc (first.begins, second.begins, nothing) in
    record {
      spelled = ap (λ (v : ℕ). 0x02 ∷ v ∷ rest) is ∙ ap (λ (b : List ℕ). 0x02 ∷ 1 ∷ b) whole ∙ ap up_bytes same;
      sayable = rw (← same) (first.first_fits, (first.second_fits, (second.first_fits, (second.second_fits, tt))));
    }

event_stands : (bytes : List ℕ) (message : Up) → Bounded bytes → event_in bytes ≡ Some message → UpStands (0x03 ∷ bytes) message
unfolding event_in up_bytes IsUp
event_stands bytes message bounds e =
    let one = bind_some (number_at bytes) (λ (n : ℕ × List ℕ). pair_at n.1 >>= λ p. name_at p.1 >>= λ t. carried_in t.1 >>= λ c. Some (Event n.0 p.0.0 p.0.1 t.0 c)) message e in
    let two = bind_some (pair_at one.0.1) (λ (p : (ℕ × ℕ) × List ℕ). name_at p.1 >>= λ t. carried_in t.1 >>= λ c. Some (Event one.0.0 p.0.0 p.0.1 t.0 c)) message one.2 in
    let three = bind_some (name_at two.0.1) (λ (t : List ℕ × List ℕ). carried_in t.1 >>= λ c. Some (Event one.0.0 two.0.0.0 two.0.0.1 t.0 c)) message two.2 in
    let four = bind_some (carried_in three.0.1) (λ (c : Option (List ℕ)). Some (Event one.0.0 two.0.0.0 two.0.0.1 three.0.0 c)) message three.2 in
    let same : Event one.0.0 two.0.0.0 two.0.0.1 three.0.0 four.0 ≡ message = some_is (Event one.0.0 two.0.0.0 two.0.0.1 three.0.0 four.0) message four.2 in
    let number = number_stands bytes one.0.0 one.0.1 bounds one.1 in
    let pair = pair_stands one.0.1 two.0.0 two.0.1 number.bounds two.1 in
    let name = text_stands two.0.1 three.0.0 three.0.1 pair.bounds three.1 in
    let text = carried_stands three.0.1 four.0 name.bounds four.1 in
    let parts : bytes ≡ u64_bytes one.0.0 ++ (u64_bytes two.0.0.0 ++ (u64_bytes two.0.0.1 ++ (text_bytes three.0.0 ++ carried four.0))) =
    cc (number.begins, pair.begins, name.begins, text.is) in
    let whole : bytes ≡ numbers (one.0.0 ∷ two.0.0.0 ∷ two.0.0.1 ∷ []) ++ (text_bytes three.0.0 ++ carried four.0) =
    parts ∙ sym (three_first (u64_bytes one.0.0) (u64_bytes two.0.0.0) (u64_bytes two.0.0.1) (text_bytes three.0.0 ++ carried four.0)) in
    record {
      spelled = rw (← same) (ap (λ (b : List ℕ). 0x03 ∷ b) whole);
      sayable = rw (← same) ((number.fits, (pair.first_fits, (pair.second_fits, tt))), name.is, text.sayable);
    }

ack_stands : (bytes : List ℕ) (message : Up) → Bounded bytes → ack_in bytes ≡ Some message → UpStands (0x04 ∷ bytes) message
unfolding ack_in up_bytes IsUp
ack_stands bytes message bounds e =
    let one = bind_some (pair_at bytes) (λ (pair : (ℕ × ℕ) × List ℕ). nothing_in pair.1 >>= λ _. Some (Ack pair.0.0 pair.0.1)) message e in
    let two = bind_some (nothing_in one.0.1) (λ (_ : Unit {0}). Some (Ack one.0.0.0 one.0.0.1)) message one.2 in
    let same : Ack one.0.0.0 one.0.0.1 ≡ message = some_is (Ack one.0.0.0 one.0.0.1) message two.2 in
    let pair = pair_stands bytes one.0.0 one.0.1 bounds one.1 in
    let nothing = nothing_is one.0.1 two.0 two.1 in
    let whole : bytes ≡ numbers (one.0.0.0 ∷ one.0.0.1 ∷ []) = cc (pair.begins, nothing) in
    record {
      spelled = rw (← same) (ap (λ (b : List ℕ). 0x04 ∷ b) whole);
      sayable = rw (← same) (pair.first_fits, (pair.second_fits, tt));
    }

-- a message that was read is the one that was put
up_stands : (bytes : List ℕ) (message : Up) → Bounded bytes → up_in bytes ≡ Some message → UpStands bytes message
unfolding up_in
up_stands [] message bounds e = some_none message e
up_stands (kind ∷ rest) message bounds e =
    let behind : Bounded rest = λ i. bounds (suc i) in
    elim (chosen (eqb kind 0x01) _ _ message e) [
      | inl first ↦ (let is : kind ≡ 0x01 = eqb-true kind 0x01 first.0 in rw is (start_stands rest message first.1))
      | inr not_first ↦ elim (chosen (eqb kind 0x02) _ _ message not_first.1) [
        | inl second ↦ (let is : kind ≡ 0x02 = eqb-true kind 0x02 second.0 in rw is (connect_stands rest message behind second.1))
        | inr not_second ↦ elim (chosen (eqb kind 0x03) _ _ message not_second.1) [
          | inl third ↦ (let is : kind ≡ 0x03 = eqb-true kind 0x03 third.0 in rw is (event_stands rest message behind third.1))
          | inr not_third ↦ (
              let fourth = kept (eqb kind 0x04) _ message not_third.1 in
              let is : kind ≡ 0x04 = eqb-true kind 0x04 fourth.0 in
              rw is (ack_stands rest message behind fourth.1)
              )
        ]
      ]
    ]

-- bytes spell one message
pub one_up : (bytes : List ℕ) (a b : Up) → SpellsUp bytes a → SpellsUp bytes b → a ≡ b
one_up bytes a b first second =
    some_is a b (sym (up_in-up_bytes a first.sayable) ∙ ap up_in (sym first.spelled ∙ second.spelled) ∙ up_in-up_bytes b second.sayable)

-- what a reading gave is spelled, and where it gave nothing no message is spelled
pub up_spelled : (bytes : List ℕ) (r : Result Up HubFault) → Bounded bytes → length bytes ≤ 33554432 → Gives (λ message. message) r (up_in bytes) → IfOk r (λ message. SpellsUp bytes message)
up_spelled bytes (Ok message) bounds short read =
    let stands = up_stands bytes message bounds read in
    record { spelled = stands.spelled; sayable = stands.sayable; short = short }
up_spelled bytes (Err why) bounds short read = tt

pub up_only : (bytes : List ℕ) (r : Result Up HubFault) → IfOk r (λ message. SpellsUp bytes message) → IfOk r (λ message. (other : Up) → SpellsUp bytes other → other ≡ message)
up_only bytes (Ok message) spells = λ other spelled. one_up bytes other message spelled spells
up_only bytes (Err why) spells = tt

pub up_malformed : (bytes : List ℕ) (r : Result Up HubFault) → Gives (λ message. message) r (up_in bytes) → r ≡ Err fault.Malformed → (message : Up) → SpellsUp bytes message → ⊥
up_malformed bytes (Ok given) read e message spells = cc
up_malformed bytes (Err fault.Oom) read e message spells = cc
up_malformed bytes (Err fault.Malformed) read e message spells =
    let present : up_in bytes ≡ Some message = ap up_in spells.spelled ∙ up_in-up_bytes message spells.sayable in
    some_none message (sym read ∙ present)

-- the name of an event that is spelled within a message, and the text that it carries
pub event_short : (number handler got : ℕ) (name : List ℕ) (text : Option (List ℕ)) → length (up_bytes (Event number handler got name text)) ≤ 33554432 → (length (encode_utf8_all name) < 2 ^ 28) × (length (carried text) < 2 ^ 28)
unfolding up_bytes
event_short number handler got name text short =
    let sizes : length (numbers (number ∷ handler ∷ got ∷ []) ++ (text_bytes name ++ carried text)) < 33554432 = omega arith in
    let whole = length-append (numbers (number ∷ handler ∷ got ∷ [])) (text_bytes name ++ carried text) in
    let back = length-append (text_bytes name) (carried text) in
    (omega (arith, whole, back, short_text name), omega (arith, whole, back))
