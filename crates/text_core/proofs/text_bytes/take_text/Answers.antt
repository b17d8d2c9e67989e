use Rattle.std.proofs.Common.{◌≡◌, ℕ, List, ◌<◌, ◌+◌, drop, length, get_or, Ok, arith, inl, inr, sym, ◌∙◌, ap}
use Rattle.std.specs.Prelude.{slice_range}
use Rattle.std.proofs.lemmas.List.{get_or-drop, take_rest, length-drop}
use Rattle.text_core.specs.TextBytes.{text_bytes, text_at}
use Rattle.text_core.proofs.TextByteLemmas.{Stands, stands, begins-text_at, text_bytes-some, text_at-none}
use Rattle.text_core.proofs.text_bytes.take_text.Goals as goal

-- what was read of the rest of a slice stands in the slice
at_rest : (bytes rest : List ℕ) (at : ℕ) (text behind : List ℕ) → rest ≡ slice_range bytes at (length bytes) → text_at rest ≡ Ok (text, behind) → text_at (drop at bytes) ≡ Ok (text, behind)
at_rest bytes rest at text behind is read = ap text_at (sym (take_rest bytes at) ∙ sym is) ∙ read

place : (bytes rest : List ℕ) (at : ℕ) (text behind : List ℕ) → ((i : ℕ) → get_or bytes i 0 < 256) → rest ≡ slice_range bytes at (length bytes) → text_at rest ≡ Ok (text, behind) → Stands bytes at (text_bytes text) behind
place bytes rest at text behind bounds is read =
    stands bytes at (text_bytes text) behind (text_bytes-some text)
    (begins-text_at (drop at bytes) text behind (λ i. rw (get_or-drop at bytes i 0) (bounds (at + i))) (at_rest bytes rest at text behind is read)).begins

pub returns-in_default-clause-taken : goal.returns-in_default-clause-taken
returns-in_default-clause-taken c =
    let past : length c.args.bytes.now < c.args.at = elim c.in_default.ensures.lookup.0 [ inl before ↦ before | inr within ↦ absurd (omega arith) ] in
    text_at-none (drop c.args.at c.args.bytes.now) (omega (arith, length-drop c.args.at c.args.bytes.now))

pub overflow_sub-result : goal.overflow_sub-result
overflow_sub-result c =
    (place c.args.bytes.now c.in-Some.rest.now c.args.at c.in_ok-text.text c.in_ok-text.behind.now (λ i. (c.type_inv.bytes i).fits) c.in-Some.ensures.lookup.0.2 c.in_ok-text.ensures).left

pub returns-clause-taken : goal.returns-clause-taken
returns-clause-taken c =
    let found = place c.args.bytes.now c.in-Some.rest.now c.args.at c.in_ok-text.text c.in_ok-text.behind.now (λ i. (c.type_inv.bytes i).fits) c.in-Some.ensures.lookup.0.2 c.in_ok-text.ensures in
    rw found.behind (at_rest c.args.bytes.now c.in-Some.rest.now c.args.at c.in_ok-text.text c.in_ok-text.behind.now c.in-Some.ensures.lookup.0.2 c.in_ok-text.ensures)

pub returns-clause-spelled : goal.returns-clause-spelled
returns-clause-spelled c =
    (place c.args.bytes.now c.in-Some.rest.now c.args.at c.in_ok-text.text c.in_ok-text.behind.now (λ i. (c.type_inv.bytes i).fits) c.in-Some.ensures.lookup.0.2 c.in_ok-text.ensures).between

pub returns-clause-within : goal.returns-clause-within
returns-clause-within c =
    let found = place c.args.bytes.now c.in-Some.rest.now c.args.at c.in_ok-text.text c.in_ok-text.behind.now (λ i. (c.type_inv.bytes i).fits) c.in-Some.ensures.lookup.0.2 c.in_ok-text.ensures in
    (found.before, omega arith)
