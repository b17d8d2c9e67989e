use Rattle.std.proofs.Common.{◌≡◌, ◌∙◌, ap, sym, subst, ℕ, List, length, map, Option, arith}
use Rattle.std.proofs.lemmas.List.{length-map}
use Rattle.pairing_meaning.specs.Slots.{Slot}
use Rattle.pairing_meaning.specs.Turning.{Turns}
use Rattle.pairing_meaning.specs.Tallies.{list_edits}
use Rattle.item_pairing.specs.Standing.{slot_of}
use Rattle.sibling_edits.specs.Matched.{Matched, carried}
use Rattle.item_edits.proofs.MatchedLemmas.{tells-matched, tells-long}
use Rattle.item_edits.proofs.arranged.arrange_slots.Goals as goal

pub arrange-requires-clause-few : goal.arrange-requires-clause-few
arrange-requires-clause-few c =
    let long : length c.as_slice.result.now ≡ length c.args.news.now =
    ap length c.as_slice.ensures ∙ tells-long (map slot_of c.args.olds.now) (map slot_of c.args.news.now) c.in_ok-from.from c.in_ok-from.ensures ∙ length-map c.args.news.now slot_of in
    let few = c.requires.few in
    omega arith

pub arrange-requires-clause-few_old : goal.arrange-requires-clause-few_old
arrange-requires-clause-few_old c =
    let long : length c.as_slice-2.result.now ≡ length c.args.olds.now =
    ap length c.as_slice-2.ensures ∙ tells-long (map slot_of c.args.news.now) (map slot_of c.args.olds.now) c.in_ok-to.to c.in_ok-to.ensures ∙ length-map c.args.olds.now slot_of in
    let few = c.requires.few_old in
    omega arith

pub arrange-requires-clause-alike : goal.arrange-requires-clause-alike
arrange-requires-clause-alike c =
    c.requires.alike ∙ sym (ap length c.as_slice.ensures ∙ tells-long (map slot_of c.args.olds.now) (map slot_of c.args.news.now) c.in_ok-from.from c.in_ok-from.ensures ∙ length-map c.args.news.now slot_of)

pub arrange-requires-clause-matched : goal.arrange-requires-clause-matched
arrange-requires-clause-matched c =
    subst (λ (from : List (Option ℕ)). Matched from c.as_slice-2.result.now) (sym c.as_slice.ensures)
    (subst (λ (to : List (Option ℕ)). Matched c.in_ok-from.from to) (sym c.as_slice-2.ensures)
    (tells-matched (map slot_of c.args.olds.now) (map slot_of c.args.news.now) c.in_ok-from.from c.in_ok-to.to c.in_ok-from.ensures c.in_ok-to.ensures))

pub returns-clause-turns : goal.returns-clause-turns
returns-clause-turns c = λ batch old long.
    let long_to : length c.as_slice-2.result.now ≡ length c.args.olds.now =
    ap length c.as_slice-2.ensures ∙ tells-long (map slot_of c.args.news.now) (map slot_of c.args.olds.now) c.in_ok-to.to c.in_ok-to.ensures ∙ length-map c.args.olds.now slot_of in
    subst (λ (from : List (Option ℕ)). Turns batch c.in_ok-edits.edits old (carried batch from c.args.nodes old)) c.as_slice.ensures (c.in_ok-edits.ensures.turns batch old (long ∙ sym long_to))

pub returns-clause-counts : goal.returns-clause-counts
returns-clause-counts c =
    (c.in_ok-to.to, c.in_ok-to.ensures, c.in_ok-edits.ensures.counts ∙ ap (λ (from : List (Option ℕ)). list_edits from c.as_slice-2.result.now) c.as_slice.ensures ∙ ap (list_edits c.in_ok-from.from) c.as_slice-2.ensures)
