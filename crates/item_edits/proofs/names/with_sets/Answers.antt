use Rattle.std.proofs.Common.{rules, ◌≡◌, ◌∙◌, ap, sym, List, [], ◌∷◌, ◌++◌, not}
use Rattle.pairing_meaning.specs.Tallies.{is_set}
use Rattle.item_edits.specs.Named.{set_of}
use Rattle.item_edits.proofs.FilterLemmas.{filtered_in, filtered_out}
use Rattle.item_edits.proofs.names.with_sets.Goals as goal
use Rattle.item_edits.proofs.names.with_sets.Goals.{then-not-has_kept+in_ok-say_attribute+in_ok-push, else-not-has_kept}

pub loop-new-preserved : goal.loop-new-preserved
loop-new-preserved c = elim c.if-not-has_kept.branch [
  | then-not-has_kept+in_ok-say_attribute+in_ok-push w ↦ (
      let longer : c.if-not-has_kept.edits ≡ c.loop-new.edits ++ set_of c.args.sibling c.new-item.result ∷ [] = search rules in
      filtered_in (is_set c.args.olds.now) (set_of c.args.sibling) c.args.news.now c.loop-new.new-index c.new-item.result c.loop-new-test.true c.new-item.is c.loop-new.edits _ c.loop-new.invariant
      c.if-not-has_kept.edits (ap not (sym c.has_kept.ensures ∙ w.if-not-has_kept.true)) longer)
  | else-not-has_kept w ↦
      filtered_out (is_set c.args.olds.now) (set_of c.args.sibling) c.args.news.now c.loop-new.new-index c.new-item.result c.loop-new-test.true c.new-item.is c.loop-new.edits _ c.loop-new.invariant
      c.if-not-has_kept.edits (ap not (sym c.has_kept.ensures ∙ w.if-not-has_kept.false)) w.edits-is
]
