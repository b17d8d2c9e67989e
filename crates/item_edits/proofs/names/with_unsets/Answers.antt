use Rattle.std.proofs.Common.{rules, ◌≡◌, ◌∙◌, ap, sym, List, [], ◌∷◌, ◌++◌, not}
use Rattle.pairing_meaning.specs.Tallies.{is_unset}
use Rattle.item_edits.specs.Named.{unset_of}
use Rattle.item_edits.proofs.FilterLemmas.{filtered_in, filtered_out}
use Rattle.item_edits.proofs.names.with_unsets.Goals as goal
use Rattle.item_edits.proofs.names.with_unsets.Goals.{then-not-has_name+in_ok-clone+in_ok-push, else-not-has_name}

pub loop-old-preserved : goal.loop-old-preserved
loop-old-preserved c = elim c.if-not-has_name.branch [
  | then-not-has_name+in_ok-clone+in_ok-push w ↦ (
      let longer : c.if-not-has_name.edits ≡ c.loop-old.edits ++ unset_of c.args.sibling c.old-item.result ∷ [] = search rules in
      filtered_in (is_unset c.args.news.now) (unset_of c.args.sibling) c.args.olds.now c.loop-old.old-index c.old-item.result c.loop-old-test.true c.old-item.is c.loop-old.edits _ c.loop-old.invariant
      c.if-not-has_name.edits (ap not (sym c.has_name.ensures ∙ w.if-not-has_name.true)) longer)
  | else-not-has_name w ↦
      filtered_out (is_unset c.args.news.now) (unset_of c.args.sibling) c.args.olds.now c.loop-old.old-index c.old-item.result c.loop-old-test.true c.old-item.is c.loop-old.edits _ c.loop-old.invariant
      c.if-not-has_name.edits (ap not (sym c.has_name.ensures ∙ w.if-not-has_name.false)) w.edits-is
]
