use Rattle.std.proofs.Common.{◌≡◌, ◌∙◌, refl, sym, subst, take, true, arith}
use Rattle.std.specs.List.{list_any}
use Rattle.std.proofs.lemmas.List.{take_all}
use Rattle.pairing_meaning.specs.Tallies.{same_name}
use Rattle.item_edits.specs.Renderings.{NamesDiffer}
use Rattle.item_edits.proofs.FittingLemmas.{differ-more, differ-not}
use Rattle.item_edits.proofs.fitting.names_differ.Goals as goal

pub returns-then-has_name : goal.returns-then-has_name
returns-then-has_name c = (
  λ never. absurd (cc),
  λ differ. absurd (differ-not c.args.attributes.now c.loop-k.k c.index-attributes-k.result c.loop-k-test.true c.index-attributes-k.is (sym c.has_name.ensures ∙ c.if-has_name.true) differ),
)

pub loop-k-preserved : goal.loop-k-preserved
loop-k-preserved c = differ-more c.args.attributes.now c.loop-k.k c.index-attributes-k.result c.loop-k-test.true c.index-attributes-k.is (sym c.has_name.ensures ∙ c.if-has_name.false) c.loop-k.invariant

pub returns : goal.returns
returns c = (λ always. subst NamesDiffer (take_all c.loop-k.k c.args.attributes.now (omega (arith, c.loop-k-test.false))) c.loop-k.invariant, λ differ. refl)
