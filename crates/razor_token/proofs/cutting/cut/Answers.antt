use Rattle.std.proofs.lemmas.Bool.{false≢true}
use Rattle.razor_token.proofs.CutLemmas.{first-where, first-laid, more-laid, uncut-there}
use Rattle.razor_token.proofs.cutting.cut.Goals as goal

pub loop-pieces-init : goal.loop-pieces-init
loop-pieces-init c = record {
  there = first-where c.args.text.now c.new-cutter.result c.new-cutter.ensures;
  laid = first-laid c.args.text.now c.new-cutter.result c.new-pieces.result.items c.new-cutter.ensures c.new-pieces.ensures.items;
}

pub loop-pieces-preserved : goal.loop-pieces-preserved
loop-pieces-preserved c =
    let moved = rw c.in-Some.is at c.in_ok-piece.ensures in
    record {
      there = moved.there;
      laid = more-laid c.args.text.now c.loop-pieces.cutter c.step.new.self c.loop-pieces.pieces.items c.keep.new.pieces.items c.in-Some.piece c.loop-pieces.invariant.laid moved c.in_ok-keep.ensures;
    }

pub returns : goal.returns
returns c =
    uncut-there c.args.text.now c.loop-pieces.cutter c.step.new.self c.loop-pieces.pieces.items c.loop-pieces.invariant.there c.loop-pieces.invariant.laid
    (rw c.in_default.is at c.in_ok-piece.ensures) (λ e. false≢true (c.if-is_done.ensures.1 e))
