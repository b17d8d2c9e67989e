use Rattle.std.proofs.Common.{◌++◌, take, arith}
use Rattle.outside.proofs.WritingLemmas.{adds_both, rest_after}
use Rattle.outside.proofs.writing.write_all.Goals as goal

pub loop-rest-preserved : goal.loop-rest-preserved
loop-rest-preserved g c =
    let so_far = c.loop-rest.invariant.1 in
    let wrote = c.in-Took.ensures.takes in (
      omega (arith, c.loop-rest.invariant.0, c.in-Took.ensures.cause.later),
      (
        so_far.0 ++ take c.in-Took.taken c.loop-rest.rest.now,
        rest_after so_far.0 c.loop-rest.rest.now c.args.bytes.now c.in-Took.taken wrote.0 so_far.1,
        adds_both _ _ _ so_far.0 (take c.in-Took.taken c.loop-rest.rest.now) so_far.2 wrote.1,
      ),
    )
