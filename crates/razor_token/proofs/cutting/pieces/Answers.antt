use Rattle.std.proofs.Common.{arith, ap, length}
use Rattle.std.proofs.lemmas.Str.{length-le-encodes}
use Rattle.razor_token.specs.Answers.{Explains}
use Rattle.razor_token.proofs.CutLemmas.{covered}
use Rattle.razor_token.proofs.cutting.pieces.Goals as goal

pub cut-requires : goal.cut-requires
cut-requires c =
    omega (arith, ap length c.deref.ensures.value, ap length c.in_ok-characters.ensures, length-le-encodes c.args.text.now)

pub returns-clause-cover : goal.returns-clause-cover
returns-clause-cover c = covered c.args.text.now c.cut.result (Explains c.args.text.now) (rw (c.deref.ensures.value, c.in_ok-characters.ensures) at c.cut.ensures)
