use Rattle.std.proofs.Common.{ap, ◌∙◌}
use Rattle.std.specs.Prelude.{◌==◌}
use Rattle.razor_reader.specs.Marks.{mark_number}
use Rattle.razor_reader.proofs.MarkNumbers.{same_mark}
use Rattle.razor_reader.proofs.mark.is.Goals as goal

pub returns : goal.returns
returns c = same_mark c.mark_of.result c.args.mark c.same.result c.same.ensures ∙ ap (λ x. mark_number x == mark_number c.args.mark) c.mark_of.ensures
