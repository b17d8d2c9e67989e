use Rattle.std.proofs.lemmas.Result.{on_ok_weaker}
use Rattle.razor_print.proofs.WrittenLaws.{implements_written}
use Rattle.razor_print.proofs.component.push_directive.Goals as goal

pub returns : goal.returns
returns c = on_ok_weaker c.push_ascii.result (λ h. implements_written c.args.out.now c.push_ascii.new.out h) c.push_ascii.ensures
