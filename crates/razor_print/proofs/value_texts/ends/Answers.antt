use Rattle.razor_print.proofs.ValueTextLaws.{begun}
use Rattle.razor_print.proofs.value_texts.ends.Goals as goal

pub loop-step-init : goal.loop-step-init
loop-step-init c = rw c.new-opened.ensures.items (begun c.args.quote c.args.text.now)
