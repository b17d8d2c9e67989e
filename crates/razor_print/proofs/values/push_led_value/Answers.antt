use Rattle.std.proofs.lemmas.Result.{on_ok_weaker}
use Rattle.cs_print.specs.Printed.{whole, printed}
use Rattle.razor_token.specs.declared.piece.Quote.TheVariants as q
use Rattle.razor_print.specs.Parts.{led}
use Rattle.razor_print.proofs.WrittenLaws.{quoted_written}
use Rattle.razor_print.proofs.values.push_led_value.Goals as goal

pub returns : goal.returns
returns c =
    on_ok_weaker c.push_value_end.result
    (λ last. quoted_written c.args.out.now c.push_value_start.new.out c.push_led.new.out c.push_value_end.new.out q.Double (led (whole (printed c.args.a.now)))
    c.in_ok-push_value_start.ensures c.in_ok-push_led.ensures last)
    c.push_value_end.ensures
