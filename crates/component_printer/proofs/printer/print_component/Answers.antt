use Rattle.component_printer.proofs.PrinterLaws.{spelled_again}
use Rattle.component_printer.proofs.printer.print_component.Goals as goal
use Rattle.razor_print.specs.Components.{component_text}
use Rattle.std.proofs.Common.{◌++◌, ap, ◌∙◌}

pub returns-clause-again : goal.returns-clause-again
returns-clause-again c =
    spelled_again c.push_component.new.out c.args.component.now
    (c.in_ok-push_component.ensures ∙ ap (λ z. z ++ component_text c.args.component.now) c.new-out.ensures)
