use Rattle.std.proofs.Common.{◌≡◌, sym, ◌∙◌, subst}
use Rattle.hub_messages.specs.Screen.{found_at}
use Rattle.counter_stage.specs.declared.tree.CounterTree.{CounterTree}
use Rattle.counter_stage.specs.Tree.{page_of}
use Rattle.counter_stage.proofs.PageLemmas.{found-button}
use Rattle.counter_stage.proofs.screen.CounterScreenScreen.handler_at.Goals as goal

pub returns-in-Shows : goal.returns-in-Shows
returns-in-Shows c =
    subst (λ (tree : CounterTree). c.on_button.result ≡ found_at (page_of tree) c.args.path.now c.args.event.now) (sym c.in-Shows.is)
    (c.on_button.ensures ∙ found-button c.in-Shows.field-0 c.args.path.now c.args.event.now)
