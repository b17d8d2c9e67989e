use Rattle.std.proofs.Common.{◌∙◌, sym, ap}
use Rattle.std.specs.Option.{option_map}
use Rattle.first_click.specs.Reading.Content.{state_of}
use Rattle.first_click.proofs.Reading.ContentLemmas.{tree_built, not_built}
use Rattle.first_click.proofs.content.tree_of.Goals as goal

pub returns-in-Some : goal.returns-in-Some
returns-in-Some c =
    rw c.finished.ensures
    (tree_built _ _ _ _ (sym (sym (ap (option_map state_of) c.in-Some.is) ∙ c.in_ok-builder.ensures)))

pub returns-in-None : goal.returns-in-None
returns-in-None c = not_built _ _ (sym (sym (ap (option_map state_of) c.in-None.is) ∙ c.in_ok-builder.ensures))
