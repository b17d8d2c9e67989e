use Rattle.std.proofs.Common.{◌∙◌, sym, ap}
use Rattle.first_click.specs.Content.{is_blank}
use Rattle.first_click.proofs.Reading.TrimLemmas.{ends_blank-at}
use Rattle.first_click.proofs.content.ends_blank.Goals as goal

pub returns-in-len1-up : goal.returns-in-len1-up
returns-in-len1-up c =
    c.is_blank.ensures ∙ ap is_blank c.last-item.is ∙ sym (ends_blank-at c.args.items.now c.last-item.result c.in-len1-up.len_at_least)
