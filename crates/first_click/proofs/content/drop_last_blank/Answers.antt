use Rattle.std.proofs.Common.{◌≡◌, ◌-◌, true, false, ◌∙◌, sym, ap}
use Rattle.std.specs.List.{remove}
use Rattle.first_click.specs.Reading.Content.{ends_blank}
use Rattle.first_click.proofs.Reading.TrimLemmas.{remove-last, without_last_blank-kept}
use Rattle.first_click.proofs.content.drop_last_blank.Goals as goal

pub returns-then-ends_blank : goal.returns-then-ends_blank
returns-then-ends_blank c =
    let blank : ends_blank c.args.items.now ≡ true = sym (c.ends_blank.ensures ∙ ap ends_blank c.as_slice.ensures) ∙ c.if-ends_blank.true in
    c.remove.ensures.rest ∙ ap (λ n. remove c.args.items.now (n - 1)) c.len.ensures ∙ remove-last c.args.items.now blank

pub returns-else-ends_blank : goal.returns-else-ends_blank
returns-else-ends_blank c =
    let solid : ends_blank c.args.items.now ≡ false = sym (c.ends_blank.ensures ∙ ap ends_blank c.as_slice.ensures) ∙ c.if-ends_blank.false in
    without_last_blank-kept c.args.items.now solid
