use Rattle.std.proofs.Common.{rules, ◌≡◌, ◌∷◌, []}
use Rattle.std.specs.Prelude.{codes}
use Rattle.counter_stage.specs.Tree as spec
use Rattle.counter_stage.proofs.PageLemmas.{button-made}
use Rattle.counter_stage.proofs.printing.button.Goals as goal

pub returns : goal.returns
returns c =
    let name : c.in_ok-word-2.field-0 ≡ codes "button" = search rules in
    let attributes : c.new.result ≡ [] = search rules in
    let handlers : c.handlers-2.inside.entries.entries ≡ (codes "onclick", 1) ∷ [] = search rules in
    let children : c.in_ok-text_of.field-0 ≡ spec.text_of c.args.number = search rules in
    button-made c.in_ok-word-2.field-0 c.new.result c.handlers-2.inside.entries.entries c.in_ok-text_of.field-0 c.args.number name attributes handlers children
