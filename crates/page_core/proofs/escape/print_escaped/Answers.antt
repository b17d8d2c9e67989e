use Rattle.std.proofs.Common.{◌≡◌, ◌++◌, sym, ap, ◌∙◌, append_assoc}
use Rattle.std.proofs.lemmas.List.{map-id}
use Rattle.std.proofs.lemmas.Iterator.{YieldsList-from_chars}
use Rattle.std.proofs.lemmas.Iterator.Consumers.{YieldsList-end}
use Rattle.page_core.specs.Escapes.{escaped, escaped_character}
use Rattle.page_core.proofs.EscapeLemmas.{escaped-push}
use Rattle.page_core.proofs.escape.print_escaped.Goals as goal

pub loop-character-preserved : goal.loop-character-preserved
loop-character-preserved c =
    let before = c.args.out.now in
    let so_far = c.loop-character.yielded in
    let next = c.in-Some.character in
    let context = c.args.context in
    c.in_ok-print_character.ensures
    ∙ ap (λ out. out ++ escaped_character context next) c.loop-character.invariant
    ∙ append_assoc before (escaped context so_far) (escaped_character context next)
    ∙ ap (λ more. before ++ more) (sym (escaped-push context so_far next))

pub returns : goal.returns
returns c =
    let all : c.loop-character.yielded ≡ c.args.text.now =
    sym (map-id c.loop-character.yielded)
    ∙ (YieldsList-end (YieldsList-from_chars c.as_str.result.now c.as_str.utf8 cc) c.loop-character.yielded _ c.loop-character.yielded_by _ _ c.in-None.is c.next.ensures.steps).0
    ∙ c.as_str.ensures.characters in
    c.loop-character.invariant ∙ ap (λ text. c.args.out.now ++ escaped c.args.context text) all
