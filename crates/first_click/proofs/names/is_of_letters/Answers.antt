use Rattle.std.proofs.Common.{◌≡◌, ◌∙◌, ap, rules, tests}
use Rattle.std.specs.List.{list_all}
use Rattle.std.specs.Str.{chars}
use Rattle.std.proofs.lemmas.Iterator.{YieldsList-from_chars}
use Rattle.std.proofs.lemmas.Iterator.Search.{all_from_yields_List}
use Rattle.first_click.specs.declared.characters.Class.TheVariants as class
use Rattle.first_click.specs.Characters.{is_in}
use Rattle.first_click.proofs.names.is_of_letters.Goals as goal

pub returns : goal.returns
returns c =
    let all : c.all.result ≡ list_all (is_in class.Letter) (chars c.as_str.result.now) =
    all_from_yields_List (is_in class.Letter) _ _ c.all.result c.all.ensures.ran (YieldsList-from_chars c.as_str.result.now c.as_str.utf8 c.chars.ensures.rest) (λ x b q called. search (rules, tests)) in
    all ∙ ap (list_all (is_in class.Letter)) c.as_str.ensures.characters
