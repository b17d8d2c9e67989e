use Rattle.std.proofs.Common.{◌≡◌, ℕ, List, length, ap, ◌∙◌, arith}
use Rattle.std.proofs.lemmas.Str.{length-le-encodes}
use Rattle.text_core.specs.declared.place.Place.{Place}
use Rattle.cs_token.specs.Places.{behind, first_place, place_after}
use Rattle.razor_reader.proofs.reader.end_of.Goals as goal

pub behind-requires-clause-room : goal.behind-requires-clause-room
behind-requires-clause-room c =
    let line : c.first_place.result.line ≡ 1 = ap (λ (p : Place). p.line) c.first_place.ensures in
    let column : c.first_place.result.column ≡ 1 = ap (λ (p : Place). p.column) c.first_place.ensures in
    omega (arith, line, column, ap length c.deref.ensures.value, ap length c.in_ok-characters.ensures, length-le-encodes c.args.text.now)

pub returns : goal.returns
unfolding place_after
returns c =
    c.behind.ensures.value ∙ ap (λ (p : Place). behind p c.deref.result.now) c.first_place.ensures
    ∙ ap (λ (x : List ℕ). behind first_place x) (c.deref.ensures.value ∙ c.in_ok-characters.ensures)
