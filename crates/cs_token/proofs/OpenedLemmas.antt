-- What is open.
use Rattle.std.proofs.Common.{◌≡◌, ◌<◌, List, [], ◌∷◌, ◌++◌, length, reverse, get_or, refl, ap, sym, ◌∙◌, arith}
use Rattle.std.proofs.lemmas.Grind.{reverse_onto}
use Rattle.text_core.specs.declared.place.Place.{Place}
use Rattle.cs_token.specs.declared.around.Opened.{Opened}
use Rattle.cs_token.specs.Spelling.{outermost}

outermost-last : (place : Place) (inner : List Opened) (last : Opened) → outermost place (inner ++ last ∷ []) ≡ last.place
outermost-last place [] last = refl
outermost-last place (first ∷ inner) last = outermost-last first.place inner last

-- the first that was opened is the outermost
pub outermost-reverse : (place : Place) (opened : List Opened) (d : Opened) → 0 < length opened → (get_or opened 0 d).place ≡ outermost place (reverse opened)
outermost-reverse place [] d some = absurd (omega arith)
outermost-reverse place (first ∷ opened) d some =
    sym (ap (outermost place) (reverse_onto opened first []) ∙ outermost-last place (reverse opened) first)
