use Rattle.std.proofs.Common.{◌≡◌, refl}
use Rattle.std.specs.Str.{chars}
use Rattle.std.specs.Ordering.{nat_cmp}
use Rattle.std.specs.Cmp.Lexicographic.{slice_cmp}
use Rattle.std.proofs.lemmas.Iterator.{YieldsList-from_chars}
use Rattle.std.proofs.lemmas.Iterator.Search.{cmp_from_yields_List}
use Rattle.text_core.proofs.text.TxtOrd.cmp.Goals as goal

pub returns : goal.returns
returns c =
    let ordered : c.cmp.result ≡ slice_cmp nat_cmp (chars c.as_str.result.now) (chars c.as_str-2.result.now) =
    cmp_from_yields_List (λ x y. y ≡ x) c.chars-2.result nat_cmp c.cmp.result c.cmp.ensures.ran
    (YieldsList-from_chars c.as_str.result.now c.as_str.utf8 c.chars.ensures.rest)
    (λ it e. rw e (YieldsList-from_chars c.as_str-2.result.now c.as_str-2.utf8 c.chars-2.ensures.rest))
    (λ x y. refl) in
    rw (c.as_str.ensures.characters, c.as_str-2.ensures.characters) at ordered
