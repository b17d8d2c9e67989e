-- The characters of a word are its bytes.
use Rattle.std.proofs.Common.{◌≡◌, refl}
use Rattle.std.specs.Prelude.{codes}
use Rattle.std.specs.Str.{chars}

pub child_content_word : chars (codes "ChildContent") ≡ codes "ChildContent"
unfolding chars
child_content_word = refl
