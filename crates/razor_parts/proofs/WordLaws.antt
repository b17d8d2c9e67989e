-- The characters of words are their bytes.
use Rattle.std.proofs.Common.{◌≡◌, refl}
use Rattle.std.specs.Prelude.{codes}
use Rattle.std.specs.Str.{chars}

pub checked_word : chars (codes "checked") ≡ codes "checked"
unfolding chars
checked_word = refl

pub value_word : chars (codes "value") ≡ codes "value"
unfolding chars
value_word = refl

pub input_word : chars (codes "oninput") ≡ codes "oninput"
unfolding chars
input_word = refl

pub change_word : chars (codes "onchange") ≡ codes "onchange"
unfolding chars
change_word = refl

pub context_word : chars (codes "context") ≡ codes "context"
unfolding chars
context_word = refl
