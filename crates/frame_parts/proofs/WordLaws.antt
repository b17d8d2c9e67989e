-- The characters of words are their bytes.
use Rattle.std.proofs.Common.{◌≡◌, refl}
use Rattle.std.specs.Prelude.{codes}
use Rattle.std.specs.Str.{chars}

pub child_content_word : chars (codes "ChildContent") ≡ codes "ChildContent"
unfolding chars
child_content_word = refl

pub initialized_word : chars (codes "OnInitialized") ≡ codes "OnInitialized"
unfolding chars
initialized_word = refl

pub parameters_set_word : chars (codes "OnParametersSet") ≡ codes "OnParametersSet"
unfolding chars
parameters_set_word = refl

pub dispose_word : chars (codes "Dispose") ≡ codes "Dispose"
unfolding chars
dispose_word = refl

pub value_word : chars (codes "Value") ≡ codes "Value"
unfolding chars
value_word = refl

pub name_word : chars (codes "Name") ≡ codes "Name"
unfolding chars
name_word = refl
