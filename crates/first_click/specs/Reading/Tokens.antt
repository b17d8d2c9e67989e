-- How tokens are cut off.
use Rattle.std.specs.Prelude.{ℕ, List, length, take, drop, Option, Some, None, if◌then◌else◌, ◌==◌}
use Rattle.first_click.specs.declared.characters.Class.TheVariants as class
use Rattle.first_click.specs.Characters.{begins_with}
use Rattle.first_click.specs.Reading.Runs.{past, run_at}
use Rattle.first_click.specs.Tokens.{begins_double}

-- the first characters, as a token
abbrev pub sign_at : List ℕ → Option (List ℕ × List ℕ)
sign_at text =
    if begins_double text then Some (take 2 text, drop 2 text)
    else if length text == 0 then None
    else Some (take 1 text, drop 1 text)

-- the token that stands first behind white space, and what stands behind it
unfoldable pub token_at : List ℕ → Option (List ℕ × List ℕ)
token_at text =
    if begins_with class.Word (past class.White text)
    then run_at class.Word (past class.White text)
    else sign_at (past class.White text)
