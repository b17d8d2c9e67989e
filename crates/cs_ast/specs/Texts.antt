-- What values show.
use Rattle.std.specs.Prelude.{ℕ, List, [], codes, Option, Some, None, true, false}
use Rattle.std.specs.Fmt.{signed_decimal}
use Rattle.cs_ast.specs.declared.value.Value.{Value}
use Rattle.cs_ast.specs.declared.value.Value.TheVariants as v

-- the text that a value shows, if it shows one: numbers in decimal digits, `True` and `False`, a text itself, and nothing for null
abbrev pub text_of : Value → Option (List ℕ)
text_of (v.Int number) = Some (signed_decimal number)
text_of (v.Bool true) = Some (codes "True")
text_of (v.Bool false) = Some (codes "False")
text_of (v.Text text) = Some text
text_of v.Null = Some []
text_of _ = None
