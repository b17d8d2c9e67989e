-- In which quotes a value is written.
use Rattle.std.specs.Prelude.{ℕ, ◌==◌, Bool, false, List, if◌then◌else◌}
use Rattle.std.specs.List.{list_any}
use Rattle.razor_token.specs.declared.piece.Quote.{Quote}
use Rattle.razor_token.specs.declared.piece.Quote.TheVariants as q
use Rattle.razor_token.specs.CodeFronts.{mark}
use Rattle.razor_ast.specs.declared.attribute.ValuePart.{ValuePart}
use Rattle.razor_ast.specs.declared.attribute.ValuePart.TheVariants as vp
use Rattle.razor_print.specs.ValueTexts.{stands_in}

-- the quote stands in the text
abbrev pub holds : Quote → List ℕ → Bool
holds quote = list_any (λ c. c == mark quote)

-- the quotes of a text that is taken as it is
abbrev pub text_quote : List ℕ → Quote
text_quote text =
    if holds q.Double text then (if holds q.Single text then (if stands_in q.Double text then q.Double else q.Single) else q.Single)
    else q.Double

-- a double quote stands in literal text
abbrev pub is_double : ValuePart → Bool
is_double (vp.Literal text) = holds q.Double text
is_double (vp.Shown a) = false

-- the quotes of literal text mixed with expressions, which stand in brackets
abbrev pub mixed_quote : List ValuePart → Quote
mixed_quote parts = if list_any is_double parts then q.Single else q.Double
