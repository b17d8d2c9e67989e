-- What is printed of attributes.
use Rattle.std.specs.Prelude.{List, [], ◌∷◌, codes}
use Rattle.std.specs.List.{flat_map}
use Rattle.cs_token.specs.declared.token.TokenKind.TheVariants as t
use Rattle.cs_print.specs.Printed.{whole, printed}
use Rattle.razor_token.specs.declared.piece.PieceKind.TheVariants as k
use Rattle.razor_token.specs.declared.piece.Quote.TheVariants as q
use Rattle.razor_ast.specs.declared.attribute.Attribute.{Attribute}
use Rattle.razor_ast.specs.declared.attribute.AttributeKind.{AttributeKind}
use Rattle.razor_ast.specs.declared.attribute.AttributeKind.TheVariants as ak
use Rattle.razor_ast.specs.declared.attribute.Given.{Given}
use Rattle.razor_ast.specs.declared.attribute.Given.TheVariants as given
use Rattle.razor_ast.specs.declared.attribute.ValuePart.{ValuePart}
use Rattle.razor_ast.specs.declared.attribute.ValuePart.TheVariants as vp
use Rattle.razor_print.specs.Parts.{Parts, piece, token, said, verbatim, supplied, tokens, quoted, led, shown}
use Rattle.razor_print.specs.Quotes.{text_quote, mixed_quote}

-- a part of the text of an element's attribute
abbrev pub value_part : ValuePart → Parts
value_part (vp.Literal text) = said text ∷ []
value_part (vp.Shown a) = shown (whole (printed a))

-- what a tag gives to a parameter
abbrev pub given_parts : Given → Parts
given_parts given.Nothing = []
given_parts (given.Text place text a) = supplied (text_quote text) text a ∷ []
given_parts (given.Value a) = quoted q.Double (led (whole (printed a)))

-- The value of an attribute. A key has no at sign before it, and code without single quotes stands in them.
unfoldable pub value_parts : AttributeKind → Parts
value_parts (ak.Mixed n parts) = quoted (mixed_quote parts) (flat_map value_part parts)
value_parts (ak.Key a) = quoted q.Single (tokens (whole (printed a)))
value_parts (ak.Event n a) = quoted q.Double (led (whole (printed a)))
value_parts (ak.Bind n field) = quoted q.Double (token (t.Name field.name) ∷ [])
value_parts ak.BindEvent = quoted q.Double (verbatim (codes "oninput") ∷ [])
value_parts (ak.Parameter n value) = given_parts value
value_parts (ak.Context n name) = quoted q.Double (verbatim name.name ∷ [])

-- an attribute behind a blank
abbrev pub attribute_parts : Attribute → Parts
attribute_parts a = piece k.Space (32 ∷ []) ∷ piece (k.AttributeName a.name) a.name ∷ value_parts a.kind

-- attributes one behind another
abbrev pub attributes_parts : List Attribute → Parts
attributes_parts = flat_map attribute_parts
