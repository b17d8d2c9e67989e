-- How the text of an attribute is read.
use Rattle.std.specs.Prelude.{ℕ, Bool, true, false, if◌then◌else◌, List, [], ◌∷◌, map, Option, Some, None, ◌⊎◌}
use Rattle.std.specs.Str.{bytes_eq}
use Rattle.std.proofs.Common.{inl, inr}
use Rattle.std.specs.Global.{Vec}
use Rattle.text_core.specs.declared.place.Place.{Place}
use Rattle.cs_ast.specs.declared.expression.Expr.{Expr}
use Rattle.cs_token.specs.declared.token.Token.{Token}
use Rattle.cs_token.specs.declared.token.TokenKind.{TokenKind}
use Rattle.cs_token.specs.declared.token.TokenKind.TheVariants as t
use Rattle.cs_token.specs.Places.{first_place}
use Rattle.cs_token.proofs.DecidedLemmas.{decided}
use Rattle.cs_grammar.specs.Nesting.{too_deep_from}
use Rattle.razor_ast.specs.TextValues.{token_from}
use Rattle.razor_reader.specs.CodeReading.{spelled}
use Rattle.razor_reader.specs.Reading.{◌>>=◌}

-- the tokens that a text spells, if it spells any
unfoldable pub spelled_tokens : List ℕ → Option (List Token)
spelled_tokens text = elim (decided text) [ inl x ↦ Some x.0 | inr x ↦ None ]

-- the same of a text that begins at this place
abbrev pub text_tokens : Place → List ℕ → Option (List Token)
text_tokens begin text = spelled_tokens text >>= λ ts. Some (map (token_from begin) ts)

-- the expression that it spells with these open round it, or none
abbrev pub flat_expression : List ℕ → List Token → Option Expr
flat_expression around ts = elim (too_deep_from around ts) [ None ↦ spelled ts | Some p ↦ None ]

abbrev pub text_expression : List ℕ → Place → List ℕ → Option Expr
text_expression around begin text = text_tokens begin text >>= flat_expression around

-- the token is the name of these characters
abbrev pub is_name_of : List ℕ → TokenKind → Bool
is_name_of text (t.Name name) = bytes_eq name text
is_name_of text _ = false

abbrev pub is_one_name : List ℕ → List Token → Bool
is_one_name text (u ∷ []) = is_name_of text u.kind
is_one_name text _ = false

-- the text is a name and nothing more
abbrev pub is_name_text : List ℕ → Bool
is_name_text text = elim (text_tokens first_place text) [ Some ts ↦ is_one_name text ts | None ↦ false ]

-- tokens as the code has them
abbrev pub items_of : Option (Vec Token) → Option (List Token)
items_of None = None
items_of (Some v) = Some v.items
