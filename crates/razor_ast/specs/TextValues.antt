-- The expression that the text of an attribute spells.
use Rattle.std.specs.Prelude.{◌≡◌, ℕ, ◌+◌, ◌-◌, ◌==◌, List, [], ◌∷◌, map, Option, Some, None, if◌then◌else◌}
use Rattle.text_core.specs.declared.place.Place.{Place}
use Rattle.cs_ast.specs.declared.expression.Expr.{Expr}
use Rattle.cs_token.specs.declared.token.Token.{Token}
use Rattle.cs_token.specs.declared.token.TokenKind.TheVariants as t
use Rattle.cs_token.specs.Spelling as lexical
use Rattle.cs_grammar.specs.Lambdas.{Spelled}
use Rattle.cs_grammar.specs.Nesting.{too_deep_from}

-- a place of a text that begins at another place
abbrev pub place_from : Place → Place → Place
place_from begin place =
    if place.line == 1 then record { line = begin.line; column = begin.column + place.column - 1 }
    else record { line = begin.line + place.line - 1; column = place.column }

-- the same for a token
abbrev pub token_from : Place → Token → Token
token_from begin token = record token { place = place_from begin token.place }

-- the text, which begins at this place, spells these tokens
abbrev pub SpellsTokens : Place → List ℕ → List Token → Type 0
SpellsTokens begin text ts = (us : List Token) × lexical.Spells text us × (ts ≡ map (token_from begin) us)

-- the text spells the expression, where its tokens don't nest too deep with these brackets and tags open round them
pub record SpellsExpression (around : List ℕ) (begin : Place) (text : List ℕ) (a : Expr) : Type 0 where
  pub tokens : List Token
  pub cut : SpellsTokens begin text tokens
  pub flat : too_deep_from around tokens ≡ None
  pub spelled : Spelled tokens a

-- the expression that the text spells so, or none where it spells none
abbrev pub IsExpressionOf : List ℕ → Place → List ℕ → Option Expr → Type 0
IsExpressionOf around begin text (Some a) = SpellsExpression around begin text a
IsExpressionOf around begin text None = (a : Expr) → SpellsExpression around begin text a → ⊥

-- the text is a name and nothing more
abbrev pub IsNameText : List ℕ → Type 0
IsNameText text = (n : Token) × lexical.Spells text (n ∷ []) × (n.kind ≡ t.Name text)
