-- How whole lists of tokens are read.
use Rattle.std.specs.Prelude.{List, [], ◌∷◌, ◌&&◌, if◌then◌else◌, Option, Some, None}
use Rattle.text_core.specs.declared.place.Place.{Place}
use Rattle.cs_ast.specs.declared.expression.Expr.{Expr}
use Rattle.cs_ast.specs.declared.expression.ExprKind.TheVariants as ek
use Rattle.cs_ast.specs.declared.operators.CastOp.TheVariants as co
use Rattle.cs_token.specs.declared.token.Token.{Token}
use Rattle.cs_token.specs.declared.token.Sign.TheVariants as s
use Rattle.cs_token.specs.declared.token.Word.TheVariants as w
use Rattle.cs_grammar.specs.Expressions.{node}
use Rattle.cs_parse.specs.Reading.{◌>>=◌, is_sign, is_word}
use Rattle.cs_parse.specs.ExpressionReading.{expr_first}

-- what was read, where nothing is left
abbrev pub if_all : {A : Type 0} → A → List Token → Option A
if_all a [] = Some a
if_all a (t ∷ ts) = None

-- `(MarkupString)` stands first: its place, and the tokens behind it
abbrev pub as_markup : List Token → Option (Place × List Token)
as_markup [] = None
as_markup (o ∷ []) = None
as_markup (o ∷ t ∷ []) = None
as_markup (o ∷ t ∷ c ∷ ts) =
    if is_sign s.OpenRound o.kind && (is_word w.MarkupString t.kind && is_sign s.CloseRound c.kind) then Some (o.place, ts) else None

-- the tokens as one operand, behind `(MarkupString)` at a place
abbrev pub markup : Place → List Token → Option Expr
markup p ts = expr_first 11 ts >>= λ x. if_all (node p (ek.Cast co.Markup x.0)) x.1

-- the tokens as one expression
abbrev pub whole_expression : List Token → Option Expr
whole_expression ts = expr_first 0 ts >>= λ x. if_all x.0 x.1

-- the operand behind `(MarkupString)` where that stands first, or else the expression
abbrev pub chosen : Option (Place × List Token) → List Token → Option Expr
chosen (Some x) ts = markup x.0 x.1
chosen None ts = whole_expression ts

-- the tokens as one of these
abbrev pub whole_value : List Token → Option Expr
whole_value ts = chosen (as_markup ts) ts
