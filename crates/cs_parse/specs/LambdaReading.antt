-- How lambdas are read.
use Rattle.std.specs.Borrow.{Bor}
use Rattle.std.specs.Prelude.{if◌then◌else◌, List, [], ◌∷◌, Option, Some, None}
use Rattle.text_core.specs.declared.place.Place.{Place}
use Rattle.cs_ast.specs.declared.expression.Body.{Body}
use Rattle.cs_ast.specs.declared.expression.Body.TheVariants as body
use Rattle.cs_ast.specs.declared.expression.Expr.{Expr}
use Rattle.cs_ast.specs.declared.expression.ExprKind.TheVariants as ek
use Rattle.cs_ast.specs.declared.identifier.Ident.{Ident}
use Rattle.cs_token.specs.declared.token.Token.{Token}
use Rattle.cs_token.specs.declared.token.Sign.TheVariants as s
use Rattle.cs_grammar.specs.Expressions.{node}
use Rattle.cs_parse.specs.declared.statement.simple.Change.{Change}
use Rattle.cs_parse.specs.Reading.{◌>>=◌, after, name_first}
use Rattle.cs_parse.specs.ExpressionReading.{expr_first}
use Rattle.cs_parse.specs.SimpleReading.{is_name, place_first, change_first, changed}
use Rattle.cs_parse.specs.MemberReading.{block_body}
use Rattle.cs_parse.specs.WholeReading.{if_all, whole_value}

-- a change of the name that stands first, if there is one
abbrev pub change : Change → List Token → List Token → Option (Option (Expr × List Token))
change by ts rest = name_first ts >>= λ n. (changed by n.0 rest >>= λ x. Some (Some x))

abbrev pub maybe_change : List Token → Option (Option (Expr × List Token))
maybe_change ts = elim (change_first ts) [ Some x ↦ change x.0 ts x.1 | None ↦ Some None ]

-- a change as the code has it
abbrev pub change_view : Option (Expr × Bor (List Token)) → Option (Expr × List Token)
change_view None = None
change_view (Some x) = Some (x.0, x.1.now)

-- the tokens as an expression
abbrev pub value_body : List Token → Option Body
value_body ts = expr_first 0 ts >>= λ x. if_all (body.Value x.0) x.1

-- the change where there is one, or else the expression
abbrev pub changed_or_value : Option (Expr × List Token) → List Token → Option Body
changed_or_value (Some x) ts = if_all (body.Value x.0) x.1
changed_or_value None ts = value_body ts

abbrev pub change_or_value : List Token → Option Body
change_or_value ts = maybe_change ts >>= λ x. changed_or_value x ts

abbrev pub whole_block : List Token → Option Body
whole_block ts = block_body ts >>= λ x. if_all x.0 x.1

-- the tokens as what stands behind the arrow of a lambda
abbrev pub lambda_body : List Token → Option Body
lambda_body ts = elim (after s.OpenBrace ts) [ Some r ↦ whole_block r | None ↦ change_or_value ts ]

-- the tokens behind a name
abbrev pub behind_a_name : List Token → Option (List Token)
behind_a_name [] = None
behind_a_name (t ∷ ts) = if is_name t.kind then Some ts else None

-- the tokens behind `() =>`, `x =>` and `(x) =>`
abbrev pub behind_none : List Token → Option (List Token)
behind_none ts = after s.OpenRound ts >>= λ r. (after s.CloseRound r >>= after s.Arrow)

abbrev pub behind_bare : List Token → Option (List Token)
behind_bare ts = behind_a_name ts >>= after s.Arrow

abbrev pub behind_one : List Token → Option (List Token)
behind_one ts = after s.OpenRound ts >>= λ r. (behind_a_name r >>= λ n. (after s.CloseRound n >>= after s.Arrow))

-- a lambda at a place with its name and the tokens of its body
abbrev pub lambda : Place → Option Ident → List Token → Option Expr
lambda p n ts = lambda_body ts >>= λ b. Some (node p (ek.Lambda n b))

abbrev pub of_none : List Token → List Token → Option Expr
of_none ts rest = place_first ts >>= λ p. lambda p None rest

abbrev pub of_bare : List Token → List Token → Option Expr
of_bare ts rest = name_first ts >>= λ n. (place_first ts >>= λ p. lambda p (Some n.0) rest)

abbrev pub of_one : List Token → List Token → Option Expr
of_one ts rest = after s.OpenRound ts >>= λ r. (name_first r >>= λ n. (place_first ts >>= λ p. lambda p (Some n.0) rest))

-- the tokens as what may stand by itself
abbrev pub one_or_value : List Token → Option Expr
one_or_value ts = elim (behind_one ts) [ Some r ↦ of_one ts r | None ↦ whole_value ts ]

abbrev pub named_or_value : List Token → Option Expr
named_or_value ts = elim (behind_bare ts) [ Some r ↦ of_bare ts r | None ↦ one_or_value ts ]

abbrev pub whole_spelled : List Token → Option Expr
whole_spelled ts = elim (behind_none ts) [ Some r ↦ of_none ts r | None ↦ named_or_value ts ]
