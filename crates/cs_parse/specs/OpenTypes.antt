-- How types are read without recursion: what begins, and what waits for the type inside it.
use Rattle.std.specs.Prelude.{Bool, true, false, List, [], ◌∷◌, Option, Some, None}
use Rattle.text_core.specs.declared.place.Place.{Place}
use Rattle.cs_ast.specs.declared.cs_type.TypeExpr.{TypeExpr}
use Rattle.cs_ast.specs.declared.cs_type.TypeKind.{TypeKind}
use Rattle.cs_ast.specs.declared.cs_type.TypeKind.TheVariants as ty
use Rattle.cs_token.specs.declared.token.Token.{Token}
use Rattle.cs_token.specs.declared.token.TokenKind.{TokenKind}
use Rattle.cs_token.specs.declared.token.TokenKind.TheVariants as k
use Rattle.cs_token.specs.declared.token.Sign.TheVariants as s
use Rattle.cs_token.specs.declared.token.Word.{Word}
use Rattle.cs_grammar.specs.Tables.{plain_type}
use Rattle.cs_grammar.specs.Types.{type_at}
use Rattle.cs_parse.specs.declared.types.Begun.{Begun}
use Rattle.cs_parse.specs.declared.types.Begun.TheVariants as b
use Rattle.cs_parse.specs.declared.types.Former.{Former}
use Rattle.cs_parse.specs.declared.types.Former.TheVariants as f
use Rattle.cs_parse.specs.declared.types.Opened.{Opened}
use Rattle.cs_parse.specs.Reading.{Read, ◌>>=◌, after}
use Rattle.cs_parse.specs.TypeReading.{former, unmarked}

-- the type round another one
abbrev pub round : Former → TypeExpr → TypeKind
round f.List a = ty.List a
round f.Callback a = ty.Callback (Some a)
round f.Fragment a = ty.Fragment (Some a)

-- the type without another one inside it
abbrev pub alone : Former → Option TypeKind
alone f.List = None
alone f.Callback = Some (ty.Callback None)
alone f.Fragment = Some (ty.Fragment None)

-- whether it can be null
abbrev pub can_be_null : Former → Bool
can_be_null f.List = true
can_be_null f.Callback = false
can_be_null f.Fragment = true

-- a whole type, behind which a `?` may stand
abbrev pub whole : Place → Bool → TypeKind → List Token → Read Begun
whole p nullable kind ts = Some (b.Whole (type_at p kind), unmarked nullable ts)

abbrev pub of_former : Former → Place → List Token → Read Begun
of_former fo p ts =
    elim (after s.Less ts) [ Some r ↦ Some (b.Round (record { former = fo; place = p }), r) | None ↦ alone fo >>= λ kind. whole p (can_be_null fo) kind ts ]

abbrev pub of_word : Word → Place → List Token → Read Begun
of_word word p ts = elim (plain_type word) [ Some x ↦ whole p x.1 x.0 ts | None ↦ former word >>= λ fo. of_former fo p ts ]

abbrev pub of_kind : TokenKind → Place → List Token → Read Begun
of_kind (k.Name x) p ts = whole p true (ty.Named x) ts
of_kind (k.Word word) p ts = of_word word p ts
of_kind _ p ts = None

-- what the tokens begin with: a whole type, or a word and `<`
abbrev pub begun : List Token → Read Begun
begun [] = None
begun (t ∷ ts) = of_kind t.kind t.place ts

-- the type round one that was read
abbrev pub closed : Opened → TypeExpr → List Token → Read TypeExpr
closed o a ts = after s.Greater ts >>= λ r. Some (type_at o.place (round o.former a), unmarked (can_be_null o.former) r)

-- the type round all of what waits, of which the last is innermost
abbrev pub all_closed : List Opened → Read TypeExpr → Read TypeExpr
all_closed [] read = read
all_closed (o ∷ os) read = all_closed os read >>= λ x. closed o x.0 x.1
