-- How types are read.
use Rattle.std.specs.Prelude.{ℕ, zero, suc, ◌+◌, Bool, true, false, if◌then◌else◌, List, [], ◌∷◌, length, Option, Some, None}
use Rattle.text_core.specs.declared.place.Place.{Place}
use Rattle.cs_ast.specs.declared.cs_type.TypeExpr.{TypeExpr}
use Rattle.cs_ast.specs.declared.cs_type.TypeKind.TheVariants as ty
use Rattle.cs_token.specs.declared.token.Token.{Token}
use Rattle.cs_token.specs.declared.token.TokenKind.{TokenKind}
use Rattle.cs_token.specs.declared.token.TokenKind.TheVariants as k
use Rattle.cs_token.specs.declared.token.Sign.TheVariants as s
use Rattle.cs_token.specs.declared.token.Word.{Word}
use Rattle.cs_token.specs.declared.token.Word.TheVariants as w
use Rattle.cs_grammar.specs.Tables.{plain_type}
use Rattle.cs_grammar.specs.Types.{type_at}
use Rattle.cs_parse.specs.declared.types.Former.{Former}
use Rattle.cs_parse.specs.declared.types.Former.TheVariants as f
use Rattle.cs_parse.specs.Reading.{Read, ◌>>=◌, has_sign, after}

-- the words that make a type of another one
unfoldable pub former : Word → Option Former
former w.ImmutableList = Some f.List
former w.EventCallback = Some f.Callback
former w.RenderFragment = Some f.Fragment
former _ = None

-- a type, and whether it can be null
abbrev pub Core : Type 0
Core = Read (TypeExpr × Bool)

-- a type that is there
abbrev pub there : TypeExpr × List Token → Read (Option TypeExpr)
there x = Some (Some x.0, x.1)

module _ (self : List Token → Read TypeExpr) where
  -- a type between `<` and `>`
  abbrev pub in_angles : List Token → Read TypeExpr
  in_angles ts = after s.Less ts >>= λ r. (self r >>= λ x. (after s.Greater x.1 >>= λ q. Some (x.0, q)))

  -- the same, if there is a `<`
  abbrev pub maybe_in_angles : List Token → Read (Option TypeExpr)
  maybe_in_angles ts = if has_sign s.Less ts then (in_angles ts >>= there) else Some (None, ts)

  abbrev pub formed : Former → Place → List Token → Core
  formed f.List p ts = in_angles ts >>= λ x. Some ((type_at p (ty.List x.0), true), x.1)
  formed f.Callback p ts = maybe_in_angles ts >>= λ x. Some ((type_at p (ty.Callback x.0), false), x.1)
  formed f.Fragment p ts = maybe_in_angles ts >>= λ x. Some ((type_at p (ty.Fragment x.0), true), x.1)

  abbrev pub of_word : Word → Place → List Token → Core
  of_word word p ts = elim (plain_type word) [ Some x ↦ Some ((type_at p x.0, x.1), ts) | None ↦ former word >>= λ fo. formed fo p ts ]

  abbrev pub of_kind : TokenKind → Place → List Token → Core
  of_kind (k.Name x) p ts = Some ((type_at p (ty.Named x), true), ts)
  of_kind (k.Word word) p ts = of_word word p ts
  of_kind _ p ts = None

  abbrev pub core : List Token → Core
  core [] = None
  core (t ∷ ts) = of_kind t.kind t.place ts

-- the tokens without the `?` that stands first behind a type that can be null
abbrev pub unmarked : Bool → List Token → List Token
unmarked nullable ts = if nullable then elim (after s.Question ts) [ Some r ↦ r | None ↦ ts ] else ts

-- with at most so many types inside one another
unfoldable pub type_in : ℕ → List Token → Read TypeExpr
type_in zero ts = None
type_in (suc n) ts = core (type_in n) ts >>= λ x. Some (x.0.0, unmarked x.0.1 x.1)

-- the type that stands first
unfoldable pub type_first : List Token → Read TypeExpr
type_first ts = type_in (length ts + 1) ts
