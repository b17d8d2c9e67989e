-- Which tokens write which types.
use Rattle.std.specs.Prelude.{◌≡◌, ℕ, Bool, true, false, List, ◌∷◌, Some, None}
use Rattle.text_core.specs.declared.place.Place.{Place}
use Rattle.cs_ast.specs.declared.cs_type.TypeExpr.{TypeExpr}
use Rattle.cs_ast.specs.declared.cs_type.TypeKind.{TypeKind}
use Rattle.cs_ast.specs.declared.cs_type.TypeKind.TheVariants as ty
use Rattle.cs_token.specs.declared.token.Token.{Token}
use Rattle.cs_token.specs.declared.token.Sign.TheVariants as s
use Rattle.cs_token.specs.declared.token.Word.{Word}
use Rattle.cs_token.specs.declared.token.Word.TheVariants as w
use Rattle.cs_grammar.specs.Tokens.{IsSign, IsWord, IsName}
use Rattle.cs_grammar.specs.Tables.{plain_type}

-- a type where it is written
abbrev pub type_at : Place → TypeKind → TypeExpr
type_at place kind = record { place = place; kind = kind }

-- WritesType ts rest a: the tokens ts up to rest write the type a. A `?` behind a type that can be null means nothing.
-- WritesCore n ts rest a: the same without a `?` at the end, where n says whether the type can be null.
mutual
  pub data WritesType : List Token → List Token → TypeExpr → Type 0 where
    bare : (nullable : Bool) (ts rest : List Token) (a : TypeExpr) → WritesCore nullable ts rest a → WritesType ts rest a
    marked : (q : Token) (ts rest : List Token) (a : TypeExpr) →
        WritesCore true ts (q ∷ rest) a → IsSign s.Question q → WritesType ts rest a

  pub data WritesCore : Bool → List Token → List Token → TypeExpr → Type 0 where
    plain : (nullable : Bool) (word : Word) (kind : TypeKind) (t : Token) (rest : List Token) →
        IsWord word t → plain_type word ≡ Some (kind, nullable) → WritesCore nullable (t ∷ rest) rest (type_at t.place kind)
    name : (x : List ℕ) (t : Token) (rest : List Token) → IsName x t → WritesCore true (t ∷ rest) rest (type_at t.place (ty.Named x))
    list : (t o c : Token) (ts rest : List Token) (a : TypeExpr) →
        IsWord w.ImmutableList t → IsSign s.Less o → WritesType ts (c ∷ rest) a → IsSign s.Greater c →
        WritesCore true (t ∷ o ∷ ts) rest (type_at t.place (ty.List a))
    callback : (t : Token) (rest : List Token) → IsWord w.EventCallback t → WritesCore false (t ∷ rest) rest (type_at t.place (ty.Callback None))
    callback_of : (t o c : Token) (ts rest : List Token) (a : TypeExpr) →
        IsWord w.EventCallback t → IsSign s.Less o → WritesType ts (c ∷ rest) a → IsSign s.Greater c →
        WritesCore false (t ∷ o ∷ ts) rest (type_at t.place (ty.Callback (Some a)))
    fragment : (t : Token) (rest : List Token) → IsWord w.RenderFragment t → WritesCore true (t ∷ rest) rest (type_at t.place (ty.Fragment None))
    fragment_of : (t o c : Token) (ts rest : List Token) (a : TypeExpr) →
        IsWord w.RenderFragment t → IsSign s.Less o → WritesType ts (c ∷ rest) a → IsSign s.Greater c →
        WritesCore true (t ∷ o ∷ ts) rest (type_at t.place (ty.Fragment (Some a)))
