-- What is read takes tokens.
use Rattle.std.proofs.Common.{◌≡◌, ◌<◌, List, [], ◌∷◌, length, ap, arith}
use Rattle.std.specs.Prelude.{Bool, true, false, ◌&&◌, if◌then◌else◌, Some, None}
use Rattle.cs_ast.specs.declared.cs_type.TypeExpr.{TypeExpr}
use Rattle.cs_ast.specs.declared.identifier.Ident.{Ident}
use Rattle.cs_token.specs.declared.token.Token.{Token}
use Rattle.cs_token.specs.declared.token.Sign.{Sign}
use Rattle.cs_token.specs.declared.token.Sign.TheVariants as s
use Rattle.cs_token.specs.declared.token.Word.TheVariants as w
use Rattle.cs_grammar.specs.Types.{WritesType, WritesCore}
use Rattle.cs_grammar.specs.Types as g
use Rattle.cs_parse.specs.Reading.{after, name_first, is_sign, is_word}
use Rattle.cs_parse.specs.TypeReading.{type_first}
use Rattle.cs_parse.specs.ExpressionReading.{as_cast}
use Rattle.cs_parse.proofs.TokenLemmas.{after_ok, name_ok}
use Rattle.cs_parse.proofs.TypeSound.{type_sound}

front_shorter : (t : Token) (ts rest : List Token) → ts ≡ t ∷ rest → length rest < length ts
front_shorter t ts rest e = omega (arith, ap length e)

pub after_shorter : (sign : Sign) (ts rest : List Token) → after sign ts ≡ Some rest → length rest < length ts
after_shorter sign ts rest e = let x = after_ok sign ts rest e in front_shorter x.0 ts rest x.1

pub name_shorter : (ts rest : List Token) (name : Ident) → name_first ts ≡ Some (name, rest) → length rest < length ts
name_shorter ts rest name e = let x = name_ok ts rest name e in front_shorter x.0 ts rest x.2

mutual
  written_shorter : (ts rest : List Token) (a : TypeExpr) → WritesType ts rest a → length rest < length ts
  written_shorter ts rest a (g.bare nullable _ _ _ x) = core_shorter nullable ts rest a x
  written_shorter ts rest a (g.marked q _ _ _ x e) = let i = core_shorter true ts (q ∷ rest) a x in omega arith

  core_shorter : (nullable : Bool) (ts rest : List Token) (a : TypeExpr) → WritesCore nullable ts rest a → length rest < length ts
  core_shorter nullable ts rest a (g.plain _ word kind t _ e1 e2) = omega arith
  core_shorter nullable ts rest a (g.name x t _ e) = omega arith
  core_shorter nullable ts rest a (g.list t o c us _ b e1 e2 x e3) = let i = written_shorter us (c ∷ rest) b x in omega arith
  core_shorter nullable ts rest a (g.callback t _ e) = omega arith
  core_shorter nullable ts rest a (g.callback_of t o c us _ b e1 e2 x e3) = let i = written_shorter us (c ∷ rest) b x in omega arith
  core_shorter nullable ts rest a (g.fragment t _ e) = omega arith
  core_shorter nullable ts rest a (g.fragment_of t o c us _ b e1 e2 x e3) = let i = written_shorter us (c ∷ rest) b x in omega arith

pub type_shorter : (ts : List Token) (a : TypeExpr) (rest : List Token) → type_first ts ≡ Some (a, rest) → length rest < length ts
type_shorter ts a rest e = written_shorter ts rest a (type_sound ts a rest e)

pub cast_shorter : (ts rest : List Token) → as_cast ts ≡ Some rest → length rest < length ts
cast_shorter [] rest e = absurd (cc)
cast_shorter (t ∷ []) rest e = absurd (cc)
cast_shorter (t ∷ c ∷ ts) rest e = split (is_word w.String t.kind && is_sign s.CloseRound c.kind) e
  where
    split : (b : Bool) → (if b then Some ts else None) ≡ Some rest → length rest < length (t ∷ c ∷ ts)
    split true e = let same : ts ≡ rest = cc in omega (arith, ap length same)
    split false e = absurd (cc)
