-- Which kinds of tokens can be written one behind another.
use Rattle.std.proofs.Common.{◌≡◌, ◌≢◌, ℕ, ◌<◌, ◌^◌, pos, List, [], ◌∷◌, ◌++◌, length, true, false, sym, subst, append_assoc}
use Rattle.std.specs.Prelude.{Bool}
use Rattle.cs_token.specs.declared.token.TokenKind.{TokenKind}
use Rattle.cs_token.specs.declared.token.TokenKind.TheVariants as k
use Rattle.cs_token.specs.declared.token.Sign.{Sign}
use Rattle.cs_token.specs.declared.token.Sign.TheVariants as s
use Rattle.cs_token.specs.declared.token.Word.{Word}
use Rattle.cs_token.specs.Characters.{IsName}
use Rattle.cs_token.specs.Words.{spelling}
use Rattle.cs_print.specs.Printed.{Kinds}

-- a sign that stands by itself: no brace, and no bound of a part of an interpolated text
abbrev pub is_single : Sign → Bool
is_single s.OpenBrace = false
is_single s.CloseBrace = false
is_single s.InterpolationStart = false
is_single s.InterpolationEnd = false
is_single s.HoleOpen = false
is_single s.HoleClose = false
is_single _ = true

-- a token that a blank can follow anywhere in code
pub data IsSimple : TokenKind → Type 0 where
  name : (x : List ℕ) → IsName x → ((word : Word) → x ≢ spelling word) → IsSimple (k.Name x)
  number : (n : ℕ) → n < 2 ^ 31 → IsSimple (k.Number (pos n))
  text : (x : List ℕ) → IsSimple (k.Text x)
  word : (word : Word) → IsSimple (k.Word word)
  sign : (sign : Sign) → is_single sign ≡ true → IsSimple (k.Sign sign)

-- a literal text
abbrev pub is_part : TokenKind → Bool
is_part (k.Part x) = true
is_part _ = false

abbrev pub begins_part : Kinds → Bool
begins_part [] = false
begins_part (kind ∷ kinds) = is_part kind

-- code in which braces and interpolated texts are whole
mutual
  pub data IsCode : Kinds → Type 0 where
    none : IsCode []
    simple : (kind : TokenKind) (ks : Kinds) → IsSimple kind → IsCode ks → IsCode (kind ∷ ks)
    braces : (ks ms : Kinds) → IsCode ks → IsCode ms → IsCode (k.Sign s.OpenBrace ∷ (ks ++ k.Sign s.CloseBrace ∷ ms))
    interpolated : (ks ms : Kinds) → AreParts ks → IsCode ms → IsCode (k.Sign s.InterpolationStart ∷ (ks ++ k.Sign s.InterpolationEnd ∷ ms))

  -- literal texts and holes, no two literal texts one behind the other
  pub data AreParts : Kinds → Type 0 where
    no_part : AreParts []
    literal : (x : List ℕ) (ks : Kinds) → 0 < length x → begins_part ks ≡ false → AreParts ks → AreParts (k.Part x ∷ ks)
    hole : (ks ms : Kinds) → IsCode ks → AreParts ms → AreParts (k.Sign s.HoleOpen ∷ (ks ++ k.Sign s.HoleClose ∷ ms))

-- code behind code
pub join : (ks ms : Kinds) → IsCode ks → IsCode ms → IsCode (ks ++ ms)
join _ ms none more = more
join _ ms (simple kind ks is rest) more = simple kind (ks ++ ms) is (join ks ms rest more)
join _ ms (braces ks others inner rest) more =
    subst (λ x. IsCode (k.Sign s.OpenBrace ∷ x)) (sym (append_assoc ks (k.Sign s.CloseBrace ∷ others) ms)) (braces ks (others ++ ms) inner (join others ms rest more))
join _ ms (interpolated ks others inner rest) more =
    subst (λ x. IsCode (k.Sign s.InterpolationStart ∷ x)) (sym (append_assoc ks (k.Sign s.InterpolationEnd ∷ others) ms)) (interpolated ks (others ++ ms) inner (join others ms rest more))

-- what is known of the token of a text
abbrev pub IsLexeme : TokenKind → Type 0
IsLexeme (k.Name x) = IsName x × ((word : Word) → x ≢ spelling word)
IsLexeme (k.Number n) = (m : ℕ) × (n ≡ pos m) × (m < 2 ^ 31)
IsLexeme (k.Part x) = 0 < length x
IsLexeme _ = Unit {0}
