-- Single tokens as they are read, and as the grammar has them.
use Rattle.std.proofs.Common.{◌≡◌, ℕ, List, [], ◌∷◌, refl, ap, ◌∙◌, subst}
use Rattle.std.proofs.lemmas.Bool.{eqb-true, eq-eqb}
use Rattle.std.specs.Prelude.{Bool, true, false, if◌then◌else◌, Option, Some, None}
use Rattle.cs_ast.specs.declared.identifier.Ident.{Ident}
use Rattle.cs_token.specs.declared.token.Token.{Token}
use Rattle.cs_token.specs.declared.token.TokenKind.{TokenKind}
use Rattle.cs_token.specs.declared.token.TokenKind.TheVariants as k
use Rattle.cs_token.specs.declared.token.Sign.{Sign}
use Rattle.cs_token.specs.declared.token.Word.{Word}
use Rattle.cs_grammar.specs.Tokens.{IsSign, IsWord, IsName, ident}
use Rattle.cs_parse.specs.Reading.{◌>>=◌, is_sign, is_word, after, named, name_first}
use Rattle.cs_parse.proofs.Numbers.{one_sign, one_word}

-- a step that gave something
pub bind_ok : {A B : Type 0} (o : Option A) (f : A → Option B) (y : B) → (o >>= f) ≡ Some y → (x : A) × (o ≡ Some x) × (f x ≡ Some y)
bind_ok None f y e = absurd (cc)
bind_ok (Some x) f y e = (x, refl, e)

-- what is known of one result is known of the same result
pub moved : {A : Type 0} (P : A → Type 0) {x y : A} → Some x ≡ Some y → P x → P y
moved P {x} {y} e h = let same : x ≡ y = cc in subst P same h

pub sign_is : (sign : Sign) (kind : TokenKind) → is_sign sign kind ≡ true → kind ≡ k.Sign sign
sign_is sign (k.Sign x) e = ap k.Sign (one_sign x sign (eqb-true _ _ e))
sign_is sign _ e = absurd (cc)

pub word_is : (word : Word) (kind : TokenKind) → is_word word kind ≡ true → kind ≡ k.Word word
word_is word (k.Word x) e = ap k.Word (one_word x word (eqb-true _ _ e))
word_is word _ e = absurd (cc)

pub is_that_sign : (sign : Sign) (t : Token) → IsSign sign t → is_sign sign t.kind ≡ true
is_that_sign sign t e = ap (is_sign sign) e ∙ eq-eqb _ _ refl

pub is_that_word : (word : Word) (t : Token) → IsWord word t → is_word word t.kind ≡ true
is_that_word word t e = ap (is_word word) e ∙ eq-eqb _ _ refl

-- the sign that was taken
pub after_ok : (sign : Sign) (ts rest : List Token) → after sign ts ≡ Some rest → (t : Token) × (ts ≡ t ∷ rest) × IsSign sign t
after_ok sign [] rest e = absurd (cc)
after_ok sign (t ∷ ts) rest e = go (is_sign sign t.kind) refl e
  where
    go : (b : Bool) → is_sign sign t.kind ≡ b → (if b then Some ts else None) ≡ Some rest → (t' : Token) × (t ∷ ts ≡ t' ∷ rest) × IsSign sign t'
    go true i e = (t, cc, sign_is sign t.kind i)
    go false i e = absurd (cc)

pub after_yes : (sign : Sign) (t : Token) (rest : List Token) → IsSign sign t → after sign (t ∷ rest) ≡ Some rest
after_yes sign t rest e = ap (λ b. if b then Some rest else None) (is_that_sign sign t e)

pub after_not : (sign : Sign) (t : Token) (rest : List Token) → is_sign sign t.kind ≡ false → after sign (t ∷ rest) ≡ None
after_not sign t rest e = ap (λ b. if b then Some rest else None) e

-- the name that was taken
pub name_ok : (ts rest : List Token) (n : Ident) → name_first ts ≡ Some (n, rest) → (t : Token) × (x : List ℕ) × (ts ≡ t ∷ rest) × IsName x t × (n ≡ ident t x)
name_ok [] rest n e = absurd (cc)
name_ok (t ∷ ts) rest n e = go t.kind refl e
  where
    go : (kind : TokenKind) → t.kind ≡ kind → named kind t ts ≡ Some (n, rest) → (t' : Token) × (x : List ℕ) × (t ∷ ts ≡ t' ∷ rest) × IsName x t' × (n ≡ ident t' x)
    go (k.Name x) i e = (t, x, moved (λ z. t ∷ ts ≡ t ∷ z.1) e refl, i, moved (λ z. z.0 ≡ ident t x) e refl)
    go _ i e = absurd (cc)

pub name_yes : (x : List ℕ) (t : Token) (rest : List Token) → IsName x t → name_first (t ∷ rest) ≡ Some (ident t x, rest)
name_yes x t rest e = ap (λ kind. named kind t rest) e
