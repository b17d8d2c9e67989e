-- What stands first where single tokens are read.
use Rattle.std.proofs.Common.{◌≡◌, ℕ, List, [], ◌∷◌, refl, sym, ap, ◌∙◌, subst}
use Rattle.std.proofs.lemmas.Slice.Eq.{bytes_eq-Decides}
use Rattle.std.specs.Bool.{Decides}
use Rattle.std.specs.Prelude.{Bool, true, false, if◌then◌else◌, Option, Some, None}
use Rattle.std.specs.Str.{bytes_eq}
use Rattle.cs_ast.specs.declared.identifier.Ident.{Ident}
use Rattle.cs_token.specs.declared.token.Token.{Token}
use Rattle.cs_token.specs.declared.token.TokenKind.{TokenKind}
use Rattle.cs_token.specs.declared.token.TokenKind.TheVariants as k
use Rattle.cs_token.specs.declared.token.Sign.{Sign}
use Rattle.cs_token.specs.declared.token.Word.{Word}
use Rattle.cs_grammar.specs.Tokens.{IsSign, IsWord, IsName, ident}
use Rattle.cs_parse.specs.Reading.{Read, ◌>>=◌, is_sign, is_word, after, name_first}
use Rattle.cs_parse.specs.SimpleReading.{after_word, is_name}
use Rattle.cs_parse.specs.MemberReading.{is_named, after_name}
use Rattle.cs_parse.proofs.TokenLemmas.{after_ok, name_ok, word_is, is_that_word, moved}

-- what holds behind the sign, the name or the word that was taken
pub behind_sign : (sign : Sign) (ts rest : List Token) (P : List Token → Type 0) → after sign ts ≡ Some rest → ((t : Token) → IsSign sign t → P (t ∷ rest)) → P ts
behind_sign sign ts rest P e h = let x = after_ok sign ts rest e in subst P (sym x.1) (h x.0 x.2)

pub behind_name : (ts rest : List Token) (n : Ident) (P : List Token → Ident → Type 0) → name_first ts ≡ Some (n, rest) → ((x : List ℕ) (t : Token) → IsName x t → P (t ∷ rest) (ident t x)) → P ts n
behind_name ts rest n P e h =
    let x = name_ok ts rest n e in
    subst (λ l. P l n) (sym x.2) (subst (λ m. P (x.0 ∷ rest) m) (sym x.4) (h x.1 x.0 x.3))

-- a name is told by its characters
pub name_is : (x : List ℕ) (kind : TokenKind) → is_named x kind ≡ true → kind ≡ k.Name x
name_is x (k.Name y) e = go (bytes_eq y x) (bytes_eq-Decides y x) e
  where
    go : (d : Bool) → Decides d (y ≡ x) → d ≡ true → k.Name y ≡ k.Name x
    go true d e = ap k.Name (d.0 refl)
    go false d e = absurd (cc)
name_is x _ e = absurd (cc)

same_characters : (x : List ℕ) → bytes_eq x x ≡ true
same_characters x = (bytes_eq-Decides x x).1 refl

pub is_that_name : (x : List ℕ) (t : Token) → IsName x t → is_named x t.kind ≡ true
is_that_name x t e = ap (is_named x) e ∙ same_characters x

pub behind_named : (x : List ℕ) (ts rest : List Token) (P : List Token → Type 0) → after_name x ts ≡ Some rest → ((t : Token) → IsName x t → P (t ∷ rest)) → P ts
behind_named x [] rest P e h = absurd (cc)
behind_named x (t ∷ ts) rest P e h = go (is_named x t.kind) refl e
  where
    go : (d : Bool) → is_named x t.kind ≡ d → (if d then Some ts else None) ≡ Some rest → P (t ∷ ts)
    go true i e = let same : rest ≡ ts = cc in subst (λ l. P (t ∷ l)) same (h t (name_is x t.kind i))
    go false i e = absurd (cc)

pub behind_word : (word : Word) (ts rest : List Token) (P : List Token → Type 0) → after_word word ts ≡ Some rest → ((t : Token) → IsWord word t → P (t ∷ rest)) → P ts
behind_word word [] rest P e h = absurd (cc)
behind_word word (t ∷ ts) rest P e h = go (is_word word t.kind) refl e
  where
    go : (d : Bool) → is_word word t.kind ≡ d → (if d then Some ts else None) ≡ Some rest → P (t ∷ ts)
    go true i e = let same : rest ≡ ts = cc in subst (λ l. P (t ∷ l)) same (h t (word_is word t.kind i))
    go false i e = absurd (cc)

-- the other way round
pub after_name_yes : (x : List ℕ) (t : Token) (rest : List Token) → IsName x t → after_name x (t ∷ rest) ≡ Some rest
after_name_yes x t rest e = ap (λ d. if d then Some rest else None) (is_that_name x t e)

pub after_word_yes : (word : Word) (t : Token) (rest : List Token) → IsWord word t → after_word word (t ∷ rest) ≡ Some rest
after_word_yes word t rest e = ap (λ d. if d then Some rest else None) (is_that_word word t e)

-- a step where the one before gave something
pub then_ : {A B : Type 0} (o : Option A) (f : A → Option B) (x : A) (y : Option B) → o ≡ Some x → f x ≡ y → (o >>= f) ≡ y
then_ o f x y e d = ap (λ z. z >>= f) e ∙ d

-- what is read, with what is left
pub got : {A : Type 0} (P : A → List Token → Type 0) {a c : A} {ts us : List Token} → ◌≡◌ {A = Read A} (Some (a, ts)) (Some (c, us)) → P a ts → P c us
got {A} P e h = moved {A = A × List Token} (λ z. P z.0 z.1) e h
