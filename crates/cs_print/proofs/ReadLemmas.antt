-- Tokens of given kinds, and what they spell.
use Rattle.std.proofs.Common.{◌≡◌, ℕ, List, [], ◌∷◌, ◌++◌, true, false, subst}
use Rattle.std.specs.Prelude.{Bool}
use Rattle.cs_token.specs.declared.token.Token.{Token}
use Rattle.cs_token.specs.declared.token.TokenKind.{TokenKind}
use Rattle.cs_token.specs.declared.token.TokenKind.TheVariants as k
use Rattle.cs_token.specs.declared.token.Sign.{Sign}
use Rattle.cs_token.specs.declared.token.Word.{Word}
use Rattle.cs_print.specs.Printed.{Kinds}
use Rattle.cs_print.proofs.CodeKinds.{is_single, is_part, IsLexeme, IsCode}
use Rattle.cs_print.proofs.CodeKinds as c
use Rattle.cs_print.proofs.LayLemmas.{Are}
use Rattle.cs_print.proofs.LayLemmas as r

-- tokens of these kinds are code that is read as R says
pub record Prints (R : List Token → List Token → Type 0) (ks : Kinds) : Type 0 where
  pub code : IsCode ks
  pub reads : (ts rest : List Token) → Are ks ts rest → R ts rest

pub prints_as : (R : List Token → List Token → Type 0) (ks ms : Kinds) → ks ≡ ms → Prints R ks → Prints R ms
prints_as R ks ms e h = subst (λ x. Prints R x) e h

-- the first token
pub first : (kind : TokenKind) (ks : Kinds) (ts rest : List Token) (R : List Token → Type 0) → Are (kind ∷ ks) ts rest
    → ((t : Token) (us : List Token) → t.kind ≡ kind → Are ks us rest → R (t ∷ us)) → R ts
first _ _ _ _ R (r.cons kind t ks ts rest is later) go = go t ts is later

-- a single token
pub single : (kind : TokenKind) (ts rest : List Token) (R : List Token → Type 0) → Are (kind ∷ []) ts rest
    → ((t : Token) → t.kind ≡ kind → R (t ∷ rest)) → R ts
single kind ts rest R are go = first kind [] ts rest R are (λ t us is later. none t us is later)
  where
    none : (t : Token) (us : List Token) → t.kind ≡ kind → Are [] us rest → R (t ∷ us)
    none t _ is (r.nil _) = go t is

-- those before, and those behind
pub record Parted (ks ms : Kinds) (ts rest : List Token) : Type 0 where
  pub us : List Token
  pub front : Are ks ts us
  pub behind : Are ms us rest

pub parted : (ks ms : Kinds) (ts rest : List Token) → Are (ks ++ ms) ts rest → Parted ks ms ts rest
parted [] ms ts rest are = record { us = ts; front = r.nil ts; behind = are }
parted (kind ∷ ks) ms ts rest are = first kind (ks ++ ms) ts rest (λ xs. Parted (kind ∷ ks) ms xs rest) are (λ t us is later.
    let x = parted ks ms us rest later in
    record { us = x.us; front = r.cons kind t ks us x.us is x.front; behind = x.behind })

-- those before a token, it, and those behind it
pub record Middle (ks : Kinds) (kind : TokenKind) (ms : Kinds) (ts rest : List Token) : Type 0 where
  pub t : Token
  pub us : List Token
  pub front : Are ks ts (t ∷ us)
  pub is : t.kind ≡ kind
  pub behind : Are ms us rest

pub middle : (ks : Kinds) (kind : TokenKind) (ms : Kinds) (ts rest : List Token) → Are (ks ++ kind ∷ ms) ts rest → Middle ks kind ms ts rest
middle ks kind ms ts rest are = go (parted ks (kind ∷ ms) ts rest are)
  where
    go : Parted ks (kind ∷ ms) ts rest → Middle ks kind ms ts rest
    go x = first kind ms x.us rest (λ xs. Are ks ts xs → Middle ks kind ms ts rest) x.behind (λ t us is later front. record { t = t; us = us; front = front; is = is; behind = later }) x.front

-- those before the last token, and it
pub record Ended (ks : Kinds) (kind : TokenKind) (ts rest : List Token) : Type 0 where
  pub t : Token
  pub front : Are ks ts (t ∷ rest)
  pub is : t.kind ≡ kind

pub ended : (ks : Kinds) (kind : TokenKind) (ts rest : List Token) → Are (ks ++ kind ∷ []) ts rest → Ended ks kind ts rest
ended ks kind ts rest are = go (parted ks (kind ∷ []) ts rest are)
  where
    go : Parted ks (kind ∷ []) ts rest → Ended ks kind ts rest
    go x = single kind x.us rest (λ xs. Are ks ts xs → Ended ks kind ts rest) x.behind (λ t is front. record { t = t; front = front; is = is }) x.front

-- code that begins with a sign, a word or a name
pub signed : (sign : Sign) (ks : Kinds) → is_single sign ≡ true → IsCode ks → IsCode (k.Sign sign ∷ ks)
signed sign ks is code = c.simple (k.Sign sign) ks (c.sign sign is) code

pub worded : (word : Word) (ks : Kinds) → IsCode ks → IsCode (k.Word word ∷ ks)
worded word ks code = c.simple (k.Word word) ks (c.word word) code

pub named : (x : List ℕ) (ks : Kinds) → IsLexeme (k.Name x) → IsCode ks → IsCode (k.Name x ∷ ks)
named x ks lexeme code = c.simple (k.Name x) ks (c.name x lexeme.0 lexeme.1) code

-- code up to a sign
pub up_to : (ks : Kinds) (sign : Sign) (ms : Kinds) → is_single sign ≡ true → IsCode ks → IsCode ms → IsCode (ks ++ k.Sign sign ∷ ms)
up_to ks sign ms is code more = c.join ks (k.Sign sign ∷ ms) code (signed sign ms is more)

-- tokens of a text: each can be written again, and no two literal texts stand one behind the other
abbrev pub first_part : List Token → Bool
first_part [] = false
first_part (t ∷ ts) = is_part t.kind

pub data AreProper : List Token → Type 0 where
  no_token : AreProper []
  one_token : (t : Token) (ts : List Token) → IsLexeme t.kind → (is_part t.kind ≡ true → first_part ts ≡ false) → AreProper ts → AreProper (t ∷ ts)

pub later : (t : Token) (ts : List Token) → AreProper (t ∷ ts) → AreProper ts
later _ _ (one_token t ts is alone more) = more

pub lexeme : (t : Token) (ts : List Token) (kind : TokenKind) → AreProper (t ∷ ts) → t.kind ≡ kind → IsLexeme kind
lexeme _ _ kind (one_token t ts is alone more) e = subst (λ x. IsLexeme x) e is

pub apart : (t : Token) (ts : List Token) → AreProper (t ∷ ts) → is_part t.kind ≡ true → first_part ts ≡ false
apart _ _ (one_token t ts is alone more) = alone
