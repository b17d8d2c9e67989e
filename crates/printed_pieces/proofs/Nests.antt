-- Tokens in which brackets are whole.
use Rattle.std.proofs.Common.{◌≡◌, ℕ, Bool, true, false, List, ◌∷◌, refl, ap, ◌∙◌}
use Rattle.std.specs.Prelude.{codes}
use Rattle.cs_token.specs.declared.token.Token.{Token}
use Rattle.cs_token.specs.declared.token.TokenKind.{TokenKind}
use Rattle.cs_token.specs.declared.token.TokenKind.TheVariants as k
use Rattle.cs_token.specs.declared.token.Sign.{Sign}
use Rattle.cs_token.specs.declared.token.Sign.TheVariants as s
use Rattle.cs_token.specs.declared.token.Word.{Word}
use Rattle.cs_grammar.specs.Tokens.{IsSign, IsWord, IsName}
use Rattle.printed_pieces.proofs.FrontLaws.{is_markup}

-- neither a bracket, nor a bound or a part of an interpolated text, nor a sign behind which a statement can begin
abbrev pub is_flat : TokenKind → Bool
is_flat (k.Part x) = false
is_flat (k.Sign s.OpenRound) = false
is_flat (k.Sign s.CloseRound) = false
is_flat (k.Sign s.OpenSquare) = false
is_flat (k.Sign s.CloseSquare) = false
is_flat (k.Sign s.OpenBrace) = false
is_flat (k.Sign s.CloseBrace) = false
is_flat (k.Sign s.InterpolationStart) = false
is_flat (k.Sign s.InterpolationEnd) = false
is_flat (k.Sign s.HoleOpen) = false
is_flat (k.Sign s.HoleClose) = false
is_flat (k.Sign s.Colon) = false
is_flat (k.Sign s.Semicolon) = false
is_flat _ = true

-- Nests whole ts rest: the tokens ts up to rest have whole brackets. Where the first argument is true, they are those of one
-- expression: braces stand behind the name `with` alone, and no markup could begin behind a colon.
mutual
  pub data Nests : Bool → List Token → List Token → Type 0 where
    none : (b : Bool) (rest : List Token) → Nests b rest rest
    flat : (b : Bool) (t : Token) (ts rest : List Token) → is_flat t.kind ≡ true → Nests b ts rest → Nests b (t ∷ ts) rest
    colon : (b : Bool) (t u : Token) (ts rest : List Token) → IsSign s.Colon t → is_markup u.kind ≡ false → Nests b (u ∷ ts) rest → Nests b (t ∷ u ∷ ts) rest
    parted : (t : Token) (sign : Sign) (ts rest : List Token) → IsSign sign t → IsParting sign → Nests false ts rest → Nests false (t ∷ ts) rest
    round : (b i : Bool) (o c : Token) (ts us rest : List Token) → IsSign s.OpenRound o → Nests i ts (c ∷ us) → IsSign s.CloseRound c → Nests b us rest → Nests b (o ∷ ts) rest
    square : (b i : Bool) (o c : Token) (ts us rest : List Token) → IsSign s.OpenSquare o → Nests i ts (c ∷ us) → IsSign s.CloseSquare c → Nests b us rest → Nests b (o ∷ ts) rest
    with_parts : (b i : Bool) (n o c : Token) (ts us rest : List Token) → IsName (codes "with") n → IsSign s.OpenBrace o → Nests i ts (c ∷ us) → IsSign s.CloseBrace c → Nests b us rest → Nests b (n ∷ o ∷ ts) rest
    braces : (i : Bool) (o c : Token) (ts us rest : List Token) → IsSign s.OpenBrace o → Nests i ts (c ∷ us) → IsSign s.CloseBrace c → Nests false us rest → Nests false (o ∷ ts) rest
    interpolated : (b : Bool) (o c : Token) (ts us rest : List Token) → IsSign s.InterpolationStart o → NestsTexts ts (c ∷ us) → IsSign s.InterpolationEnd c → Nests b us rest → Nests b (o ∷ ts) rest

  -- parts of an interpolated text
  pub data NestsTexts : List Token → List Token → Type 0 where
    no_text : (rest : List Token) → NestsTexts rest rest
    literal : (x : List ℕ) (t : Token) (ts rest : List Token) → t.kind ≡ k.Part x → NestsTexts ts rest → NestsTexts (t ∷ ts) rest
    hole : (b : Bool) (o c : Token) (ts us rest : List Token) → IsSign s.HoleOpen o → Nests b ts (c ∷ us) → IsSign s.HoleClose c → NestsTexts us rest → NestsTexts (o ∷ ts) rest

  pub data IsParting : Sign → Type 0 where
    by_colon : IsParting s.Colon
    by_semicolon : IsParting s.Semicolon

pub join : (b : Bool) (ts us rest : List Token) → Nests b ts us → Nests b us rest → Nests b ts rest
join _ _ _ rest (none b us) more = more
join _ _ us rest (flat b t ts _ is inner) more = flat b t ts rest is (join b ts us rest inner more)
join _ _ us rest (colon b t u ts _ is free inner) more = colon b t u ts rest is free (join b (u ∷ ts) us rest inner more)
join _ _ us rest (parted t sign ts _ is parting inner) more = parted t sign ts rest is parting (join false ts us rest inner more)
join _ _ us rest (round b i o c ts vs _ opens inner closes outer) more = round b i o c ts vs rest opens inner closes (join b vs us rest outer more)
join _ _ us rest (square b i o c ts vs _ opens inner closes outer) more = square b i o c ts vs rest opens inner closes (join b vs us rest outer more)
join _ _ us rest (with_parts b i n o c ts vs _ is opens inner closes outer) more = with_parts b i n o c ts vs rest is opens inner closes (join b vs us rest outer more)
join _ _ us rest (braces i o c ts vs _ opens inner closes outer) more = braces i o c ts vs rest opens inner closes (join false vs us rest outer more)
join _ _ us rest (interpolated b o c ts vs _ opens inner closes outer) more = interpolated b o c ts vs rest opens inner closes (join b vs us rest outer more)

-- where no expression is asked
pub loosen : (ts rest : List Token) (b : Bool) → Nests b ts rest → Nests false ts rest
loosen _ _ _ (none b rest) = none false rest
loosen _ _ _ (flat b t ts rest is inner) = flat false t ts rest is (loosen ts rest b inner)
loosen _ _ _ (colon b t u ts rest is free inner) = colon false t u ts rest is free (loosen (u ∷ ts) rest b inner)
loosen _ _ _ (parted t sign ts rest is parting inner) = parted t sign ts rest is parting (loosen ts rest false inner)
loosen _ _ _ (round b i o c ts us rest opens inner closes outer) = round false i o c ts us rest opens inner closes (loosen us rest b outer)
loosen _ _ _ (square b i o c ts us rest opens inner closes outer) = square false i o c ts us rest opens inner closes (loosen us rest b outer)
loosen _ _ _ (with_parts b i n o c ts us rest is opens inner closes outer) = with_parts false i n o c ts us rest is opens inner closes (loosen us rest b outer)
loosen _ _ _ (braces i o c ts us rest opens inner closes outer) = braces i o c ts us rest opens inner closes (loosen us rest false outer)
loosen _ _ _ (interpolated b o c ts us rest opens inner closes outer) = interpolated false o c ts us rest opens inner closes (loosen us rest b outer)

-- a token that is a name, a word, a number, a text or another sign
pub kind_flat : (b : Bool) (kind : TokenKind) (t : Token) (ts rest : List Token) → t.kind ≡ kind → is_flat kind ≡ true → Nests b ts rest → Nests b (t ∷ ts) rest
kind_flat b kind t ts rest is free more = flat b t ts rest (ap is_flat is ∙ free) more

pub named : (b : Bool) (x : List ℕ) (t : Token) (ts rest : List Token) → IsName x t → Nests b ts rest → Nests b (t ∷ ts) rest
named b x t ts rest is more = kind_flat b (k.Name x) t ts rest is refl more

pub worded : (b : Bool) (word : Word) (t : Token) (ts rest : List Token) → IsWord word t → Nests b ts rest → Nests b (t ∷ ts) rest
worded b word t ts rest is more = kind_flat b (k.Word word) t ts rest is refl more

pub signed : (b : Bool) (sign : Sign) (t : Token) (ts rest : List Token) → IsSign sign t → is_flat (k.Sign sign) ≡ true → Nests b ts rest → Nests b (t ∷ ts) rest
signed b sign t ts rest is free more = kind_flat b (k.Sign sign) t ts rest is free more
