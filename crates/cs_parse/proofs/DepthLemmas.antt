-- The nesting is counted as the definition has it.
use Rattle.std.proofs.Common.{◌≡◌, ℕ, List, [], ◌∷◌, refl, ap, ◌∙◌}
use Rattle.std.specs.Prelude.{Some, nat_lt, if◌then◌else◌, sum}
use Rattle.cs_token.specs.declared.token.Token.{Token}
use Rattle.cs_token.specs.declared.token.TokenKind.{TokenKind}
use Rattle.cs_token.specs.declared.token.TokenKind.TheVariants as k
use Rattle.cs_token.specs.declared.token.Sign.{Sign}
use Rattle.cs_token.specs.declared.token.Sign.TheVariants as s
use Rattle.cs_token.specs.declared.token.Word.{Word}
use Rattle.cs_token.specs.declared.token.Word.TheVariants as w
use Rattle.cs_grammar.specs.Nesting.{opens, closes, parts, bounds_text, is_else, too_deep, too_deep_from}
use Rattle.cs_grammar.specs.Nesting as n
use Rattle.cs_parse.specs.DepthReading as r
use Rattle.cs_parse.specs.DepthReading.{deep_from}

sign_behind : (sign : Sign) (counts : List ℕ) → n.behind_sign sign counts ≡ r.behind (r.of_sign sign) counts
unfolding opens closes parts bounds_text r.of_sign
sign_behind s.OpenRound [] = refl
sign_behind s.OpenRound (m ∷ counts) = refl
sign_behind _ [] = refl
sign_behind _ (m ∷ counts) = refl

word_behind : (word : Word) (counts : List ℕ) → n.behind (k.Word word) counts ≡ r.behind (r.of_word word) counts
unfolding is_else r.of_word
word_behind w.Else [] = refl
word_behind w.Else (m ∷ counts) = refl
word_behind _ [] = refl
word_behind _ (m ∷ counts) = refl

behind_kind : (kind : TokenKind) (counts : List ℕ) → n.behind kind counts ≡ r.behind (r.of_kind kind) counts
behind_kind (k.Sign sign) counts = sign_behind sign counts
behind_kind (k.Word word) counts = word_behind word counts
behind_kind _ counts = refl

deep_same : (ts : List Token) (counts : List ℕ) → too_deep_from counts ts ≡ deep_from counts ts
deep_same [] counts = refl
deep_same (t ∷ ts) counts =
    ap (λ c. if nat_lt 200 (sum c) then Some t.place else too_deep_from c ts) (behind_kind t.kind counts)
    ∙ ap (λ o. if nat_lt 200 (sum (r.behind (r.of_kind t.kind) counts)) then Some t.place else o) (deep_same ts (r.behind (r.of_kind t.kind) counts))

pub counted_so : (ts : List Token) → too_deep ts ≡ deep_from [] ts
unfolding too_deep
counted_so ts = deep_same ts []
