-- How the nesting of tokens is counted.
use Rattle.std.specs.Prelude.{ℕ, ◌+◌, List, [], ◌∷◌, sum, Option, Some, None, nat_lt, if◌then◌else◌}
use Rattle.text_core.specs.declared.place.Place.{Place}
use Rattle.cs_token.specs.declared.token.Token.{Token}
use Rattle.cs_token.specs.declared.token.TokenKind.{TokenKind}
use Rattle.cs_token.specs.declared.token.TokenKind.TheVariants as k
use Rattle.cs_token.specs.declared.token.Sign.{Sign}
use Rattle.cs_token.specs.declared.token.Sign.TheVariants as s
use Rattle.cs_token.specs.declared.token.Word.{Word}
use Rattle.cs_token.specs.declared.token.Word.TheVariants as w
use Rattle.cs_parse.specs.declared.depth.Bracketing.{Bracketing}
use Rattle.cs_parse.specs.declared.depth.Bracketing.TheVariants as b

-- what a sign does to the brackets that are open
unfoldable pub of_sign : Sign → Bracketing
of_sign s.OpenRound = b.Opens
of_sign s.OpenSquare = b.Opens
of_sign s.OpenBrace = b.Opens
of_sign s.HoleOpen = b.Opens
of_sign s.CloseRound = b.Closes
of_sign s.CloseSquare = b.Closes
of_sign s.CloseBrace = b.Closes
of_sign s.HoleClose = b.Closes
of_sign s.Comma = b.Parts
of_sign s.Semicolon = b.Parts
of_sign s.InterpolationStart = b.Nothing
of_sign s.InterpolationEnd = b.Nothing
of_sign _ = b.Counts

-- what a word does
unfoldable pub of_word : Word → Bracketing
of_word w.Else = b.Counts
of_word _ = b.Nothing

-- what a token does
abbrev pub of_kind : TokenKind → Bracketing
of_kind (k.Sign sign) = of_sign sign
of_kind (k.Word word) = of_word word
of_kind _ = b.Nothing

-- the counts of the open brackets behind it, innermost first
abbrev pub behind : Bracketing → List ℕ → List ℕ
behind b.Opens counts = 1 ∷ counts
behind b.Closes [] = []
behind b.Closes (n ∷ counts) = counts
behind b.Parts [] = []
behind b.Parts (n ∷ counts) = 1 ∷ counts
behind b.Counts [] = []
behind b.Counts (n ∷ counts) = (n + 1) ∷ counts
behind b.Nothing counts = counts

-- the first place behind which more than 200 are counted
abbrev pub deep_from : List ℕ → List Token → Option Place
deep_from counts [] = None
deep_from counts (t ∷ ts) = if nat_lt 200 (sum (behind (of_kind t.kind) counts)) then Some t.place else deep_from (behind (of_kind t.kind) counts) ts
