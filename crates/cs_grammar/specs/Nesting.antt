-- How deeply tokens nest, and where a list of tokens first nests too deeply.
use Rattle.std.specs.Prelude.{ℕ, ◌+◌, Bool, true, false, List, [], ◌∷◌, sum, Option, Some, None, nat_lt, if◌then◌else◌}
use Rattle.text_core.specs.declared.place.Place.{Place}
use Rattle.cs_token.specs.declared.token.Token.{Token}
use Rattle.cs_token.specs.declared.token.TokenKind.{TokenKind}
use Rattle.cs_token.specs.declared.token.TokenKind.TheVariants as k
use Rattle.cs_token.specs.declared.token.Sign.{Sign}
use Rattle.cs_token.specs.declared.token.Sign.TheVariants as s
use Rattle.cs_token.specs.declared.token.Word.{Word}
use Rattle.cs_token.specs.declared.token.Word.TheVariants as w

-- brackets and holes of interpolated texts, where they begin
unfoldable pub opens : Sign → Bool
opens s.OpenRound = true
opens s.OpenSquare = true
opens s.OpenBrace = true
opens s.HoleOpen = true
opens _ = false

-- the same where they end
unfoldable pub closes : Sign → Bool
closes s.CloseRound = true
closes s.CloseSquare = true
closes s.CloseBrace = true
closes s.HoleClose = true
closes _ = false

-- the signs behind which a bracket begins to count anew
unfoldable pub parts : Sign → Bool
parts s.Comma = true
parts s.Semicolon = true
parts _ = false

-- the signs round the parts of an interpolated text, which aren't counted; each other sign is
unfoldable pub bounds_text : Sign → Bool
bounds_text s.InterpolationStart = true
bounds_text s.InterpolationEnd = true
bounds_text _ = false

-- the word that is counted as signs are
unfoldable pub is_else : Word → Bool
is_else w.Else = true
is_else _ = false

-- what the open brackets count, innermost first: each one, and in the innermost one more
abbrev pub counted : List ℕ → List ℕ
counted [] = []
counted (n ∷ outer) = (n + 1) ∷ outer

-- the innermost open bracket counts itself alone
abbrev pub begun : List ℕ → List ℕ
begun [] = []
begun (n ∷ outer) = 1 ∷ outer

-- without the innermost open bracket
abbrev pub closed : List ℕ → List ℕ
closed [] = []
closed (n ∷ outer) = outer

-- behind a sign
abbrev pub behind_sign : Sign → List ℕ → List ℕ
behind_sign sign open_ones =
    if opens sign then 1 ∷ open_ones
    else if closes sign then closed open_ones
    else if parts sign then begun open_ones
    else if bounds_text sign then open_ones
    else counted open_ones

-- behind a token
abbrev pub behind : TokenKind → List ℕ → List ℕ
behind (k.Sign sign) open_ones = behind_sign sign open_ones
behind (k.Word word) open_ones = if is_else word then counted open_ones else open_ones
behind _ open_ones = open_ones

-- The first place behind which the sum is above 200, with these brackets open. Where none is open nothing is counted.
abbrev pub too_deep_from : List ℕ → List Token → Option Place
too_deep_from open_ones [] = None
too_deep_from open_ones (t ∷ ts) =
    if nat_lt 200 (sum (behind t.kind open_ones)) then Some t.place else too_deep_from (behind t.kind open_ones) ts

-- the first place of the tokens at which the nesting is above 200
unfoldable pub too_deep : List Token → Option Place
too_deep ts = too_deep_from [] ts
