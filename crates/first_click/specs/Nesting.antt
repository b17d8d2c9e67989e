-- How deep code nests.
use Rattle.std.specs.Prelude.{ℕ, ◌+◌, Bool, true, ◌&&◌, nat_le, List, [], ◌∷◌, codes, drop, sum, if◌then◌else◌}
use Rattle.std.specs.List.{list_any}
use Rattle.std.specs.Str.{bytes_eq}
use Rattle.first_click.specs.declared.nesting.Role.{Role}
use Rattle.first_click.specs.declared.nesting.Role.TheVariants.{Opening, Closing, Ending, Joining, Other}

-- the brackets that open
unfoldable pub opening_tokens : List (List ℕ)
opening_tokens = codes "{" ∷ codes "(" ∷ []

-- the brackets that close
unfoldable pub closing_tokens : List (List ℕ)
closing_tokens = codes "}" ∷ codes ")" ∷ []

-- the operators that count in a bracket
unfoldable pub joining_tokens : List (List ℕ)
joining_tokens = codes "=" ∷ codes "+" ∷ codes "-" ∷ codes "*" ∷ codes "++" ∷ codes "--" ∷ []

-- what a token does to the nesting
abbrev pub role_of : List ℕ → Role
role_of token =
    if list_any (bytes_eq token) opening_tokens then Opening
    else if list_any (bytes_eq token) closing_tokens then Closing
    else if list_any (bytes_eq token) joining_tokens then Joining
    else if bytes_eq token (codes ";") then Ending
    else Other

-- for each bracket that is open, the innermost first: one, and one for each operator that stands directly in it since
-- its last `;`; as a token of this role leaves it
abbrev pub behind : Role → List ℕ → List ℕ
behind Opening opened = 1 ∷ opened
behind Closing opened = drop 1 opened
behind Joining [] = []
behind Joining (count ∷ opened) = (count + 1) ∷ opened
behind Ending [] = []
behind Ending (count ∷ opened) = 1 ∷ opened
behind Other opened = opened

-- from these open brackets on, no token nests more than 100 deep
abbrev pub is_shallow_in : List ℕ → List (List ℕ) → Bool
is_shallow_in opened [] = true
is_shallow_in opened (token ∷ tokens) =
    nat_le (sum (behind (role_of token) opened)) 100 && is_shallow_in (behind (role_of token) opened) tokens

-- no token nests more than 100 deep
unfoldable pub is_shallow : List (List ℕ) → Bool
is_shallow tokens = is_shallow_in [] tokens
