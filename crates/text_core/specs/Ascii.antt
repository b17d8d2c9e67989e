-- Texts whose characters are their bytes.
use Rattle.std.specs.Prelude.{ℕ, Bool, List, nat_lt}
use Rattle.std.specs.List.{list_all}
use Rattle.std.specs.Borrow.{Bor}

-- each byte is below 128
abbrev pub is_ascii : List ℕ → Bool
is_ascii = list_all (λ byte. nat_lt byte 128)

-- each of these words is such a text
abbrev pub are_ascii : List (Bor (List ℕ)) → Bool
are_ascii = list_all (λ word. is_ascii word.now)
