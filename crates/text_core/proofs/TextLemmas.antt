-- Texts as bytes and as characters.
use Rattle.std.proofs.Common.{◌≡◌, ℕ, ◌++◌, ◌<◌, List, [], ◌∷◌, String, true, zero, suc, get_or, arith, ap, sym, ◌∙◌, refl}
use Rattle.std.specs.Borrow.{Bor}
use Rattle.std.specs.List.{list_any}
use Rattle.std.specs.Str.{chars, IsUtf8, bytes_eq, encode_utf8_all}
use Rattle.std.specs.Cmp.Lexicographic.{bytes_decides}
use Rattle.std.proofs.lemmas.Bool.Decides.{same_from_decides}
use Rattle.std.specs.Char.{IsScalar, encode_utf8}
use Rattle.std.specs.String.{string_bytes}
use Rattle.std.proofs.lemmas.Str.{chars-nil, chars-append, chars_past_char, encodes-chars, chars-IsAscii, IsUtf8-string_bytes, IsUtf8-encode}
use Rattle.std.proofs.lemmas.Bool.{and_parts, ltb-true}
use Rattle.std.specs.Prelude.{nat_lt}
use Rattle.text_core.specs.Ascii.{is_ascii, are_ascii}
use mathlib.Core.List.{append-nil}

-- the characters behind one more
pub chars-push : {Z : Type 0} (s : String Z) (c : ℕ) → IsScalar c → chars (string_bytes s ++ encode_utf8 c) ≡ chars (string_bytes s) ++ c ∷ []
chars-push s c scalar =
    chars-append (string_bytes s) (encode_utf8 c) (IsUtf8-string_bytes s)
    ∙ ap (λ t. chars (string_bytes s) ++ t) (chars_past_char (encode_utf8 c) [] c (IsUtf8-encode c scalar) (sym (append-nil (encode_utf8 c))) ∙ ap (λ t. c ∷ t) chars-nil)

below : (bytes : List ℕ) → is_ascii bytes ≡ true → (i : ℕ) → get_or bytes i 0 < 128
below [] e i = omega arith
below (b ∷ bytes) e zero = ltb-true b 128 (and_parts (nat_lt b 128) (is_ascii bytes) e).0
below (b ∷ bytes) e (suc i) = below bytes (and_parts (nat_lt b 128) (is_ascii bytes) e).1 i

-- the characters of an ASCII text are its bytes
pub chars-is_ascii : (bytes : List ℕ) → is_ascii bytes ≡ true → chars bytes ≡ bytes
chars-is_ascii bytes e = chars-IsAscii bytes (below bytes e)

-- two texts are equal exactly where their characters are
pub bytes_eq-chars : (a b : List ℕ) → IsUtf8 a → IsUtf8 b → bytes_eq a b ≡ bytes_eq (chars a) (chars b)
bytes_eq-chars a b is_a is_b =
    same_from_decides (bytes_eq a b) (bytes_eq (chars a) (chars b)) (
      (λ t. ap chars ((bytes_decides a b).0 t)),
      λ e. (bytes_decides a b).1 (sym (encodes-chars a is_a) ∙ ap encode_utf8_all e ∙ encodes-chars b is_b),
    )
    (bytes_decides (chars a) (chars b))

-- among ASCII words, a text is looked for by their bytes
pub any-are_ascii : (text : List ℕ) (words : List (Bor (List ℕ))) → are_ascii words ≡ true → list_any (λ (w : Bor (List ℕ)). bytes_eq text (chars w.now)) words ≡ list_any (λ (w : Bor (List ℕ)). bytes_eq text w.now) words
any-are_ascii text [] e = refl
any-are_ascii text (word ∷ words) e =
    let parts = and_parts (is_ascii word.now) (are_ascii words) e in
    rw (chars-is_ascii word.now parts.0, any-are_ascii text words parts.1) refl
