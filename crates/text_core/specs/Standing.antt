-- What stands at the front of bytes.
use Rattle.std.specs.Prelude.{◌≡◌, ℕ, ◌<◌, ◌^◌, List, ◌++◌, length, drop, IsTrue, encode_utf8_all}
use Rattle.std.specs.Str.{all_scalars}
use Rattle.text_core.specs.Words.{u32_bytes, u64_bytes}
use Rattle.text_core.specs.TextBytes.{text_bytes}

-- the bytes of a number of 32 bits
pub record U32Begins (bytes : List ℕ) (value : ℕ) : Type 0 where
  pub begins : bytes ≡ u32_bytes value ++ drop 4 bytes
  pub fits : value < 2 ^ 32

-- the bytes of a number of 64 bits
pub record U64Begins (bytes : List ℕ) (value : ℕ) : Type 0 where
  pub begins : bytes ≡ u64_bytes value ++ drop 8 bytes
  pub fits : value < 2 ^ 64

-- the bytes of a text whose length they can say, and the rest
pub record TextBegins (bytes text rest : List ℕ) : Type 0 where
  pub begins : bytes ≡ text_bytes text ++ rest
  pub scalars : IsTrue (all_scalars text)
  pub short : length (encode_utf8_all text) < 2 ^ 28
