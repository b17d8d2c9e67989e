-- Numbers as bytes, the least byte first.
use Rattle.std.specs.Prelude.{ℕ, List, length, Option, Some, None, nat_lt, if◌then◌else◌}
use Rattle.byteorder.specs.Endian.{little_bytes, little_number}

-- the four bytes of a number of 32 bits
unfoldable pub u32_bytes : ℕ → List ℕ
u32_bytes value = little_bytes 4 value

-- the eight bytes of a number of 64 bits
unfoldable pub u64_bytes : ℕ → List ℕ
u64_bytes value = little_bytes 8 value

-- the number that the first four bytes are, where there are four
unfoldable pub u32_at : List ℕ → Option ℕ
u32_at bytes = if nat_lt (length bytes) 4 then None else Some (little_number 4 bytes)

-- the number that the first eight bytes are, where there are eight
unfoldable pub u64_at : List ℕ → Option ℕ
u64_at bytes = if nat_lt (length bytes) 8 then None else Some (little_number 8 bytes)
