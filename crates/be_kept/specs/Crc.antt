-- The CRC-32 of bytes, as zlib's `crc32` and RFC 1952 define it.
use Rattle.std.specs.Prelude.{ℕ, ◌-◌, ◌^◌, ◌/◌, ◌%◌, ◌==◌, if◌then◌else◌, List, fold}
use Rattle.std.specs.Int.Bits.{bit_xor}

-- The sum halved, as a polynomial over the two-element field. If the bit that falls out is 1, the
-- generator is added; it is 0xedb88320 with its bits in this order.
unfoldable pub halved : ℕ → ℕ
halved sum = if sum % 2 == 1 then bit_xor (sum / 2) 0xedb88320 else sum / 2

-- the byte added, and each of its bits moved out
unfoldable pub with_byte : ℕ → ℕ → ℕ
with_byte sum byte =
    halved (halved (halved (halved (halved (halved (halved (halved (bit_xor sum byte))))))))

abbrev pub with_bytes : ℕ → List ℕ → ℕ
with_bytes sum bytes = fold with_byte sum bytes

-- it begins with all bits set, and all bits are inverted at the end
abbrev pub crc : List ℕ → ℕ
crc bytes = bit_xor (with_bytes (2 ^ 32 - 1) bytes) (2 ^ 32 - 1)
