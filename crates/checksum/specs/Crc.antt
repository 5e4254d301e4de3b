-- The manual's clauses "CRC Checksum" and "CRC Calculation": polynomial x^16 + x^12 + x^5 + 1, lowest bit first, start
-- value FFFFh, no final change. This is the manual's calculation bit by bit; nothing here knows of a table.
-- Assumes nothing.
use Rattle.std.specs.Prelude.{ℕ, zero, suc, ◌*◌, ◌/◌, ◌%◌, List, fold, bit_xor}

-- the register shifted by one bit: a 1 that falls out brings in 8408h, which is the polynomial 1021h lowest bit first
unfoldable pub shifted : ℕ → ℕ
shifted c = bit_xor (c / 2) (c % 2 * 0x8408)

-- the register after one bit of the message
unfoldable pub bit_in : ℕ → ℕ → ℕ
bit_in c bit = shifted (bit_xor c bit)

-- the register after the n lowest bits of b, the lowest first
unfoldable pub bits_in : ℕ → ℕ → ℕ → ℕ
bits_in zero c b = c
bits_in (suc n) c b = bits_in n (bit_in c (b % 2)) (b / 2)

-- the register after one byte
unfoldable pub updated : ℕ → ℕ → ℕ
updated c byte = bits_in 8 c byte

-- the checksum of a list of bytes
unfoldable pub crc : List ℕ → ℕ
crc bytes = fold updated 0xffff bytes
