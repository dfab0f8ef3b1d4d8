-- The checksums of parts of one size that stand side by side.
use Rattle.std.specs.Prelude.{ℕ, zero, suc, ◌*◌, List, take, drop}
use Rattle.std.specs.Int.Bits.{bit_xor}
use Rattle.crc32.specs.Crc.{crc}

-- The sum (exclusive or) of the checksums of a number of parts, from the beginning of the bytes on.
unfoldable pub sum_of_parts : (bytes : List ℕ) (size count : ℕ) → ℕ
sum_of_parts bytes size zero = 0
sum_of_parts bytes size (suc count) = bit_xor (sum_of_parts bytes size count) (crc (take size (drop (count * size) bytes)))
