-- FIPS 180-4, sections 5.1.1 and 5.2.1: a message is padded and parsed. A message of SHA-256 may have any number of bits; here it has
-- whole bytes, and so have the padding and the parts.
use Rattle.std.specs.Prelude.{ℕ, zero, suc, ◌+◌, ◌-◌, ◌*◌, ◌/◌, ◌%◌, length, take, drop, replicate}
use mathlib.Core.List.{List, [], ◌∷◌, ◌++◌, foldl}

-- 3.1: the value of bytes, the highest first
unfoldable pub be : List ℕ → ℕ
be bytes = foldl (λ value byte. value * 256 + byte) 0 bytes

-- the lowest bytes of a value, as many as the width says, the highest of them first
unfoldable pub be_bytes : (width value : ℕ) → List ℕ
be_bytes zero value = []
be_bytes (suc width) value = be_bytes width (value / 256) ++ (value % 256 ∷ [])

-- 5.1.1: how many zero bytes follow the byte with the "1" bit, so that with them the message ends 8 bytes before the end of a block
-- of 64
abbrev pub zero_bytes : (len : ℕ) → ℕ
zero_bytes len = (119 - len % 64) % 64

-- 5.1.1: what is appended to a message of so many bytes: the bit "1", zero bits, and the message's length in bits as 8 bytes
unfoldable pub padding : (len : ℕ) → List ℕ
padding len = 0x80 ∷ replicate (zero_bytes len) 0 ++ be_bytes 8 (8 * len)

-- bytes parsed into parts of one size, as many as are asked for
unfoldable pub parts : (size count : ℕ) → List ℕ → List (List ℕ)
parts size zero bytes = []
parts size (suc count) bytes = take size bytes ∷ parts size count (drop size bytes)

-- 5.2.1: the blocks of 64 bytes
abbrev pub blocks : List ℕ → List (List ℕ)
blocks bytes = parts 64 (length bytes / 64) bytes
