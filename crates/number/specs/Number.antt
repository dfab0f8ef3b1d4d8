-- Little-endian numbers in bytes, over the width, and bytes laid over others.
use Rattle.std.specs.Prelude.{ℕ, zero, suc, ◌+◌, ◌*◌, ◌/◌, ◌%◌, ◌<◌, cond, List, [], ◌∷◌, ◌++◌, leb, length, take, drop, get_or}

-- every element is a byte
abbrev pub Bytes : List ℕ → Type 0
Bytes bytes = (i : ℕ) → get_or bytes i 0 < 256

-- the value of bytes, the lowest first
unfoldable pub le : List ℕ → ℕ
le [] = 0
le (byte ∷ bytes) = byte + 256 * le bytes

-- the lowest bytes of a value, as many as the width says, the lowest first
unfoldable pub le_bytes : (width value : ℕ) → List ℕ
le_bytes zero value = []
le_bytes (suc width) value = value % 256 ∷ le_bytes width (value / 256)

-- the part of the given length that begins at an offset; shorter where the bytes end before it does
abbrev pub part : List ℕ → (offset len : ℕ) → List ℕ
part bytes offset len = take len (drop offset bytes)

-- the number of the given width at an offset; bytes past the end count as 0
abbrev pub number_at : List ℕ → (offset width : ℕ) → ℕ
number_at bytes offset width = le (part bytes offset width)

-- `new` laid over `old` from an offset on; `old` as it was where `new` would run past its end
unfoldable pub put : (old : List ℕ) (offset : ℕ) (new : List ℕ) → List ℕ
put old offset new =
    cond (leb (offset + length new) (length old))
    (take offset old ++ (new ++ drop (offset + length new) old))
    old
