-- A list of bytes divided until 300 bytes are left over. The bytes are coefficients, the first that of the highest power
-- of x, and exclusive or is addition. The divisor is x^300 + x^155 + x^117 + x^89 + 1: a byte of the quotient is taken
-- away again 145, 183, 211 and 300 places after it, which with exclusive or is to add it there.
use Rattle.std.specs.Prelude.{ℕ, take, drop, get_or, replicate}
use mathlib.Core.List.{List, [], ◌∷◌, ◌++◌, foldl}
use Rattle.std.specs.Int.Bits.{bit_xor}

-- The window: the last 300 bytes of the quotient, the oldest first. The next byte is added to those 145, 183, 211 and
-- 300 places before it and joins them, and the oldest leaves.
unfoldable pub taken : List ℕ → ℕ → List ℕ
taken window byte =
    drop 1 window
    ++ (bit_xor (bit_xor (bit_xor (bit_xor byte (get_or window 155 0)) (get_or window 117 0)) (get_or window 89 0)) (get_or window 0 0) ∷ [])

-- The window before the first byte. Its four last bytes stand before the list like bytes of it: they lead a CRC-32
-- register from zero to all ones.
unfoldable pub start : List ℕ
start = replicate 296 0 ++ (0x62 ∷ 0xF5 ∷ 0x26 ∷ 0x92 ∷ [])

-- Two lists added element by element.
unfoldable pub added : List ℕ → List ℕ → List ℕ
added [] ys = []
added (x ∷ xs) [] = []
added (x ∷ xs) (y ∷ ys) = bit_xor x y ∷ added xs ys

-- A window later by some places: zeros before it, and as many of its last bytes cut off.
unfoldable pub delayed : ℕ → List ℕ → List ℕ
delayed places window = take 300 (replicate places 0 ++ window)

-- The bytes left over from a window. Its own bytes are no part of the quotient: what each of them added to later bytes
-- of the window is added once more, and so taken away.
unfoldable pub spread : List ℕ → List ℕ
spread window = added (added (added window (delayed 145 window)) (delayed 183 window)) (delayed 211 window)

-- The bytes left over from a list.
unfoldable pub folded : List ℕ → List ℕ
folded bytes = spread (foldl taken start bytes)
