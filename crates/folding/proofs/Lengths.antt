-- A window has 300 bytes, and so have the bytes left over.
use Prim.Native.Nat.{ℕ}
use mathlib.Core.Path.{◌≡◌, refl}
use mathlib.Core.List.{List, [], ◌∷◌, foldl}
use native.Mathlib.Omega.{arith}
use lib.ListN.{length, length-append, length-drop}
use Rattle.folding.specs.inner.Folding.{taken, start, spread, folded}
use Rattle.folding.proofs.Rest.{length-late}

pub length-start : length start ≡ 300
unfolding start
length-start = refl

pub length_taken : (window : List ℕ) (byte : ℕ) → length window ≡ 300 → length (taken window byte) ≡ 300
unfolding taken
length_taken window byte h = simp (length-append, length-drop) (omega arith)

pub length-window : (window bytes : List ℕ) → length window ≡ 300 → length (foldl taken window bytes) ≡ 300
length-window window [] h = h
length-window window (byte ∷ bytes) h = length-window (taken window byte) bytes (length_taken window byte h)

pub length-spread : (window : List ℕ) → length window ≡ 300 → length (spread window) ≡ 300
unfolding spread
length-spread window h = length-late 211 window _ (length-late 183 window _ (length-late 145 window window h h) h) h

pub length-folded : (bytes : List ℕ) → length (folded bytes) ≡ 300
unfolding folded
length-folded bytes = length-spread (foldl taken start bytes) (length-window start bytes length-start)
