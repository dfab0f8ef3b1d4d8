-- Fields written one after the other, each right after the one before, are the fields laid out, whatever their widths are;
-- and bytes with their checksum written after them are sealed. Assumes nothing.
use Prim.Native.Nat.{ℕ, ◌+◌, ◌≤◌}
use mathlib.Core.Path.{◌≡◌, ap, ◌∙◌}
use mathlib.Core.List.{List, [], ◌∷◌, ◌++◌, append_assoc}
use native.Mathlib.Nat.{add_assoc}
use native.Mathlib.Omega.{arith}
use lib.ListN.{length, length-append}
use Rattle.number.specs.Number.{le_bytes, part, put}
use Rattle.number.proofs.Digits.{length-le_bytes}
use Rattle.number.proofs.Put.{length-put, part_put, put_next}
use Rattle.crc32.specs.Crc.{crc}
use Rattle.format.specs.Layout.{total, laid, sealed}

-- writes that made `new` of `old`: fields of these widths and values from `offset + from` on, and bytes after them
infixr 5 ◌then◌
pub data Written (offset : ℕ) : (from : ℕ) (widths values rest old new : List ℕ) → Type 0 where
  last : {from : ℕ} {rest old new : List ℕ} → new ≡ put old (offset + from) rest → Written offset from [] [] rest old new
  ◌then◌ : {from width value : ℕ} {widths values rest old next new : List ℕ}
      → next ≡ put old (offset + from) (le_bytes width value) → Written offset (from + width) widths values rest next new
      → Written offset from (width ∷ widths) (value ∷ values) rest old new

-- a field, and what was written after it
field_then : (old : List ℕ) (at width value : ℕ) (widths values rest : List ℕ) {next new : List ℕ}
    → at + width + length (laid widths values ++ rest) ≤ length old → next ≡ put old at (le_bytes width value)
    → new ≡ put next (at + width) (laid widths values ++ rest) → new ≡ put old at (laid (width ∷ widths) (value ∷ values) ++ rest)
unfolding laid
field_then old at width value widths values rest h e f =
    put_next old (le_bytes width value) (laid widths values ++ rest) at width (length-le_bytes width value) h e f
    ∙ ap (put old at) (rw append_assoc)

pub length-written : {offset from : ℕ} {widths values rest old new : List ℕ} → Written offset from widths values rest old new
    → length (laid widths values ++ rest) ≡ total widths + length rest
unfolding laid
length-written (last e) = omega arith
length-written {widths = width ∷ widths} {values = value ∷ values} {rest} (e then more) =
    rw (append_assoc (le_bytes width value) (laid widths values) rest, length-append, length-le_bytes width value, length-written more)
    (omega arith)

-- such writes are one write of the fields laid out and the rest
pub written : {offset from : ℕ} {widths values rest old new : List ℕ} → Written offset from widths values rest old new
    → offset + from + (total widths + length rest) ≤ length old → new ≡ put old (offset + from) (laid widths values ++ rest)
unfolding laid
written (last e) h = e
written {offset} {from} {widths = width ∷ widths} {values = value ∷ values} {rest} {old} (e then more) h =
    let n = ap length e ∙ length-put old (offset + from) (le_bytes width value) in
    field_then old (offset + from) width value widths values rest (omega (arith, length-written more)) e
    (rw add_assoc (written more (omega arith)))

-- the same where the first field stands at the offset itself
pub written_at : {width : ℕ} {widths values rest next new : List ℕ} (old : List ℕ) (offset value : ℕ)
    → offset + width + (total widths + length rest) ≤ length old → next ≡ put old offset (le_bytes width value)
    → Written offset width widths values rest next new → new ≡ put old offset (laid (width ∷ widths) (value ∷ values) ++ rest)
written_at {width} {widths} {values} {rest} old offset value h e more =
    let n = ap length e ∙ length-put old offset (le_bytes width value) in
    field_then old offset width value widths values rest (omega (arith, length-written more)) e (written more (omega arith))

-- bytes that were written, and then, after them, the CRC of what stands there
pub put_sealed : (old bytes : List ℕ) (offset covered : ℕ) {next new : List ℕ} → length bytes ≡ covered → offset + covered + 4 ≤ length old
    → next ≡ put old offset bytes → new ≡ put next (offset + covered) (le_bytes 4 (crc (part next offset covered)))
    → new ≡ put old offset (sealed bytes)
unfolding sealed
put_sealed old bytes offset covered {next} l h e f =
    let there : part next offset covered ≡ bytes = rw (e, ← l) (part_put old offset bytes (omega arith)) in
    put_next old bytes (le_bytes 4 (crc bytes)) offset covered l (omega (arith, length-le_bytes 4 (crc bytes))) e (rw there at f)
