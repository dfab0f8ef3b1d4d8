-- A block's ID, its fields, its variable parts and its CRC, written one after the other, are its image. Assumes nothing.
use Prim.Native.Nat.{ℕ, ◌+◌, ◌%◌, ◌≤◌, ◌<◌}
use mathlib.Core.Path.{◌≡◌, ap, ◌∙◌}
use mathlib.Core.List.{List, ◌∷◌, ◌++◌}
use native.Mathlib.Omega.{arith}
use lib.ListN.{length}
use Rattle.number.specs.Number.{le_bytes, part, put}
use Rattle.crc32.specs.Crc.{crc}
use Rattle.format.specs.Layout.{total, laid, sealed}
use Rattle.encode.proofs.Writes.{Written, length-written, written_at, put_sealed}

-- the ID is a field of one byte
id_laid : (id : ℕ) (widths values : List ℕ) → id < 256 → laid (1 ∷ widths) (id ∷ values) ≡ id ∷ laid widths values
unfolding laid le_bytes
id_laid id widths values h =
    let e : id % 256 ≡ id = omega arith in
    rw e

-- ID, fields, variable parts and CRC, written one after the other, are one write of all of them
pub block_written : {widths values rest first whole new : List ℕ} (old : List ℕ) (offset id covered : ℕ)
    → id < 256 → covered ≡ 1 + total widths + length rest → offset + covered + 4 ≤ length old
    → first ≡ put old offset (le_bytes 1 id) → Written offset 1 widths values rest first whole
    → new ≡ put whole (offset + covered) (le_bytes 4 (crc (part whole offset covered)))
    → new ≡ put old offset (sealed (id ∷ laid widths values ++ rest))
block_written {widths} {values} {rest} old offset id covered small l h e more f =
    let n = length-written more in
    put_sealed old (id ∷ laid widths values ++ rest) offset covered (omega arith) h
    (written_at old offset id (omega arith) e more ∙ ap (λ (s : List ℕ). put old offset (s ++ rest)) (id_laid id widths values small)) f
