-- Four bytes are the seal of the bytes before them exactly if they spell their CRC. Assumes nothing.
use Prim.Native.Nat.{ℕ, ◌+◌, ◌≤◌}
use mathlib.Core.Path.{◌≡◌, sym, ap, ◌∙◌}
use mathlib.Core.List.{List, ◌++◌, append_assoc}
use native.Mathlib.Omega.{arith}
use lib.ListN.{length, drop, length-append}
use Rattle.number.specs.Number.{Bytes, le_bytes, part, number_at}
use Rattle.number.proofs.Digits.{length-le_bytes}
use Rattle.number.proofs.Parts.{part_add, part_at, drop_past, le_bytes-number_at, number_at_lem}
use Rattle.crc32.specs.Crc.{crc}
use Rattle.crc32.proofs.Laws.{crc_lt}
use Rattle.format.specs.Layout.{sealed}

pub length-sealed : (bytes : List ℕ) → length (sealed bytes) ≡ length bytes + 4
unfolding sealed
length-sealed bytes = simp length-append (omega (arith, length-le_bytes 4 (crc bytes)))

-- a part whose CRC is spelt after it, with these four bytes
pub seal_part : (volume : List ℕ) (offset len : ℕ) → Bytes volume → offset + len + 4 ≤ length volume
    → number_at volume (offset + len) 4 ≡ crc (part volume offset len) → sealed (part volume offset len) ≡ part volume offset (len + 4)
unfolding sealed
seal_part volume offset len b h e =
    rw (← e, le_bytes-number_at volume (offset + len) 4 b h, part_add volume offset len 4)

-- where a sealed list stands, its CRC is spelt after it
pub part_sealed : (volume bytes rest : List ℕ) (offset len : ℕ) → drop offset volume ≡ sealed bytes ++ rest → length bytes ≡ len
    → number_at volume (offset + len) 4 ≡ crc (part volume offset len)
unfolding sealed
part_sealed volume bytes rest offset len e l =
    let seal : List ℕ = le_bytes 4 (crc bytes) in
    let d : drop offset volume ≡ bytes ++ (seal ++ rest) = e ∙ append_assoc bytes seal rest in
    let after : drop (offset + len) volume ≡ seal ++ rest = drop_past volume bytes (seal ++ rest) offset len d l in
    number_at_lem volume rest (offset + len) 4 (crc bytes) after (crc_lt bytes)
    ∙ ap crc (sym (part_at volume bytes (seal ++ rest) offset len d l))
