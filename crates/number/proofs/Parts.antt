-- The laws of `part`: its length, what it holds, two parts in a row, the part that stands at an offset, and numbers read from one.
-- Assumes nothing.
use Prim.Native.Nat.{ℕ, ◌+◌, ◌-◌, ◌^◌, ◌≤◌, ◌<◌, min}
use mathlib.Core.Path.{◌≡◌, sym, ap, ◌∙◌}
use mathlib.Core.List.{List, ◌++◌}
use native.Mathlib.Nat.{add-sub_cancel_left}
use native.Mathlib.Omega.{arith}
use Rattle.std.proofs.lemmas.List.{drop_min}
use lib.ListN.{length, take, drop, get_or, length-take, length-drop, take-append-drop}
use lib.Seq.{take-length, take_all, length-take-le, take-add, drop-drop, take_at, drop_at, get_or-take, get_or-drop, take-append-le, drop-append-le}
use Rattle.number.specs.Number.{Bytes, le, le_bytes, part, number_at}
use Rattle.number.proofs.Digits.{bytes_take, bytes_drop, length-le_bytes, le-le_bytes, le_bytes-le}

pub length_part : (bytes : List ℕ) (offset len : ℕ) → offset + len ≤ length bytes → length (part bytes offset len) ≡ len
length_part bytes offset len h = length-take-le len (drop offset bytes) (omega (arith, length-drop offset bytes))

pub bytes_part : (bytes : List ℕ) (offset len : ℕ) → Bytes bytes → Bytes (part bytes offset len)
bytes_part bytes offset len b = bytes_take len (drop offset bytes) (bytes_drop offset bytes b)

-- the part from an offset to another is as long as they are apart
pub part_span : (bytes : List ℕ) (from n : ℕ) → part bytes from (from + n - from) ≡ part bytes from n
part_span bytes from n = rw add-sub_cancel_left

pub span-length : (bytes : List ℕ) (from n : ℕ) → from + n ≤ length bytes → length (part bytes from (from + n - from)) ≡ n
span-length bytes from n h = simp (length-take, length-drop) (omega arith)

-- the part from an offset to the end
pub part_onward : (bytes : List ℕ) (from : ℕ) → part bytes from (length bytes - from) ≡ drop from bytes
part_onward bytes from = rw (← length-drop from bytes) (take-length (drop from bytes))

-- what a part holds stands in the whole
pub get_d_part : (bytes : List ℕ) (offset len k : ℕ) → k < len → get_or (part bytes offset len) k 0 ≡ get_or bytes (offset + k) 0
get_d_part bytes offset len k h = get_or-take len (drop offset bytes) k 0 h ∙ get_or-drop offset bytes k 0

-- a part that ends within the first of two lists
pub part-append : (bytes after : List ℕ) (offset len : ℕ) → offset + len ≤ length bytes
    → part (bytes ++ after) offset len ≡ part bytes offset len
part-append bytes after offset len h =
    ap (take len) (drop-append-le offset bytes after (omega arith))
    ∙ take-append-le len (drop offset bytes) after (omega (arith, length-drop offset bytes))

-- a part is two parts in a row
pub part_add : (bytes : List ℕ) (offset m n : ℕ) → part bytes offset (m + n) ≡ part bytes offset m ++ part bytes (offset + m) n
part_add bytes offset m n =
    take-add m n (drop offset bytes) ∙ ap (λ rest. part bytes offset m ++ take n rest) (drop-drop m offset bytes)

-- a part, and what stands after it
pub drop-part : (bytes : List ℕ) (offset len : ℕ) → drop offset bytes ≡ part bytes offset len ++ drop (offset + len) bytes
drop-part bytes offset len =
    sym (take-append-drop len (drop offset bytes)) ∙ ap (λ rest. part bytes offset len ++ rest) (drop-drop len offset bytes)

-- what a part is stands there
pub part_stands : (bytes new : List ℕ) (offset len : ℕ) → part bytes offset len ≡ new → drop offset bytes ≡ new ++ drop (offset + len) bytes
part_stands bytes new offset len e = drop-part bytes offset len ∙ ap (λ there. there ++ drop (offset + len) bytes) e

-- bytes that stand at an offset are the part there, and after them stands the rest
module _ (bytes new rest : List ℕ) (offset len : ℕ) (e : drop offset bytes ≡ new ++ rest) (l : length new ≡ len) where
  pub part_at : part bytes offset len ≡ new
  part_at = ap (take len) e ∙ take_at new rest len l

  pub drop_past : drop (offset + len) bytes ≡ rest
  drop_past = sym (drop-drop len offset bytes) ∙ ap (drop len) e ∙ drop_at new rest len l

-- the bytes of the number at an offset are the part there
pub le_bytes-number_at : (bytes : List ℕ) (offset width : ℕ) → Bytes bytes → offset + width ≤ length bytes
    → le_bytes width (number_at bytes offset width) ≡ part bytes offset width
le_bytes-number_at bytes offset width b h =
    rw (length_part bytes offset width h) at (le_bytes-le (part bytes offset width) (bytes_part bytes offset width b))

-- a number whose bytes stand at an offset is read there
pub number_at_lem : (bytes rest : List ℕ) (offset width value : ℕ) → drop offset bytes ≡ le_bytes width value ++ rest
    → value < 256 ^ width → number_at bytes offset width ≡ value
number_at_lem bytes rest offset width value e h =
    ap le (part_at bytes (le_bytes width value) rest offset width e (length-le_bytes width value)) ∙ le-le_bytes width value h

-- a number read from the part that begins at an offset, or at the end of the bytes where that comes first, is read in the whole
pub number_from : (bytes : List ℕ) (at from offset width : ℕ) → from ≡ min at (length bytes)
    → number_at (take (length bytes - from) (drop from bytes)) offset width ≡ number_at bytes (at + offset) width
number_from bytes at from offset width e =
    rw (take_all (length bytes - from) (drop from bytes) (simp length-drop (omega arith)), e, drop_min, drop-drop)
