-- What fetching stored bytes answers: the part of whichever of two volumes has the number, the first if both do.
use Rattle.std.specs.Prelude.{ℕ, ◌+◌, Bool, true, cond, List, [], ◌∷◌, ◌++◌, ltb, eqb, length}
use Rattle.std.proofs.Math.Option.{Option, none, some}
use Rattle.checks.specs.Checks.{Check, check, first_fault}
use Rattle.volume.specs.Heading.{sequence_of, header_order}

-- Given one thing for each volume: that of whichever volume has the number in its header, the first if both do. Where neither has
-- it, what is given for that.
abbrev pub whichever : {A : Type 0} (first second : List ℕ) (number : ℕ) (of_first of_second of_neither : A) → A
whichever first second number of_first of_second of_neither =
    cond (eqb (sequence_of first) number) of_first (cond (eqb (sequence_of second) number) of_second of_neither)

-- the volume with the number, if one has it
unfoldable pub chosen : (first second : List ℕ) (number : ℕ) → Option (List ℕ)
chosen first second number = whichever first second number (some first) (some second) none

-- 16: neither volume has the number, or the range reaches beyond it
abbrev pub out_of : (offset len : ℕ) → Option (List ℕ) → Bool
out_of offset len none = true
out_of offset len (some volume) = ltb (length volume) (offset + len)

-- the checks of a fetch: the first header's, the second header's, 16
abbrev pub fetch_order : (first second : List ℕ) (number offset len : ℕ) → List Check
fetch_order first second number offset len =
    header_order first ++ (header_order second ++ (check (out_of offset len (chosen first second number)) 16 ∷ []))

-- 0, or the refusal's number
unfoldable pub fetch_fault : (first second : List ℕ) (number offset len : ℕ) → ℕ
fetch_fault first second number offset len = first_fault (fetch_order first second number offset len)
