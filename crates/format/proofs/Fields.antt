-- Fields laid out are read back, and fields read are laid out as they stood, over any widths. Assumes nothing.
use Prim.Native.Nat.{ℕ, ◌+◌, ◌≤◌}
use mathlib.Core.Path.{◌≡◌, refl, sym, ap, ap₂, ◌∙◌}
use mathlib.Core.List.{List, [], ◌∷◌, ◌++◌, append_assoc}
use native.Mathlib.Nat.{add-zero, add_assoc}
use native.Mathlib.Omega.{arith}
use lib.ListN.{length, take, drop, get_or, length-append, length-drop}
use lib.Seq.{take-add, take_at, drop_at, drop-drop}
use Rattle.number.specs.Number.{Bytes, le, le_bytes, number_at}
use Rattle.number.proofs.Digits.{length-le_bytes, le-le_bytes, bytes_drop, number_at-lt}
use Rattle.number.proofs.Parts.{le_bytes-number_at}
use Rattle.format.specs.Layout.{total, Fit, laid}
use Rattle.format.proofs.Listed.{listed}

-- the values of fields of these widths that stand one after the other from the beginning of some bytes
unfoldable pub values_in : (widths bytes : List ℕ) → List ℕ
values_in [] bytes = []
values_in (width ∷ widths) bytes = le (take width bytes) ∷ values_in widths (drop width bytes)

pub length-laid : (widths values : List ℕ) → Fit widths values → length (laid widths values) ≡ total widths
unfolding laid
length-laid [] [] fit = refl
length-laid [] (value ∷ values) fit = absurd fit
length-laid (width ∷ widths) [] fit = absurd fit
length-laid (width ∷ widths) (value ∷ values) fit =
    simp length-append (omega (arith, length-le_bytes width value, length-laid widths values fit.1))

-- what was laid out is read back, whatever stands after it
pub values_laid : (widths values rest : List ℕ) → Fit widths values → values_in widths (laid widths values ++ rest) ≡ values
unfolding values_in laid
values_laid [] [] rest fit = refl
values_laid [] (value ∷ values) rest fit = absurd fit
values_laid (width ∷ widths) [] rest fit = absurd fit
values_laid (width ∷ widths) (value ∷ values) rest fit =
    let others : List ℕ = laid widths values ++ rest in
    ap (values_in (width ∷ widths)) (append_assoc (le_bytes width value) (laid widths values) rest)
    ∙ rw (
      take_at (le_bytes width value) others width (length-le_bytes width value),
      drop_at (le_bytes width value) others width (length-le_bytes width value),
      le-le_bytes width value fit.0,
      values_laid widths values rest fit.1,
    )

-- what was read is laid out as it stood
pub laid_values : (widths bytes : List ℕ) → Bytes bytes → total widths ≤ length bytes
    → laid widths (values_in widths bytes) ≡ take (total widths) bytes
unfolding values_in laid
laid_values [] bytes b h = refl
laid_values (width ∷ widths) bytes b h =
    let k : total widths ≤ length (drop width bytes) = omega (arith, length-drop width bytes) in
    rw (take-add width (total widths) bytes)
    (ap₂ ◌++◌ (le_bytes-number_at bytes 0 width b (omega arith)) (laid_values widths (drop width bytes) (bytes_drop width bytes b) k))

pub fit_values : (widths bytes : List ℕ) → Bytes bytes → Fit widths (values_in widths bytes)
unfolding values_in
fit_values [] bytes b = tt
fit_values (width ∷ widths) bytes b =
    (number_at-lt bytes 0 width b, fit_values widths (drop width bytes) (bytes_drop width bytes b))

-- the values, counted out: the k-th is the number that stands after the fields before it
pub values_listed : (widths bytes : List ℕ) (offset : ℕ)
    → values_in widths (drop offset bytes)
    ≡ listed (length widths) (λ k. number_at bytes (offset + total (take k widths)) (get_or widths k 0))
unfolding values_in
values_listed [] bytes offset = refl
values_listed (width ∷ widths) bytes offset =
    ap₂ ◌∷◌ (ap (λ (n : ℕ). number_at bytes n width) (sym (add-zero offset)))
    (rw (drop-drop width offset bytes) (values_listed widths bytes (offset + width) ∙ simp add_assoc))
