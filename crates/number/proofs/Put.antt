-- The laws of `put`: what it holds, what stays outside, and writes one after the other. Assumes nothing.
use mathlib.Core.Path.{◌≡◌, refl, sym, ap, ◌∙◌}
use mathlib.Core.List.{List, [], ◌∷◌, ◌++◌, append_assoc}
use Prim.Native.Nat.{ℕ, ◌+◌, ◌≤◌, ◌<◌, ◌-◌}
use native.Mathlib.Numerals.{add-one}
use mathlib.Core.Logic.{⊎_elim}
use mathlib.Mathlib.Data.Bool.Basic.{dichotomy}
use native.Mathlib.Omega.{arith}
use lib.Dec.{leb}
use lib.ListN.{length, take, drop, set, length-append, length-take, length-drop, take-append-drop}
use lib.Seq.{paste, paste-zero, take-length, drop-drop, length-take-le, take_at, drop_at, set_split}
use borrow.Author.Tests.{le-leb, lt-leb, leb-true, leb-false}
use borrow.Rule.Slice.PartMut.{put_mid}
use Rattle.std.proofs.lemmas.Slice.{take-put_mid_below, take-put_mid, drop-put_mid}
use Rattle.number.specs.Number.{part, put}

-- the two cases: `new` fits, and `new` would run past the end
pub put_fits : (old : List ℕ) (at : ℕ) (new : List ℕ) → at + length new ≤ length old
    → put old at new ≡ take at old ++ (new ++ drop (at + length new) old)
unfolding put
put_fits old at new h = rw (le-leb (at + length new) (length old) h)

pub put_past : (old : List ℕ) (at : ℕ) (new : List ℕ) → length old < at + length new → put old at new ≡ old
unfolding put
put_past old at new h = rw (lt-leb (at + length new) (length old) h)

-- one that fits is what the library writes into a part
pub put_mid_fits : (old new : List ℕ) (at k : ℕ) → at ≤ length old → length new ≤ length old - at → k ≡ length new
    → put_mid at k old new ≡ put old at new
put_mid_fits old new at k h l e = sym (put_fits old at new (omega arith) ∙ rw (e, drop-drop))

-- a fact of `put`, from both of its cases
by_fit : (P : List ℕ → Type 0) (old : List ℕ) (at : ℕ) (new : List ℕ)
    → (at + length new ≤ length old → P (put_mid at (length new) old new)) → P old → P (put old at new)
by_fit P old at new fits past =
    ⊎_elim
    (λ e. rw (put_past old at new (leb-false _ _ e)) past)
    (λ e.
    let h : at + length new ≤ length old = leb-true _ _ e in
    rw (put_mid_fits old new at (length new) (omega arith) (omega arith) refl) at (fits h))
    (dichotomy (leb (at + length new) (length old)))

pub put_nothing : (old : List ℕ) (at : ℕ) → put old at [] ≡ old
put_nothing old at = by_fit (λ s. s ≡ old) old at [] (λ h. take-append-drop at old) refl

pub length-put : (old : List ℕ) (at : ℕ) (new : List ℕ) → length (put old at new) ≡ length old
length-put old at new =
    by_fit (λ s. length s ≡ length old) old at new
    (λ h. simp (length-append, length-take, length-drop) (omega arith)) refl

-- what stands before the written part stays
pub take_put : (old : List ℕ) (at : ℕ) (new : List ℕ) (n : ℕ) → n ≤ at → take n (put old at new) ≡ take n old
take_put old at new n k =
    by_fit (λ s. take n s ≡ take n old) old at new (λ h. take-put_mid_below at (length new) old new n k (omega arith)) refl

-- and what stands after it
pub drop-put : (old : List ℕ) (at : ℕ) (new : List ℕ) (n : ℕ) → at + length new ≤ n → drop n (put old at new) ≡ drop n old
drop-put old at new n k =
    by_fit (λ s. drop n s ≡ drop n old) old at new (λ h. drop-put_mid at (length new) old new n k (omega arith) refl) refl

-- what was written is read back
pub part_put : (old : List ℕ) (at : ℕ) (new : List ℕ) → at + length new ≤ length old → part (put old at new) at (length new) ≡ new
part_put old at new h =
    rw (put_fits old at new h, drop_at _ _ at (length-take-le at old (omega arith)), take_at new _ (length new) refl)

-- a write that begins where the last one ended is one write of both
pub put_next : (old a b : List ℕ) (at n : ℕ) {s t : List ℕ} → length a ≡ n → at + n + length b ≤ length old
    → s ≡ put old at a → t ≡ put s (at + n) b → t ≡ put old at (a ++ b)
put_next old a b at n {s} {t} l h p q = q ∙ ap (λ (x : List ℕ). put x (at + n) b) p ∙ joined
  where
    joined : put (put old at a) (at + n) b ≡ put old at (a ++ b)
    joined =
        let s : List ℕ = put old at a in
        let g : at + n + length b ≤ length s = omega (arith, length-put old at a) in
        let k : at + length (a ++ b) ≤ length old = omega (arith, length-append a b) in
        let m : at + n + length b ≡ at + length (a ++ b) = omega (arith, length-append a b) in
        let head : take (at + n) s ≡ take at old ++ a
        = rw (put_mid_fits old a at (length a) (omega arith) (omega arith) refl) at (take-put_mid at (length a) old a (at + n) (omega arith) (omega arith)) in
        let rest : drop (at + n + length b) s ≡ drop (at + length (a ++ b)) old
        = drop-put old at a (at + n + length b) (omega arith) ∙ ap (λ (i : ℕ). drop i old) m in
        put_fits s (at + n) b g ∙ rw (head, rest, put_fits old at (a ++ b) k) (simp append_assoc)

-- one stored byte
pub put-set : (old : List ℕ) (at value : ℕ) → at < length old → set old at value ≡ put old at (value ∷ [])
put-set old at value h =
    let k : at + 1 ≤ length old = omega arith in
    set_split old at value h ∙ sym (put_fits old at (value ∷ []) k ∙ rw add-one)

-- a copy that is complete; one of nothing changes nothing, wherever it stands
pub put_paste : (old : List ℕ) (at : ℕ) (new : List ℕ) → length new ≤ length old - at → paste old at new (length new) ≡ put old at new
put_paste old at [] h = sym (paste-zero old at []) ∙ sym (put_nothing old at)
put_paste old at (b ∷ new) h = rw (take-length, append_assoc, ← put_fits old at (b ∷ new) (omega arith))
