-- The sum of the parts, part after part. Parts of size 0 are none.
use Prim.Native.Nat.{ℕ, zero, suc, ◌+◌, ◌*◌, ◌/◌, ◌≤◌, ◌<◌}
use mathlib.Core.Path.{◌≡◌, refl, sym, ap, ap₂, subst, ◌∙◌}
use mathlib.Core.List.{List}
use native.Mathlib.Nat.{div-zero}
use native.Mathlib.Numerals.{add-one}
use native.Mathlib.Omega.{arith}
use lib.Bits.{bit_xor}
use lib.ListN.{length, get_or, take, drop}
use lib.Seq.{take-length}
use denote.Ref.{Bor}
use Rattle.std.specs.List.{fold, IsSubsliceAt}
use Rattle.std.specs.Option.{IfSome, option_map}
use Rattle.std.proofs.Common.{Option, None, Some}
use Rattle.std.proofs.lemmas.List.Sums.{fold_more}
use Rattle.crc32.specs.Crc.{crc}
use Rattle.checksum_calls.specs.Parts.{sum_of_parts}

-- The sum with the checksum of one part more.
abbrev pub with_part : ℕ → Bor (List ℕ) → ℕ
with_part sum part = bit_xor sum (crc part.now)

module _ (bytes : List ℕ) (size : ℕ) (parts : List (Bor (List ℕ))) (none : Bor (List ℕ))
    (part : (k : ℕ) → k < length parts → (get_or parts k none).now ≡ take size (drop (k * size) bytes)) where
  first_parts : (k : ℕ) → k ≤ length parts → fold with_part 0 (take k parts) ≡ sum_of_parts bytes size k
  unfolding sum_of_parts
  first_parts zero h = refl
  first_parts (suc k) h =
      let more : k < length parts = omega arith in
      ap (λ (n : ℕ). fold with_part 0 (take n parts)) (sym (add-one k))
      ∙ fold_more with_part 0 parts k none more
      ∙ ap₂ (λ (sum : ℕ) (p : List ℕ). bit_xor sum (crc p)) (first_parts k (omega arith)) (part k more)

  pub all_parts : fold with_part 0 parts ≡ sum_of_parts bytes size (length parts)
  all_parts = ap (fold with_part 0) (sym (take-length parts)) ∙ first_parts (length parts) (omega arith)

-- What is known of an element that there is.
of_some : {X : Type 0} (P : X → Type 0) (found : Option X) (x : X) → option_map (λ y. y) found ≡ Some x → IfSome found P → P x
of_some P None x e known = absurd (cc)
of_some P (Some y) x e known = let same : y ≡ x = cc in subst P same known

-- The sum over the parts that a run over whole chunks gives: `at` reads its items.
pub run_parts :
    (bytes : List ℕ) (size : ℕ) (parts : List (Bor (List ℕ))) (none : Bor (List ℕ)) (len : ℕ) (at : ℕ → Option (Bor (List ℕ)))
    → len ≡ length parts → len ≡ length bytes / size
    → ((k : ℕ) (d : Bor (List ℕ)) → k < len → option_map (λ y. y) (at k) ≡ Some (get_or parts k d))
    → ((k : ℕ) → IfSome (at k) (λ x. (length x.now ≡ size) × (k * size + size ≤ length bytes) × IsSubsliceAt size bytes (k * size) x.now))
    → fold with_part 0 parts ≡ sum_of_parts bytes size (length bytes / size)
run_parts bytes size parts none len at long whole reads chunk =
    all_parts bytes size parts none
    (λ k h. (of_some (λ x. (length x.now ≡ size) × (k * size + size ≤ length bytes) × IsSubsliceAt size bytes (k * size) x.now) (at k) _ (reads k none (omega arith)) (chunk k)).2.0)
    ∙ ap (sum_of_parts bytes size) (sym long ∙ whole)

pub no_parts : (bytes : List ℕ) (size : ℕ) → size ≡ 0 → 0 ≡ sum_of_parts bytes size (length bytes / size)
unfolding sum_of_parts
no_parts bytes size e = rw (e, div-zero) refl
