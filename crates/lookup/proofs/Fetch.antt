-- The checks of a fetch, one header after the other, and what a fetch that is not refused knows of its range. Assumes nothing.
use Rattle.std.specs.Prelude.{Result, Ok, Err}
use Rattle.std.specs.Result.{is_err}
use mathlib.Core.Path.{◌≡◌, refl, sym, ap, ◌∙◌}
use mathlib.Core.Bool.{Bool, true, false, cond, false≢true}
use mathlib.Core.Option.{Option, none, some}
use mathlib.Core.List.{List, [], ◌∷◌, ◌++◌}
use Prim.Native.Nat.{ℕ, ◌+◌, ◌≤◌}
use native.Mathlib.Omega.{arith}
use lib.Dec.{eqb}
use lib.ListN.{length}
use borrow.Author.Tests.{ltb-false, eqb-true, eq-eqb, ne_eqb}
use Rattle.number.specs.Number.{part}
use Rattle.number.specs.Address.{Address, address_in}
use Rattle.checks.specs.Checks.{Check, check, first_fault}
use Rattle.checks.proofs.Laws.{passed, passed_part, first_fault-append}
use Rattle.refusal.specs.Faults.{fault_number}
use Rattle.refusal.specs.declared.Fault.{Fault}
use Rattle.refusal.proofs.Numbers.{number_above_zero}
use Rattle.volume.specs.Heading.{sequence_of, header_order, header_fault}
use Rattle.lookup.specs.Fetch.{whichever, chosen, out_of, fetch_order, fetch_fault}
use Rattle.lookup.specs.inner.Part.{fetch_part, fetch_address}

-- what a call that looks for a fault says by whether it answers an error
pub at_fault : {A : Type 0} (r : Result A Fault) {fault : ℕ} → fault_number r ≡ fault → is_err r ≡ true → fault ≡ 0 → ⊥
at_fault (Ok x) told e = absurd (false≢true e)
at_fault (Err found) told e = λ z. number_above_zero found (told ∙ z)

pub without_fault : {A : Type 0} (r : Result A Fault) {fault : ℕ} → fault_number r ≡ fault → is_err r ≡ false → fault ≡ 0
without_fault (Ok x) told e = sym told
without_fault (Err found) told e = absurd (false≢true (sym e))

-- the first header decides before the second, and the second before the rest
pub by_headers : (first second : List ℕ) (others : List Check)
    → first_fault (header_order first ++ (header_order second ++ others))
    ≡ cond (eqb (header_fault first) 0) (cond (eqb (header_fault second) 0) (first_fault others) (header_fault second)) (header_fault first)
unfolding header_fault
by_headers first second others =
    first_fault-append (header_order first) (header_order second ++ others) tt
    ∙ ap (λ (n : ℕ). cond (eqb (first_fault (header_order first)) 0) n (first_fault (header_order first)))
    (first_fault-append (header_order second) others tt)

-- of two headers and a range, the first fault
first_of : (first second range : ℕ) → ℕ
first_of first second range = cond (eqb first 0) (cond (eqb second 0) range second) first

module _ (first second : List ℕ) (number offset len : ℕ) where
  decided : fetch_fault first second number offset len
      ≡ first_of (header_fault first) (header_fault second) (cond (out_of offset len (chosen first second number)) 16 0)
  unfolding fetch_fault first_of first_fault
  decided = by_headers first second (check (out_of offset len (chosen first second number)) 16 ∷ [])

  pub first_decides : (fault : ℕ) → fault ≡ header_fault first → (fault ≡ 0 → ⊥) → fault ≡ fetch_fault first second number offset len
  unfolding first_of
  first_decides fault e n = rw (decided, ← e, ne_eqb fault 0 n)

  pub second_decides : (fault other : ℕ) → fault ≡ header_fault first → fault ≡ 0 → other ≡ header_fault second → (other ≡ 0 → ⊥)
      → other ≡ fetch_fault first second number offset len
  unfolding first_of
  second_decides fault other e z d n = rw (decided, ← e, eq-eqb fault 0 z, ← d, ne_eqb other 0 n)

  pub range_decides : (fault other : ℕ) (out : Bool) → fault ≡ header_fault first → fault ≡ 0 → other ≡ header_fault second → other ≡ 0
      → out ≡ out_of offset len (chosen first second number) → cond out 16 0 ≡ fetch_fault first second number offset len
  unfolding first_of
  range_decides fault other out e z d y o = rw (decided, ← e, eq-eqb fault 0 z, ← d, eq-eqb other 0 y, ← o)

-- What a fetch that is not refused has passed, by name: both headers are sound, and the range lies within the volume that has the
-- number. Only here are the checks of its table counted.
pub record FetchPassed (first second : List ℕ) (number offset len : ℕ) : Type 0 where
  pub first_sound : header_fault first ≡ 0
  pub second_sound : header_fault second ≡ 0
  pub in_range_lem : out_of offset len (chosen first second number) ≡ false

pub fetch_passed : (first second : List ℕ) (number offset len : ℕ) → fetch_fault first second number offset len ≡ 0
    → FetchPassed first second number offset len
unfolding fetch_fault header_fault
fetch_passed first second number offset len e =
    let order = fetch_order first second number offset len in
    record {
      first_sound = passed_part 0 8 order tt e;
      second_sound = passed_part 8 8 order tt e;
      in_range_lem = passed 16 order tt e;
    }

-- What belongs to the first volume, where it has the number: also where both do.
pub of_first_lem : {A : Type 0} (first second : List ℕ) (number : ℕ) (a b c : A) → sequence_of first ≡ number
    → whichever first second number a b c ≡ a
of_first_lem first second number a b c e = rw (eq-eqb (sequence_of first) number e)

-- What belongs to the second, where it alone has the number.
pub of_second_lem : {A : Type 0} (first second : List ℕ) (number : ℕ) (a b c : A) → (sequence_of first ≡ number → ⊥)
    → sequence_of second ≡ number → whichever first second number a b c ≡ b
of_second_lem first second number a b c n e =
    rw (ne_eqb (sequence_of first) number n, eq-eqb (sequence_of second) number e)

pub chosen_first : (first second : List ℕ) (number : ℕ) → sequence_of first ≡ number → chosen first second number ≡ some first
unfolding chosen
chosen_first first second number e = of_first_lem first second number (some first) (some second) none e

pub chosen_second : (first second : List ℕ) (number : ℕ) → (sequence_of first ≡ number → ⊥) → sequence_of second ≡ number
    → chosen first second number ≡ some second
unfolding chosen
chosen_second first second number n e = of_second_lem first second number (some first) (some second) none n e

-- where the first has another number and nothing is refused, the second has it
pub second_has : (first second : List ℕ) (number offset len : ℕ) → fetch_fault first second number offset len ≡ 0
    → (sequence_of first ≡ number → ⊥) → sequence_of second ≡ number
unfolding chosen
second_has first second number offset len sound n =
    go (eqb (sequence_of second) number) refl
    (rw (ne_eqb (sequence_of first) number n) at (fetch_passed first second number offset len sound).in_range_lem)
  where
    go : (t : Bool) → eqb (sequence_of second) number ≡ t → out_of offset len (cond t (some second) none) ≡ false
        → sequence_of second ≡ number
    go true e h = eqb-true (sequence_of second) number e
    go false e h = let z : ◌≡◌ {A = ℕ} 0 1 = cc in absurd (omega arith)

-- the range lies within the volume that is chosen
within : (chosen : Option (List ℕ)) (volume : List ℕ) (offset len : ℕ) → chosen ≡ some volume → out_of offset len chosen ≡ false
    → offset + len ≤ length volume
within chosen volume offset len e h = ltb-false (length volume) (offset + len) (rw e at h)

-- A fetch that is not refused has its range in this volume, which begins at `whole`, and hands out the part there.
pub record Held (first second : List ℕ) (first_at second_at : Address) (number offset len : ℕ) (volume : List ℕ) (whole : Address) : Type 0 where
  pub fits : offset + len ≤ length volume
  pub bytes : fetch_part first second number offset len ≡ part volume offset len
  pub address : fetch_address first second first_at second_at number offset len ≡ address_in whole offset

module _ (first second : List ℕ) (first_at second_at : Address) (number offset len : ℕ)
    (sound : fetch_fault first second number offset len ≡ 0) where
  held : (volume : List ℕ) (whole : Address) → chosen first second number ≡ some volume
      → whichever first second number first_at second_at first_at ≡ whole
      → Held first second first_at second_at number offset len volume whole
  unfolding fetch_part fetch_address
  held volume whole v w =
      let clear = eq-eqb (fetch_fault first second number offset len) 0 sound in
      record {
        fits = within (chosen first second number) volume offset len v (fetch_passed first second number offset len sound).in_range_lem;
        bytes = rw (clear, v);
        address = rw (clear, w);
      }

  pub held_in_first : sequence_of first ≡ number → Held first second first_at second_at number offset len first first_at
  held_in_first e =
      held first first_at (chosen_first first second number e) (of_first_lem first second number first_at second_at first_at e)

  pub held_in_second : (sequence_of first ≡ number → ⊥) → Held first second first_at second_at number offset len second second_at
  held_in_second n =
      let e = second_has first second number offset len sound n in
      held second second_at (chosen_second first second number n e) (of_second_lem first second number first_at second_at first_at n e)
