-- What a call answers and what the lent bytes then hold, check by check, and that a digest is handed out as sha256 answers it.
-- Assumes nothing.
use Prim.Native.Nat.{ℕ, ◌≤◌}
use mathlib.Core.Path.{◌≡◌, refl, ap, ◌∙◌}
use mathlib.Core.Bool.{Bool, true, false, cond}
use mathlib.Core.List.{List, [], ◌∷◌}
use lib.Dec.{eqb, ltb}
use lib.ListN.{length}
use borrow.Author.Tests.{le-ltb}
use Rattle.number.specs.Number.{put}
use Rattle.checks.specs.Checks.{Check, check, first_fault}
use Rattle.refusal.specs.declared.Fault.{Fault}
use Rattle.refusal.specs.declared.Fault.TheVariants.{TooLarge}
use Rattle.refusal.specs.Faults.{number_of, fault_number}
use Rattle.std.proofs.Common.{Result, Ok, Err}
use Rattle.digests.specs.States.{laid_over}
use Rattle.digests.specs.inner.Handed.{hand_order}

-- a call with these checks and these new bytes gives this answer, and makes the lent bytes these
pub data Handed (new old : List ℕ) : List Check → (answer : ℕ) (after : List ℕ) → Type 0 where
  clear : {after : List ℕ} → after ≡ put old 0 new → Handed new old [] 0 after
  hit : {fault : Bool} {number : ℕ} {checks : List Check} → fault ≡ true → eqb number 0 ≡ false
      → Handed new old (check fault number ∷ checks) number old
  miss : {fault : Bool} {number answer : ℕ} {checks : List Check} {after : List ℕ} → fault ≡ false → Handed new old checks answer after
      → Handed new old (check fault number ∷ checks) answer after

pub handed : {new old : List ℕ} {checks : List Check} {answer : ℕ} {after : List ℕ} → Handed new old checks answer after
    → (answer ≡ first_fault checks) × (after ≡ laid_over checks new old)
unfolding first_fault laid_over
handed (clear e) = (refl, e)
handed (hit e n) = rw (e, n) (refl, refl)
handed (miss e h) = rw e (handed h)

-- An answer of sha256, refused or not.

pub refused : {A : Type 0} (too_long : Bool) (value : A) {fault : Fault} → Err fault ≡ cond too_long (Err TooLarge) (Ok value)
    → (too_long ≡ true) × (fault ≡ TooLarge)
refused true value e = (refl, cc)
refused false value e = absurd (cc)

pub accepted : {A : Type 0} (too_long : Bool) (value : A) {found : A} → Ok found ≡ cond too_long (Err TooLarge) (Ok value)
    → (too_long ≡ false) × (found ≡ value)
accepted true value e = absurd (cc)
accepted false value e = (refl, cc)

-- the number of a fault that is handed on
pub handed_on : {A : Type 0} {result : Result A Fault} {other fault known : Fault} → result ≡ Err other → other ≡ fault → fault ≡ known
    → fault_number result ≡ number_of known
handed_on p q e = ap fault_number p ∙ ap number_of (q ∙ e)

-- a digest is handed out after the checks before it
pub digest_handed : (out : List ℕ) {digest new after : List ℕ} {answer : ℕ} {too_long : Bool} → too_long ≡ false → digest ≡ new
    → answer ≡ first_fault (hand_order out) → after ≡ laid_over (hand_order out) digest out
    → (answer ≡ first_fault (check too_long 1 ∷ hand_order out)) × (after ≡ laid_over (check too_long 1 ∷ hand_order out) new out)
unfolding first_fault laid_over
digest_handed out f e a o = rw (f, ← e) (a, o)

-- and a state that is long enough is no fault
pub past_room : (state new old : List ℕ) (checks : List Check) {answer : ℕ} {after : List ℕ} → 104 ≤ length state
    → (answer ≡ first_fault checks) × (after ≡ laid_over checks new old)
    → (answer ≡ first_fault (check (ltb (length state) 104) 17 ∷ checks)) × (after ≡ laid_over (check (ltb (length state) 104) 17 ∷ checks) new old)
unfolding first_fault laid_over
past_room state new old checks h e = rw (le-ltb (length state) 104 h) e
