-- The volume that `source_of` tells is the one whose very part a fetch hands back. Assumes nothing.
use Prim.Native.Nat.{ℕ}
use mathlib.Core.Path.{◌≡◌, refl}
use mathlib.Core.Bool.{Bool, true, false, cond, not}
use mir.Val.{bool_byte}
use mathlib.Core.List.{List}
use mathlib.Core.Logic.{⊎_elim}
use mathlib.Mathlib.Data.Bool.Basic.{dichotomy}
use lib.Dec.{eqb}
use borrow.Author.Tests.{eqb-true, eqb-false, eq-eqb}
use Rattle.number.specs.Address.{Address}
use Rattle.volume.specs.Heading.{sequence_of}
use Rattle.lookup.specs.Fetch.{fetch_fault, whichever}
use Rattle.lookup.proofs.Fetch.{Held, held_in_first, held_in_second, second_has}
use Rattle.exchange.specs.Sources.{source_of}

-- where nothing is refused, the part that is fetched is that of the volume which is told
pub the_volume_told_has_the_part : (first second : List ℕ) (first_at second_at : Address) (number offset len : ℕ)
    → (source_of first second number offset len).refusal ≡ 0
    → Held first second first_at second_at number offset len
    (cond (eqb (source_of first second number offset len).which 0) first second)
    (cond (eqb (source_of first second number offset len).which 0) first_at second_at)
unfolding source_of
the_volume_told_has_the_part first second first_at second_at number offset len sound =
    rw (eq-eqb (fetch_fault first second number offset len) 0 sound)
    (⊎_elim
    (λ no.
    let n = eqb-false (sequence_of first) number no in
    rw (no, eq-eqb (sequence_of second) number (second_has first second number offset len sound n))
    (held_in_second first second first_at second_at number offset len sound n))
    (λ yes. rw yes (held_in_first first second first_at second_at number offset len sound (eqb-true (sequence_of first) number yes)))
    (dichotomy (eqb (sequence_of first) number)))

-- where nothing is refused, the number in the first header tells which volume has it
pub told_by_the_first : (first second : List ℕ) (number offset len : ℕ) → fetch_fault first second number offset len ≡ 0
    → bool_byte (not (eqb (sequence_of first) number)) ≡ whichever first second number 0 1 0
told_by_the_first first second number offset len sound = go (eqb (sequence_of first) number) refl
  where
    go : (here : Bool) → eqb (sequence_of first) number ≡ here
        → bool_byte (not here) ≡ cond here 0 (cond (eqb (sequence_of second) number) 1 0)
    go true e = refl
    go false e =
        rw (eq-eqb (sequence_of second) number (second_has first second number offset len sound (eqb-false (sequence_of first) number e)))
