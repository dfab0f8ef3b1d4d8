-- A piece written where the last one ended is one piece with it. Assumes nothing.
use Prim.Native.Nat.{ℕ, ◌+◌, ◌≤◌}
use mathlib.Core.Path.{◌≡◌, refl, ◌∙◌}
use mathlib.Core.List.{List, ◌++◌}
use native.Mathlib.Omega.{arith}
use lib.ListN.{length, length-append}
use Rattle.number.specs.Number.{put}
use Rattle.number.proofs.Put.{put_next}
use Rattle.listing.specs.inner.Writing.{Wrote}

pub then : {old a mid b new : List ℕ} {at p q : ℕ} → Wrote old at a mid p → Wrote mid p b new q → Wrote old at (a ++ b) new q
then {old} {a} {mid} {b} {new} {at} {p} {q} first second =
    record {
      after = omega (arith, length-append a b);
      room = second.room ∙ first.room;
      text = λ h. both (omega (arith, length-append a b));
    }
  where
    both : at + length a + length b ≤ length old → new ≡ put old at (a ++ b)
    both h =
        let early : mid ≡ put old at a = first.text (omega arith) in
        let late : new ≡ put mid p b = second.text (omega arith) in
        put_next old a b at (length a) refl h early (rw first.after at late)
