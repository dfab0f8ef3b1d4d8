-- Runs of octets below 0x80: none, one, two after each other, and a part of a text that is one.
use Prim.Native.Nat.{ℕ, ◌+◌, ◌-◌, ◌≤◌, ◌<◌}
use mathlib.Core.Path.{◌≡◌}
use mathlib.Core.Logic.{⊎_elim}
use mathlib.Core.List.{List}
use native.Mathlib.Omega.{arith}
use lib.ListN.{length, take, drop, get_or, length-drop}
use lib.Seq.{length-take-le, get_or-take, get_or-drop}
use Rattle.utf8.specs.Ascii.{AsciiRun}
use Rattle.utf8.proofs.Order.{below_or_not}

module _ (s : List ℕ) where
  pub run_none : (at : ℕ) → at ≤ length s → AsciiRun s at at
  run_none at h = record { rising = omega arith; within = h; below = λ k u v. absurd (omega arith) }

  pub run_one : (at : ℕ) → at < length s → get_or s at 0 < 0x80 → AsciiRun s at (at + 1)
  run_one at h l =
      record {
        rising = omega arith;
        within = omega arith;
        below = λ k u v. let e : k ≡ at = omega arith in rw e l;
      }

  pub run_join : (a b c : ℕ) → AsciiRun s a b → AsciiRun s b c → AsciiRun s a c
  run_join a b c p q =
      record {
        rising = omega (arith, p.rising, q.rising);
        within = q.within;
        below = λ k u v. ⊎_elim (λ l. p.below k u l) (λ l. q.below k l v) (below_or_not k b);
      }

  pub run_part : (i j n : ℕ) → i + n ≡ j → j ≤ length s → AsciiRun (take n (drop i s)) 0 (length (take n (drop i s))) → AsciiRun s i j
  run_part i j n e h p =
      let d : length (drop i s) ≡ length s - i = length-drop i s in
      let t : length (take n (drop i s)) ≡ n = length-take-le n (drop i s) (omega arith) in
      record {
        rising = omega arith;
        within = h;
        below = λ k u v. go k (k - i) (omega arith) (omega arith) (p.below (k - i) (omega arith) (omega arith));
      }
    where
      go : (k m : ℕ) → i + m ≡ k → m < n → get_or (take n (drop i s)) m 0 < 0x80 → get_or s k 0 < 0x80
      go k m f g l = rw (← f, ← get_or-drop i s m 0, ← get_or-take n (drop i s) m 0 g) l
