-- `greatest` is at least each octet passed, so that all are below 0x80 if it is.
use Prim.Native.Nat.{ℕ, ◌≤◌, ◌<◌}
use lib.ListN.{get_or}
use Rattle.utf8.proofs.is_ascii.Given as goal

abbrev pub invariant-loop-octet : goal.invariant-loop-octet
invariant-loop-octet l = (j : ℕ) → j < l.octet-index → get_or l.part j 0 ≤ l.greatest
