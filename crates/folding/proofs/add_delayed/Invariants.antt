-- Before the place `t` the window is added, later by some places: zeros at first, which add nothing.
use Prim.Native.Nat.{◌≤◌}
use Rattle.folding.specs.inner.Folding.{added, delayed}
use Rattle.folding.proofs.Laying.{Laying}
use Rattle.folding.proofs.add_delayed.Given as goal

abbrev pub invariant-loop-t : goal.invariant-loop-t
invariant-loop-t l = (l.places ≤ l.t) × Laying (added l.initial.rest (delayed l.places l.window)) l.initial.rest l.rest l.t
