-- The rounds that are left of the eight always end at the same words.
use Rattle.std.proofs.Common.{◌≡◌, ◌+◌, ◌-◌}
use Rattle.number.specs.Number.{part}
use Rattle.fips180.specs.Constants.{K}
use Rattle.fips180.specs.Hash.{rounds}
use Rattle.compression.proofs.rounds.eight_rounds.Given as goal

abbrev pub invariant-loop-i : goal.invariant-loop-i
invariant-loop-i l =
    rounds l.v (part K l.i (l.t + 8 - l.i)) (part l.schedule l.i (l.t + 8 - l.i)) ≡ rounds l.initial.v (part K l.t 8) (part l.schedule l.t 8)
