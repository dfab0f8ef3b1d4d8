-- What is left to add to the words so far always gives the same words in the end.
use Rattle.std.proofs.Common.{◌≡◌, ◌+◌, ◌-◌, take}
use Rattle.fips180.specs.Hash.{extended}
use Rattle.compression.proofs.schedule.extend.Given as goal

abbrev pub invariant-loop-i : goal.invariant-loop-i
invariant-loop-i l = extended (l.t + 8 - l.i) (take l.i l.schedule) ≡ extended 8 (take l.t l.initial.schedule)
