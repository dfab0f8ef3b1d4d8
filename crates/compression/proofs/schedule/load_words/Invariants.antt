-- After `t` turns the first `t` words of the block are there.
use Rattle.std.proofs.Common.{◌≡◌, map, take}
use Rattle.fips180.specs.Padding.{be, parts}
use Rattle.compression.proofs.schedule.load_words.Given as goal

abbrev pub invariant-loop-t : goal.invariant-loop-t
invariant-loop-t l = take l.t l.schedule ≡ take l.t (map be (parts 4 16 l.block))
