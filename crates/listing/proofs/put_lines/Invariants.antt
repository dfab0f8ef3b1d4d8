-- At each bookmark the lines from there on are left to write; the bytes of the volume from there on are the measure.
use Prim.Native.Nat.{◌-◌}
use lib.ListN.{length}
use Rattle.listing.proofs.Walk.{Reached}
use Rattle.listing.proofs.put_lines.Given as goal

abbrev pub invariant-loop-found : goal.invariant-loop-found
invariant-loop-found l = Reached l.volume l.initial.out l.at l.initial.mark l.out l.mark l.place

abbrev pub decreases-loop-found : goal.decreases-loop-found
decreases-loop-found l = length l.volume - l.mark.offset
