-- Three numbers, each with its word, one after the other.
use mathlib.Core.List.{append_assoc}
use native.Mathlib.Omega.{arith}
use lib.ListN.{length-append}
use Rattle.listing.specs.Listing.{block_line}
use Rattle.listing.proofs.Pieces.{then}
use native.Mathlib.Omega.{arith}
use Rattle.listing.proofs.text.block_line.Goals as goal

pub put_number-second-requires : goal.put_number-second-requires
unfolding block_line
put_number-second-requires c = omega (arith, simp length-append at c.requires)

pub put_number-third-requires : goal.put_number-third-requires
unfolding block_line
put_number-third-requires c = omega (arith, simp length-append at c.requires, simp length-append at c.put_number-second.ensures.after)

pub put_number-requires : goal.put_number-requires
unfolding block_line
put_number-requires c = omega (arith, simp length-append at c.requires, simp length-append at c.put_number-second.ensures.after, simp length-append at c.put_number-third.ensures.after)

pub returns : goal.returns
unfolding block_line
returns c = simp append_assoc at (then c.put_number-second.ensures (then c.put_number-third.ensures c.put_number.ensures))
