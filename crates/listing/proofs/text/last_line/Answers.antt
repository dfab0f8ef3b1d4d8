-- The first word, and two numbers, each with what follows it.
use mathlib.Core.List.{append_assoc}
use native.Mathlib.Omega.{arith}
use lib.ListN.{length-append}
use Rattle.listing.proofs.Pieces.{then}
use native.Mathlib.Omega.{arith}
use Rattle.listing.proofs.text.last_line.Goals as goal

pub put_word-next-requires : goal.put_word-next-requires
put_word-next-requires c = omega (arith, simp length-append at c.requires)

pub put_number-last-requires : goal.put_number-last-requires
put_number-last-requires c = omega (arith, simp length-append at c.requires)

pub put_number-requires : goal.put_number-requires
put_number-requires c = omega (arith, simp length-append at c.requires, simp length-append at c.put_number-last.ensures.after)

pub returns : goal.returns
returns c = simp append_assoc at (then c.put_word-next.ensures (then c.put_number-last.ensures c.put_number.ensures))
