-- The first two tests together are the check of 2, moved so that nothing is added, and the third is that of 5.
use native.Mathlib.Omega.{arith}
use borrow.Author.Tests.{lt-ltb, le-ltb}
use Rattle.checks.specs.Checks.{clear, hit, miss}
use Rattle.checks.proofs.Laws.{decided}
use Rattle.checks.proofs.Tests.{told}
use Rattle.block.proofs.seal.sealed_fault.Goals as goal

pub returns-then-left-lt4 : goal.returns-then-left-lt4
returns-then-left-lt4 c = decided (hit (omega (arith, lt-ltb)))

pub returns-then-left-n : goal.returns-then-left-n
returns-then-left-n c = decided (hit (omega (arith, lt-ltb)))

pub returns-then-sum_wrong : goal.returns-then-sum_wrong
returns-then-sum_wrong c = decided (miss (omega (arith, le-ltb)) (hit (told c.sum_wrong.ensures c.if-sum_wrong.true)))

pub returns : goal.returns
returns c = decided (miss (omega (arith, le-ltb)) (miss (told c.sum_wrong.ensures c.if-sum_wrong.false) clear))
