-- The checks stand in their order: the lengths, the block, its kind.
use mathlib.Core.Path.{refl, sym}
use mathlib.Core.Bool.{false}
use Rattle.std.proofs.lemmas.Result.{err_from_is_err_and}
use Rattle.checks.specs.Checks.{clear, hit, miss}
use Rattle.checks.proofs.Laws.{decided}
use Rattle.checks.proofs.Tests.{told}
use Rattle.refusal.proofs.Numbers.{number_above_zero}
use Rattle.block.proofs.Passed.{block_passed}
use Rattle.lookup.proofs.Deciding.{block_decides, kind_decides}
use Rattle.lookup.proofs.faults.open_fault.Goals as goal

pub returns-then-lengths_wrong : goal.returns-then-lengths_wrong
returns-then-lengths_wrong c = decided (hit (told c.lengths_wrong.ensures c.if-lengths_wrong.true))

pub returns-in_err-block_fault : goal.returns-in_err-block_fault
returns-in_err-block_fault c =
    let a = c.args in
    let p = err_from_is_err_and c.from_residual.result c.from_residual.ensures.1 in
    rw (p.1, p.2)
    (block_decides a.volume.now a.offset a.lengths.now (told c.lengths_wrong.ensures c.if-lengths_wrong.false)
    c.in_err-block_fault.ensures (number_above_zero _))

pub not_file-requires : goal.not_file-requires
not_file-requires c =
    let a = c.args in
    let passed = block_passed a.volume.now a.offset false (sym c.in_ok-block_fault.ensures) in
    (passed.more, passed.known)

pub returns-then-not_file : goal.returns-then-not_file
returns-then-not_file c =
    let a = c.args in
    kind_decides a.volume.now a.offset a.lengths.now (told c.lengths_wrong.ensures c.if-lengths_wrong.false)
    c.in_ok-block_fault.ensures refl (decided (hit (told c.not_file.ensures c.if-not_file.true)))

pub returns : goal.returns
returns c =
    let a = c.args in
    kind_decides a.volume.now a.offset a.lengths.now (told c.lengths_wrong.ensures c.if-lengths_wrong.false)
    c.in_ok-block_fault.ensures refl (decided (miss (told c.not_file.ensures c.if-not_file.false) clear))
