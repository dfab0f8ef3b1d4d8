-- The fault up to the first path comes first; without one the second path lies within the volume and decides.
use Prim.Native.Nat.{◌+◌}
use native.Mathlib.Omega.{arith}
use Rattle.std.proofs.lemmas.Result.{err_from_is_err_and}
use Rattle.checks.proofs.Laws.{stopped}
use Rattle.refusal.proofs.Numbers.{number_above_zero}
use Rattle.block.specs.inner.Parts.{text_order}
use Rattle.block.proofs.Faults.{text_next}
use Rattle.block.proofs.Passed.{text_whole}
use Rattle.block.proofs.rename.paths_fault.Goals as goal

pub returns-in_err-text_fault : goal.returns-in_err-text_fault
returns-in_err-text_fault c =
    let a = c.args in
    let given = err_from_is_err_and c.from_residual.result c.from_residual.ensures.1 in
    rw (given.1, given.2)
    (stopped (text_order a.volume.now a.offset a.from a.n (a.n + a.m)) _ tt c.in_err-text_fault.ensures (number_above_zero _))

pub overflow_add-middle : goal.overflow_add-middle
overflow_add-middle c =
    let a = c.args in
    omega (arith, text_whole a.volume.now a.offset a.from a.n (a.n + a.m) c.in_ok-text_fault.ensures)

pub overflow_add-middle-2 : goal.overflow_add-middle-2
overflow_add-middle-2 c =
    let a = c.args in
    omega (arith, text_whole a.volume.now a.offset a.from a.n (a.n + a.m) c.in_ok-text_fault.ensures)

pub slice_bounds-is_text-end : goal.slice_bounds-is_text-end
slice_bounds-is_text-end c =
    let a = c.args in
    omega (arith, text_whole a.volume.now a.offset a.from a.n (a.n + a.m) c.in_ok-text_fault.ensures)

pub returns-then-not-is_text : goal.returns-then-not-is_text
returns-then-not-is_text c =
    let a = c.args in
    text_next (text_order a.volume.now a.offset a.from a.n (a.n + a.m)) a.volume.now (a.from + a.n) a.m tt c.in_ok-text_fault.ensures
    c.is_text.ensures c.if-not-is_text.true

pub returns : goal.returns
returns c =
    let a = c.args in
    text_next (text_order a.volume.now a.offset a.from a.n (a.n + a.m)) a.volume.now (a.from + a.n) a.m tt c.in_ok-text_fault.ensures
    c.is_text.ensures c.if-not-is_text.false
