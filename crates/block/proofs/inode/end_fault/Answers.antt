-- The end's fault comes first; without one the n bytes lie within the volume and decide.
use Prim.Native.Nat.{◌≤◌, ◌+◌}
use mathlib.Core.Path.{refl}
use mathlib.Core.List.{[]}
use native.Mathlib.Omega.{arith}
use Rattle.std.proofs.lemmas.Result.{err_from_is_err_and}
use lib.ListN.{length}
use Rattle.checks.proofs.Laws.{stopped, continued}
use Rattle.refusal.proofs.Numbers.{number_above_zero}
use Rattle.number.proofs.Parts.{part_span, span-length}
use Rattle.block.specs.inner.Parts.{sealed_order}
use Rattle.block.proofs.Passed.{end_whole}
use Rattle.block.proofs.inode.end_fault.Goals as goal

pub returns-in_err-sealed_fault : goal.returns-in_err-sealed_fault
returns-in_err-sealed_fault c =
    let a = c.args in
    let given = err_from_is_err_and c.from_residual.result c.from_residual.ensures.1 in
    rw (given.1, given.2)
    (stopped (sealed_order a.volume.now a.offset (a.from + a.n)) _ tt c.in_err-sealed_fault.ensures (number_above_zero _))

pub overflow_add-from : goal.overflow_add-from
overflow_add-from c =
    let whole : let a = c.args in a.from + a.n + 4 ≤ length a.volume.now = let a = c.args in
    end_whole a.volume.now a.offset (a.from + a.n) [] tt c.in_ok-sealed_fault.ensures in
    omega (arith, whole)

pub slice_bounds-rest_fault-end : goal.slice_bounds-rest_fault-end
slice_bounds-rest_fault-end c =
    let whole : let a = c.args in a.from + a.n + 4 ≤ length a.volume.now = let a = c.args in
    end_whole a.volume.now a.offset (a.from + a.n) [] tt c.in_ok-sealed_fault.ensures in
    omega (arith, whole)

pub rest_fault-requires : goal.rest_fault-requires
rest_fault-requires c =
    let whole : let a = c.args in a.from + a.n + 4 ≤ length a.volume.now = let a = c.args in
    end_whole a.volume.now a.offset (a.from + a.n) [] tt c.in_ok-sealed_fault.ensures in
    let a = c.args in
    rw (span-length a.volume.now a.from a.n (omega (arith, whole))) c.requires.offset_le_from.2

pub returns : goal.returns
returns c =
    let a = c.args in
    continued
    (sealed_order a.volume.now a.offset (a.from + a.n))
    _
    tt
    c.in_ok-sealed_fault.ensures
    refl
    (rw part_span at c.rest_fault.ensures)
