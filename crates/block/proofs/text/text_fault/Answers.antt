-- The end's fault comes first; without one the text lies within the volume and decides.
use Prim.Native.Nat.{◌≤◌, ◌+◌}
use mathlib.Core.List.{[]}
use native.Mathlib.Omega.{arith}
use Rattle.std.proofs.lemmas.Result.{err_from_is_err_and}
use lib.ListN.{length}
use Rattle.checks.proofs.Laws.{decided, stopped}
use Rattle.checks.proofs.Tests.{walks}
use Rattle.refusal.proofs.Numbers.{number_above_zero}
use Rattle.block.specs.inner.Parts.{sealed_order}
use Rattle.block.proofs.Faults.{text_next, bytes_there}
use Rattle.block.proofs.Passed.{end_whole}
use Rattle.block.proofs.text.text_fault.Goals as goal

pub returns-then-volume-from : goal.returns-then-volume-from
returns-then-volume-from c = decided (search walks)

pub returns-in_err-sealed_fault : goal.returns-in_err-sealed_fault
returns-in_err-sealed_fault c =
    let a = c.args in
    let given = err_from_is_err_and c.from_residual.result c.from_residual.ensures.1 in
    rw (given.1, given.2)
    (bytes_there a.volume.now a.from _ c.if-volume-from.false
    (stopped (sealed_order a.volume.now a.offset (a.from + a.len)) _ tt c.in_err-sealed_fault.ensures (number_above_zero _)))

pub overflow_add-from : goal.overflow_add-from
overflow_add-from c =
    let whole : let a = c.args in a.from + a.len + 4 ≤ length a.volume.now = let a = c.args in
    end_whole a.volume.now a.offset (a.from + a.len) [] tt c.in_ok-sealed_fault.ensures in
    omega (arith, whole)

pub slice_bounds-is_text-end : goal.slice_bounds-is_text-end
slice_bounds-is_text-end c =
    let whole : let a = c.args in a.from + a.len + 4 ≤ length a.volume.now = let a = c.args in
    end_whole a.volume.now a.offset (a.from + a.len) [] tt c.in_ok-sealed_fault.ensures in
    omega (arith, whole)

pub returns-then-not-is_text : goal.returns-then-not-is_text
returns-then-not-is_text c =
    let a = c.args in
    bytes_there a.volume.now a.from _ c.if-volume-from.false
    (text_next (sealed_order a.volume.now a.offset (a.from + a.len)) a.volume.now a.from a.text tt c.in_ok-sealed_fault.ensures
    c.is_text.ensures c.if-not-is_text.true)

pub returns : goal.returns
returns c =
    let a = c.args in
    bytes_there a.volume.now a.from _ c.if-volume-from.false
    (text_next (sealed_order a.volume.now a.offset (a.from + a.len)) a.volume.now a.from a.text tt c.in_ok-sealed_fault.ensures
    c.is_text.ensures c.if-not-is_text.false)
