-- The end's fault comes first; without one the links lie within the volume and decide.
use Prim.Native.Nat.{◌≤◌, ◌+◌}
use mathlib.Core.Path.{refl}
use mathlib.Core.List.{[]}
use native.Mathlib.Omega.{arith}
use Rattle.std.proofs.lemmas.Result.{err_from_is_err_and}
use lib.ListN.{length, length-drop}
use borrow.Author.Rules.{rules}
use Rattle.checks.proofs.Laws.{stopped, continued}
use Rattle.refusal.proofs.Numbers.{number_above_zero}
use Rattle.number.proofs.Parts.{part_onward}
use Rattle.block.specs.inner.Parts.{sealed_order}
use Rattle.block.proofs.Passed.{end_whole}
use Rattle.block.proofs.table.end_fault.Goals as goal

pub returns-in_err-sealed_fault : goal.returns-in_err-sealed_fault
returns-in_err-sealed_fault c =
    let a = c.args in
    let given = err_from_is_err_and c.from_residual.result c.from_residual.ensures.1 in
    rw (given.1, given.2, ← c.len_of_links-len.ensures)
    (stopped (sealed_order a.volume.now a.offset (a.from + c.len_of_links-len.result)) _ tt c.in_err-sealed_fault.ensures
    (number_above_zero _))

pub links_fault-requires : goal.links_fault-requires
links_fault-requires c =
    let whole : let a = c.args in
    a.from + c.len_of_links-len.result + 4 ≤ length a.volume.now = let a = c.args in
    end_whole a.volume.now a.offset (a.from + c.len_of_links-len.result) [] tt
    c.in_ok-sealed_fault.ensures in
    rw (part_onward, length-drop)
    (search rules, omega (arith, whole, c.len_of_links-len.ensures), omega arith)

pub returns : goal.returns
returns c =
    let a = c.args in
    rw (← c.len_of_links-len.ensures)
    (continued
    (sealed_order a.volume.now a.offset (a.from + c.len_of_links-len.result))
    _
    tt
    c.in_ok-sealed_fault.ensures
    refl
    (rw part_onward at c.links_fault.ensures))
