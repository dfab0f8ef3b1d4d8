-- The place decides first, then the request's own fault, then time and room.
use Rattle.std.specs.Prelude.{Option}
use Prim.Native.Nat.{ℕ}
use mathlib.Core.Path.{refl, ap₂, ◌∙◌}
use lib.Dec.{eqb}
use Rattle.std.proofs.lemmas.Result.{err_from_is_err_and}
use Rattle.checks.specs.Checks.{first_fault}
use Rattle.checks.proofs.Laws.{stopped, continued}
use Rattle.refusal.proofs.Numbers.{number_above_zero}
use Rattle.format.specs.Blocks.{id_of, kind_of}
use Rattle.format.specs.Asked.{asked}
use Rattle.request.specs.Requests.{request_order}
use Rattle.request.proofs.Rules.{request_numbered}
use Rattle.volume.specs.Writing.{place_order, room_order, append_fault}
use Rattle.volume.proofs.Writers.{image_len}
use Rattle.volume.proofs.writing.append_fault.Goals as goal

pub returns-in_err-place_fault-clause-fault : goal.returns-in_err-place_fault-clause-fault
unfolding append_fault
returns-in_err-place_fault-clause-fault c =
    let a = c.args in
    let given = err_from_is_err_and c.from_residual.result c.from_residual.ensures.1 in
    let place = rw c.is_table.ensures at c.in_err-place_fault.ensures in
    rw (given.1, given.2)
    (stopped (place_order a.mark (eqb (id_of (kind_of (asked a.block))) 8)) _ tt place (number_above_zero _))

pub returns-in_err-asked-clause-fault : goal.returns-in_err-asked-clause-fault
unfolding append_fault
returns-in_err-asked-clause-fault c =
    let a = c.args in
    let given = err_from_is_err_and c.from_residual-in_err-asked.result c.from_residual-in_err-asked.ensures.1 in
    let place = rw c.is_table.ensures at c.in_ok-place_fault.ensures in
    rw (given.1, given.2)
    (continued (place_order a.mark (eqb (id_of (kind_of (asked a.block))) 8)) _ tt place refl
    (stopped (request_order (asked a.block)) _ (request_numbered (asked a.block)) c.in_err-asked.ensures.fault (number_above_zero _)))

pub returns-clause-fault : goal.returns-clause-fault
unfolding append_fault
returns-clause-fault c =
    let a = c.args in
    let place = rw c.is_table.ensures at c.in_ok-place_fault.ensures in
    let room = ap₂ (λ (time : Option ℕ) (len : ℕ). first_fault (room_order a.mark time len a.room)) c.time.ensures
    (image_len (asked a.block) c.fixed_len.ensures c.body_len.ensures) in
    continued (place_order a.mark (eqb (id_of (kind_of (asked a.block))) 8)) _ tt place refl
    (continued (request_order (asked a.block)) _ (request_numbered (asked a.block)) c.in_ok-asked.ensures.fault refl
    (c.room_fault.ensures ∙ room))
