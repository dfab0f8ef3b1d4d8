-- Both headers are checked before the range, in their order.
use mathlib.Core.Path.{refl, sym, ◌∙◌}
use Rattle.std.proofs.lemmas.Result.{err_from_is_err_and}
use Rattle.refusal.proofs.Numbers.{number_above_zero}
use Rattle.lookup.proofs.Fetch.{first_decides, second_decides, range_decides}
use Rattle.lookup.proofs.bytes.fetch_refusal.Goals as goal

pub returns-in_err-header_fault : goal.returns-in_err-header_fault
returns-in_err-header_fault c =
    let p = err_from_is_err_and c.from_residual.result c.from_residual.ensures.1 in
    rw (p.1, p.2) (first_decides _ _ _ _ _ _ c.in_err-header_fault.ensures (number_above_zero _))

pub returns-in_err-header_fault-2 : goal.returns-in_err-header_fault-2
returns-in_err-header_fault-2 c =
    let p = err_from_is_err_and c.from_residual-in_err-header_fault-2.result c.from_residual-in_err-header_fault-2.ensures.1 in
    rw (p.1, p.2) (second_decides _ _ _ _ _ _ _ c.in_ok-header_fault.ensures refl c.in_err-header_fault-2.ensures (number_above_zero _))

pub returns-then-is_out_of : goal.returns-then-is_out_of
returns-then-is_out_of c =
    range_decides _ _ _ _ _ _ _ _ c.in_ok-header_fault.ensures refl
    c.in_ok-header_fault-2.ensures refl (sym c.if-is_out_of.true ∙ c.is_out_of.ensures)

pub returns : goal.returns
returns c =
    range_decides _ _ _ _ _ _ _ _ c.in_ok-header_fault.ensures refl
    c.in_ok-header_fault-2.ensures refl (sym c.if-is_out_of.false ∙ c.is_out_of.ensures)
