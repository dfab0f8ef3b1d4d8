-- The first fault decides; without one the image is written, and the first bookmark is answered.
use Rattle.std.specs.Prelude.{Ok}
use mathlib.Core.Path.{sym, ap}
use borrow.Author.Tests.{ne_eqb}
use Rattle.std.proofs.lemmas.Result.{err_from_is_err_and}
use Rattle.refusal.proofs.Numbers.{number_above_zero}
use Rattle.volume.specs.Writing.{write_answer, write_buffer}
use Rattle.volume.proofs.Passed.{write_passed}
use Rattle.volume.proofs.heading.write_header.Goals as goal

pub returns-in_err-write_fault-clause-answer : goal.returns-in_err-write_fault-clause-answer
unfolding write_answer
returns-in_err-write_fault-clause-answer c =
    let p = err_from_is_err_and c.from_residual.result c.from_residual.ensures.1 in
    rw (p.1, p.2, ← c.in_err-write_fault.ensures.fault, ne_eqb _ _ (number_above_zero c.in_err-write_fault.field-0.0))

pub returns-in_err-write_fault-clause-buffer : goal.returns-in_err-write_fault-clause-buffer
unfolding write_buffer
returns-in_err-write_fault-clause-buffer c =
    rw (← c.in_err-write_fault.ensures.fault, ne_eqb _ _ (number_above_zero c.in_err-write_fault.field-0.0))

pub write_header-requires : goal.write_header-requires
write_header-requires c =
    let p = write_passed _ _ (sym c.in_ok-write_fault.ensures.fault) in
    record { id_len = p.id-length; previous_len = p.hash-length; in_bounds = p.fits }

pub returns-clause-answer : goal.returns-clause-answer
unfolding write_answer
returns-clause-answer c = rw (← c.in_ok-write_fault.ensures.fault) (ap Ok c.first_mark.ensures)

pub returns-clause-buffer : goal.returns-clause-buffer
unfolding write_buffer
returns-clause-buffer c = rw (← c.in_ok-write_fault.ensures.fault) c.write_header.ensures
