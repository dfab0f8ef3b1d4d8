-- The header's first fault decides; without one, its fields are handed out.
use Rattle.std.specs.Prelude.{Ok}
use Prim.Native.Nat.{ℕ}
use mathlib.Core.Path.{ap}
use borrow.Author.Tests.{ne_eqb}
use Rattle.std.proofs.lemmas.Result.{err_from_is_err_and}
use Rattle.refusal.proofs.Numbers.{number_above_zero}
use Rattle.volume.specs.Heading.{first_mark, header_answer}
use Rattle.volume.proofs.heading.read_header_by.Goals as goal

pub returns-in_err-header_fault : goal.returns-in_err-header_fault
unfolding header_answer
returns-in_err-header_fault c =
    let p = err_from_is_err_and c.from_residual.result c.from_residual.ensures.1 in
    rw (p.1, p.2, ← c.in_err-header_fault.ensures, ne_eqb _ _ (number_above_zero c.in_err-header_fault.field-0.0))

pub returns : goal.returns
unfolding header_answer
returns c =
    rw (c.first_mark-next.ensures, ← c.in_ok-header_fault.ensures)
    (ap (λ (sequence : ℕ). (Ok (record { sequence = sequence; next = first_mark sequence }))) c.read_u64-sequence.ensures)
