-- The checks of the block come first, then those of what it follows.
use Rattle.std.specs.Prelude.{Option}
use mathlib.Core.Path.{sym, ap, ◌∙◌}
use Prim.Native.Nat.{ℕ}
use Rattle.std.proofs.lemmas.Result.{err_from_is_err_and}
use Rattle.checks.specs.Checks.{first_fault}
use Rattle.refusal.proofs.Numbers.{number_above_zero}
use Rattle.block.proofs.Passed.{block_passed}
use Rattle.volume.specs.Reading.{follow_order}
use Rattle.volume.proofs.Whole.{block_decides, bookmark_decides}
use Rattle.volume.proofs.reading.read_fault.Goals as goal

pub returns-in_err-block_fault : goal.returns-in_err-block_fault
returns-in_err-block_fault c =
    let p = err_from_is_err_and c.from_residual.result c.from_residual.ensures.1 in
    rw (p.1, p.2) (block_decides _ _ _ c.in_err-block_fault.ensures (number_above_zero _))

pub time_at-requires : goal.time_at-requires
time_at-requires c =
    (block_passed c.args.volume.now c.args.mark.offset c.args.mark.due (sym c.in_ok-block_fault.ensures)).more

pub returns : goal.returns
returns c =
    let a = c.args in
    c.follow_fault.ensures
    ∙ ap (λ (time : Option ℕ). first_fault (follow_order a.mark time)) c.time_at.ensures
    ∙ bookmark_decides a.volume.now a.mark c.in_ok-block_fault.ensures
