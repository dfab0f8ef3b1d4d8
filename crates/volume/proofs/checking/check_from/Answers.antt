-- Each turn of the loop is one reading: "end", a refusal, or a block, after which the check goes on from the next bookmark.
use native.Mathlib.Omega.{arith}
use mathlib.Core.Path.{sym, ap, ◌∙◌}
use Rattle.refusal.proofs.Numbers.{number_above_zero}
use Rattle.volume.specs.declared.Bookmark.{Bookmark}
use Rattle.volume.specs.inner.Walk.{on_read}
use Rattle.volume.specs.inner.Check.{check_way, check_from}
use Rattle.volume.proofs.Steps.{end_read, refusal_read, found_read, sound_further}
use Rattle.volume.proofs.Walk.{walk_step}
use Rattle.volume.proofs.checking.check_from.Goals as goal

pub returns-in-Err : goal.returns-in-Err
unfolding on_read
returns-in-Err c =
    sym (c.loop-tables.invariant ∙ walk_step _ (check_way _) _
    (sym (refusal_read _ _ _ (sym c.is_end.ensures ∙ c.loop-tables-test.true) (sym c.in-Err.ensures) (number_above_zero _) c.refusal_at.ensures)))

pub loop-tables-smaller : goal.loop-tables-smaller
loop-tables-smaller c =
    omega (arith, ap (λ (m : Bookmark). m.offset) c.next_mark-mark.ensures, sound_further _ _ (sym c.in_default.ensures))

pub loop-tables-preserved : goal.loop-tables-preserved
unfolding on_read
loop-tables-preserved c =
    let a = c.args in
    c.loop-tables.invariant
    ∙ walk_step _ (check_way _) _ (sym (found_read _ _ (sym c.is_end.ensures ∙ c.loop-tables-test.true) (sym c.in_default.ensures)))
    ∙ ap (λ (m : Bookmark). check_from a.volume.now a.sequence m) (sym c.next_mark-mark.ensures)

pub returns : goal.returns
unfolding on_read
returns c =
    sym (c.loop-tables.invariant ∙ walk_step _ (check_way _) _ (sym (end_read _ _ (sym c.is_end.ensures ∙ c.loop-tables-test.false))))
