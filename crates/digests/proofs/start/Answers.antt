-- The room decides; then the new state is written.
use Rattle.std.proofs.Common.{refl, ◌∙◌}
use Rattle.std.proofs.lemmas.Result.{err_from_is_err_and}
use borrow.Author.Tests.{lt-ltb, le-ltb}
use Rattle.digests.proofs.Handed.{hit, miss, clear, handed, handed_on}
use Rattle.digests.proofs.start.Goals as goal

pub returns-in_err-check_room : goal.returns-in_err-check_room
returns-in_err-check_room c =
    let p = err_from_is_err_and c.from_residual.result c.from_residual.ensures.1 in
    let room = c.in_err-check_room.ensures in
    let h = handed (hit (lt-ltb _ _ room.1) refl) in
    record { answer = handed_on p.1 p.2 room.0 ∙ h.0; state = h.1 }

pub returns : goal.returns
returns c =
    let h = handed (miss (le-ltb _ _ c.in_ok-check_room.ensures) (clear (rw c.start.ensures at c.write_state.ensures.state))) in
    record { answer = h.0; state = h.1 }
