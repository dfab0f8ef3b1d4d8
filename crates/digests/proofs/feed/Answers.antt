-- The room decides first, then the answer of sha256. A state that comes from a call is sized by its type.
use Rattle.std.proofs.Common.{◌+◌, length, refl, sym, ap, rules, ◌∙◌}
use mathlib.Core.List.{foldl}
use Rattle.std.proofs.lemmas.Result.{IfOk-from_err, err_from_is_err_and}
use borrow.Author.Tests.{lt-ltb, le-ltb}
use Rattle.sha256.specs.Feeding.{feed_byte, too_many, feed_answer}
use Rattle.sha256.specs.declared.Digest.{Digest}
use Rattle.digests.specs.States.{SizedState, state_of}
use Rattle.digests.proofs.Handed.{hit, miss, clear, handed, handed_on, refused, accepted}
use Rattle.digests.proofs.feed.Goals as goal

pub returns-in_err-check_room : goal.returns-in_err-check_room
returns-in_err-check_room c =
    let p = err_from_is_err_and c.from_residual.result c.from_residual.ensures.1 in
    let room = c.in_err-check_room.ensures in
    let h = handed (hit (lt-ltb _ _ room.1) refl) in
    record { answer = handed_on p.1 p.2 room.0 ∙ h.0; state = h.1; sized = IfOk-from_err c.from_residual.result _ c.from_residual.ensures.0 }

pub returns-in_err-next : goal.returns-in_err-next
unfolding feed_answer
returns-in_err-next c =
    let state = state_of c.args.state.now in
    let part = c.args.part.now in
    let p = err_from_is_err_and c.from_residual-in_err-next.result c.from_residual-in_err-next.ensures.1 in
    let r =
    refused (too_many (state.fed + length part)) (foldl feed_byte state part)
    (sym c.in_err-next.was ∙ c.feed.ensures ∙ ap (λ (s : Digest). feed_answer s part) c.read_state.ensures) in
    let h = handed (miss (le-ltb _ _ c.in_ok-check_room.ensures) (hit r.0 refl)) in
    record { answer = handed_on p.1 p.2 r.1 ∙ h.0; state = h.1; sized = IfOk-from_err c.from_residual-in_err-next.result _ c.from_residual-in_err-next.ensures.0 }

pub returns : goal.returns
unfolding feed_answer
returns c =
    let state = state_of c.args.state.now in
    let part = c.args.part.now in
    let next = c.in_ok-next.next in
    let known : SizedState next = record { fit = search rules; long = c.write_state.ensures.long } in
    let r =
    accepted (too_many (state.fed + length part)) (foldl feed_byte state part)
    (sym c.in_ok-next.was ∙ c.feed.ensures ∙ ap (λ (s : Digest). feed_answer s part) c.read_state.ensures) in
    let h = handed (miss (le-ltb _ _ c.in_ok-check_room.ensures) (miss r.0 (clear (rw r.1 at c.write_state.ensures.state)))) in
    record { answer = h.0; state = h.1; sized = rw r.1 at known }
