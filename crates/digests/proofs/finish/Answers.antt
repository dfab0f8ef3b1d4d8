-- The room for the state decides first; what sha256 answers is handed out.
use Rattle.std.proofs.Common.{refl, sym, ap, ◌∙◌}
use Rattle.std.proofs.lemmas.Result.{err_from_is_err_and}
use borrow.Author.Tests.{lt-ltb, le-ltb}
use Rattle.sha256.specs.Feeding.{too_many, digest_of, finish_answer}
use Rattle.digests.specs.States.{state_of}
use Rattle.digests.proofs.Handed.{hit, miss, handed, handed_on, refused, accepted, digest_handed, past_room}
use Rattle.digests.proofs.finish.Goals as goal

pub returns-in_err-check_room : goal.returns-in_err-check_room
returns-in_err-check_room c =
    let p = err_from_is_err_and c.from_residual.result c.from_residual.ensures.1 in
    let room = c.in_err-check_room.ensures in
    let h = handed (hit (lt-ltb _ _ room.1) refl) in
    record { answer = handed_on p.1 p.2 room.0 ∙ h.0; out = h.1 }

pub returns-in_err-digest : goal.returns-in_err-digest
unfolding finish_answer
returns-in_err-digest c =
    let state = state_of c.args.state.now in
    let p = err_from_is_err_and c.from_residual-in_err-digest.result c.from_residual-in_err-digest.ensures.1 in
    let r = refused (too_many state.fed) (digest_of state) (sym c.in_err-digest.was ∙ c.finish.ensures ∙ ap finish_answer c.read_state.ensures) in
    let h = handed (miss (le-ltb _ _ c.in_ok-check_room.ensures) (hit r.0 refl)) in
    record { answer = handed_on p.1 p.2 r.1 ∙ h.0; out = h.1 }

pub returns : goal.returns
unfolding finish_answer
returns c =
    let state = state_of c.args.state.now in
    let out = c.hand_out.ensures in
    let r = accepted (too_many state.fed) (digest_of state) (sym c.in_ok-digest.was ∙ c.finish.ensures ∙ ap finish_answer c.read_state.ensures) in
    let h = past_room c.args.state.now _ _ _ c.in_ok-check_room.ensures (digest_handed c.args.out.now r.0 r.1 out.answer out.out) in
    record { answer = h.0; out = h.1 }
