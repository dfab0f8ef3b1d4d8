-- What sha256 answers is handed out.
use Rattle.std.proofs.Common.{length, refl, sym, ◌∙◌}
use Rattle.std.proofs.lemmas.Result.{err_from_is_err_and}
use Rattle.fips180.specs.Hash.{sha256}
use Rattle.sha256.specs.Feeding.{too_many, whole_answer}
use Rattle.digests.proofs.Handed.{hit, handed, handed_on, refused, accepted, digest_handed}
use Rattle.digests.proofs.whole.Goals as goal

pub returns-in_err-digest : goal.returns-in_err-digest
unfolding whole_answer
returns-in_err-digest c =
    let bytes = c.args.bytes.now in
    let p = err_from_is_err_and c.from_residual.result c.from_residual.ensures.1 in
    let r = refused (too_many (length bytes)) (sha256 bytes) (sym c.in_err-digest.was ∙ c.sha256.ensures) in
    let h = handed (hit r.0 refl) in
    record { answer = handed_on p.1 p.2 r.1 ∙ h.0; out = h.1 }

pub returns : goal.returns
unfolding whole_answer
returns c =
    let bytes = c.args.bytes.now in
    let out = c.hand_out.ensures in
    let r = accepted (too_many (length bytes)) (sha256 bytes) (sym c.in_ok-digest.was ∙ c.sha256.ensures) in
    let h = digest_handed c.args.out.now r.0 r.1 out.answer out.out in
    record { answer = h.0; out = h.1 }
