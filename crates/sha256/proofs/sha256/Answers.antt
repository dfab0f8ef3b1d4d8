-- A new state is fed and finished; by what was proved of cuts that is the digest of the bytes.
use Rattle.std.proofs.Common.{sym, ap, ◌∙◌}
use Rattle.std.proofs.lemmas.Result.{err_from_is_err_and}
use Rattle.sha256.specs.Feeding.{feed_answer}
use Rattle.sha256.specs.declared.Digest.{Digest}
use Rattle.sha256.proofs.Cuts.{whole_refused, whole_finished}
use Rattle.sha256.proofs.sha256.Goals as goal

pub returns-in_err-feed : goal.returns-in_err-feed
returns-in_err-feed c =
    let bytes = c.args.bytes.now in
    let p = err_from_is_err_and c.from_residual.result c.from_residual.ensures.1 in
    rw (p.1, p.2) (whole_refused bytes _ (sym c.in_err-feed.was ∙ c.feed.ensures ∙ ap (λ (s : Digest). feed_answer s bytes) c.start.ensures))

pub returns : goal.returns
returns c =
    let bytes = c.args.bytes.now in
    c.finish.ensures
    ∙ whole_finished bytes _ (sym c.in_ok-feed.was ∙ c.feed.ensures ∙ ap (λ (s : Digest). feed_answer s bytes) c.start.ensures)
