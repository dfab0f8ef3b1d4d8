-- The check of the first volume decides, then that of the second, then the headers, which are sound once both volumes are accepted.
use Rattle.std.specs.Prelude.{Ok, Err}
use mathlib.Core.Path.{◌≡◌, sym, ◌∙◌}
use Rattle.volume.specs.inner.Check.{check_answer}
use Rattle.chain.specs.Pairing.{paired, pair_answer}
use Rattle.chain.proofs.Accepted.{accepted_header}
use Rattle.chain.proofs.pair.Goals as goal

pub is_followed-requires : goal.is_followed-requires
is_followed-requires c =
    let a = accepted_header c.args.first.now c.in-Ok.earlier (sym c.check.ensures ∙ c.in-Ok.is) in
    let b = accepted_header c.args.second.now c.in-Ok-check.later (sym c.check-in-Ok.ensures ∙ c.in-Ok-check.is) in
    record { first_value = (a.0, b.0); number_value = (a.1, b.1) }

pub returns-in-Err : goal.returns-in-Err
unfolding pair_answer paired
returns-in-Err c =
    let refused : check_answer c.args.first.now ≡ (Err c.in-Err.rejected) = sym c.check.ensures ∙ c.in-Err.is in
    rw refused

pub returns-in-Err-check : goal.returns-in-Err-check
unfolding pair_answer paired
returns-in-Err-check c =
    let earlier : check_answer c.args.first.now ≡ (Ok c.in-Ok.earlier) = sym c.check.ensures ∙ c.in-Ok.is in
    let refused : check_answer c.args.second.now ≡ Err c.in-Err-check.rejected
    = sym c.check-in-Ok.ensures ∙ c.in-Err-check.is in
    rw (earlier, refused)

pub returns-then-is_followed : goal.returns-then-is_followed
unfolding pair_answer paired
returns-then-is_followed c =
    let earlier : check_answer c.args.first.now ≡ (Ok c.in-Ok.earlier) = sym c.check.ensures ∙ c.in-Ok.is in
    let later : check_answer c.args.second.now ≡ Ok c.in-Ok-check.later
    = sym c.check-in-Ok.ensures ∙ c.in-Ok-check.is in
    rw (earlier, later, ← c.is_followed.ensures, c.if-is_followed.true)

pub returns-else-is_followed : goal.returns-else-is_followed
unfolding pair_answer paired
returns-else-is_followed c =
    let earlier : check_answer c.args.first.now ≡ (Ok c.in-Ok.earlier) = sym c.check.ensures ∙ c.in-Ok.is in
    let later : check_answer c.args.second.now ≡ Ok c.in-Ok-check.later
    = sym c.check-in-Ok.ensures ∙ c.in-Ok-check.is in
    rw (earlier, later, ← c.is_followed.ensures, c.if-is_followed.false)
