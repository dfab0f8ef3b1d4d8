-- Refused as the test says, and else finished.
use Rattle.std.proofs.Common.{◌≡◌, true, false, sym, ap, ◌∙◌}
use native.Mathlib.Nat.{add-zero}
use Rattle.sha256.specs.Feeding.{too_many, finish_answer}
use Rattle.sha256.proofs.Digest.finish.Goals as goal

pub returns-then-too_many : goal.returns-then-too_many
unfolding finish_answer
returns-then-too_many c =
    let fed = c.args.self.fed in
    let test : too_many fed ≡ true = ap too_many (sym (add-zero fed)) ∙ sym c.too_many.ensures ∙ c.if-too_many.true in
    rw test

pub returns : goal.returns
unfolding finish_answer
returns c =
    let fed = c.args.self.fed in
    let test : too_many fed ≡ false = ap too_many (sym (add-zero fed)) ∙ sym c.too_many.ensures ∙ c.if-too_many.false in
    rw (test, c.digest.ensures)
