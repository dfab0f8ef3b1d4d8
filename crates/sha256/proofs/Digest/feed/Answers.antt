-- Refused as the test says, and else fed.
use Rattle.std.proofs.Common.{◌≡◌, ◌+◌, length, true, false, sym, ◌∙◌}
use Rattle.sha256.specs.Feeding.{too_many, feed_answer}
use Rattle.sha256.proofs.Digest.feed.Goals as goal

pub returns-then-too_many : goal.returns-then-too_many
unfolding feed_answer
returns-then-too_many c =
    let test : too_many (c.args.self.fed + length c.args.part.now) ≡ true = sym c.too_many.ensures ∙ c.if-too_many.true in
    rw test

pub returns : goal.returns
unfolding feed_answer
returns c =
    let test : too_many (c.args.self.fed + length c.args.part.now) ≡ false = sym c.too_many.ensures ∙ c.if-too_many.false in
    rw (test, c.feed_bytes.ensures)
