-- `first_row` meets its contract: each entry is what the closure gives at its place.
use borrow.Author.Rules.{rules}
use Rattle.crc32.proofs.Row.{row_filled}
use Rattle.crc32.proofs.first_row.Goals as goal

pub returns : goal.returns
returns c =
    let made = c.from_fn.ensures.items in
    row_filled _ (record { long = made.long; done = λ k h. let called = made.at k 0 h in search rules })
