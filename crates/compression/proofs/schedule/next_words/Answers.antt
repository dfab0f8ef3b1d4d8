-- The first sixteen words are there from the start; after them each eight rounds take eight words more.
use Rattle.std.proofs.Common.{arith}
use Rattle.compression.proofs.Extending.{words_kept, words_more}
use Rattle.compression.proofs.schedule.next_words.Goals as goal

pub returns-then-t-ge16 : goal.returns-then-t-ge16
returns-then-t-ge16 c = λ first has. words_more first _ _ c.args.t (omega arith) c.extend.array_long c.extend.ensures has

pub returns-else-t-ge16 : goal.returns-else-t-ge16
returns-else-t-ge16 c = λ first has. words_kept first _ c.args.t c.requires.0 (omega arith) has
