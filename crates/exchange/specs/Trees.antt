-- What listing the tree of a link table answers, as numbers.
use Rattle.std.specs.Prelude.{Ok, Err}
use Rattle.tree.specs.Answers.{TreeAnswer}
use Rattle.exchange.specs.declared.LineNumbers.{LineNumbers}

unfoldable pub line_numbers : TreeAnswer → LineNumbers
line_numbers (Ok n) = record { refusal = 0; text = 0; start = 0; lines = n }
line_numbers (Err r) = record { refusal = r.number; text = r.text; start = r.start; lines = 0 }
