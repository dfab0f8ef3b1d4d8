-- What the check of a whole volume answers, as numbers.
use Rattle.std.specs.Prelude.{Ok, Err}
use Rattle.volume.specs.Answers.{Verdict}
use Rattle.exchange.specs.Marks.{timed_number, time_number}
use Rattle.exchange.specs.declared.CheckNumbers.{CheckNumbers}

unfoldable pub check_numbers : Verdict → CheckNumbers
check_numbers (Ok a) = record {
  refusal = 0;
  text = 0;
  start = 0;
  sequence = a.sequence;
  blocks = a.end.number;
  offset = a.end.offset;
  timed = timed_number a.end.last;
  time = time_number a.end.last;
}
check_numbers (Err r) = record {
  refusal = r.refusal.number;
  text = r.refusal.text;
  start = r.refusal.start;
  sequence = 0;
  blocks = r.blocks;
  offset = r.offset;
  timed = 0;
  time = 0;
}
