-- What writing a header and appending a block answer, as numbers.
use Rattle.std.specs.Prelude.{Ok, Err}
use Rattle.volume.specs.Answers.{WriteAnswer}
use Rattle.exchange.specs.Marks.{flag_number, timed_number, time_number}
use Rattle.exchange.specs.declared.MarkNumbers.{MarkNumbers}

unfoldable pub written_numbers : WriteAnswer → MarkNumbers
written_numbers (Ok mark) = record {
  refusal = 0;
  text = 0;
  start = 0;
  next = mark.offset;
  due = flag_number mark.due;
  timed = timed_number mark.last;
  last = time_number mark.last;
  number = mark.number;
}
written_numbers (Err r) =
    record { refusal = r.number; text = r.text; start = r.start; next = 0; due = 0; timed = 0; last = 0; number = 0 }
