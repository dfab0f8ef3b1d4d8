-- What looking up a position and querying a range answer, as numbers. A hole is kind 0, a stored byte 1, "past end" 2.
use Rattle.std.specs.Prelude.{Ok, Err}
use Rattle.lookup.specs.Answers.{PositionAnswer, RunsAnswer}
use Rattle.lookup.specs.declared.Position.TheVariants.{Hole, PastEnd, Stored}
use Rattle.exchange.specs.declared.PlaceNumbers.{PlaceNumbers}
use Rattle.exchange.specs.declared.RunCountNumbers.{RunCountNumbers}

unfoldable pub place_numbers : PositionAnswer → PlaceNumbers
place_numbers (Ok Hole) = record { refusal = 0; text = 0; start = 0; kind = 0; volume = 0; offset = 0 }
place_numbers (Ok PastEnd) = record { refusal = 0; text = 0; start = 0; kind = 2; volume = 0; offset = 0 }
place_numbers (Ok (Stored s)) = record { refusal = 0; text = 0; start = 0; kind = 1; volume = s.volume; offset = s.offset.0 }
place_numbers (Err r) = record { refusal = r.number; text = r.text; start = r.start; kind = 0; volume = 0; offset = 0 }

unfoldable pub run_count_numbers : RunsAnswer → RunCountNumbers
run_count_numbers (Ok n) = record { refusal = 0; text = 0; start = 0; count = n }
run_count_numbers (Err r) = record { refusal = r.number; text = r.text; start = r.start; count = 0 }
