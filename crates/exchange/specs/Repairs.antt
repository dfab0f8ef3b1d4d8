-- What repairing a volume answers, as numbers.
use Rattle.std.specs.Prelude.{Ok, Err}
use Rattle.repair.specs.Answers.{RepairAnswer}
use Rattle.exchange.specs.declared.RepairNumbers.{RepairNumbers}

unfoldable pub repair_numbers : RepairAnswer → RepairNumbers
repair_numbers (Ok n) = record { refusal = 0; text = 0; start = 0; length = n }
repair_numbers (Err r) = record { refusal = r.number; text = r.text; start = r.start; length = 0 }
