-- What a repair answers.
use Rattle.std.specs.Prelude.{ℕ, Result}
use Rattle.refusal.specs.Refusal.{Refusal}

-- the length of the longest accepted beginning, or the refusal
abbrev pub RepairAnswer : Type 0
RepairAnswer = Result ℕ Refusal
