-- What the listing of a tree answers.
use Rattle.std.specs.Prelude.{ℕ, Result}
use Rattle.refusal.specs.Refusal.{Refusal}

-- how many lines there are, or the refusal
abbrev pub TreeAnswer : Type 0
TreeAnswer = Result ℕ Refusal
