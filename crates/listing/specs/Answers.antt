-- What a listing answers.
use Rattle.std.specs.Prelude.{ℕ, Result}
use Rattle.refusal.specs.Refusal.{Refusal}

-- how long the text is, or the refusal
abbrev pub ListAnswer : Type 0
ListAnswer = Result ℕ Refusal
