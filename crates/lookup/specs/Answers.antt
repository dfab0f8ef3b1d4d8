-- What lookups answer.
use Rattle.std.specs.Prelude.{ℕ, Result}
use Rattle.refusal.specs.Refusal.{Refusal}
use Rattle.lookup.specs.declared.Position.{Position}

-- what stands at a position, or the refusal
abbrev pub PositionAnswer : Type 0
PositionAnswer = Result Position Refusal

-- how many runs a range has, or the refusal
abbrev pub RunsAnswer : Type 0
RunsAnswer = Result ℕ Refusal
