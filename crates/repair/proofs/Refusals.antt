-- A refusal of repair is the check's, so its number is not 0. Assumes nothing.
use Rattle.std.specs.Prelude.{Ok, Err}
use Prim.Native.Nat.{ℕ}
use mathlib.Core.Path.{◌≡◌}
use mathlib.Core.Bool.{Bool, true, false, cond}
use mathlib.Core.List.{List}
use Rattle.refusal.specs.Refusal.{Refusal}
use Rattle.volume.specs.Heading.{sequence_of}
use Rattle.volume.specs.inner.Check.{check_answer}
use Rattle.volume.specs.Answers.{Verdict}
use Rattle.volume.proofs.Verdicts.{EndsWell, check_ends_well}
use Rattle.repair.specs.Repairing.{is_torn, repaired, repair_answer}
use Rattle.repair.specs.Answers.{RepairAnswer}

abbrev pub RefusedByNumber : RepairAnswer → Type 0
RefusedByNumber (Ok n) = Unit {0}
RefusedByNumber (Err refusal) = refusal.number ≡ 0 → ⊥

either : (torn : Bool) (n : ℕ) (refusal : Refusal) → (refusal.number ≡ 0 → ⊥) → RefusedByNumber (cond torn (Ok n) (Err refusal))
either true n refusal h = tt
either false n refusal h = h

pub repair_refused_by_number : (volume : List ℕ) → RefusedByNumber (repair_answer volume)
unfolding repair_answer repaired
repair_refused_by_number volume = go (check_answer volume) (check_ends_well volume)
  where
    go : (v : Verdict) → EndsWell v → RefusedByNumber (repaired volume v)
    go (Ok a) h = tt
    go (Err r) h = either (is_torn (sequence_of volume) r.refusal.number r.offset) r.offset r.refusal h
