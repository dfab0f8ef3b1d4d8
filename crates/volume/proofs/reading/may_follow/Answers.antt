-- Only a time after a time is compared.
use Rattle.std.specs.Prelude.{Option, Some, None}
use Prim.Native.Nat.{ℕ}
use mathlib.Core.Path.{◌≡◌, refl}
use mathlib.Core.Bool.{true}
use Rattle.volume.specs.Reading.{may_follow}
use Rattle.volume.proofs.reading.may_follow.Goals as goal

-- after no time any time follows
no-last : (time : Option ℕ) → true ≡ may_follow None time
unfolding may_follow
no-last None = refl
no-last (Some new) = refl

pub returns-in-Some-Some : goal.returns-in-Some-Some
unfolding may_follow
returns-in-Some-Some c = rw (c.in-Some-Some.is-0, c.in-Some-Some.is-1)

pub returns-in_default : goal.returns-in_default
unfolding may_follow
returns-in_default c = rw (c.in_default.is-0, c.in_default.is-1)

pub returns-in_default-2 : goal.returns-in_default-2
returns-in_default-2 c = rw c.in_default.is-0 (no-last c.args.time)
