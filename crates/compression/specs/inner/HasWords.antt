-- The words of a message schedule that are there before a round. Only contracts of private functions cite this.
use Rattle.std.specs.Prelude.{ℕ, ◌+◌, ◌-◌, ◌≡◌, List, length, take}
use Rattle.fips180.specs.Hash.{extended}

-- a room for sixty-four words: before round t the first sixteen are there, and all below t
pub record HasWords (first : List ℕ) (t : ℕ) (room : List ℕ) : Type 0 where
  pub long : length room ≡ 64
  pub there : take (16 + (t - 16)) room ≡ extended (t - 16) first
