-- Two extents both keep a position just where `share_range` says so. Assumes nothing.
use Prim.Native.Nat.{ℕ, ◌+◌, min, max}
use mathlib.Core.Path.{◌≡◌}
use mathlib.Core.Bool.{true}
use native.Mathlib.Omega.{arith}
use borrow.Author.Tests.{lt-ltb, ltb-true}
use Rattle.format.specs.declared.Extent.{Extent}
use Rattle.format.specs.Extents.{kept_length, KeepsPosition}
use Rattle.extent.specs.inner.Tests.{share_range}

module _ (d e : Extent) where
  -- where a shared part starts and ends
  abbrev later : ℕ
  later = max d.logical.0 e.logical.0

  abbrev earlier : ℕ
  earlier = min (d.logical.0 + kept_length d) (e.logical.0 + kept_length e)

  -- the later start is such a position
  pub share_position : share_range d e ≡ true → (position : ℕ) × (KeepsPosition d position × KeepsPosition e position)
  unfolding share_range
  share_position h =
      let l = ltb-true later earlier h in
      (later, ((omega arith, omega arith), (omega arith, omega arith)))

  pub position_share : (position : ℕ) → KeepsPosition d position → KeepsPosition e position → share_range d e ≡ true
  unfolding share_range
  position_share position k l = lt-ltb later earlier (omega arith)
