-- Inner page: where a kept position is stored, computed.
-- Joined to IsPlace of claims/Demand2 by demand_2_holds.
use Rattle.std.specs.Prelude.{ℕ, ◌+◌, ◌%◌, cond, eqb}
use Rattle.format.specs.declared.Extent.{Extent}
use Rattle.runs.specs.Positions.{raw_byte}

-- the offset in the volume at which a kept position is stored: P+r for 67, P + r mod S for 82
unfoldable pub stored_at : Extent → (position : ℕ) → ℕ
stored_at e position =
    e.start.0 + cond (eqb e.multiplicity 82) (raw_byte e position % e.size) (raw_byte e position)
