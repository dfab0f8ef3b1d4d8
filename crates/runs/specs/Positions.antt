-- From a position of a file to the stored byte, over the file's list of extents.
use Rattle.std.specs.Prelude.{ℕ, ◌+◌, ◌-◌, ◌/◌, Bool, cond, ◌&&◌, List, leb, ltb, eqb}
use Rattle.std.proofs.Math.Option.{Option}
use Rattle.checks.specs.Scan.{first_below}
use Rattle.format.specs.declared.Extent.{Extent}
use Rattle.format.specs.Extents.{kept_length}
use Rattle.extent.specs.Extents.{extent_at, extent_count}

-- whether an extent keeps a position: Q to below Q+L
unfoldable pub keeps : Extent → (position : ℕ) → Bool
keeps e position = leb e.logical.0 position && ltb position (e.logical.0 + kept_length e)

-- the raw byte r that a kept position is: position Q+k is raw byte pre+k
abbrev pub raw_byte : Extent → (position : ℕ) → ℕ
raw_byte e position = e.pre + (position - e.logical.0)

-- the copy of the block in which a kept position lies, counted from 0; 67 has one only
unfoldable pub copy_of : Extent → (position : ℕ) → ℕ
copy_of e position = cond (eqb e.multiplicity 82) (raw_byte e position / e.size) 0

-- the number of the extent that keeps a position, if there is one
unfoldable pub keeper : (list : List ℕ) (position : ℕ) → Option ℕ
keeper list position = first_below (λ i. keeps (extent_at list i) position) (extent_count list)
