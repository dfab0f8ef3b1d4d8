-- What a position lookup and a range query answer.
use Rattle.std.specs.Prelude.{ℕ, ◌+◌, ◌*◌, ◌/◌, ◌%◌, Bool, false, not, ◌&&◌, ◌||◌, List, [], ◌∷◌, ◌++◌, leb, ltb, eqb, length}
use Rattle.number.specs.Number.{number_at}
use Rattle.checks.specs.Checks.{Check, check, first_fault}
use Rattle.checks.specs.Scan.{any_below}
use Rattle.format.specs.declared.Extent.{Extent}
use Rattle.format.specs.Extents.{kept_length, footprint}
use Rattle.format.specs.Blocks.{inode_block, id_of}
use Rattle.extent.specs.Extents.{extent_at, extent_count}
use Rattle.block.specs.Fields.{id_at, is_regular, type_at, size_at, rest_at}
use Rattle.block.specs.Order.{block_order}
use Rattle.runs.specs.inner.Computed.{run_count}

-- the lengths of the volumes: 8 bytes each, entry i for sequence number i
abbrev pub entry_count : (lengths : List ℕ) → ℕ
entry_count lengths = length lengths / 8

abbrev pub length_of : (lengths : List ℕ) (volume : ℕ) → ℕ
length_of lengths volume = number_at lengths (8 * volume) 8

-- 9: bytes that are no whole entries, or over 4,096 entries
unfoldable pub lengths_wrong : (lengths : List ℕ) → Bool
lengths_wrong lengths = not (eqb (length lengths % 8) 0) || ltb 4096 (entry_count lengths)

-- 15: the block isn't a regular file's inode
unfoldable pub not_file : (volume : List ℕ) (offset : ℕ) → Bool
not_file volume offset = not (eqb (id_at volume offset) (id_of inode_block) && is_regular (type_at volume offset))

-- an extent that keeps something and names no entry, or a place that reaches beyond that volume's length
unfoldable pub is_absent : (lengths : List ℕ) → Extent → Bool
is_absent lengths e =
    ltb 0 (kept_length e)
    && (leb (entry_count lengths) e.volume || ltb (length_of lengths e.volume) (e.start.0 + footprint e))

-- 16: a volume or a range that isn't there, for any extent of the file
unfoldable pub some_absent : (lengths list : List ℕ) → Bool
some_absent lengths list = any_below (λ i. is_absent lengths (extent_at list i)) (extent_count list)

-- 18: a kept byte in a block of size 0
unfoldable pub is_stray : Extent → Bool
is_stray e = ltb 0 (kept_length e) && eqb e.size 0

unfoldable pub some_stray : (list : List ℕ) → Bool
some_stray list = any_below (λ i. is_stray (extent_at list i)) (extent_count list)

-- the checks with which a lookup opens the file: 9, the block's own with nothing due and no last time, 15
abbrev pub open_order : (volume : List ℕ) (offset : ℕ) (lengths : List ℕ) → List Check
open_order volume offset lengths =
    check (lengths_wrong lengths) 9 ∷ (block_order volume offset false ++ (check (not_file volume offset) 15 ∷ []))

-- the checks of its extents: 16, 18
abbrev pub extents_order : (lengths list : List ℕ) → List Check
extents_order lengths list = check (some_absent lengths list) 16 ∷ check (some_stray list) 18 ∷ []

-- the checks of a lookup
abbrev pub lookup_order : (volume : List ℕ) (offset : ℕ) (lengths : List ℕ) → List Check
lookup_order volume offset lengths = open_order volume offset lengths ++ extents_order lengths (rest_at volume offset)

unfoldable pub lookup_fault : (volume : List ℕ) (offset : ℕ) (lengths : List ℕ) → ℕ
lookup_fault volume offset lengths = first_fault (lookup_order volume offset lengths)

-- the checks of a range query: those of a lookup, then 17
abbrev pub runs_order : (volume : List ℕ) (offset : ℕ) (lengths : List ℕ) (from to room : ℕ) → List Check
runs_order volume offset lengths from to room =
    lookup_order volume offset lengths
    ++ (check (ltb room (5 * run_count (rest_at volume offset) (size_at volume offset) from to)) 17 ∷ [])

unfoldable pub runs_fault : (volume : List ℕ) (offset : ℕ) (lengths : List ℕ) (from to room : ℕ) → ℕ
runs_fault volume offset lengths from to room = first_fault (runs_order volume offset lengths from to room)
