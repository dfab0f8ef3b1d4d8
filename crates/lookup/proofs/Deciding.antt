-- The checks of a lookup, answered by parts: the lengths, the block and its kind, and then the file's extents. Assumes nothing.
use Prim.Native.Nat.{ℕ}
use mathlib.Core.Path.{◌≡◌}
use mathlib.Core.Bool.{false}
use mathlib.Core.List.{List, [], ◌∷◌}
use lib.Dec.{T}
use Rattle.checks.specs.Checks.{Check, check, miss, first_fault}
use Rattle.checks.proofs.Laws.{decided, rest, numbered, stopped, continued}
use Rattle.checks.proofs.Cleared.{numbered-append}
use Rattle.block.specs.Fields.{rest_at}
use Rattle.block.specs.Order.{block_order}
use Rattle.block.proofs.Passed.{block_numbered}
use Rattle.lookup.specs.Lookup.{lengths_wrong, not_file, open_order, extents_order, lookup_order, lookup_fault}

module _ (volume : List ℕ) (offset : ℕ) (lengths : List ℕ) where
  -- 15, after the block's own checks
  abbrev file_order : List Check
  file_order = check (not_file volume offset) 15 ∷ []

  -- the checks have numbers above 0
  pub open_numbered : T (numbered (open_order volume offset lengths))
  open_numbered = numbered-append (block_order volume offset false) file_order (block_numbered volume offset false) tt

  pub lookup_numbered : T (numbered (lookup_order volume offset lengths))
  lookup_numbered = numbered-append (open_order volume offset lengths) (extents_order lengths (rest_at volume offset)) open_numbered tt

  -- the block decides where the lengths are right, and its kind where the block has no fault
  module _ (right : lengths_wrong lengths ≡ false) {fault : ℕ} (told : fault ≡ first_fault (block_order volume offset false)) where
    pub block_decides : (fault ≡ 0 → ⊥) → fault ≡ first_fault (open_order volume offset lengths)
    block_decides n = decided (miss right (rest (stopped (block_order volume offset false) file_order (block_numbered volume offset false) told n)))

    pub kind_decides : {answer : ℕ} → fault ≡ 0 → answer ≡ first_fault file_order → answer ≡ first_fault (open_order volume offset lengths)
    kind_decides z e = decided (miss right (rest (continued (block_order volume offset false) file_order (block_numbered volume offset false) told z e)))

  -- the opening decides, and where it has no fault the extents do
  module _ {fault : ℕ} (told : fault ≡ first_fault (open_order volume offset lengths)) where
    pub opening_decides : (fault ≡ 0 → ⊥) → fault ≡ lookup_fault volume offset lengths
    unfolding lookup_fault
    opening_decides n = stopped (open_order volume offset lengths) (extents_order lengths (rest_at volume offset)) open_numbered told n

    pub extents_decide : {answer : ℕ} → fault ≡ 0 → answer ≡ first_fault (extents_order lengths (rest_at volume offset))
        → answer ≡ lookup_fault volume offset lengths
    unfolding lookup_fault
    extents_decide z e = continued (open_order volume offset lengths) (extents_order lengths (rest_at volume offset)) open_numbered told z e
