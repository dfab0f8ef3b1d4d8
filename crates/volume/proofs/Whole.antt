-- What a sound header and a sound block tell of the volume. Assumes nothing.
use mathlib.Core.Path.{◌≡◌}
use mathlib.Core.List.{List}
use Prim.Native.Nat.{ℕ, ◌≤◌}
use lib.ListN.{length}
use Rattle.checks.specs.Checks.{first_fault}
use Rattle.checks.proofs.Laws.{first_fault-append, stopped}
use Rattle.block.specs.Order.{block_order}
use Rattle.block.specs.inner.Decoded.{block_at, time_of_block}
use Rattle.block.proofs.Passed.{block_numbered}
use Rattle.volume.specs.Heading.{header_fault}
use Rattle.volume.specs.Reading.{follow_order, read_fault}
use Rattle.volume.specs.declared.Bookmark.{Bookmark}
use Rattle.volume.proofs.Passed.{header_passed}

pub header-length : (volume : List ℕ) → header_fault volume ≡ 0 → 80 ≤ length volume
header-length volume e = (header_passed volume e).whole

-- the block's own checks come before those of what it follows
module _ (volume : List ℕ) (mark : Bookmark) where
  pub block_decides : (fault : ℕ) → fault ≡ first_fault (block_order volume mark.offset mark.due) → (fault ≡ 0 → ⊥)
      → fault ≡ read_fault volume mark
  unfolding read_fault
  block_decides fault told n = stopped (block_order volume mark.offset mark.due) _ (block_numbered volume mark.offset mark.due) told n

  pub bookmark_decides : 0 ≡ first_fault (block_order volume mark.offset mark.due)
      → first_fault (follow_order mark (time_of_block (block_at volume mark.offset))) ≡ read_fault volume mark
  unfolding read_fault
  bookmark_decides told =
      rw (first_fault-append (block_order volume mark.offset mark.due) _ (block_numbered volume mark.offset mark.due), ← told)
