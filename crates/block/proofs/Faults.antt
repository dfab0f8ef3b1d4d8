-- A kind's table of checks, answered by parts: the fixed fields, then the end of the block, then what its variable parts hold.
-- Assumes nothing.
use mathlib.Core.Path.{◌≡◌, refl}
use mathlib.Core.Bool.{Bool, not, cond}
use mathlib.Core.List.{List, [], ◌∷◌, ◌++◌}
use Prim.Native.Nat.{ℕ, ◌+◌, ◌-◌, ◌≤◌}
use lib.Dec.{T, ltb}
use lib.ListN.{length}
use borrow.Author.Tests.{le-ltb}
use Rattle.number.proofs.Parts.{part_span}
use Rattle.number.specs.Number.{part}
use Rattle.checks.specs.Checks.{Check, check, miss, first_fault}
use Rattle.checks.proofs.Laws.{decided, rest, numbered, continued}
use Rattle.checks.proofs.Tests.{told}
use Rattle.utf8.specs.inner.Length.{is_text}
use Rattle.format.specs.Blocks.{Kind, link_block, unlink_block}
use Rattle.block.specs.Fields.{fixed_length, body_length}
use Rattle.block.specs.Order.{fixed_fields_cut, kind_order}

-- a text that is tested after a table without a fault, as the part of the volume between two offsets
pub text_next : (a : List Check) (volume : List ℕ) (from n : ℕ) {r t : Bool} → T (numbered a) → 0 ≡ first_fault a
    → r ≡ is_text (part volume from (from + n - from)) → r ≡ t
    → cond (not t) 10 0 ≡ first_fault (a ++ (check (not (is_text (part volume from n))) 10 ∷ []))
unfolding first_fault
text_next a volume from n p e f h =
    continued a (check (not (is_text (part volume from n))) 10 ∷ []) p e refl (rw (← told (rw part_span at f) h))

-- a table once the fixed fields, which end at `from`, are there
pub bytes_there : (volume : List ℕ) (from : ℕ) (others : List Check) {m : ℕ} → from ≤ length volume → m ≡ first_fault others
    → m ≡ first_fault (check (ltb (length volume) from) 2 ∷ others)
bytes_there volume from others h e = decided (miss (le-ltb (length volume) from h) (rest e))

-- the same of a kind
pub fields_there : (kind : Kind) (volume : List ℕ) (offset : ℕ) (others : List Check) {m : ℕ} → offset + fixed_length kind ≤ length volume
    → m ≡ first_fault others → m ≡ first_fault (check (fixed_fields_cut kind volume offset) 2 ∷ others)
fields_there kind volume offset others h e = bytes_there volume (offset + fixed_length kind) others h e

-- unlink blocks have the layout of link blocks
pub unlink_as_link : (volume : List ℕ) (offset : ℕ)
    → first_fault (kind_order unlink_block volume offset) ≡ first_fault (kind_order link_block volume offset)
unfolding body_length
unlink_as_link volume offset = refl
