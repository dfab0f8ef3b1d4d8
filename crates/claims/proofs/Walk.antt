-- The rules between blocks, walked from a bookmark: blocks keep them exactly if each is allowed at the bookmark before it. That each can
-- be counted is no rule of the format: there are never so many. Assumes nothing.
use Rattle.std.specs.Prelude.{Option, Some, None}
use Prim.Native.Nat.{ℕ, zero, suc, ◌+◌, ◌≤◌}
use mathlib.Core.Path.{◌≡◌, refl, sym, ◌∙◌}
use mathlib.Core.Bool.{true, false, false≢true}
use mathlib.Core.List.{List, [], ◌∷◌}
use mathlib.Mathlib.Data.Bool.Basic.{eq-false_of_not-eq-true}
use native.Mathlib.Omega.{arith}
use lib.ListN.{length, length-append}
use borrow.Author.Tests.{lt-ltb}
use Rattle.checks.proofs.Scan.{never}
use Rattle.format.specs.Layout.{All}
use Rattle.format.specs.Extents.{top}
use Rattle.format.specs.Blocks.{Block, image, BlockRules}
use Rattle.format.specs.Readings.{IsTable, NoTable, TableRule, time_of, TimesFollow, images}
use Rattle.format.specs.Readings as format
use Rattle.format.proofs.Images.{length-image}
use Rattle.block.proofs.Ids.{is_table, table_iff}
use Rattle.volume.specs.Heading.{first_mark}
use Rattle.volume.specs.Reading.{last_with}
use Rattle.volume.specs.declared.Bookmark.{Bookmark}
use Rattle.volume.proofs.OneCall.{Allowed, after}

-- each block is allowed at the bookmark before it, and at the end no table is due
abbrev pub Runs : Bookmark → List Block → Type 0
Runs mark [] = mark.due ≡ false
Runs mark (block ∷ blocks) = Allowed mark block × Runs (after mark block) blocks

-- the bookmark after all the blocks
abbrev pub after_all : Bookmark → List Block → Bookmark
after_all mark [] = mark
after_all mark (block ∷ blocks) = after_all (after mark block) blocks

-- each of them is counted
pub number_after : (mark : Bookmark) (blocks : List Block) → (after_all mark blocks).number ≡ mark.number + length blocks
number_after mark [] = omega arith
number_after mark (block ∷ blocks) = omega (arith, number_after (after mark block) blocks)

-- and has a byte at least, so that the bytes limit the number of blocks
pub few_blocks : (blocks : List Block) → length blocks ≤ length (images blocks)
unfolding images
few_blocks [] = omega arith
few_blocks (block ∷ blocks) =
    omega (arith, few_blocks blocks, length-image block, length-append (image block) (images blocks))

not_table : (block : Block) → is_table block ≡ false → IsTable block → ⊥
not_table block e t = false≢true (sym e ∙ (table_iff block).1 t)

table_not : (block : Block) → (IsTable block → ⊥) → is_table block ≡ false
table_not block n = eq-false_of_not-eq-true (λ e. n ((table_iff block).0 e))

pub last_after_lem : (last : Option ℕ) (time : Option ℕ) → (last_with last time) ≡ format.last_after last time
last_after_lem last None = refl
last_after_lem last (Some time) = refl

-- the rules, where no table is due any more
abbrev Rules : Option ℕ → List Block → Type 0
Rules last blocks = All BlockRules blocks × NoTable blocks × TimesFollow last blocks

runs_rules : (mark : Bookmark) (blocks : List Block) → mark.due ≡ false → Runs mark blocks → Rules mark.last blocks
runs_rules mark [] d r = (tt, tt, tt)
runs_rules mark (block ∷ blocks) d r =
    let others = runs_rules (after mark block) blocks refl r.1 in (
      (r.0.keeps, others.0),
      (not_table block (sym r.0.place ∙ d), others.1),
      (r.0.time, rw (last_after_lem mark.last (time_of block)) at others.2),
    )

rules_runs : (mark : Bookmark) (blocks : List Block) → mark.due ≡ false → mark.number + length blocks ≤ top
    → Rules mark.last blocks → Runs mark blocks
rules_runs mark [] d few r = d
rules_runs mark (block ∷ blocks) d few r = (
  record { place = d ∙ sym (table_not block r.1.0); keeps = r.0.0; time = r.2.0; counted = omega arith },
  rules_runs (after mark block) blocks refl (omega arith) (r.0.1, r.1.1, rw (last_after_lem mark.last (time_of block)) r.2.1),
)

-- the rules of a whole volume, by its sequence number
abbrev pub VolumeRules : (sequence : ℕ) → List Block → Type 0
VolumeRules sequence blocks = All BlockRules blocks × TableRule sequence blocks × TimesFollow None blocks

above : (n : ℕ) → (first_mark (suc n)).due ≡ true
above n = lt-ltb 0 (suc n) (omega arith)

pub runs_volume : (sequence : ℕ) (blocks : List Block) → Runs (first_mark sequence) blocks → VolumeRules sequence blocks
runs_volume zero blocks r = runs_rules (first_mark 0) blocks refl r
runs_volume (suc n) [] r = never (above n) r
runs_volume (suc n) (block ∷ blocks) r =
    let others = runs_rules (after (first_mark (suc n)) block) blocks refl r.1 in (
      (r.0.keeps, others.0),
      ((table_iff block).0 (sym r.0.place ∙ above n), others.1),
      (tt, rw (last_after_lem (first_mark (suc n)).last (time_of block)) at others.2),
    )

pub volume_runs : (sequence : ℕ) (blocks : List Block) → length blocks ≤ top → VolumeRules sequence blocks → Runs (first_mark sequence) blocks
volume_runs zero blocks few r = rules_runs (first_mark 0) blocks refl (omega arith) r
volume_runs (suc n) [] few r = absurd r.1
volume_runs (suc n) (block ∷ blocks) few r = (
  record { place = above n ∙ sym ((table_iff block).1 r.1.0); keeps = r.0.0; time = tt; counted = omega arith },
  rules_runs (after (first_mark (suc n)) block) blocks refl (omega arith)
      (r.0.1, r.1.1, rw (last_after_lem (first_mark (suc n)).last (time_of block)) r.2.1),
)
