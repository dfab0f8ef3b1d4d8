-- A walk over a volume that has a reading is a fold over the blocks of the reading. Assumes nothing.
use Rattle.std.specs.Prelude.{Some, Ok}
use Prim.Native.Nat.{ℕ, ◌≤◌}
use mathlib.Core.Path.{◌≡◌, ap, ◌∙◌}
use mathlib.Core.List.{List, [], ◌∷◌}
use lib.ListN.{length}
use Rattle.number.specs.Number.{Bytes}
use Rattle.format.specs.Blocks.{Block}
use Rattle.format.specs.Readings.{Reading, ReadingOf}
use Rattle.block.specs.Shown.{shown}
use Rattle.volume.specs.Heading.{first_mark, header_answer}
use Rattle.volume.specs.Reading.{read_answer}
use Rattle.volume.specs.inner.Walk.{Way, on_read, walk_from}
use Rattle.volume.specs.declared.Bookmark.{Bookmark}
use Rattle.volume.specs.declared.Found.{Found}
use Rattle.volume.specs.declared.HeaderRead.{HeaderRead}
use Rattle.volume.proofs.Walk.{walk_step}
use Rattle.volume.proofs.OneCall.{after, read_sound}
use Rattle.claims.specs.Library.{ours}
use Rattle.claims.specs.Demand3Reading.{Calls, ended, handed}
use Rattle.claims.proofs.Walk.{after_all}
use Rattle.claims.proofs.Demand3Reading.{reading_gives}

-- what a walk does at a block, in the format's own words
abbrev pub AtBlock : (Answer : Type 0) → Type 0
AtBlock Answer = Bookmark → Block → (onward : Answer) → Answer

abbrev pub fold : {Answer : Type 0} → AtBlock Answer → (at_end : Bookmark → Answer) → Bookmark → List Block → Answer
fold at_block at_end mark [] = at_end mark
fold at_block at_end mark (block ∷ blocks) = at_block mark block (fold at_block at_end (after mark block) blocks)

module _ {Answer : Type 0} (volume : List ℕ) (b : Bytes volume) (way : Way Answer) (at_block : AtBlock Answer)
    -- the way takes a block as it is in the format
    (same : (mark : Bookmark) (found : Found) → read_answer volume mark ≡ Ok (Some found) → (onward : Answer)
    → way.at_block mark found onward ≡ at_block mark (shown volume found.block) onward) where
  pub walk_over_calls : {number : ℕ} {mark end : Bookmark} {blocks : List Block} → Calls ours volume number mark blocks end
      → walk_from volume way mark ≡ fold at_block way.at_end mark blocks
  unfolding on_read
  walk_over_calls {mark = mark} (ended e) = walk_step volume way mark e
  walk_over_calls {mark = mark} (handed {found = found} {blocks = blocks} e numbered calls) =
      let block : Block = shown volume found.block in
      walk_step volume way mark e
      ∙ same mark found e (walk_from volume way found.next)
      ∙ ap (at_block mark block) (walk_over_calls calls)
      ∙ ap (λ (next : Bookmark). at_block mark block (fold at_block way.at_end next blocks)) (read_sound volume mark found b e).next

  pub walk_over_reading : (reading : Reading) → length volume ≤ 16777216 → ReadingOf volume reading
      → (header : HeaderRead) → header_answer volume ≡ Ok header
      → walk_from volume way header.next ≡ fold at_block way.at_end header.next reading.blocks
  walk_over_reading reading small r header e =
      let g = reading_gives volume reading small r in
      let first : g.first ≡ header.next = cc g.header in
      let calls : Calls ours volume 0 header.next reading.blocks (after_all (first_mark reading.header.sequence) reading.blocks)
      = rw first at g.blocks in
      walk_over_calls calls
