-- What a header, a reading, an append and the writing of a header without a fault have passed, by name. Only here are the checks of
-- their tables counted. Assumes nothing.
use Prim.Native.Nat.{ℕ, ◌+◌, ◌≤◌, ◌<◌}
use mathlib.Core.Path.{◌≡◌}
use mathlib.Core.Bool.{true, false, not, beq}
use mathlib.Core.List.{List}
use lib.ListN.{length}
use borrow.Author.Tests.{leb-false, ltb-false, eqb-true, not-false}
use Rattle.number.specs.Number.{number_at, part}
use Rattle.number.specs.inner.Same.{same_bytes}
use Rattle.checks.specs.Checks.{first_fault}
use Rattle.checks.proofs.Laws.{passed}
use Rattle.checks.proofs.Cleared.{both_clear}
use Rattle.format.specs.Extents.{top}
use Rattle.format.specs.Blocks.{Block, image}
use Rattle.format.specs.Headers.{Header, magic}
use Rattle.format.specs.Readings.{time_of}
use Rattle.block.specs.Order.{volume_limit, checksum_wrong, block_order}
use Rattle.block.specs.inner.Decoded.{block_at, time_of_block}
use Rattle.block.proofs.Ids.{is_table}
use Rattle.block.proofs.Passed.{BlockPassed, block_numbered, block_passed}
use Rattle.request.specs.Requests.{request_order}
use Rattle.request.proofs.Rules.{request_numbered}
use Rattle.volume.specs.Heading.{header_bytes, sequence_of, hash_wrong, header_order, header_fault}
use Rattle.volume.specs.Reading.{may_follow, read_fault}
use Rattle.volume.specs.Writing.{place_order, room_order, append_fault, write_order, write_fault}
use Rattle.volume.specs.declared.Bookmark.{Bookmark}

pub record HeaderPassed (volume : List ℕ) : Type 0 where
  -- 1, 2, 3
  pub small : length volume ≤ volume_limit
  pub whole : 80 ≤ length volume
  pub magic_right : same_bytes (part volume 0 17) magic ≡ true
  -- 4, three times
  pub version : number_at volume 17 1 ≡ 0
  pub crc_algorithm : number_at volume 34 1 ≡ 0
  pub hash_algorithm : number_at volume 35 1 ≡ 0
  -- 5, 6
  pub sum_right : checksum_wrong volume 0 76 ≡ false
  pub hash_right : hash_wrong (sequence_of volume) (header_bytes "previous hash" volume) ≡ false

pub header_passed : (volume : List ℕ) → header_fault volume ≡ 0 → HeaderPassed volume
unfolding header_fault
header_passed volume e =
    let order = header_order volume in
    record {
      small = ltb-false _ _ (passed 0 order tt e);
      whole = ltb-false _ _ (passed 1 order tt e);
      magic_right = not-false _ (passed 2 order tt e);
      version = eqb-true _ _ (not-false _ (passed 3 order tt e));
      crc_algorithm = eqb-true _ _ (not-false _ (passed 4 order tt e));
      hash_algorithm = eqb-true _ _ (not-false _ (passed 5 order tt e));
      sum_right = passed 6 order tt e;
      hash_right = passed 7 order tt e;
    }

pub record ReadPassed (volume : List ℕ) (mark : Bookmark) : Type 0 where
  -- the block's own checks
  pub block : BlockPassed volume mark.offset mark.due
  -- 14, 9
  pub time : may_follow mark.last (time_of_block (block_at volume mark.offset)) ≡ true
  pub counted : mark.number < top

pub read_passed : (volume : List ℕ) (mark : Bookmark) → read_fault volume mark ≡ 0 → ReadPassed volume mark
unfolding read_fault
read_passed volume mark e =
    let own = block_order volume mark.offset mark.due in
    let parts = both_clear own _ (block_numbered volume mark.offset mark.due) e in
    record {
      block = block_passed volume mark.offset mark.due parts.0;
      time = not-false _ (passed 0 _ tt parts.1);
      counted = leb-false _ _ (passed 1 _ tt parts.1);
    }

pub record AppendPassed (room : ℕ) (mark : Bookmark) (block : Block) : Type 0 where
  -- 8, twice, and 9
  pub base : 80 ≤ mark.offset
  pub place : not (beq mark.due (is_table block)) ≡ false
  pub counted : mark.number < top
  -- the block's own checks
  pub own : first_fault (request_order block) ≡ 0
  -- 14, 1, 17
  pub time : may_follow mark.last (time_of block) ≡ true
  pub small : mark.offset + length (image block) ≤ volume_limit
  pub fits : mark.offset + length (image block) ≤ room

pub append-passed : (room : ℕ) (mark : Bookmark) (block : Block) → append_fault room mark block ≡ 0 → AppendPassed room mark block
unfolding append_fault
append-passed room mark block e =
    let place = place_order mark (is_table block) in
    let parts = both_clear place _ tt e in
    let others = both_clear (request_order block) _ (request_numbered block) parts.1 in
    let last = room_order mark (time_of block) (length (image block)) room in
    record {
      base = ltb-false _ _ (passed 0 place tt parts.0);
      place = passed 1 place tt parts.0;
      counted = leb-false _ _ (passed 2 place tt parts.0);
      own = others.0;
      time = not-false _ (passed 0 last tt others.1);
      small = ltb-false _ _ (passed 1 last tt others.1);
      fits = ltb-false _ _ (passed 2 last tt others.1);
    }

pub record WritePassed (room : ℕ) (header : Header) : Type 0 where
  -- 11, twice
  pub id-length : length header.id ≡ 16
  pub hash-length : length header.previous ≡ 32
  -- 6, 17
  pub hash_right : hash_wrong header.sequence header.previous ≡ false
  pub fits : 80 ≤ room

pub write_passed : (room : ℕ) (header : Header) → write_fault room header ≡ 0 → WritePassed room header
unfolding write_fault
write_passed room header e =
    let order = write_order room header in
    record {
      id-length = eqb-true _ _ (not-false _ (passed 0 order tt e));
      hash-length = eqb-true _ _ (not-false _ (passed 1 order tt e));
      hash_right = passed 2 order tt e;
      fits = ltb-false _ _ (passed 3 order tt e);
    }
