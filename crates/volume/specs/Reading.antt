-- What reading the block at a bookmark answers.
use Rattle.std.specs.Prelude.{ℕ, suc, ◌+◌, Bool, true, false, not, cond, ◌&&◌, List, [], ◌∷◌, ◌++◌, leb, eqb, length, Option, Some, None, Ok, Err}
use Rattle.checks.specs.Checks.{Check, check, first_fault}
use Rattle.refusal.specs.Refusal.{refusal_with}
use Rattle.format.specs.Extents.{top}
use Rattle.block.specs.Fields.{kind_at, body_end}
use Rattle.block.specs.Order.{volume_limit, block_order}
use Rattle.block.specs.inner.Decoded.{block_at, time_of_block}
use Rattle.texts.specs.Texts.{texts_at}
use Rattle.volume.specs.declared.Bookmark.{Bookmark}
use Rattle.volume.specs.Answers.{ReadAnswer}

-- "end": the bookmark stands at the volume's length with no table due, and neither 1 nor 8 (below 80) is to be given
unfoldable pub is_end : (volume : List ℕ) → Bookmark → Bool
is_end volume mark =
    leb (length volume) volume_limit && (leb 80 mark.offset && (eqb mark.offset (length volume) && not mark.due))

-- the time rule: whether a time may follow the last one, if there is one
unfoldable pub may_follow : Option ℕ → (time : Option ℕ) → Bool
may_follow last None = true
may_follow None (Some time) = true
may_follow (Some last) (Some time) = leb last time

-- the last time once a block has been passed
abbrev pub last_with : Option ℕ → (time : Option ℕ) → Option ℕ
last_with last None = last
last_with last (Some time) = Some time

-- 9: no block more can be counted, for the bookmark's number is 2^64−1 already
abbrev pub count_full : Bookmark → Bool
count_full mark = leb top mark.number

-- the checks of a block that follows a bookmark: 14, 9
abbrev pub follow_order : Bookmark → (time : Option ℕ) → List Check
follow_order mark time = check (not (may_follow mark.last time)) 14 ∷ check (count_full mark) 9 ∷ []

-- the checks of the block at a bookmark: the block's own, then those of what it follows
abbrev pub read_order : (volume : List ℕ) → Bookmark → List Check
read_order volume mark =
    block_order volume mark.offset mark.due ++ follow_order mark (time_of_block (block_at volume mark.offset))

unfoldable pub read_fault : (volume : List ℕ) → Bookmark → ℕ
read_fault volume mark = first_fault (read_order volume mark)

-- the bookmark after a block at a bookmark that ends at an offset: no table is due, the block's time is the last, if it has one, and
-- one block more stands before it
abbrev pub mark_after : Bookmark → (end : ℕ) (time : Option ℕ) → Bookmark
mark_after mark end time = record { offset = end; due = false; last = last_with mark.last time; number = suc mark.number }

-- the bookmark after the block at a bookmark
abbrev pub next_mark : (volume : List ℕ) → Bookmark → Bookmark
next_mark volume mark =
    mark_after mark (body_end (kind_at volume mark.offset) volume mark.offset + 4)
    (time_of_block (block_at volume mark.offset))

unfoldable pub read_answer : (volume : List ℕ) → Bookmark → ReadAnswer
read_answer volume mark =
    cond (is_end volume mark) (Ok None)
    (cond (eqb (read_fault volume mark) 0)
    (Ok (Some (record { block = block_at volume mark.offset; number = mark.number; next = next_mark volume mark })))
    (Err (refusal_with (read_fault volume mark) (texts_at volume mark.offset))))
