-- One call of the reader: it hands out a block exactly where the rules allow one and its image stands, and says "end" exactly at
-- the end. Assumes nothing.
use Rattle.std.specs.Prelude.{Option, Some, None, Ok}
use Prim.Native.Nat.{ℕ, ◌+◌, ◌≤◌, ◌<◌}
use mathlib.Core.Path.{◌≡◌, refl, sym, ap, ap₂, ◌∙◌, subst}
use mathlib.Core.Bool.{Bool, true, false, not, beq, false≢true, and-false, and-eq-true_iff}
use mathlib.Core.List.{List, ◌++◌}
use native.Mathlib.Omega.{arith}
use lib.Dec.{leb, eqb}
use lib.ListN.{length, drop, length-append, length-drop}
use borrow.Author.Tests.{leb-true, eqb-true, not-true}
use borrow.Author.Tests.{le-leb, lt-leb, eq-eqb, ne_eqb}
use Rattle.number.specs.Number.{Bytes}
use Rattle.number.proofs.Parts.{drop-part}
use Rattle.checks.specs.Checks.{first_fault, clear, miss}
use Rattle.checks.proofs.Laws.{decided, none-append}
use Rattle.format.specs.Extents.{top}
use Rattle.format.specs.Blocks.{Kind, id_of, Block, kind_of, image, BlockRules}
use Rattle.format.specs.Readings.{time_of, TimeFollows}
use Rattle.block.specs.Fields.{id_at, kind_with, kind_at, body_end}
use Rattle.block.specs.Order.{volume_limit, unknown_id, wrong_place, kind_order, block_order}
use Rattle.block.specs.inner.Decoded.{block_at, time_of_block}
use Rattle.block.specs.Shown.{shown}
use Rattle.format.proofs.Images.{length-image}
use Rattle.block.proofs.Ids.{kind_known, id_known, is_table}
use Rattle.block.proofs.Passed.{block_numbered, passed_block}
use Rattle.block.proofs.BlockImage.{Stands, block_sound, Reads, block_complete, same_time}
use Rattle.volume.specs.Reading.{is_end, may_follow, mark_after, read_fault, next_mark, read_answer}
use Rattle.volume.specs.declared.Bookmark.{Bookmark}
use Rattle.volume.specs.declared.Found.{Found}
use Rattle.volume.specs.Answers.{ReadAnswer}
use Rattle.volume.proofs.Passed.{read_passed}
use Rattle.volume.proofs.Steps.{found_at, Answers, ends, finds, refuses, answers}

-- The rules at a bookmark, and the tests for them.

-- what the rules say of a block at a bookmark
pub record Allowed (mark : Bookmark) (block : Block) : Type 0 where
  pub place : mark.due ≡ is_table block
  pub keeps : BlockRules block
  pub time : TimeFollows mark.last (time_of block)
  -- it can be counted
  pub counted : mark.number < top

-- the bookmark after a block
abbrev pub after : Bookmark → Block → Bookmark
after mark block = mark_after mark (mark.offset + length (image block)) (time_of block)

pub may_follow_lem : (last : Option ℕ) (time : Option ℕ) → TimeFollows last time → may_follow last time ≡ true
unfolding may_follow
may_follow_lem last None h = refl
may_follow_lem None (Some time) h = refl
may_follow_lem (Some last) (Some time) h = le-leb last time h

pub follows : (last : Option ℕ) (time : Option ℕ) → may_follow last time ≡ true → TimeFollows last time
unfolding may_follow
follows None None e = tt
follows None (Some time) e = tt
follows (Some last) None e = tt
follows (Some last) (Some time) e = leb-true last time e

pub right_place : (due table : Bool) → not (beq due table) ≡ false → due ≡ table
right_place true true e = refl
right_place true false e = absurd (false≢true (sym e))
right_place false true e = absurd (false≢true (sym e))
right_place false false e = refl

pub place_right : (due table : Bool) → due ≡ table → not (beq due table) ≡ false
place_right true table e = rw (← e)
place_right false table e = rw (← e)

-- From an answer to the block.

-- what a block that is handed out tells
pub record HandedOut (volume : List ℕ) (mark : Bookmark) (found : Found) : Type 0 where
  pub small : length volume ≤ volume_limit
  pub base : 80 ≤ mark.offset
  pub allowed : Allowed mark (shown volume found.block)
  pub number : found.number ≡ mark.number
  pub next : found.next ≡ after mark (shown volume found.block)
  pub same : drop mark.offset volume ≡ image (shown volume found.block) ++ drop found.next.offset volume

sound_here : (volume : List ℕ) (mark : Bookmark) → Bytes volume → read_fault volume mark ≡ 0
    → HandedOut volume mark (found_at volume mark)
sound_here volume mark b e =
    let offset : ℕ = mark.offset in
    let kind : Kind = kind_at volume offset in
    let block : Block = shown volume (block_at volume offset) in
    let p = read_passed volume mark e in
    let id : id_at volume offset ≡ id_of kind = sym (id_known (id_at volume offset) p.block.known) in
    let s : Stands kind volume offset block = block_sound kind volume offset b id p.block.own in
    let t : time_of_block (block_at volume offset) ≡ time_of block = same_time volume (block_at volume offset) in
    let table : eqb (id_at volume offset) 8 ≡ is_table block = ap (λ (n : ℕ). eqb n 8) (id ∙ ap id_of (sym s.same_kind)) in
    record {
      small = p.block.small;
      base = p.block.base;
      allowed = record {
        place = right_place mark.due _ p.block.place ∙ table;
        keeps = s.keeps;
        time = rw (← t) (follows mark.last _ p.time);
        counted = p.counted;
      };
      number = refl;
      next = ap₂ (λ end time. mark_after mark end time) s.end t;
      same = drop-part volume offset (length (image block)) ∙ ap₂ ◌++◌ s.same (ap (λ (n : ℕ). drop n volume) (sym s.end));
    }

pub read_sound : (volume : List ℕ) (mark : Bookmark) (found : Found) → Bytes volume → read_answer volume mark ≡ Ok (Some found)
    → HandedOut volume mark found
read_sound volume mark found b e = go (answers volume mark) e
  where
    go : {a : ReadAnswer} → Answers volume mark a → a ≡ Ok (Some found) → HandedOut volume mark found
    go (ends p) q = let z : ◌≡◌ {A = ℕ} 0 1 = cc in absurd (omega arith)
    go (finds p f) q = let s : found_at volume mark ≡ found = cc in subst (HandedOut volume mark) s (sound_here volume mark b f)
    go (refuses p f) q = let z : ◌≡◌ {A = ℕ} 0 1 = cc in absurd (omega arith)

-- From a block to the answer.

-- the block is handed out at the bookmark
pub record Hands (volume : List ℕ) (mark : Bookmark) (block : Block) : Type 0 where
  pub answer : read_answer volume mark ≡ Ok (Some (found_at volume mark))
  pub same : shown volume (block_at volume mark.offset) ≡ block
  pub next : next_mark volume mark ≡ after mark block

not_end : (volume : List ℕ) (mark : Bookmark) → mark.offset < length volume → is_end volume mark ≡ false
unfolding is_end
not_end volume mark h =
    let d : mark.offset ≡ length volume → ⊥ = λ e. omega arith in
    rw (ne_eqb mark.offset (length volume) d, and-false, and-false)

module _ (volume : List ℕ) (mark : Bookmark) (block : Block) (small : length volume ≤ volume_limit) (base : 80 ≤ mark.offset) (allowed : Allowed mark block) where
  -- a block that stands there and is allowed passes the checks
  no_fault : mark.offset < length volume → Reads volume mark.offset block → kind_at volume mark.offset ≡ kind_of block
      → time_of_block (block_at volume mark.offset) ≡ time_of block → read_fault volume mark ≡ 0
  unfolding read_fault
  no_fault more r kind time =
      let offset : ℕ = mark.offset in
      let known : unknown_id (id_at volume offset) ≡ false = rw r.id (kind_known (kind_of block)).1 in
      let place : wrong_place mark.due (id_at volume offset) ≡ false
      = rw r.id (place_right mark.due (is_table block) allowed.place) in
      let own : first_fault (kind_order (kind_at volume offset) volume offset) ≡ 0 = rw kind r.no_fault in
      let later : not (may_follow mark.last (time_of_block (block_at volume offset))) ≡ false
      = rw time (ap not (may_follow_lem mark.last (time_of block) allowed.time)) in
      none-append (block_order volume offset mark.due) _ (block_numbered volume offset mark.due)
      (passed_block volume offset mark.due
      (record { small = small; base = base; more = more; known = known; place = place; own = own }))
      (sym (decided (miss later (miss (lt-leb _ _ allowed.counted) clear))))

  pub read_complete : (rest : List ℕ) → drop mark.offset volume ≡ image block ++ rest → Hands volume mark block
  unfolding read_answer
  read_complete rest e =
      let offset : ℕ = mark.offset in
      let r : Reads volume offset block = block_complete block volume offset rest allowed.keeps e in
      let kind : kind_at volume offset ≡ kind_of block = ap kind_with r.id ∙ (kind_known (kind_of block)).0 in
      let l = sym (length-drop offset volume) ∙ ap length e ∙ length-append (image block) rest in
      let more : offset < length volume = omega (arith, l, length-image block) in
      let same : shown volume (block_at volume offset) ≡ block = rw kind r.same in
      let time : time_of_block (block_at volume offset) ≡ time_of block = same_time volume (block_at volume offset) ∙ ap time_of same in
      let end : body_end (kind_at volume offset) volume offset + 4 ≡ offset + length (image block) = rw kind r.end in
      record {
        answer = rw (not_end volume mark more, no_fault more r kind time);
        same = same;
        next = ap₂ (λ end time. mark_after mark end time) end time;
      }

-- "end".

pub record AtEnd (volume : List ℕ) (mark : Bookmark) : Type 0 where
  pub small : length volume ≤ volume_limit
  pub base : 80 ≤ mark.offset
  pub offset : mark.offset ≡ length volume
  pub none_due : mark.due ≡ false

pub end_sound : (volume : List ℕ) (mark : Bookmark) → read_answer volume mark ≡ Ok None → AtEnd volume mark
unfolding is_end
end_sound volume mark e = go (answers volume mark) e
  where
    go : {a : ReadAnswer} → Answers volume mark a → a ≡ Ok None → AtEnd volume mark
    go (ends p) q =
        let c = (and-eq-true_iff (leb (length volume) volume_limit) _).0 p in
        let d = (and-eq-true_iff (leb 80 mark.offset) _).0 c.1 in
        let f = (and-eq-true_iff (eqb mark.offset (length volume)) _).0 d.1 in
        record {
          small = leb-true _ _ c.0;
          base = leb-true _ _ d.0;
          offset = eqb-true _ _ f.0;
          none_due = not-true _ f.1;
        }
    go (finds p f) q = let z : ◌≡◌ {A = ℕ} 0 1 = cc in absurd (omega arith)
    go (refuses p f) q = let z : ◌≡◌ {A = ℕ} 0 1 = cc in absurd (omega arith)

pub end_complete : (volume : List ℕ) (mark : Bookmark) → AtEnd volume mark → read_answer volume mark ≡ Ok None
unfolding read_answer is_end
end_complete volume mark p =
    rw (
      le-leb (length volume) volume_limit p.small,
      le-leb 80 mark.offset p.base,
      eq-eqb mark.offset (length volume) p.offset,
      p.none_due,
    )
