-- What stands in a buffer below a bookmark while blocks are appended: a header and blocks, each allowed at the bookmark before it.
-- An accepted append adds one block, and that happens exactly where the rules allow the block. Assumes nothing.
use Prim.Native.Nat.{ℕ, zero, suc, ◌+◌, ◌≤◌}
use mathlib.Core.Path.{◌≡◌, refl, sym, ap, ◌∙◌, subst}
use mathlib.Core.Bool.{false}
use mathlib.Core.List.{List, [], ◌∷◌, ◌++◌, append_assoc, append-nil}
use native.Mathlib.Nat.{zero-add}
use native.Mathlib.Omega.{arith}
use lib.ListN.{length, take, drop, length-append}
use lib.Seq.{length-take-le, take_at}
use Rattle.number.specs.Number.{put}
use Rattle.number.proofs.Put.{put_fits, length-put}
use Rattle.format.specs.Extents.{top}
use Rattle.format.specs.Blocks.{Block, image}
use Rattle.format.specs.Headers.{header_image, HeaderRules}
use Rattle.format.specs.Readings.{Reading, TableRule, Keeps, images, volume_of}
use Rattle.block.specs.Order.{volume_limit}
use Rattle.volume.specs.Heading.{first_mark}
use Rattle.volume.specs.declared.Bookmark.{Bookmark}
use Rattle.volume.proofs.OneCall.{Allowed, after}
use Rattle.claims.specs.Demand3.{extended, Permits, NoTableDue}
use Rattle.claims.proofs.Appending.{Admitted}
use Rattle.claims.proofs.Walk.{Runs, after_all, number_after, few_blocks, runs_volume, volume_runs}

-- Blocks one after the other, and one more.

-- each block is allowed at the bookmark before it
abbrev pub Follow : Bookmark → List Block → Type 0
Follow mark [] = Unit {0}
Follow mark (block ∷ blocks) = Allowed mark block × Follow (after mark block) blocks

pub follow_runs : (mark : Bookmark) (blocks : List Block) → Follow mark blocks → (after_all mark blocks).due ≡ false → Runs mark blocks
follow_runs mark [] f d = d
follow_runs mark (block ∷ blocks) f d = (f.0, follow_runs (after mark block) blocks f.1 d)

pub runs_follow : (mark : Bookmark) (blocks : List Block) → Runs mark blocks → Follow mark blocks
runs_follow mark [] r = tt
runs_follow mark (block ∷ blocks) r = (r.0, runs_follow (after mark block) blocks r.1)

follow_more : (mark : Bookmark) (blocks : List Block) (block : Block) → Follow mark blocks → Allowed (after_all mark blocks) block
    → Follow mark (blocks ++ (block ∷ []))
follow_more mark [] block f a = (a, tt)
follow_more mark (first ∷ blocks) block f a = (f.0, follow_more (after mark first) blocks block f.1 a)

follow_last : (mark : Bookmark) (blocks : List Block) (block : Block) → Follow mark (blocks ++ (block ∷ []))
    → Allowed (after_all mark blocks) block
follow_last mark [] block f = f.0
follow_last mark (first ∷ blocks) block f = follow_last (after mark first) blocks block f.1

after_more : (mark : Bookmark) (blocks : List Block) (block : Block)
    → after_all mark (blocks ++ (block ∷ [])) ≡ after (after_all mark blocks) block
after_more mark [] block = refl
after_more mark (first ∷ blocks) block = after_more (after mark first) blocks block

pub images_more : (blocks others : List Block) → images (blocks ++ others) ≡ images blocks ++ images others
unfolding images
images_more [] others = refl
images_more (block ∷ blocks) others =
    ap (λ rest. image block ++ rest) (images_more blocks others) ∙ sym (append_assoc (image block) (images blocks) (images others))

pub volume_more : (sofar : Reading) (blocks : List Block) → volume_of (extended sofar blocks) ≡ volume_of sofar ++ images blocks
unfolding volume_of
volume_more sofar blocks =
    ap (λ rest. header_image sofar.header ++ rest) (images_more sofar.blocks blocks)
    ∙ sym (append_assoc (header_image sofar.header) (images sofar.blocks) (images blocks))

image_alone : (block : Block) → images (block ∷ []) ≡ image block
unfolding images
image_alone block = append-nil (image block)

-- the offset after blocks
pub offset_after : (mark : Bookmark) (blocks : List Block) → (after_all mark blocks).offset ≡ mark.offset + length (images blocks)
unfolding images
offset_after mark [] = omega arith
offset_after mark (block ∷ blocks) =
    omega (arith, offset_after (after mark block) blocks, length-append (image block) (images blocks))

-- The buffer.

-- the bookmark after the header
abbrev pub start_of : Reading → Bookmark
start_of reading = first_mark reading.header.sequence

pub record Sofar (buffer : List ℕ) (mark : Bookmark) (sofar : Reading) : Type 0 where
  pub header : HeaderRules sofar.header
  pub follow : Follow (start_of sofar) sofar.blocks
  pub mark_after_lem : mark ≡ after_all (start_of sofar) sofar.blocks
  pub base : 80 ≤ mark.offset
  pub room : mark.offset ≤ length buffer
  pub small : mark.offset ≤ volume_limit
  pub same : take mark.offset buffer ≡ volume_of sofar

-- what a write leaves below its end
pub take-written : (buffer : List ℕ) (offset : ℕ) (new : List ℕ) → offset + length new ≤ length buffer
    → take (offset + length new) (put buffer offset new) ≡ take offset buffer ++ new
take-written buffer offset new h =
    let front : List ℕ = take offset buffer ++ new in
    let rest : List ℕ = drop (offset + length new) buffer in
    let l : length front ≡ offset + length new
    = length-append (take offset buffer) new ∙ ap (λ (n : ℕ). n + length new) (length-take-le offset buffer (omega arith)) in
    ap (take (offset + length new)) (put_fits buffer offset new h ∙ sym (append_assoc (take offset buffer) new rest))
    ∙ take_at front rest (offset + length new) l

-- the bookmark has counted the blocks
pub sofar_counted : (buffer : List ℕ) (mark : Bookmark) (sofar : Reading) → Sofar buffer mark sofar → mark.number ≡ length sofar.blocks
sofar_counted buffer mark sofar s =
    ap (λ (m : Bookmark). m.number) s.mark_after_lem ∙ number_after (start_of sofar) sofar.blocks ∙ zero-add (length sofar.blocks)

-- with no table due, the header and blocks are a reading
pub sofar_keeps : (buffer : List ℕ) (mark : Bookmark) (sofar : Reading) → Sofar buffer mark sofar → mark.due ≡ false → Keeps sofar
sofar_keeps buffer mark sofar s d =
    let due = ap (λ (m : Bookmark). m.due) (sym s.mark_after_lem) ∙ d in
    let k = runs_volume sofar.header.sequence sofar.blocks (follow_runs (start_of sofar) sofar.blocks s.follow due) in
    record { header = s.header; each = k.0; table = k.1; times = k.2 }

-- and no table is due where they keep the rule on tables
due_after_lem : (sequence : ℕ) (blocks : List Block) → TableRule sequence blocks → (after_all (first_mark sequence) blocks).due ≡ false
due_after_lem zero [] rule = refl
due_after_lem (suc n) [] rule = absurd rule
due_after_lem sequence (block ∷ blocks) rule = later (after (first_mark sequence) block) blocks refl
  where
    later : (mark : Bookmark) (others : List Block) → mark.due ≡ false → (after_all mark others).due ≡ false
    later mark [] d = d
    later mark (other ∷ others) d = later (after mark other) others refl

pub none_due : (buffer : List ℕ) (mark : Bookmark) (sofar : Reading) → Sofar buffer mark sofar → NoTableDue sofar → mark.due ≡ false
none_due buffer mark sofar s rule =
    ap (λ (m : Bookmark). m.due) s.mark_after_lem ∙ due_after_lem sofar.header.sequence sofar.blocks rule

pub keeps_follow : (reading : Reading) → Keeps reading → length (volume_of reading) ≤ volume_limit
    → Follow (start_of reading) reading.blocks
unfolding volume_of
keeps_follow reading k small =
    let l = length-append (header_image reading.header) (images reading.blocks) in
    let few : length reading.blocks ≤ top = omega (arith, few_blocks reading.blocks) in
    runs_follow (start_of reading) reading.blocks
    (volume_runs reading.header.sequence reading.blocks few (k.each, k.table, k.times))

module _ (buffer : List ℕ) (mark : Bookmark) (sofar : Reading) (block : Block) (s : Sofar buffer mark sofar) where
  longer : length (volume_of (extended sofar (block ∷ []))) ≡ mark.offset + length (image block)
  longer =
      let e : volume_of (extended sofar (block ∷ [])) ≡ take mark.offset buffer ++ image block
      = volume_more sofar (block ∷ []) ∙ rw (image_alone block, s.same) in
      ap length e ∙ length-append (take mark.offset buffer) (image block)
      ∙ ap (λ (n : ℕ). n + length (image block)) (length-take-le mark.offset buffer s.room)

  pub sofar_more : Admitted (length buffer) mark block
      → Sofar (put buffer mark.offset (image block)) (after mark block) (extended sofar (block ∷ []))
  sofar_more a =
      let fits : mark.offset + length (image block) ≤ length buffer = a.fits in
      let base : 80 ≤ mark.offset = s.base in
      record {
        header = s.header;
        follow = follow_more _ sofar.blocks block s.follow (subst (λ m. Allowed m block) s.mark_after_lem a.allowed);
        mark_after_lem = ap (λ (m : Bookmark). after m block) s.mark_after_lem ∙ sym (after_more _ sofar.blocks block);
        base = omega arith;
        room = omega (arith, length-put buffer mark.offset (image block));
        small = a.small;
        same =
            take-written buffer mark.offset (image block) fits
            ∙ rw s.same (sym (volume_more sofar (block ∷ []) ∙ rw (image_alone block)));
      }

  pub admitted_permits : Admitted (length buffer) mark block → Permits (length buffer) sofar block
  admitted_permits a =
      let l = longer in
      record {
        keeps = sofar_keeps _ (after mark block) (extended sofar (block ∷ [])) (sofar_more a) refl;
        with_room = rw l a.fits;
        within_size = rw l a.small;
      }

  pub permits_admitted : Permits (length buffer) sofar block → Admitted (length buffer) mark block
  permits_admitted p =
      let l = longer in
      let f = keeps_follow (extended sofar (block ∷ [])) p.keeps p.within_size in
      record {
        allowed = subst (λ m. Allowed m block) (sym s.mark_after_lem) (follow_last _ sofar.blocks block f);
        base = s.base;
        small = rw l at p.within_size;
        fits = rw l at p.with_room;
      }
