-- A reading at any bookmark: what one call of the reader tells, and what it answers where a block stands. Assumes nothing.
use Rattle.std.specs.Prelude.{Some, Ok}
use Prim.Native.Nat.{ℕ, ◌+◌}
use mathlib.Core.Path.{◌≡◌, refl, sym, ap, ◌∙◌, subst}
use mathlib.Core.Bool.{Bool, true, false}
use mathlib.Core.Logic.{◌↔◌}
use mathlib.Core.List.{List, ◌++◌}
use lib.ListN.{length, take, drop}
use lib.Seq.{take_at}
use Rattle.number.specs.Number.{Bytes}
use Rattle.number.proofs.Parts.{part_stands}
use Rattle.format.specs.Blocks.{Kind, inode_block, link_block, unlink_block, xattr_block, removed_xattr_block, data_block, rename_block, link_table}
use Rattle.format.specs.Blocks.{Block, kind_of, image}
use Rattle.format.specs.Readings.{IsTable, time_of}
use Rattle.block.specs.Fields.{kind_at, fixed_length}
use Rattle.block.specs.Shown.{shown, parts}
use Rattle.block.specs.inner.Decoded.{block_of}
use Rattle.block.proofs.Ids.{is_table, table_iff}
use Rattle.volume.specs.Reading.{read_answer}
use Rattle.volume.specs.declared.Bookmark.{Bookmark}
use Rattle.volume.specs.declared.Found.{Found}
use Rattle.volume.proofs.Steps.{found_at, found_there}
use Rattle.volume.proofs.OneCall.{Allowed, after, HandedOut, read_sound, Hands, read_complete, end_sound, end_complete}
use Rattle.claims.specs.Library.{ours}
use Rattle.claims.specs.AnyBookmark.{NextAfter, Stands, InARow, HandedClaim, AnyBookmark}
use Rattle.claims.proofs.Walk.{last_after_lem}

-- a table where one is due, said by the bookmark's flag and by the kind
pub due_table : (due : Bool) (block : Block) → due ≡ is_table block → (due ≡ true) ↔ IsTable block
due_table due block e = (λ d. (table_iff block).0 (sym e ∙ d), λ t. e ∙ (table_iff block).1 t)

same_flag : (due table : Bool) → ((due ≡ true) → table ≡ true) → ((table ≡ true) → due ≡ true) → due ≡ table
same_flag true table f g = sym (f refl)
same_flag false true f g = g refl
same_flag false false f g = refl

pub table_due_lem : (due : Bool) (block : Block) → ((due ≡ true) ↔ IsTable block) → due ≡ is_table block
table_due_lem due block i = same_flag due (is_table block) (λ d. (table_iff block).1 (i.0 d)) (λ t. i.1 ((table_iff block).0 t))

-- the bookmark after a block is what is claimed of it
pub next_after : (mark : Bookmark) (block : Block) → NextAfter mark block (after mark block)
next_after mark block = record { offset = refl; none_due = refl; last = last_after_lem mark.last (time_of block); number = refl }

-- the parts of each kind stand after its fixed fields, one after the other
places : (kind : Kind) (volume : List ℕ) (offset : ℕ) → InARow (offset + fixed_length kind) (parts (block_of kind volume offset))
unfolding block_of
places inode_block volume offset = (refl, tt)
places link_block volume offset = (refl, tt)
places unlink_block volume offset = (refl, tt)
places xattr_block volume offset = (refl, (refl, tt))
places removed_xattr_block volume offset = (refl, tt)
places data_block volume offset = (refl, tt)
places rename_block volume offset = (refl, (refl, tt))
places link_table volume offset = (refl, tt)

pub kind_shown : (kind : Kind) (volume : List ℕ) (offset : ℕ) → kind_of (shown volume (block_of kind volume offset)) ≡ kind
unfolding shown block_of
kind_shown inode_block volume offset = refl
kind_shown link_block volume offset = refl
kind_shown unlink_block volume offset = refl
kind_shown xattr_block volume offset = refl
kind_shown removed_xattr_block volume offset = refl
kind_shown data_block volume offset = refl
kind_shown rename_block volume offset = refl
kind_shown link_table volume offset = refl

module _ (volume : List ℕ) (mark : Bookmark) (b : Bytes volume) where
  places_here : InARow (mark.offset + fixed_length (kind_of (shown volume (found_at volume mark).block))) (parts (found_at volume mark).block)
  places_here =
      let kind : Kind = kind_at volume mark.offset in
      rw (kind_shown kind volume mark.offset) (places kind volume mark.offset)

  handed : (found : Found) → read_answer volume mark ≡ Ok (Some found) → HandedClaim ours volume mark found
  handed found e =
      let p : HandedOut volume mark found = read_sound volume mark found b e in
      let block : Block = shown volume found.block in
      record {
        stands = record {
          small = p.small;
          in_place = record { after_the_header = p.base; a_table_where_due = due_table mark.due block p.allowed.place };
          keeps = p.allowed.keeps;
          time = p.allowed.time;
          countable = p.allowed.counted;
          image_there =
              ap (λ bytes. take (length (image block)) bytes) p.same ∙ take_at (image block) (drop found.next.offset volume) (length (image block)) refl;
        };
        places =
            subst (λ (f : Found). InARow (mark.offset + fixed_length (kind_of (shown volume f.block))) (parts f.block))
            (found_there volume mark found e) places_here;
        number = p.number;
        next = rw p.next (next_after mark block);
      }

  stands_handed : (block : Block) → Stands volume mark block
      → (found : Found) × (read_answer volume mark ≡ Ok (Some found)) × (shown volume found.block ≡ block)
  stands_handed block s =
      let allowed : Allowed mark block
      = record {
        place = table_due_lem mark.due block s.in_place.a_table_where_due;
        keeps = s.keeps;
        time = s.time;
        counted = s.countable;
      } in
      let rest : List ℕ = drop (mark.offset + length (image block)) volume in
      let there : drop mark.offset volume ≡ image block ++ rest
      = part_stands volume (image block) mark.offset (length (image block)) s.image_there in
      let h : Hands volume mark block = read_complete volume mark block s.small s.in_place.after_the_header allowed rest there in
      (found_at volume mark, h.answer, h.same)

pub read_at_any_bookmark : AnyBookmark ours
read_at_any_bookmark volume mark b =
    record {
      handed_out = handed volume mark b;
      wherever_it_stands = stands_handed volume mark b;
      at_the_end = (
        λ e. let p = end_sound volume mark e in (p.small, p.base, p.offset, p.none_due),
        λ p. end_complete volume mark (record { small = p.0; base = p.1; offset = p.2; none_due = p.3 }),
      );
    }
