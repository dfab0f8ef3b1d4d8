-- A refusal 10 is given where a check of a text is at fault, and then one of the block's texts is bad. Assumes nothing.
use Rattle.std.specs.Prelude.{Ok, Err}
use Prim.Native.Nat.{ℕ, ◌+◌, ◌≤◌}
use mathlib.Core.Path.{◌≡◌, refl, sym, ap, subst, ◌∙◌}
use mathlib.Core.Bool.{Bool, true, false, cond}
use mathlib.Core.List.{List, [], ◌∷◌, ◌++◌, append-nil}
use native.Mathlib.Omega.{arith}
use lib.Dec.{leb, eqb}
use lib.ListN.{length, take, drop, length-drop}
use borrow.Author.Tests.{ltb-false, eqb-true, eqb-false}
use Rattle.number.specs.Number.{Bytes}
use Rattle.number.proofs.Digits.{bytes_drop}
use Rattle.number.proofs.Parts.{part_stands}
use Rattle.checks.specs.Checks.{Check, check, first_fault}
use Rattle.checks.proofs.Laws.{gives, given, not_given}
use Rattle.checks.proofs.Passed.{Passed, reached, stays}
use Rattle.refusal.specs.Refusal.{refusal_of, refusal_at, refusal_with}
use Rattle.refusal.specs.inner.FirstBad.{first_bad}
use Rattle.refusal.specs.Refusal.{Refusal}
use Rattle.refusal.proofs.FirstBad.{some_bad_first}
use Rattle.format.specs.Blocks.{Kind, inode_block, link_block, unlink_block, xattr_block, removed_xattr_block, data_block, rename_block, link_table}
use Rattle.format.specs.Blocks.{id_of, link_list, TableFields, Block, Table, kind_of, image}
use Rattle.format.specs.Headers.{Header}
use Rattle.links.specs.Links.{link_start, links_from}
use Rattle.links.proofs.Lists.{length-links, list_of_links, links_fitting, start_of_list}
use Rattle.block.specs.Fields.{id_at, kind_at, fixed_length, field_at, body_length, body_end, rest_at}
use Rattle.block.specs.Order.{fixed_fields_cut, rest_cut, checksum_wrong, kind_order, block_order}
use Rattle.block.specs.Shown.{shown}
use Rattle.block.specs.inner.Decoded.{block_of, block_at}
use Rattle.block.proofs.Ids.{id_known, is_table}
use Rattle.block.proofs.Standing.{fields_fit}
use Rattle.block.proofs.KindComplete.{LinksFill}
use Rattle.block.proofs.BlockImage.{block_laid, image_shown}
use Rattle.texts.specs.Texts.{texts, texts_at}
use Rattle.texts.proofs.Joined.{block_texts, request_texts}
use Rattle.request.specs.Requests.{request_order}
use Rattle.volume.specs.Heading.{header_order, header_fault, first_mark, header_answer}
use Rattle.volume.specs.Reading.{read_fault, read_answer}
use Rattle.volume.specs.Checking.{CheckedFrom, accepted_at_the_end, refused_at_a_block, after_a_block, Checked, refused_at_the_header, after_the_header}
use Rattle.volume.specs.Writing.{place_order, append_fault, append_answer, write_order, write_fault, write_answer}
use Rattle.volume.specs.declared.Bookmark.{Bookmark}
use Rattle.volume.specs.declared.Rejected.{Rejected}
use Rattle.volume.specs.Answers.{HeaderAnswer}
use Rattle.volume.specs.Answers.{ReadAnswer}
use Rattle.volume.specs.Answers.{Verdict}
use Rattle.volume.proofs.Steps.{refusal_at as atMark, Answers, ends, finds, refuses, answers}
use Rattle.volume.proofs.HeaderImage.{HeaderAnswers, accepts, rejects, header_answers}
use Rattle.volume.proofs.Checked.{checked}
use Rattle.volume.proofs.OneCall.{after}
use Rattle.lookup.specs.Lookup.{lengths_wrong, not_file, extents_order, lookup_order, lookup_fault, runs_fault}
use Rattle.lookup.proofs.Refusals.{position_refusal, runs_refusal}
use Rattle.lookup.specs.inner.Answers.{position_answer, runs_answer}
use Rattle.listing.specs.Listing.{list_answer}
use Rattle.listing.specs.inner.Text.{listing}
use Rattle.claims.specs.Library.{ours}
use Rattle.claims.specs.BadText.{Says, a_bad_text, nothing, BadIn, ImageAt, BadAt, BadNowhere, BadTextClaim}
use Rattle.claims.proofs.AnyBookmark.{kind_shown}
use Rattle.claims.proofs.TextOrder.{texts_in_order}

-- what the refusal of a block with these texts says, if 10 is given only where one of them is bad
says : {Bad : (text start : ℕ) → Type 0} (number : ℕ) (texts : List (List ℕ))
    → (number ≡ 10 → Bad (first_bad texts).text (first_bad texts).start) → Says Bad (refusal_with number texts)
unfolding refusal_with
says {Bad} number texts bad = go (eqb number 10) refl
  where
    go : (t : Bool) → eqb number 10 ≡ t → Says Bad (cond t (refusal_at (first_bad texts)) (refusal_of number))
    go true e = a_bad_text (bad (eqb-true number 10 e))
    go false e = nothing (eqb-false number 10 e)

-- Blocks in a volume.

-- what 10 tells of a block beside its texts: it lies within the volume, and its CRC is right
record Reached (kind : Kind) (volume : List ℕ) (offset : ℕ) : Type 0 where
  fixed_fields : offset + fixed_length kind ≤ length volume
  whole : body_end kind volume offset + 4 ≤ length volume
  sum : checksum_wrong volume offset (body_end kind volume offset) ≡ false

module _ (kind : Kind) (volume : List ℕ) (offset : ℕ) where
  abbrev cut : Check
  cut = check (fixed_fields_cut kind volume offset) 2

  abbrev sealed : List Check
  sealed = check (rest_cut volume (body_end kind volume offset)) 2 ∷ check (checksum_wrong volume offset (body_end kind volume offset)) 5 ∷ []

  reached_by : fixed_fields_cut kind volume offset ≡ false → Passed sealed → Reached kind volume offset
  reached_by fixed p = record { fixed_fields = ltb-false _ _ fixed; whole = ltb-false _ _ p.0; sum = p.1.0 }

  -- a kind without a limit, and one with a limit
  plain : (others : List Check) → first_fault (cut ∷ sealed ++ others) ≡ 10 → Reached kind volume offset
  plain others e = let p = (reached 10 (cut ∷ sealed) others refl e).0 in reached_by p.0 p.1

  limited : (over : Bool) (others : List Check) → first_fault (cut ∷ check over 9 ∷ sealed ++ others) ≡ 10 → Reached kind volume offset
  limited over others e = let p = (reached 10 (cut ∷ check over 9 ∷ sealed) others refl e).0 in reached_by p.0 p.1.1

reaches : (kind : Kind) (volume : List ℕ) (offset : ℕ) → first_fault (kind_order kind volume offset) ≡ 10 → Reached kind volume offset
reaches inode_block volume offset = limited inode_block volume offset _ _
reaches link_block volume offset = plain link_block volume offset _
reaches unlink_block volume offset = plain unlink_block volume offset _
reaches xattr_block volume offset = plain xattr_block volume offset _
reaches removed_xattr_block volume offset = plain removed_xattr_block volume offset _
reaches data_block volume offset = plain data_block volume offset _
reaches rename_block volume offset = plain rename_block volume offset _
reaches link_table volume offset = limited link_table volume offset _ _

-- the bytes of a table that lies within the volume are exactly its links
table_fills : (volume : List ℕ) (offset : ℕ) → Bytes volume → body_end link_table volume offset ≤ length volume
    → (table : TableFields) → shown volume (block_of link_table volume offset) ≡ Table table
    → link_start table.links table.count ≡ length table.links
unfolding shown block_of body_length
table_fills volume offset b h table e =
    let links : List ℕ = drop (offset + fixed_length link_table) volume in
    let count : ℕ = field_at link_table "link count" volume offset in
    let bytes : Bytes links = bytes_drop (offset + fixed_length link_table) volume b in
    let within : link_start links count ≤ length links = omega (arith, length-drop (offset + fixed_length link_table) volume) in
    let start = start_of_list (links_from links 0 count) [] (links_fitting links bytes count within) in
    let fills : link_start (take (link_start links count) links) count ≡ length (take (link_start links count) links)
    = rw (append-nil (link_list (links_from links 0 count)), list_of_links links bytes count within, length-links links count) at start in
    let same : record { count = count; links = take (link_start links count) links } ≡ table = cc in
    subst (λ (t : TableFields). link_start t.links t.count ≡ length t.links) same fills

links_fill : (kind : Kind) (volume : List ℕ) (offset : ℕ) → Bytes volume → body_end kind volume offset ≤ length volume
    → LinksFill (shown volume (block_of kind volume offset))
links_fill kind volume offset b h table e =
    let k : kind ≡ link_table = sym (kind_shown kind volume offset) ∙ ap kind_of e in
    table_fills volume offset b (subst (λ (k : Kind). body_end k volume offset ≤ length volume) k h) table
    (subst (λ (k : Kind). shown volume (block_of k volume offset) ≡ Table table) k e)

module _ (volume : List ℕ) (offset : ℕ) (b : Bytes volume) where
  -- the block that stands there
  image_at : (kind : Kind) → id_at volume offset ≡ id_of kind → Reached kind volume offset
      → ImageAt volume offset (shown volume (block_of kind volume offset))
  image_at kind id r =
      let whole = r.whole in
      let l = block_laid kind volume offset b id r.fixed_fields whole r.sum in
      record {
        fit = rw (l.as_shown.same_kind, l.as_shown.same_fields) (fields_fit kind volume offset b);
        fill = links_fill kind volume offset b (omega arith);
        same = l.same;
      }

  -- and any block whose image stands there is shown there
  only_shown : (block : Block) → ImageAt volume offset block → block ≡ shown volume (block_at volume offset)
  only_shown block i =
      let there = part_stands volume (image block) offset (length (image block)) i.same in
      sym (image_shown block volume offset _ i.fit there b i.fill)

  -- 10 among the checks of a block, of which those after it know nothing
  bad_at : (due : Bool) (after : List Check) → gives 10 after ≡ false → first_fault (block_order volume offset due ++ after) ≡ 10
      → BadAt volume offset (first_bad (texts_at volume offset)).text (first_bad (texts_at volume offset)).start
  bad_at due after none e =
      let kind = kind_at volume offset in
      let p = reached 10 (take 5 (block_order volume offset due)) (kind_order kind volume offset ++ after) refl e in
      let own : first_fault (kind_order kind volume offset) ≡ 10 = stays 10 (kind_order kind volume offset) after (omega arith) none p.1 in
      let id : id_at volume offset ≡ id_of kind = sym (id_known (id_at volume offset) p.0.1.1.1.0) in
      let some = sym (block_texts kind volume offset) ∙ given 10 (kind_order kind volume offset) (omega arith) own in
      record {
        block = shown volume (block_at volume offset);
        stands = image_at kind id (reaches kind volume offset own);
        no_other = only_shown;
        bad = some_bad_first (texts_at volume offset) some;
      }

-- A header has no texts.

module _ (volume : List ℕ) {Bad : (text start : ℕ) → Type 0} where
  header_fault_says : Says Bad (refusal_of (header_fault volume))
  unfolding header_fault
  header_fault_says = nothing (not_given 10 (header_order volume) (omega arith) refl refl)

  header_says : (refusal : Refusal) → header_answer volume ≡ Err refusal → Says Bad refusal
  header_says refusal = go (header_answers volume)
    where
      go : {a : HeaderAnswer} → HeaderAnswers volume a → a ≡ Err refusal → Says Bad refusal
      go (accepts f) q = let z : ◌≡◌ {A = ℕ} 0 1 = cc in absurd (omega arith)
      go (rejects f) q = let same : refusal_of (header_fault volume) ≡ refusal = cc in subst (Says Bad) same header_fault_says

-- The calls on a block in a volume.

module _ (volume : List ℕ) (b : Bytes volume) where
  read_says : (mark : Bookmark) (refusal : Refusal) → read_answer volume mark ≡ Err refusal
      → Says (BadAt volume mark.offset) refusal
  unfolding read_fault
  read_says mark refusal = go (answers volume mark)
    where
      go : {a : ReadAnswer} → Answers volume mark a → a ≡ Err refusal → Says (BadAt volume mark.offset) refusal
      go (ends p) q = let z : ◌≡◌ {A = ℕ} 0 1 = cc in absurd (omega arith)
      go (finds p f) q = let z : ◌≡◌ {A = ℕ} 0 1 = cc in absurd (omega arith)
      go (refuses p f) q =
          let same : atMark volume mark ≡ refusal = cc in
          subst (Says (BadAt volume mark.offset)) same
          (says (read_fault volume mark) (texts_at volume mark.offset) (bad_at volume mark.offset b mark.due _ refl))

  -- the check refuses as the reading that it ends with, or as the header
  from_says : {sequence : ℕ} {mark : Bookmark} {answer : Verdict} → CheckedFrom volume sequence mark answer
      → (rejected : Rejected) → answer ≡ Err rejected → Says (BadAt volume rejected.offset) rejected.refusal
  from_says (accepted_at_the_end e) rejected q = let z : ◌≡◌ {A = ℕ} 0 1 = cc in absurd (omega arith)
  from_says {mark = mark} (refused_at_a_block {refusal = refusal} e) rejected q =
      let same : record { refusal = refusal; offset = mark.offset; blocks = mark.number } ≡ rejected = cc in
      subst (λ (r : Rejected). Says (BadAt volume r.offset) r.refusal) same (read_says mark refusal e)
  from_says (after_a_block e later) rejected q = from_says later rejected q

  checked_says : {answer : Verdict} → Checked volume answer
      → (rejected : Rejected) → answer ≡ Err rejected → Says (BadAt volume rejected.offset) rejected.refusal
  checked_says (refused_at_the_header {refusal = refusal} e) rejected q =
      let same : record { refusal = refusal; offset = 0; blocks = 0 } ≡ rejected = cc in
      subst (λ (r : Rejected). Says (BadAt volume r.offset) r.refusal) same (header_says volume refusal e)
  checked_says (after_the_header e later) rejected q = from_says later rejected q

  -- a lookup opens the file with the checks of the block, after that of the lengths
  lookup_bad : (offset : ℕ) (lengths : List ℕ) (after : List Check) → gives 10 after ≡ false
      → first_fault (lookup_order volume offset lengths ++ after) ≡ 10
      → BadAt volume offset (first_bad (texts_at volume offset)).text (first_bad (texts_at volume offset)).start
  lookup_bad offset lengths after none e =
      let block = block_order volume offset false in
      let file = check (not_file volume offset) 15 ∷ [] in
      let extents = extents_order lengths (rest_at volume offset) in
      let opened = (reached 10 (check (lengths_wrong lengths) 9 ∷ []) (((block ++ file) ++ extents) ++ after) refl e).1 in
      let own = stays 10 (block ++ file) extents (omega arith) refl (stays 10 ((block ++ file) ++ extents) after (omega arith) none opened) in
      bad_at volume offset b false file refl own

  position_says : (offset : ℕ) (lengths : List ℕ) (position : ℕ) (refusal : Refusal)
      → position_answer volume offset lengths position ≡ Err refusal → Says (BadAt volume offset) refusal
  unfolding lookup_fault
  position_says offset lengths position refusal e =
      subst (Says (BadAt volume offset)) (position_refusal volume offset lengths position refusal e)
      (says (lookup_fault volume offset lengths) (texts_at volume offset)
      (λ f. lookup_bad offset lengths [] refl (rw (append-nil (lookup_order volume offset lengths)) f)))

  runs_says : (offset : ℕ) (lengths : List ℕ) (from to room : ℕ) (refusal : Refusal)
      → runs_answer volume offset lengths from to room ≡ Err refusal → Says (BadAt volume offset) refusal
  unfolding runs_fault
  runs_says offset lengths from to room refusal e =
      subst (Says (BadAt volume offset)) (runs_refusal volume offset lengths from to room refusal e)
      (says (runs_fault volume offset lengths from to room) (texts_at volume offset) (lookup_bad offset lengths _ refl))

-- The writers and the listing.

-- 10 among the checks of an append is one of the block that it is asked for
append-bad : (room : ℕ) (mark : Bookmark) (block : Block) → append_fault room mark block ≡ 10
    → BadIn block (first_bad (texts block)).text (first_bad (texts block)).start
unfolding append_fault
append-bad room mark block e =
    let asked = (reached 10 (place_order mark (is_table block)) _ refl e).1 in
    let own : first_fault (request_order block) ≡ 10 = stays 10 (request_order block) _ (omega arith) refl asked in
    some_bad_first (texts block) (sym (request_texts block) ∙ given 10 (request_order block) (omega arith) own)

append-says : (room : ℕ) (mark : Bookmark) (block : Block) (refusal : Refusal)
    → append_answer room mark block ≡ Err refusal → Says (BadIn block) refusal
unfolding append_answer
append-says room mark block refusal = go (eqb (append_fault room mark block) 0)
  where
    go : (sound : Bool)
        → cond sound (Ok (after mark block)) (Err (refusal_with (append_fault room mark block) (texts block))) ≡ Err refusal
        → Says (BadIn block) refusal
    go true e = let z : ◌≡◌ {A = ℕ} 0 1 = cc in absurd (omega arith)
    go false e =
        let same : refusal_with (append_fault room mark block) (texts block) ≡ refusal = cc in
        subst (Says (BadIn block)) same (says (append_fault room mark block) (texts block) (append-bad room mark block))

write_says : (room : ℕ) (header : Header) (refusal : Refusal) → write_answer room header ≡ Err refusal → Says BadNowhere refusal
unfolding write_answer write_fault
write_says room header refusal = go (eqb (write_fault room header) 0)
  where
    go : (sound : Bool) → cond sound (Ok (first_mark header.sequence)) (Err (refusal_of (write_fault room header))) ≡ Err refusal
        → Says BadNowhere refusal
    go true e = let z : ◌≡◌ {A = ℕ} 0 1 = cc in absurd (omega arith)
    go false e =
        let same : refusal_of (write_fault room header) ≡ refusal = cc in
        subst (Says BadNowhere) same (nothing (not_given 10 (write_order room header) (omega arith) refl refl))

list_says : (room : ℕ) (volume : List ℕ) (refusal : Refusal) → ours.list room volume ≡ Err refusal → Says BadNowhere refusal
unfolding list_answer
list_says room volume refusal = go (leb (length (listing volume)) room)
  where
    go : (fits : Bool) → cond fits (Ok (length (listing volume))) (Err (refusal_of 17)) ≡ Err refusal → Says BadNowhere refusal
    go true e = let z : ◌≡◌ {A = ℕ} 0 1 = cc in absurd (omega arith)
    go false e = let same : refusal_of 17 ≡ refusal = cc in subst (Says BadNowhere) same (nothing (omega arith))

pub bad_text_holds : BadTextClaim ours
bad_text_holds =
    record {
      in_layout_order = texts_in_order;
      read = λ volume mark refusal b. read_says volume b mark refusal;
      check = λ volume rejected b. checked_says volume b (checked volume) rejected;
      position = λ volume offset lengths position refusal b. position_says volume b offset lengths position refusal;
      runs = λ volume offset lengths from to room refusal b. runs_says volume b offset lengths from to room refusal;
      append = append-says;
      read_header_lem = λ volume refusal. header_says volume refusal;
      write_header_lem = write_says;
      list = list_says;
    }
