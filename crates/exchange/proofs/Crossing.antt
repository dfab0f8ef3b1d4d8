-- Every answer crosses the boundary whole. A refusal has the number of a fault, and is given only where that is not 0; the other
-- answers are told apart by the fields of each. Assumes nothing.
use Rattle.std.specs.Prelude.{Some, None, Ok, Err, Option}
use Prim.Native.Nat.{ℕ}
use mathlib.Core.Path.{◌≡◌, refl, sym, ap, ap₂, ◌∙◌}
use mathlib.Core.Logic.{◌↔◌}
use mathlib.Core.Bool.{Bool, true, false, cond}
use mathlib.Core.List.{List}
use native.Mathlib.Omega.{arith}
use lib.Dec.{eqb}
use borrow.Author.Tests.{ne_eqb}
use Rattle.number.specs.Number.{Bytes}
use Rattle.refusal.specs.Refusal.{refusal_of, refusal_with, Refusal}
use Rattle.refusal.proofs.Laws.{with_number}
use Rattle.format.specs.Blocks.{Block as Asked, TableLink, LinksOf}
use Rattle.format.specs.Headers.{Header}
use Rattle.format.specs.declared.Extent.{Extent}
use Rattle.extent.specs.Extents.{extent_at}
use Rattle.links.specs.Links.{link_from}
use Rattle.links.specs.Walked.{Walked, none_left as ended, handed}
use Rattle.links.specs.declared.Link.{Link as LinkPlace}
use Rattle.links.proofs.Tables.{links_shown, links_fill_bytes}
use Rattle.links.proofs.Walks.{walked_to_the_end}
use Rattle.block.specs.Fields.{kind_with, bytes_of}
use Rattle.block.specs.inner.Decoded.{block_at}
use Rattle.block.specs.Shown.{shown}
use Rattle.block.specs.declared.TableBlock.{TableBlock}
use Rattle.block.specs.declared.Block.{Block}
use Rattle.block.specs.declared.Block.TheVariants.{Inode, Link, Unlink, Xattr, RemovedXattr, Data, Rename, Table}
use Rattle.texts.specs.Texts.{texts, texts_at}
use Rattle.volume.specs.Heading.{sequence_of, header_fault, first_mark, header_answer}
use Rattle.volume.specs.Reading.{read_fault, next_mark, read_answer}
use Rattle.volume.specs.inner.Check.{check_answer}
use Rattle.volume.specs.Writing.{write_fault, write_answer, append_fault, append_answer}
use Rattle.volume.specs.declared.Bookmark.{Bookmark}
use Rattle.volume.specs.declared.Found.{Found}
use Rattle.volume.specs.Answers.{HeaderAnswer, ReadAnswer, Verdict, WriteAnswer}
use Rattle.volume.proofs.Whole.{header-length}
use Rattle.volume.proofs.Steps.{refusal_at, Answers, ends, finds, refuses, answers}
use Rattle.volume.proofs.HeaderImage.{HeaderAnswers, accepts, rejects, header_answers}
use Rattle.volume.proofs.Verdicts.{EndsWell, check_ends_well}
use Rattle.volume.proofs.TableLinks.{table_rules}
use Rattle.chain.specs.Pairing.{follows, paired, pair_answer}
use Rattle.chain.specs.Answers.{Pairing}
use Rattle.repair.specs.Repairing.{repair_answer}
use Rattle.repair.specs.Answers.{RepairAnswer}
use Rattle.tree.specs.Listing.{tree_answer}
use Rattle.tree.specs.Answers.{TreeAnswer}
use Rattle.tree.proofs.Answers.{RefusedByNumber as TreeRefused, tree_refused_by_number}
use Rattle.repair.proofs.Refusals.{RefusedByNumber as RepairRefused, repair_refused_by_number}
use Rattle.lookup.specs.inner.Answers.{position_answer, runs_answer}
use Rattle.lookup.specs.Lookup.{runs_fault}
use Rattle.lookup.proofs.Refusals.{RefusedByNumber, position_refused_by_number}
use Rattle.lookup.specs.Answers.{PositionAnswer}
use Rattle.exchange.specs.Marks.{flag_number, timed_number, time_number, bookmark_of}
use Rattle.exchange.specs.Checking.{check_numbers}
use Rattle.exchange.specs.Blocks.{found_numbers}
use Rattle.exchange.specs.Walking.{heading_numbers, block_numbers, link_numbers, extent_numbers}
use Rattle.exchange.specs.Places.{place_numbers, run_count_numbers}
use Rattle.exchange.specs.Writing.{written_numbers}
use Rattle.exchange.specs.Pairs.{pair_numbers}
use Rattle.exchange.specs.Repairs.{repair_numbers}
use Rattle.exchange.specs.Trees.{line_numbers}
use Rattle.exchange.specs.inner.Back.{header_back, block_with, found_back, read_back, check_back, written_back}
use Rattle.exchange.specs.inner.Back.{position_back, runs_back, link_back, extent_back, pair_back, repair_back, tree_back}
use Rattle.exchange.specs.Crossing.{Crosses, FieldTold, LinksTold, none_left, told, TableTold, without_blocks, Crossing}
use Rattle.digests.proofs.Crossing.{state_comes_back, state_kept, new_sized, lent_state_sized, bytes_come_back}
use Rattle.chain.specs.declared.PairFault.TheVariants.{FirstRefused, SecondRefused, DoesNotFollow}
use Rattle.lookup.specs.declared.Position.TheVariants.{Hole, PastEnd, Stored}

-- A bookmark that goes out as five numbers is the same bookmark when these come back.
pub bookmark_comes_back : (mark : Bookmark)
    → bookmark_of mark.offset (flag_number mark.due) (timed_number mark.last) (time_number mark.last) mark.number ≡ mark
bookmark_comes_back mark = go mark.offset mark.due mark.last mark.number
  where
    go : (offset : ℕ) (due : Bool) (last : Option ℕ) (number : ℕ)
        → bookmark_of offset (flag_number due) (timed_number last) (time_number last) number
        ≡ record { offset = offset; due = due; last = last; number = number }
    go offset true None number = refl
    go offset true (Some time) number = refl
    go offset false None number = refl
    go offset false (Some time) number = refl

-- what crosses whichever way a test goes crosses
either : {A : Type 0} (around : A → A) (test : Bool) (one other : A)
    → around one ≡ one → (test ≡ false → around other ≡ other) → around (cond test one other) ≡ cond test one other
either around true one other p q = p
either around false one other p q = q refl

-- a refusal is told by the number of its fault, which is not 0
told_by : {fault : ℕ} (refusal : Refusal) → refusal.number ≡ fault → eqb fault 0 ≡ false → eqb refusal.number 0 ≡ false
told_by refusal n f = rw n f

-- The header, the blocks and the check.

header_crosses : (volume : List ℕ) → Crosses heading_numbers header_back (header_answer volume)
unfolding header_back heading_numbers
header_crosses volume = go (header_answers volume)
  where
    go : {a : HeaderAnswer} → HeaderAnswers volume a → Crosses heading_numbers header_back a
    go (accepts f) =
        ap (λ next. (Ok (record { sequence = sequence_of volume; next = next })))
        (bookmark_comes_back (first_mark (sequence_of volume)))
    go (rejects f) = rw (ne_eqb (header_fault volume) 0 f)

-- a header that is not refused has 80 bytes
fields_told : (volume : List ℕ) → (heading_numbers (header_answer volume)).refusal ≡ 0
    → FieldTold "file system ID" volume (heading_numbers (header_answer volume)).id
    × FieldTold "previous hash" volume (heading_numbers (header_answer volume)).previous
unfolding heading_numbers
fields_told volume = go (header_answers volume)
  where
    go : {a : HeaderAnswer} → HeaderAnswers volume a → (heading_numbers a).refusal ≡ 0
        → FieldTold "file system ID" volume (heading_numbers a).id × FieldTold "previous hash" volume (heading_numbers a).previous
    go (accepts f) e =
        let long = header-length volume f in
        (record { same = rw f; within = omega arith }, record { same = rw f; within = omega arith })
    go (rejects f) e = absurd (f e)

-- the fields of each kind are among the numbers
block_comes_back : (block : Block) (number : ℕ) (next : Bookmark) → (found_back (found_numbers block number next)).block ≡ block
unfolding found_numbers shown kind_with block_with
block_comes_back (Inode b) number next = refl
block_comes_back (Link b) number next = refl
block_comes_back (Unlink b) number next = refl
block_comes_back (Xattr b) number next = refl
block_comes_back (RemovedXattr b) number next = refl
block_comes_back (Data b) number next = refl
block_comes_back (Rename b) number next = refl
block_comes_back (Table b) number next = refl

read_crosses : (volume : List ℕ) (mark : Bookmark) → Crosses block_numbers read_back (read_answer volume mark)
unfolding read_back block_numbers found_numbers
read_crosses volume mark = go (answers volume mark)
  where
    go : {a : ReadAnswer} → Answers volume mark a → Crosses block_numbers read_back a
    go (ends p) = refl
    go (finds p f) =
        ap₂ (λ block next. (Ok (Some (record { block = block; number = mark.number; next = next }))))
        (block_comes_back (block_at volume mark.offset) mark.number (next_mark volume mark)) (bookmark_comes_back (next_mark volume mark))
    go (refuses p f) = rw (told_by (refusal_at volume mark) (with_number (read_fault volume mark) _) (ne_eqb (read_fault volume mark) 0 f))

check_crosses : (verdict : Verdict) → EndsWell verdict → Crosses check_numbers check_back verdict
unfolding check_back check_numbers
check_crosses (Ok a) none_due =
    ap (λ end. (Ok (record { sequence = a.sequence; end = end })))
    (ap (λ due. bookmark_of a.end.offset (flag_number due) (timed_number a.end.last) (time_number a.end.last) a.end.number) (sym none_due)
    ∙ bookmark_comes_back a.end)
check_crosses (Err r) fault = rw (ne_eqb r.refusal.number 0 fault)

-- The writers.

written_crosses : (fault : ℕ) (refusal : Refusal) → refusal.number ≡ fault → (mark : Bookmark) (answer : WriteAnswer)
    → answer ≡ cond (eqb fault 0) (Ok mark) (Err refusal)
    → Crosses written_numbers written_back answer
unfolding written_back written_numbers
written_crosses fault refusal n mark answer e =
    rw e
    (either (λ a. written_back (written_numbers a)) (eqb fault 0) (Ok mark) (Err refusal)
    (ap (λ m. Ok m) (bookmark_comes_back mark)) (λ f. rw (told_by refusal n f)))

write_crosses : (room : ℕ) (header : Header) → Crosses written_numbers written_back (write_answer room header)
unfolding write_answer
write_crosses room header =
    written_crosses (write_fault room header) (refusal_of (write_fault room header)) refl (first_mark header.sequence) (write_answer room header) refl

append-crosses : (room : ℕ) (mark : Bookmark) (block : Asked) → Crosses written_numbers written_back (append_answer room mark block)
unfolding append_answer
append-crosses room mark block =
    written_crosses (append_fault room mark block) (refusal_with (append_fault room mark block) (texts block))
    (with_number (append_fault room mark block) (texts block)) _ (append_answer room mark block) refl

-- Positions and runs.

position_crosses : (answer : PositionAnswer) → RefusedByNumber answer → Crosses place_numbers position_back answer
unfolding position_back place_numbers
position_crosses (Ok Hole) n = refl
position_crosses (Ok PastEnd) n = refl
position_crosses (Ok (Stored place)) n = refl
position_crosses (Err refusal) n = rw (ne_eqb refusal.number 0 n)

runs_cross : (volume : List ℕ) (offset : ℕ) (lengths : List ℕ) (from to room : ℕ)
    → Crosses run_count_numbers runs_back (runs_answer volume offset lengths from to room)
unfolding runs_answer runs_back run_count_numbers
runs_cross volume offset lengths from to room =
    let fault : ℕ = runs_fault volume offset lengths from to room in
    let refusal : Refusal = refusal_with fault (texts_at volume offset) in
    either (λ a. runs_back (run_count_numbers a)) (eqb fault 0) _ (Err refusal) refl
    (λ f. rw (told_by refusal (with_number fault (texts_at volume offset)) f))

-- Extents, and the links of a table.

extent_crosses : (e : Extent) → Crosses extent_numbers extent_back e
unfolding extent_back extent_numbers
extent_crosses e = refl

link_crosses : (answer : Option LinkPlace) → Crosses link_numbers link_back answer
unfolding link_back link_numbers
link_crosses (Some link) = refl
link_crosses None = refl

links_told : {links : List ℕ} {at : ℕ} {list : List TableLink} → Walked links at list → LinksTold links at list
unfolding link_numbers
links_told (ended e) = none_left (ap (λ a. (link_numbers a).missing) e)
links_told (handed e others) = told (ap link_numbers e) refl (links_told others)

-- a table that is read is told by its fields
table_told : (volume : List ℕ) (mark : Bookmark) (found : Found) (table : TableBlock)
    → read_answer volume mark ≡ Ok (Some found) → found.block ≡ Table table
    → (of : LinksOf table.count (bytes_of volume table.links))
    → TableTold volume (block_numbers (read_answer volume mark)) of.links
unfolding block_numbers found_numbers shown
table_told volume mark found table e t of =
    let bytes : List ℕ = bytes_of volume table.links in
    rw (e, t)
    (record {
      a_table = refl;
      count = sym of.stated;
      in_order = links_told (rw (links_shown of) at (walked_to_the_end bytes table.count (links_fill_bytes of)));
    })

table_crosses : (volume : List ℕ) (mark : Bookmark) (found : Found) (table : TableBlock) → Bytes volume
    → read_answer volume mark ≡ Ok (Some found) → found.block ≡ Table table
    → (of : LinksOf table.count (bytes_of volume table.links))
    × TableTold volume (block_numbers (read_answer volume mark)) of.links
table_crosses volume mark found table b e t =
    let of = table_rules volume mark found table b e t in
    (of, table_told volume mark found table e t of)

-- The check of a pair.

pair_crosses : (answer : Pairing) → pair_back (pair_numbers answer) ≡ without_blocks answer
unfolding pair_back pair_numbers
pair_crosses (Ok tt) = refl
pair_crosses (Err (FirstRefused r)) = refl
pair_crosses (Err (SecondRefused r)) = refl
pair_crosses (Err DoesNotFollow) = refl

told_accepted : (first second : Verdict) (following : Bool) → EndsWell first → EndsWell second
    → (pair_numbers (paired first second following)).refusal ≡ 0 → paired first second following ≡ Ok tt
unfolding pair_numbers paired
told_accepted (Err r) second following f g e = absurd (f e)
told_accepted (Ok a) (Err r) following f g e = absurd (g e)
told_accepted (Ok a) (Ok b) true f g e = refl
told_accepted (Ok a) (Ok b) false f g e = absurd (omega (arith, e))

pair_refused : (first second : List ℕ) → ((pair_numbers (pair_answer first second)).refusal ≡ 0) ↔ (pair_answer first second ≡ Ok tt)
unfolding pair_answer pair_numbers
pair_refused first second = (
  told_accepted (check_answer first) (check_answer second) (follows first second) (check_ends_well first) (check_ends_well second),
  λ e. ap (λ (answer : Pairing). (pair_numbers answer).refusal) e,
)

-- Repair.

repair_crosses : (answer : RepairAnswer) → RepairRefused answer → Crosses repair_numbers repair_back answer
unfolding repair_back repair_numbers
repair_crosses (Ok n) h = refl
repair_crosses (Err refusal) h = rw (ne_eqb refusal.number 0 h)

tree_crosses : (answer : TreeAnswer) → TreeRefused answer → Crosses line_numbers tree_back answer
unfolding tree_back line_numbers
tree_crosses (Ok n) h = refl
tree_crosses (Err refusal) h = rw (ne_eqb refusal.number 0 h)

pub everything_crosses : Crossing
everything_crosses =
    record {
      bookmark = bookmark_comes_back;
      header = header_crosses;
      header_parts = fields_told;
      read = read_crosses;
      check = λ volume. check_crosses (check_answer volume) (check_ends_well volume);
      write_header_lem = write_crosses;
      append = append-crosses;
      position =
          λ volume offset lengths at.
          position_crosses (position_answer volume offset lengths at) (position_refused_by_number volume offset lengths at);
      runs = runs_cross;
      extent = λ list index. extent_crosses (extent_at list index);
      link = λ links at. link_crosses (link_from links at);
      table_links_lem = table_crosses;
      state = state_comes_back;
      state_kept = state_kept;
      new_state = new_sized;
      lent_state = λ lent b h. (lent_state_sized lent b h, bytes_come_back lent b h);
      pair = λ first second. pair_crosses (pair_answer first second);
      pair_refused = pair_refused;
      repair = λ volume. repair_crosses (repair_answer volume) (repair_refused_by_number volume);
      tree = λ volume mark root room. tree_crosses (tree_answer volume mark root room) (tree_refused_by_number volume mark root room);
    }
