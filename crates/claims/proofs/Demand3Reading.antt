-- Demand 3 on reading holds: a volume's reading, the reader's calls and the check are each got from the others. Assumes nothing.
use Rattle.std.specs.Prelude.{Ok}
use Prim.Native.Nat.{ℕ, ◌+◌, ◌≤◌}
use mathlib.Core.Path.{◌≡◌, refl, sym, ap, ap₂, ◌∙◌, subst}
use mathlib.Core.List.{List, ◌++◌}
use native.Mathlib.Nat.{zero-add}
use native.Mathlib.Omega.{arith}
use lib.ListN.{length, length-append, take-append-drop}
use Rattle.number.specs.Number.{Bytes}
use Rattle.number.proofs.Parts.{drop_past}
use Rattle.format.specs.Blocks.{Block}
use Rattle.format.specs.Headers.{Header, header_image}
use Rattle.format.specs.Readings.{Reading, Keeps, images, volume_of, ReadingOf, HasReading}
use Rattle.volume.specs.Heading.{header_bytes, sequence_of, header_fault, first_mark, header_answer}
use Rattle.volume.specs.Checking.{Checked, refused_at_the_header, after_the_header}
use Rattle.volume.specs.inner.Check.{check_answer}
use Rattle.volume.specs.declared.Bookmark.{Bookmark}
use Rattle.volume.specs.declared.Accepted.{Accepted}
use Rattle.volume.specs.declared.HeaderRead.{HeaderRead}
use Rattle.volume.specs.Answers.{HeaderAnswer}
use Rattle.volume.specs.Answers.{Verdict}
use Rattle.volume.proofs.HeaderImage.{header_at, HeaderStands, header_sound, length-header, HeaderShown, header_complete}
use Rattle.volume.proofs.HeaderImage.{given_at, HeaderAnswers, accepts, rejects, header_answers}
use Rattle.volume.proofs.Checked.{checked, checked_exactly}
use Rattle.claims.specs.Library.{ours}
use Rattle.claims.specs.Demand3Reading.{Calls, ReaderGives, IsAccepted, Demand3Reading}
use Rattle.claims.proofs.Walk.{after_all, number_after, few_blocks, runs_volume, volume_runs}
use Rattle.claims.proofs.Reader.{Read, calls_sound, calls_complete, check_complete, Told, told, calls_same}

-- an accepted header has no fault, and it is answered with what stands in it
pub header_given : (volume : List ℕ) (given : HeaderRead) → header_answer volume ≡ Ok given
    → (header_fault volume ≡ 0) × (given_at volume ≡ given)
header_given volume given = go (header_answers volume)
  where
    go : {a : HeaderAnswer} → HeaderAnswers volume a → a ≡ Ok given
        → (header_fault volume ≡ 0) × (given_at volume ≡ given)
    go (accepts f) e = (f, cc)
    go (rejects f) e = let z : ◌≡◌ {A = ℕ} 0 1 = cc in absurd (omega arith)

-- so the reader begins at the first bookmark
pub first_given : (volume : List ℕ) (given : HeaderRead) → header_answer volume ≡ Ok given → first_mark given.sequence ≡ given.next
first_given volume given e = subst (λ (a : HeaderRead). first_mark a.sequence ≡ a.next) (header_given volume given e).1 refl

-- what the reader gives is the header that stands there, and the blocks of the calls from the bookmark after it
pub record Given (volume : List ℕ) (reading : Reading) (end : Bookmark) : Type 0 where
  pub no_fault : header_fault volume ≡ 0
  pub same_header : header_at volume ≡ reading.header
  pub calls : Calls ours volume 0 (first_mark (sequence_of volume)) reading.blocks end

pub given : (volume : List ℕ) (reading : Reading) (end : Bookmark) → ReaderGives ours volume reading end → Given volume reading end
given volume reading end g =
    let h = header_given volume _ g.header in
    let sequence : sequence_of volume ≡ reading.header.sequence = ap (λ a. a.sequence) h.1 in
    let mark : first_mark (sequence_of volume) ≡ g.first = ap (λ a. a.next) h.1 in
    let id : header_bytes "file system ID" volume ≡ reading.header.id = rw h.0 at g.id in
    let previous : header_bytes "previous hash" volume ≡ reading.header.previous = rw h.0 at g.previous in
    record {
      no_fault = h.0;
      same_header = λ i. record { id = id i; sequence = sequence i; previous = previous i };
      calls = rw mark g.blocks;
    }

-- blocks that the calls give after an accepted header, with the header that stands there, are a reading
header_and_calls : (volume : List ℕ) (blocks : List Block) (end : Bookmark) → Bytes volume → header_fault volume ≡ 0
    → Calls ours volume 0 (first_mark (sequence_of volume)) blocks end
    → ReadingOf volume (record { header = header_at volume; blocks = blocks })
unfolding volume_of
header_and_calls volume blocks end b f calls =
    let h : HeaderStands volume = header_sound volume b f in
    let r : Read volume (first_mark (sequence_of volume)) blocks = calls_sound b calls in
    let k = runs_volume (sequence_of volume) blocks r.runs in
    record {
      keeps = record { header = h.rules; each = k.0; table = k.1; times = k.2 };
      bytes = ap₂ ◌++◌ (sym h.image) (sym r.same) ∙ take-append-drop 80 volume;
    }

-- what the reader gives is a reading
pub gives_reading : (volume : List ℕ) (reading : Reading) (end : Bookmark) → Bytes volume → ReaderGives ours volume reading end
    → ReadingOf volume reading
gives_reading volume reading end b g =
    let h : Given volume reading end = given volume reading end g in
    subst (λ header. ReadingOf volume (record { header = header; blocks = reading.blocks })) h.same_header
    (header_and_calls volume reading.blocks end b h.no_fault h.calls)

-- and a reading is what it gives
pub reading_gives : (volume : List ℕ) (reading : Reading) → length volume ≤ 16777216 → ReadingOf volume reading
    → ReaderGives ours volume reading (after_all (first_mark reading.header.sequence) reading.blocks)
unfolding volume_of header_answer
reading_gives volume reading small r =
    let header : Header = reading.header in
    let k : Keeps reading = r.keeps in
    let e : volume ≡ header_image header ++ images reading.blocks = sym r.bytes in
    let h : HeaderShown volume header = header_complete volume header (images reading.blocks) k.header small e in
    let s : sequence_of volume ≡ header.sequence = ap (λ a. a.sequence) h.shown in
    let l : length (header_image header) ≡ 80 = length-header header k.header in
    let long : length volume ≡ length (header_image header) + length (images reading.blocks)
    = ap length e ∙ length-append (header_image header) (images reading.blocks) in
    record {
      first = first_mark header.sequence;
      header = rw (h.no_fault, s);
      id = rw h.no_fault (ap (λ a. a.id) h.shown);
      previous = rw h.no_fault (ap (λ a. a.previous) h.shown);
      blocks =
          calls_complete volume (first_mark header.sequence) reading.blocks small (omega arith) (omega arith)
          (volume_runs header.sequence reading.blocks (omega (arith, few_blocks reading.blocks)) (k.each, k.table, k.times))
          (drop_past volume (header_image header) (images reading.blocks) 0 80 e l);
      counted = number_after (first_mark header.sequence) reading.blocks ∙ zero-add (length reading.blocks);
    }

-- the check ends where the reader does
pub check_answers : (volume : List ℕ) (reading : Reading) (end : Bookmark) → ReaderGives ours volume reading end
    → check_answer volume ≡ Ok (record { sequence = reading.header.sequence; end = end })
check_answers volume reading end g =
    sym ((checked_exactly volume _).0 (after_the_header g.header (check_complete reading.header.sequence g.blocks)))

-- and its number of blocks is that of the reading
check_counts : (volume : List ℕ) (reading : Reading) (answer : Accepted) → length volume ≤ 16777216 → ReadingOf volume reading
    → check_answer volume ≡ Ok answer → answer.end.number ≡ length reading.blocks
check_counts volume reading answer small r e =
    let end : Bookmark = after_all (first_mark reading.header.sequence) reading.blocks in
    let g : ReaderGives ours volume reading end = reading_gives volume reading small r in
    let right = check_answers volume reading end g in
    let same : record { sequence = reading.header.sequence; end = end } ≡ answer = cc in
    sym (ap (λ (a : Accepted). a.end.number) same) ∙ g.counted

-- where the check accepts, the reader comes to "end", so there is a reading
accepted_reading : (volume : List ℕ) → Bytes volume → IsAccepted ours volume → HasReading volume
accepted_reading volume b a = go (checked volume) a.1
  where
    go : {answer : Verdict} → Checked volume answer → answer ≡ Ok a.0 → HasReading volume
    go (refused_at_the_header e) same = let z : ◌≡◌ {A = ℕ} 0 1 = cc in absurd (omega arith)
    go (after_the_header {header = header} e later) same =
        let h = header_given volume header e in
        let t : Told volume header.next (Ok a.0) = subst (Told volume header.next) same (told later) in (
          record { header = header_at volume; blocks = t.0 },
          header_and_calls volume t.0 a.0.end b h.0
              (subst (λ g. Calls ours volume g.next.number g.next t.0 a.0.end) (sym h.1) t.1),
        )

-- both readings are what the reader gives
one_reading : (volume : List ℕ) → length volume ≤ 16777216 → (a b : Reading) → ReadingOf volume a → ReadingOf volume b → a ≡ b
one_reading volume small a b p q =
    let g = given volume a _ (reading_gives volume a small p) in
    let h = given volume b _ (reading_gives volume b small q) in
    let header : a.header ≡ b.header = sym g.same_header ∙ h.same_header in
    let blocks : a.blocks ≡ b.blocks = calls_same g.calls h.calls in
    λ i. record { header = header i; blocks = blocks i }

pub demand_3_reading_holds : Demand3Reading ours
demand_3_reading_holds volume b small =
    record {
      accepted_iff_it_has_a_reading =
          (accepted_reading volume b, λ r. (_, check_answers volume r.0 _ (reading_gives volume r.0 small r.1)));
      one_reading = one_reading volume small;
      reader_gives_the_reading =
          λ reading. ((λ r. (_, reading_gives volume reading small r)), λ g. gives_reading volume reading g.0 b g.1);
      check_answers_for_the_reading = check_answers volume;
      check_counts_the_blocks = λ reading answer r e. check_counts volume reading answer small r e;
    }
