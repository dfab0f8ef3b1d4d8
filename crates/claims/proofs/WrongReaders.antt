-- Wrong readers and checks answer for some small volume what the claim does not allow. Where that needs an answer of ours, it comes
-- from the claim that ours meets. Assumes nothing.
use Rattle.std.specs.Prelude.{Option, Some, None, Ok, Err}
use Prim.Native.Nat.{ℕ}
use mathlib.Core.Path.{◌≡◌, refl, sym, ap, ◌∙◌}
use mathlib.Core.List.{List, []}
use native.Mathlib.Omega.{arith}
use lib.ListN.{length}
use Rattle.number.specs.Number.{le_bytes}
use Rattle.refusal.specs.Refusal.{refusal_of}
use Rattle.format.specs.Layout.{All, laid}
use Rattle.format.specs.Blocks.{link_image, link_list, Block, Inode, Link, Unlink, Xattr, RemovedXattr, Data, Rename, Table}
use Rattle.format.specs.Readings.{time_of}
use Rattle.checks.specs.Checks.{first_fault}
use Rattle.block.specs.inner.Decoded.{block_at}
use Rattle.block.specs.Shown.{shown}
use Rattle.block.specs.declared.Block as found
use Rattle.block.specs.declared.Block.TheVariants as kind
use Rattle.volume.specs.Heading.{header_fault, header_answer}
use Rattle.volume.specs.Reading.{read_answer}
use Rattle.volume.specs.declared.Bookmark.{Bookmark}
use Rattle.volume.specs.declared.Found.{Found}
use Rattle.volume.specs.Answers.{ReadAnswer}
use Rattle.volume.specs.declared.Rejected.{Rejected}
use Rattle.volume.specs.Answers.{Verdict}
use Rattle.claims.specs.Library.{ours}
use Rattle.claims.specs.Demand3Reading.{Calls, ended, handed, RefusedAt, at_the_header, at_a_block}
use Rattle.claims.specs.Demand3.{Demand3}
use Rattle.claims.specs.Wrong.{refuses_all, invents_blocks, seven_of, repeats_first, first_block, invents_blocks_before_faults, seven_before, hands_out_no_links, empty_part, without_length}
use Rattle.claims.proofs.Demand3.{demand_3_holds}
use Rattle.claims.proofs.Tried.{bare, bare_keeps, of_reading, whole, of_bare, two_given, tabled, tabled_header, link_bytes, tabled_keeps, tabled_small}

-- It has a reading, so it may not be refused.
pub refuses_all_lem : Demand3 refuses_all → ⊥
refuses_all_lem claim =
    let accepted = (of_bare refuses_all claim).reading.accepted_iff_it_has_a_reading.1 (bare, whole bare bare_keeps) in
    let e = accepted.1 in
    let z : ◌≡◌ {A = ℕ} 0 1 = cc in
    omega arith

-- It has no blocks, and not seven.
pub invents_blocks_lem : Demand3 invents_blocks → ⊥
invents_blocks_lem claim =
    let gives = ((of_bare ours demand_3_holds).reading.reader_gives_the_reading bare).0 (whole bare bare_keeps) in
    let right = (of_bare ours demand_3_holds).reading.check_answers_for_the_reading bare gives.0 gives.1 in
    let bent = ((of_bare invents_blocks claim).reading.reader_gives_the_reading bare).0 (whole bare bare_keeps) in
    let wrong = (of_bare invents_blocks claim).reading.check_answers_for_the_reading bare bent.0 bent.1 in
    let both = sym (ap seven_of right) ∙ wrong in
    let e : 7 ≡ bent.0.number = ap blocks both in
    omega (arith, bent.1.counted)
  where
    blocks : Verdict → ℕ
    blocks (Ok a) = a.end.number
    blocks (Err r) = r.blocks

-- An empty volume is refused at its header, after no block.
no_header : header_answer [] ≡ Err (refusal_of 2)
unfolding header_answer header_fault first_fault
no_header = refl

not_seven : (rejected : Rejected) → RefusedAt invents_blocks_before_faults [] rejected → rejected.blocks ≡ 7 → ⊥
not_seven rejected (at_the_header e) seven = omega arith
not_seven rejected (at_a_block e stops) seven =
    let f = no_header in
    let z : ◌≡◌ {A = ℕ} 0 1 = cc in
    omega arith

pub invents_blocks_before_faults_lem : Demand3 invents_blocks_before_faults → ⊥
invents_blocks_before_faults_lem claim =
    let right : ours.check [] ≡ Err (record { refusal = refusal_of 2; offset = 0; blocks = 0 })
    = (demand_3_holds.refused_volumes [] _).1 (at_the_header no_header) in
    not_seven _ ((claim.refused_volumes [] _).0 (ap seven_before right)) refl

-- Of two data blocks with two times, a reader that gives the first again gives one time twice.
same_block : (volume : List ℕ) (found : Found) (a : ReadAnswer) → first_block volume a ≡ Ok (Some found) → found.block ≡ block_at volume 80
same_block volume found (Ok (Some other)) e =
    let s : record { block = block_at volume 80; number = other.number; next = other.next } ≡ found = cc in
    ap (λ (f : Found). f.block) (sym s)
same_block volume found (Ok None) e = let z : ◌≡◌ {A = ℕ} 0 1 = cc in absurd (omega arith)
same_block volume found (Err refusal) e = let z : ◌≡◌ {A = ℕ} 0 1 = cc in absurd (omega arith)

all_the_first : {volume : List ℕ} {number : ℕ} {mark end : Bookmark} {blocks : List Block} → Calls repeats_first volume number mark blocks end
    → All (λ block. block ≡ shown volume (block_at volume 80)) blocks
all_the_first (ended e) = tt
all_the_first {volume} {mark = mark} (handed {found = found} e numbered calls) =
    (ap (shown volume) (same_block volume found (read_answer volume mark) e), all_the_first calls)

pub repeats_first_lem : Demand3 repeats_first → ⊥
repeats_first_lem claim =
    let gives = two_given 1 2 repeats_first claim (omega arith) (omega arith) in
    let same = all_the_first gives.1.blocks in
    let times : ◌≡◌ {A = Option ℕ} (Some 1) (Some 2) = ap time_of (same.0 ∙ sym same.1.0) in
    let z : ◌≡◌ {A = ℕ} 1 2 = cc in
    omega arith

-- how many bytes the links of a table have
links_length : Block → ℕ
links_length (Table b) = length b.links
links_length (Inode b) = 0
links_length (Link b) = 0
links_length (Unlink b) = 0
links_length (Xattr b) = 0
links_length (RemovedXattr b) = 0
links_length (Data b) = 0
links_length (Rename b) = 0

no_links : (volume : List ℕ) (b : found.Block) → links_length (shown volume (empty_part b)) ≡ 0
unfolding shown links_length
no_links volume (kind.Inode b) = refl
no_links volume (kind.Link b) = refl
no_links volume (kind.Unlink b) = refl
no_links volume (kind.Xattr b) = refl
no_links volume (kind.RemovedXattr b) = refl
no_links volume (kind.Data b) = refl
no_links volume (kind.Rename b) = refl
no_links volume (kind.Table b) = refl

none_found : (volume : List ℕ) (found : Found) (a : ReadAnswer) → without_length a ≡ Ok (Some found)
    → links_length (shown volume found.block) ≡ 0
none_found volume found (Ok (Some other)) e =
    let s : record { block = empty_part other.block; number = other.number; next = other.next } ≡ found = cc in
    rw (← ap (λ (f : Found). f.block) s) (no_links volume other.block)
none_found volume found (Ok None) e = let z : ◌≡◌ {A = ℕ} 0 1 = cc in absurd (omega arith)
none_found volume found (Err refusal) e = let z : ◌≡◌ {A = ℕ} 0 1 = cc in absurd (omega arith)

all_without_links : {volume : List ℕ} {number : ℕ} {mark end : Bookmark} {blocks : List Block} → Calls hands_out_no_links volume number mark blocks end
    → All (λ block. links_length block ≡ 0) blocks
all_without_links (ended e) = tt
all_without_links {volume} {mark = mark} (handed {found = found} e numbered calls) =
    (none_found volume found (read_answer volume mark) e, all_without_links calls)

pub hands_out_no_links_lem : Demand3 hands_out_no_links → ⊥
unfolding links_length link_list link_image laid le_bytes
hands_out_no_links_lem claim =
    let gives = ((of_reading hands_out_no_links tabled claim tabled_header (link_bytes, tt) tabled_small
    ).reading.reader_gives_the_reading tabled).0 (whole tabled tabled_keeps) in
    let none : ◌≡◌ {A = ℕ} 18 0 = (all_without_links gives.1.blocks).0 in
    omega arith
