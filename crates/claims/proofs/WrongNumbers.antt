-- Readers that number blocks from 1 or do not count a table, and appends that do not count, give other numbers than the claim has.
-- Assumes nothing.
use Rattle.std.specs.Prelude.{Some, None, Ok, Err}
use Prim.Native.Nat.{ℕ, suc}
use mathlib.Core.Path.{◌≡◌, refl, sym, ap, ◌∙◌}
use mathlib.Core.Bool.{true}
use mathlib.Core.List.{List, [], ◌∷◌}
use native.Mathlib.Omega.{arith}
use lib.ListN.{length}
use borrow.Author.Tests.{lt-ltb}
use Rattle.format.specs.Blocks.{Block}
use Rattle.format.specs.Readings.{volume_of}
use Rattle.request.proofs.Rules.{rules_sized}
use Rattle.volume.specs.Heading.{first_mark}
use Rattle.volume.specs.Reading.{read_answer}
use Rattle.volume.specs.declared.Bookmark.{Bookmark}
use Rattle.volume.specs.declared.Found.{Found}
use Rattle.volume.specs.Answers.{ReadAnswer}
use Rattle.claims.specs.LastNumber.{numbered}
use Rattle.claims.specs.Demand3Reading.{Calls, ended, handed}
use Rattle.claims.specs.Demand3.{Judged, none_left, accepted, appends, Demand3}
use Rattle.claims.specs.Wrong.{one_higher, numbers_from_one, same_after_table, counts_no_table, counts_no_append}
use Rattle.claims.proofs.Demand3Reading.{first_given}
use Rattle.claims.proofs.Tried.{bare, bare_data, data_rules, data_appended, whole, of_reading, two_given, tabled, tabled_header, link_bytes, tabled_keeps, tabled_small, roomy, roomy_long, roomy_bytes, started}

-- No block has the number 0.
never_zero : (found : Found) (a : ReadAnswer) → one_higher a ≡ Ok (Some found) → found.number ≡ 0 → ⊥
never_zero found (Ok (Some other)) e zero =
    let s : record { block = other.block; number = suc other.number; next = other.next } ≡ found = cc in
    let n : suc other.number ≡ found.number = ap (λ (f : Found). f.number) s in
    omega arith
never_zero found (Ok None) e zero = let z : ◌≡◌ {A = ℕ} 0 1 = cc in omega arith
never_zero found (Err refusal) e zero = let z : ◌≡◌ {A = ℕ} 0 1 = cc in omega arith

none_first : {volume : List ℕ} {mark end : Bookmark} {block : Block} {blocks : List Block} → Calls numbers_from_one volume 0 mark (block ∷ blocks) end → ⊥
none_first {volume} {mark} (handed {found = found} e zero calls) = never_zero found (read_answer volume mark) e zero

pub numbers_from_one_lem : Demand3 numbers_from_one → ⊥
numbers_from_one_lem claim = none_first (two_given 1 2 numbers_from_one claim (omega arith) (omega arith)).1.blocks

-- After a table the bookmark has the number that it had before.
same_number : (mark : Bookmark) (found : Found) (a : ReadAnswer) → mark.due ≡ true → same_after_table mark a ≡ Ok (Some found)
    → found.next.number ≡ mark.number
same_number mark found (Ok (Some other)) d e =
    let same = rw d at e in
    let s : record { block = other.block; number = other.number; next = numbered mark.number other.next } ≡ found = cc in
    sym (ap (λ (f : Found). f.next.number) s)
same_number mark found (Ok None) d e = let z : ◌≡◌ {A = ℕ} 0 1 = cc in absurd (omega arith)
same_number mark found (Err refusal) d e = let z : ◌≡◌ {A = ℕ} 0 1 = cc in absurd (omega arith)

one_table : {volume : List ℕ} {mark end : Bookmark} {block : Block} → Calls counts_no_table volume 0 mark (block ∷ []) end → mark.due ≡ true
    → end.number ≡ mark.number
one_table {volume} {mark} (handed {found = found} e zero (ended f)) d = same_number mark found (read_answer volume mark) d e

pub counts_no_table_lem : Demand3 counts_no_table → ⊥
counts_no_table_lem claim =
    let gives = ((of_reading counts_no_table tabled claim tabled_header (link_bytes, tt) tabled_small
    ).reading.reader_gives_the_reading tabled).0 (whole tabled tabled_keeps) in
    let first : first_mark 1 ≡ gives.1.first = first_given (volume_of tabled) _ gives.1.header in
    let due : gives.1.first.due ≡ true = sym (ap (λ (m : Bookmark). m.due) first) ∙ lt-ltb 0 1 (omega arith) in
    let none : gives.1.first.number ≡ 0 = sym (ap (λ (m : Bookmark). m.number) first) in
    omega (arith, one_table gives.1.blocks due, gives.1.counted)

-- An append that is accepted leaves the number as it was.
one_accepted : {room : ℕ} {block : Block} {next : Bookmark} {blocks : List Block}
    → Judged room bare (block ∷ []) ((Ok next) ∷ []) blocks → length blocks ≡ 1
one_accepted (accepted permits none_left) = refl

pub counts_no_append_lem : Demand3 counts_no_append → ⊥
unfolding appends
counts_no_append_lem claim =
    let list = claim.lists_of_appends roomy (first_mark 0) bare (bare_data 1 ∷ []) roomy_bytes
    (rules_sized (bare_data 1) (data_rules 1 (omega arith)), tt) (started counts_no_append claim refl) in
    let there = data_appended roomy 80 0 1 (omega arith) (omega arith) (omega (arith, roomy_long)) (omega arith) (omega arith) in
    let one = one_accepted (rw there.0 at list.each_accepted_exactly_if_allowed) in
    let none : 0 ≡ length list.blocks = rw there.0 at list.counted in
    omega arith
