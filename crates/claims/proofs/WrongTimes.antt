-- A reader that refuses a block at the last time gives no reading with two blocks at one time, and a writer that accepts a lower time
-- leaves blocks that are no reading. Assumes nothing.
use Rattle.std.specs.Prelude.{Option, Some, None, Ok, Err}
use Prim.Native.Nat.{ℕ, ◌+◌}
use mathlib.Core.Path.{◌≡◌, refl, sym, subst}
use mathlib.Core.Bool.{Bool, true, false, cond, false≢true}
use mathlib.Core.List.{List, [], ◌∷◌}
use native.Mathlib.Omega.{arith}
use lib.ListN.{length}
use Rattle.number.specs.Number.{Bytes}
use Rattle.refusal.specs.Refusal.{refusal_of}
use Rattle.format.specs.Blocks.{Block, image}
use Rattle.format.specs.Readings.{time_of}
use Rattle.block.specs.Shown.{shown}
use Rattle.request.proofs.Rules.{rules_sized}
use Rattle.volume.specs.Heading.{first_mark}
use Rattle.volume.specs.Reading.{last_with, read_answer}
use Rattle.volume.specs.Writing.{append_buffer}
use Rattle.volume.specs.declared.Bookmark.{Bookmark}
use Rattle.volume.specs.declared.Found.{Found}
use Rattle.volume.specs.Answers.{ReadAnswer}
use Rattle.volume.proofs.OneCall.{read_sound}
use Rattle.claims.specs.Demand3Reading.{Calls, ended, handed}
use Rattle.claims.specs.Demand3.{Judged, none_left, accepted, appends, Demand3}
use Rattle.claims.specs.Wrong.{is_last, greater_only, refuses_same_time, accepts_lower_time}
use Rattle.claims.proofs.Tried.{bare, bare_data, data_long, data_rules, data_appended, two_bytes, two_given, roomy, roomy_long, roomy_bytes, started}

-- The reader.

-- no block has the last time before it
abbrev OtherTimes : Option ℕ → List Block → Type 0
OtherTimes last [] = Unit {0}
OtherTimes last (block ∷ blocks) = (is_last last (time_of block) ≡ false) × OtherTimes (last_with last (time_of block)) blocks

-- what it hands out is what ours does, and not at the last time
module _ (volume : List ℕ) (mark : Bookmark) (found : Found) where
  not_last : (a : ReadAnswer) → greater_only volume mark a ≡ Ok (Some found)
      → (a ≡ Ok (Some found)) × (is_last mark.last (time_of (shown volume found.block)) ≡ false)
  not_last (Ok (Some other)) e = go (is_last mark.last (time_of (shown volume other.block))) refl e
    where
      go : (last : Bool) → is_last mark.last (time_of (shown volume other.block)) ≡ last
          → cond {A = ReadAnswer} last (Err (refusal_of 14)) (Ok (Some other)) ≡ Ok (Some found)
          → (◌≡◌ {A = ReadAnswer} (Ok (Some other)) (Ok (Some found))) × (is_last mark.last (time_of (shown volume found.block)) ≡ false)
      go true l e = let z : ◌≡◌ {A = ℕ} 0 1 = cc in absurd (omega arith)
      go false l e = let same : other ≡ found = cc in (e, subst (λ (f : Found). is_last mark.last (time_of (shown volume f.block)) ≡ false) same l)
  not_last (Ok None) e = let z : ◌≡◌ {A = ℕ} 0 1 = cc in absurd (omega arith)
  not_last (Err refusal) e = let z : ◌≡◌ {A = ℕ} 0 1 = cc in absurd (omega arith)

other_times : {volume : List ℕ} {number : ℕ} {mark end : Bookmark} {blocks : List Block} → Bytes volume
    → Calls refuses_same_time volume number mark blocks end → OtherTimes mark.last blocks
other_times b (ended e) = tt
other_times {volume} {mark = mark} b (handed {found = found} {blocks = blocks} e numbered calls) =
    let here = not_last volume mark found (read_answer volume mark) e in
    let next = (read_sound volume mark found b here.0).next in
    (here.1, subst (λ (m : Bookmark). OtherTimes m.last blocks) next (other_times b calls))

pub refuses_same_time_lem : Demand3 refuses_same_time → ⊥
refuses_same_time_lem claim =
    let gives = two_given 1 1 refuses_same_time claim (omega arith) (omega arith) in
    false≢true (sym (other_times (two_bytes 1 1) gives.1.blocks).1.0)

-- The writer.

-- a data block at 2 and then one at 1 are no reading
not_both : {room : ℕ} {first second : Bookmark} {blocks : List Block}
    → Judged room bare (bare_data 2 ∷ bare_data 1 ∷ []) ((Ok first) ∷ (Ok second) ∷ []) blocks → ⊥
not_both (accepted first (accepted second none_left)) = let lower = second.keeps.times.1.0 in omega arith

pub accepts_lower_time_lem : Demand3 accepts_lower_time → ⊥
unfolding appends
accepts_lower_time_lem claim =
    let list = claim.lists_of_appends roomy (first_mark 0) bare (bare_data 2 ∷ bare_data 1 ∷ []) roomy_bytes
    (rules_sized (bare_data 2) (data_rules 2 (omega arith)), (rules_sized (bare_data 1) (data_rules 1 (omega arith)), tt))
    (started accepts_lower_time claim refl) in
    let first = data_appended roomy 80 0 2 (omega arith) (omega arith) (omega (arith, roomy_long)) (omega arith) (omega arith) in
    let buffer : List ℕ = append_buffer roomy (first_mark 0) (bare_data 2) in
    let second = data_appended buffer (80 + length (image (bare_data 2))) 1 1 (omega arith) (omega arith)
    (omega (arith, data_long 2, first.1, roomy_long)) (omega (arith, data_long 2)) (omega arith) in
    not_both (rw (first.0, second.0) at list.each_accepted_exactly_if_allowed)
