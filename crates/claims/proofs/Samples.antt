-- Every row of the table of samples holds. The calls are computed from the definitions on the bytes of the volumes, but for the
-- checksum of a file's inode block: it is right because the image is sealed. Assumes nothing.
use Rattle.std.specs.Prelude.{Some, Ok, Err}
use Prim.Native.Nat.{ℕ, zero, suc, ◌+◌, ◌*◌, ◌/◌, ◌≤◌, ◌<◌, min}
use mathlib.Core.Path.{◌≡◌, refl, sym, ap, ◌∙◌}
use mathlib.Core.Bool.{true, false}
use mathlib.Core.List.{List, [], ◌∷◌, ◌++◌}
use native.Mathlib.Nat.{add-sub_cancel_left}
use native.Mathlib.Omega.{arith}
use lib.ListN.{length, take, drop}
use borrow.Author.Tests.{lt-ltb, le-ltb}
use Rattle.number.specs.Number.{le, le_bytes}
use Rattle.checks.specs.Checks.{Check, check, first_fault, hit, miss}
use Rattle.checks.specs.Scan.{any_below, first_below}
use Rattle.checks.proofs.Laws.{decided, fault_at}
use Rattle.checks.proofs.Tests.{eq_neb}
use Rattle.refusal.specs.Refusal.{refusal_of}
use Rattle.refusal.proofs.Laws.{with_other}
use Rattle.format.specs.Layout.{laid, sealed}
use Rattle.format.specs.Extents.{extent_list}
use Rattle.format.specs.Blocks.{inode_block, widths, fields, image}
use Rattle.format.specs.Headers.{header_fields, header_image}
use Rattle.format.specs.Readings.{images, volume_of}
use Rattle.format.proofs.Seal.{part_sealed}
use Rattle.extent.specs.Extents.{extent_at}
use Rattle.extent.specs.inner.Tests.{is_sound, some_broken, share_range, some_overlap}
use Rattle.block.specs.Fields.{kind_with, body_length, size_at, rest_at}
use Rattle.block.specs.Order.{volume_limit, checksum_wrong}
use Rattle.block.specs.inner.Decoded.{block_of}
use Rattle.block.specs.Shown.{shown}
use Rattle.volume.specs.Heading.{header_fault, header_answer}
use Rattle.volume.specs.Reading.{is_end, may_follow, read_order, read_fault, read_answer}
use Rattle.volume.specs.inner.Check.{after_header, check_answer}
use Rattle.volume.proofs.Steps.{found_at, refusal_read, found_read}
use Rattle.runs.specs.Positions.{keeps, copy_of, keeper}
use Rattle.runs.specs.inner.Stored.{stored_at}
use Rattle.runs.specs.Runs.{label}
use Rattle.runs.specs.inner.Computed.{joins, runs_of, run_lengths, run_numbers, range_numbers}
use Rattle.runs.proofs.Fill.{numbers_long}
use Rattle.lookup.specs.Lookup.{lengths_wrong, not_file, is_absent, some_absent, is_stray, some_stray, lookup_order, lookup_fault}
use Rattle.lookup.specs.inner.Answers.{position_answer}
use Rattle.lookup.specs.declared.Position.TheVariants.{PastEnd}
use Rattle.claims.specs.Demand2.{KeptBy}
use Rattle.claims.specs.Samples.{EveryRowHolds, Holds, read_refuses, position_is, runs_are, runs_refuse, File, inode, with_file, after_v, lengths, file_a, file_b, large, empty, touching, overlapping}
use Rattle.claims.proofs.Ranges.{room_enough, room_too_small}

-- fewer bytes than a header has, whatever they are
too_short : (volume : List ℕ) → length volume < 80
    → check_answer volume ≡ Err (record { refusal = refusal_of 2; offset = 0; blocks = 0 })
unfolding check_answer after_header header_answer header_fault
too_short volume h =
    let f : header_fault volume ≡ 2
    = sym (decided (miss (le-ltb volume_limit (length volume) (omega arith)) (hit (lt-ltb (length volume) 80 h)))) in
    let a : header_answer volume ≡ (Err (refusal_of 2)) = rw f in
    ap (after_header volume) a

-- a check that is not at fault may be left out
without : (k : ℕ) (checks : List Check) → fault_at k checks ≡ false → first_fault checks ≡ first_fault (take k checks ++ drop (suc k) checks)
unfolding first_fault
without zero [] e = refl
without zero (check fault number ∷ checks) e = rw e
without (suc k) [] e = refl
without (suc k) (check true number ∷ checks) e = refl
without (suc k) (check false number ∷ checks) e = without k checks e

-- the CRC of bytes that stand sealed is not wrong
seal_right : (volume bytes rest : List ℕ) (offset len : ℕ) → drop offset volume ≡ sealed bytes ++ rest → length bytes ≡ len
    → checksum_wrong volume offset (offset + len) ≡ false
unfolding checksum_wrong
seal_right volume bytes rest offset len e l = rw add-sub_cancel_left (eq_neb _ _ (part_sealed volume bytes rest offset len e l))

-- so that of a file's inode block is not: these bytes stand before it
abbrev content : File → List ℕ
content file = 1 ∷ laid (widths inode_block) (fields (inode file)) ++ extent_list file.extents

sum_right : (file : File) → checksum_wrong (with_file file) 104 (104 + length (content file)) ≡ false
unfolding volume_of images image header_image header_fields laid le_bytes sealed
sum_right file = seal_right (with_file file) (content file) [] 104 (length (content file)) refl refl

-- Each kind of row, from what is left to compute.

module _ (file : File) where
  abbrev volume : List ℕ
  volume = with_file file

  -- the checks of the inode block, but that of the checksum
  abbrev read_others : ℕ
  read_others = first_fault (take 8 (read_order volume after_v) ++ drop 9 (read_order volume after_v))

  module _ (more : is_end volume after_v ≡ false) (same : fault_at 8 (read_order volume after_v) ≡ checksum_wrong volume 104 (104 + length (content file))) where
    fault_is : read_fault volume after_v ≡ read_others
    unfolding read_fault
    fault_is = without 8 (read_order volume after_v) (same ∙ sum_right file)

    -- with a number that is above 10, so that it says nothing of a text
    read_refuses_lem : (number : ℕ) → read_others ≡ 11 + number → Holds (read_refuses file (11 + number))
    read_refuses_lem number e =
        sym (refusal_read volume after_v (11 + number) more (fault_is ∙ e) (λ z. omega arith) (with_other (11 + number) _ (λ z. omega arith)))

    read_gives_lem : read_others ≡ 0 → read_answer volume after_v ≡ Ok (Some (found_at volume after_v))
    read_gives_lem e = sym (found_read volume after_v more (fault_is ∙ e))

  -- the checks of a lookup, but that of the checksum
  abbrev lookup_others : ℕ
  lookup_others = first_fault (take 9 (lookup_order volume 104 lengths) ++ drop 10 (lookup_order volume 104 lengths))

  module _ (same : fault_at 9 (lookup_order volume 104 lengths) ≡ checksum_wrong volume 104 (104 + length (content file))) (none : lookup_others ≡ 0) where
    clear : lookup_fault volume 104 lengths ≡ 0
    unfolding lookup_fault
    clear = without 9 (lookup_order volume 104 lengths) (same ∙ sum_right file) ∙ none

    position_past : (position : ℕ) → size_at volume 104 ≤ position → Holds (position_is file position (Ok PastEnd))
    unfolding position_answer
    position_past position h = rw (clear, le-ltb position (size_at volume 104) h)

    module _ (from to : ℕ) where
      abbrev lens : List ℕ
      lens = run_lengths (rest_at volume 104) from (min to (size_at volume 104))

      runs_are_lem : (numbers : List ℕ) → range_numbers (rest_at volume 104) (size_at volume 104) from to ≡ numbers
          → Holds (runs_are file from to numbers)
      unfolding range_numbers
      runs_are_lem numbers e out h =
          let long : length (run_numbers (rest_at volume 104) from lens) ≡ 5 * length lens = numbers_long (rest_at volume 104) from lens in
          let n : length numbers ≡ 5 * length lens = ap length (sym e) ∙ long in
          let count : length numbers / 5 ≡ length lens = omega arith in
          let f = room_enough volume 104 lengths clear from to out (omega arith) in
          (rw count f.0, rw (← e, long) f.1)

      runs_refuse_lem : (room : ℕ) → room < 5 * length lens → Holds (runs_refuse file from to room 17)
      runs_refuse_lem room h out e = room_too_small volume 104 lengths clear from to out (rw e h)

row : {A B : Type 0} → A → B → A × B
row a b = (a, b)

pub every_row_holds : EveryRowHolds
unfolding volume_of images image header_image header_fields sealed laid le_bytes extent_list le first_fault any_below first_below
    kind_with body_length extent_at some_broken is_sound some_overlap share_range
    is_end may_follow block_of shown lengths_wrong not_file some_absent is_absent some_stray is_stray
    keeper keeps stored_at copy_of label joins runs_of run_lengths run_numbers range_numbers
every_row_holds =
    row (λ volume e. too_short volume (omega arith))
    (row (λ volume e. too_short volume (omega arith))
    (row refl
    (row (runs_are_lem (file_a 0) refl refl 0 3 _ refl)
    (row refl
    (row (runs_are_lem (file_a 2) refl refl 0 3 _ refl)
    (row (position_past (file_a 0) refl refl 3 (omega arith))
    (row refl
    (row (runs_are_lem file_b refl refl 0 14 _ refl)
    (row (runs_refuse_lem file_b refl refl 0 14 24 (omega arith))
    (row (read_refuses_lem (large 67) refl refl 0 refl)
    (row (read_refuses_lem (large 82) refl refl 0 refl)
    (row refl
    (row (refl, read_gives_lem (empty 67) refl refl refl)
    (row refl
    (row (refl, read_gives_lem (empty 82) refl refl refl)
    (row (refl, read_gives_lem touching refl refl refl)
    (row (read_refuses_lem overlapping refl refl 1 refl)
    tt)))))))))))))))))

-- File A keeps position 0, and file B does not keep it; no lookup in either is refused.
pub a_clear : lookup_fault (with_file (file_a 0)) 104 lengths ≡ 0
unfolding volume_of images image header_image header_fields sealed laid le_bytes extent_list le first_fault any_below
    kind_with body_length extent_at some_broken is_sound some_overlap share_range
    lengths_wrong not_file some_absent is_absent some_stray is_stray
a_clear = clear (file_a 0) refl refl

pub b_clear : lookup_fault (with_file file_b) 104 lengths ≡ 0
unfolding volume_of images image header_image header_fields sealed laid le_bytes extent_list le first_fault any_below
    kind_with body_length extent_at some_broken is_sound some_overlap share_range
    lengths_wrong not_file some_absent is_absent some_stray is_stray
b_clear = clear file_b refl refl

pub a_size : 0 < size_at (with_file (file_a 0)) 104
unfolding volume_of images image header_image header_fields sealed laid le_bytes extent_list le
a_size = omega arith

pub b_size : 0 < size_at (with_file file_b) 104
unfolding volume_of images image header_image header_fields sealed laid le_bytes extent_list le
b_size = omega arith

pub a_keeps : KeptBy (with_file (file_a 0)) 104 0 0
unfolding volume_of images image header_image header_fields sealed laid le_bytes extent_list le body_length extent_at
a_keeps =
    let one : 0 < 1 = omega arith in
    let low : 0 ≤ 0 = omega arith in
    let high : 0 < 3 = omega arith in
    (one, (low, high))

pub b_keeps_not : (index : ℕ) → KeptBy (with_file file_b) 104 0 index → ⊥
unfolding volume_of images image header_image header_fields sealed laid le_bytes extent_list le body_length extent_at
b_keeps_not zero kept = let low : 4 ≤ 0 = kept.1.0 in omega arith
b_keeps_not (suc index) kept = let one : suc index < 1 = kept.0 in omega arith
