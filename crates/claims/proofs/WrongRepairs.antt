-- Wrong repairs answer for small volumes what the claim does not allow: for a torn append another length than before it, for a damaged
-- block and for a missing table a length at all. Assumes nothing.
use Rattle.std.specs.Prelude.{Ok, Err}
use Prim.Native.Nat.{ℕ, ◌≤◌}
use mathlib.Core.Path.{◌≡◌, refl, sym, ap}
use mathlib.Core.Bool.{false}
use mathlib.Core.List.{List, [], ◌∷◌, ◌++◌, append-nil}
use native.Mathlib.Omega.{arith}
use lib.ListN.{length, take, replicate, length-append}
use lib.Seq.{length-take-le, take_all}
use Rattle.number.specs.Number.{Bytes, le, le_bytes}
use Rattle.number.proofs.Digits.{bytes-append}
use Rattle.checks.specs.Checks.{first_fault}
use Rattle.crc32.specs.Crc.{bits, reversed, polynomial, bit_step, byte_step, register, crc}
use Rattle.refusal.specs.Refusal.{refusal_of, refusal_with}
use Rattle.format.specs.Layout.{laid, sealed}
use Rattle.format.specs.Blocks.{Block, image}
use Rattle.format.specs.Headers.{Header, HeaderRules, header_fields, header_image}
use Rattle.format.specs.Readings.{Reading, Keeps, volume_of}
use Rattle.block.specs.Fields.{kind_with, body_length}
use Rattle.block.specs.Order.{checksum_wrong}
use Rattle.texts.specs.Texts.{texts_at}
use Rattle.request.proofs.Rules.{rules_sized}
use Rattle.volume.specs.Heading.{sequence_of, first_mark, header_answer}
use Rattle.volume.specs.Reading.{is_end, may_follow, read_fault}
use Rattle.volume.specs.Checking.{refused_at_a_block, after_the_header}
use Rattle.volume.specs.inner.Check.{check_answer}
use Rattle.volume.specs.declared.Bookmark.{Bookmark}
use Rattle.volume.specs.declared.Rejected.{Rejected}
use Rattle.volume.proofs.Steps.{refusal_read}
use Rattle.volume.proofs.HeaderImage.{HeaderShown, header_complete}
use Rattle.volume.proofs.Checked.{checked_exactly}
use Rattle.volume.proofs.OneCall.{Allowed, after}
use Rattle.repair.specs.Answers.{RepairAnswer}
use Rattle.claims.specs.Library.{ours}
use Rattle.claims.specs.Samples.{first}
use Rattle.claims.specs.Demand3Reading.{Calls, ended, handed, at_a_block}
use Rattle.claims.specs.Torn.{TornAppend, TornClaim, Repairs, RepairClaim}
use Rattle.claims.specs.Torn as Torn
use Rattle.claims.specs.Wrong.{leaves_all, leaves_header, drops_damaged, drops_table, damaged_for_cut, tells_damage}
use Rattle.claims.proofs.Appending.{admitted_appended}
use Rattle.claims.proofs.Walk.{after_all}
use Rattle.claims.proofs.Bytes.{all_small, small_bytes, header_bytes_lem, volume_bytes}
use Rattle.claims.proofs.Chained.{accepted}
use Rattle.claims.proofs.Demand3Reading.{reading_gives}
use Rattle.claims.proofs.Refused.{refused_volumes}
use Rattle.claims.proofs.Torn.{torn_refused}
use Rattle.claims.proofs.Repaired.{torn_tested}
use Rattle.claims.proofs.Tried.{bare, first_rules, bare_keeps, bare_long, whole, bare_data, data_long, data_rules, tabled, tabled_header, one, one_keeps, one_bytes, one_long, roomy, roomy_long}

-- Volumes with a torn append.

module _ (reading : Reading) (keeps : Keeps reading) (b : Bytes (volume_of reading)) (short : length (volume_of reading) ≤ 101) where
  abbrev end : Bookmark
  end = after_all (first_mark reading.header.sequence) reading.blocks

  -- a data block of which only the first byte was stored
  abbrev torn : List ℕ
  torn = volume_of reading ++ take 1 (image (bare_data 1))

  torn-append : (80 ≤ end.offset) → end.offset ≤ 101 → Allowed end (bare_data 1) → TornAppend ours (volume_of reading) reading torn
  torn-append base low allowed =
      let small : length (volume_of reading) ≤ 16777216 = omega arith in
      let is_reading = whole reading keeps in
      record {
        end = end;
        accepted = accepted (volume_of reading) reading b small is_reading;
        read = reading_gives (volume_of reading) reading small is_reading;
        room = length roomy;
        block = bare_data 1;
        sized = rules_sized (bare_data 1) (data_rules 1 (omega arith));
        next = after end (bare_data 1);
        appended =
            (admitted_appended roomy end (bare_data 1)
            (record { allowed = allowed; base = base; small = omega (arith, data_long 1); fits = omega (arith, data_long 1, roomy_long) })).0;
        stored = 1;
        some = omega arith;
        not_all = omega (arith, data_long 1);
        same = refl;
      }

-- The header alone is torn at its first block.
bare_bytes : Bytes (volume_of bare)
bare_bytes = volume_bytes bare first_rules tt

bare_torn : TornAppend ours (volume_of bare) bare (torn bare bare_keeps bare_bytes (omega (arith, bare_long)))
bare_torn =
    torn-append bare bare_keeps bare_bytes (omega (arith, bare_long)) (omega arith) (omega arith)
    (record { place = refl; keeps = data_rules 1 (omega arith); time = tt; counted = omega arith })

pub leaves_all_of_a_torn_volume : RepairClaim ours leaves_all → ⊥
leaves_all_of_a_torn_volume claim =
    let bytes : List ℕ = torn bare bare_keeps bare_bytes (omega (arith, bare_long)) in
    let long = length-append (volume_of bare) (take 1 (image (bare_data 1))) in
    let one_byte : length (take 1 (image (bare_data 1))) ≡ 1 = length-take-le 1 (image (bare_data 1)) (omega (arith, data_long 1)) in
    let right : leaves_all bytes ≡ (Ok (length (volume_of bare))) = claim.torn-append (volume_of bare) bare bytes bare_bytes bare_torn in
    let wrong : leaves_all bytes ≡ Ok (length bytes)
    = rw (torn_refused (volume_of bare) bare bytes bare_bytes bare_torn, torn_tested (volume_of bare) bare bytes bare_bytes bare_torn) in
    let same : length bytes ≡ length (volume_of bare) = cc in
    omega arith

-- a library with another check has the same reader
same_calls : {volume : List ℕ} {number : ℕ} {mark end : Bookmark} {blocks : List Block}
    → Calls ours volume number mark blocks end → Calls tells_damage volume number mark blocks end
same_calls (ended e) = ended e
same_calls (handed e numbered calls) = handed e numbered (same_calls calls)

-- It is an accepted volume for a library that answers otherwise only where ours refuses.
told_torn : TornAppend tells_damage (volume_of bare) bare (torn bare bare_keeps bare_bytes (omega (arith, bare_long)))
told_torn =
    let t = bare_torn in
    let r = t.read in
    record {
      end = t.end;
      accepted = (t.accepted.0, ap damaged_for_cut t.accepted.1);
      read = record {
        first = r.first;
        header = r.header;
        id = r.id;
        previous = r.previous;
        blocks = same_calls r.blocks;
        counted = r.counted;
      };
      room = t.room;
      block = t.block;
      sized = t.sized;
      next = t.next;
      appended = t.appended;
      stored = t.stored;
      some = t.some;
      not_all = t.not_all;
      same = t.same;
    }

pub tells_damage_where_bytes_are_missing : TornClaim tells_damage → ⊥
tells_damage_where_bytes_are_missing claim =
    let bytes : List ℕ = torn bare bare_keeps bare_bytes (omega (arith, bare_long)) in
    let two : Rejected = record { refusal = refusal_of 2; offset = length (volume_of bare); blocks = 0 } in
    let five : Rejected = record { refusal = refusal_of 5; offset = length (volume_of bare); blocks = 0 } in
    let right : tells_damage.check bytes ≡ (Err two) = claim (volume_of bare) bare bytes bare_bytes told_torn in
    let wrong : tells_damage.check bytes ≡ Err five
    = ap damaged_for_cut (torn_refused (volume_of bare) bare bytes bare_bytes bare_torn) in
    let same : two ≡ five = cc (right, wrong) in
    let z : ◌≡◌ {A = ℕ} 2 5 = ap (λ (r : Rejected). r.refusal.number) same in
    omega arith

-- A volume with a block is torn at its second.
one_torn : TornAppend ours (volume_of (one 1)) (one 1) (torn (one 1) (one_keeps 1 (omega arith)) (one_bytes 1) (omega (arith, one_long 1)))
one_torn =
    torn-append (one 1) (one_keeps 1 (omega arith)) (one_bytes 1) (omega (arith, one_long 1))
    (omega (arith, data_long 1)) (omega (arith, data_long 1))
    (record { place = refl; keeps = data_rules 1 (omega arith); time = omega arith; counted = omega arith })

pub leaves_the_header_alone : RepairClaim ours leaves_header → ⊥
leaves_the_header_alone claim =
    let bytes : List ℕ = torn (one 1) (one_keeps 1 (omega arith)) (one_bytes 1) (omega (arith, one_long 1)) in
    let right : leaves_header bytes ≡ Ok (length (volume_of (one 1)))
    = claim.torn-append (volume_of (one 1)) (one 1) bytes (one_bytes 1) one_torn in
    let wrong : leaves_header bytes ≡ Ok 80
    = rw (torn_refused (volume_of (one 1)) (one 1) bytes (one_bytes 1) one_torn, torn_tested (volume_of (one 1)) (one 1) bytes (one_bytes 1) one_torn) in
    let same : 80 ≡ length (volume_of (one 1)) = cc in
    omega (arith, one_long 1)

-- Volumes that are refused right behind the header.

-- where the first reading finds a fault, the check refuses at 80
module _ (header : Header) (rules : HeaderRules header) (rest : List ℕ) (small : length (header_image header ++ rest) ≤ 16777216) where
  abbrev volume : List ℕ
  volume = header_image header ++ rest

  head_shown : HeaderShown volume header
  head_shown = header_complete volume header rest rules small refl

  refused_first : (number : ℕ) → is_end volume (first_mark header.sequence) ≡ false → read_fault volume (first_mark header.sequence) ≡ number
      → (number ≡ 0 → ⊥) → refusal_of number ≡ refusal_with number (texts_at volume 80)
      → check_answer volume ≡ Err (record { refusal = refusal_of number; offset = 80; blocks = 0 })
  unfolding header_answer
  refused_first number more fault some told =
      let sequence : sequence_of volume ≡ header.sequence = ap (λ (h : Header). h.sequence) head_shown.shown in
      let heads : header_answer volume ≡ Ok (record { sequence = header.sequence; next = first_mark header.sequence })
      = rw (head_shown.no_fault, sequence) in
      let stops = sym (refusal_read volume (first_mark header.sequence) number more fault some told) in
      sym ((checked_exactly volume _).0 (after_the_header heads (refused_at_a_block stops)))

-- A data block whose checksum is 0, and should not be.
abbrev damaged_block : List ℕ
damaged_block = 6 ∷ 1 ∷ replicate 19 0

damaged_fault : read_fault (header_image first ++ damaged_block) (first_mark 0) ≡ 5
unfolding read_fault first_fault checksum_wrong bits reversed polynomial bit_step byte_step register crc kind_with body_length may_follow le le_bytes sealed header_image header_fields laid
damaged_fault = refl

damaged_more : is_end (header_image first ++ damaged_block) (first_mark 0) ≡ false
unfolding is_end header_image header_fields sealed le_bytes
damaged_more = refl

damaged_small : length (header_image first ++ damaged_block) ≤ 16777216
unfolding header_image header_fields sealed le_bytes
damaged_small = omega arith

damaged_bytes : Bytes (header_image first ++ damaged_block)
unfolding all_small
damaged_bytes = bytes-append (header_image first) damaged_block (header_bytes_lem first first_rules) (small_bytes damaged_block refl)

damaged_refused : check_answer (header_image first ++ damaged_block) ≡ Err (record { refusal = refusal_of 5; offset = 80; blocks = 0 })
unfolding refusal_with
damaged_refused = refused_first first first_rules damaged_block damaged_small 5 damaged_more damaged_fault (λ z. omega arith) refl

-- a length is answered for no volume that is refused with another number
not_five : {bytes : List ℕ} {answer : RepairAnswer} (n offset blocks : ℕ) → Repairs ours bytes answer → answer ≡ Ok n
    → check_answer bytes ≡ Err (record { refusal = refusal_of 5; offset = offset; blocks = blocks }) → ⊥
not_five n offset blocks (Torn.whole a) e five = let yes = a.1 in let z : ◌≡◌ {A = ℕ} 0 1 = cc in omega arith
not_five {bytes} n offset blocks (Torn.cut c l) e five =
    let other : Rejected = record { refusal = c.refusal; offset = c.at.offset; blocks = length c.blocks } in
    let two : check_answer bytes ≡ (Err other) = (refused_volumes bytes other).1 (at_a_block c.sound_header c.stops) in
    let same : other ≡ record { refusal = refusal_of 5; offset = offset; blocks = blocks } = cc (two, five) in
    omega (arith, c.ends_early, ap (λ (r : Rejected). r.refusal.number) same)
not_five n offset blocks (Torn.refused f not-cut) e five = let z : ◌≡◌ {A = ℕ} 0 1 = cc in omega arith

pub drops_a_damaged_block : RepairClaim ours drops_damaged → ⊥
drops_a_damaged_block claim =
    let bytes : List ℕ = header_image first ++ damaged_block in
    let shown : sequence_of bytes ≡ 0
    = ap (λ (h : Header). h.sequence) (head_shown first first_rules damaged_block damaged_small).shown in
    let wrong : drops_damaged bytes ≡ (Ok 80) = rw (damaged_refused, shown) in
    not_five 80 80 0 ((claim.answers bytes (Ok 80) damaged_bytes).0 wrong) refl damaged_refused

-- The header of volume 1 alone, behind which a table is due.
abbrev untabled : List ℕ
untabled = header_image tabled.header ++ []

untabled_long : length untabled ≡ 80
unfolding header_image header_fields sealed le_bytes
untabled_long = refl

untabled_refused : check_answer untabled ≡ Err (record { refusal = refusal_of 2; offset = 80; blocks = 0 })
unfolding is_end read_fault first_fault header_image header_fields sealed le_bytes refusal_with
untabled_refused = refused_first tabled.header tabled_header [] (omega (arith, untabled_long)) 2 refl refl (λ z. omega arith) refl

pub drops_a_cut_table : RepairClaim ours drops_table → ⊥
drops_a_cut_table claim =
    let b : Bytes untabled = rw append-nil (header_bytes_lem tabled.header tabled_header) in
    let wrong : drops_table untabled ≡ (Ok 80) = rw untabled_refused in
    let l = (claim.longest untabled 80 b wrong).accepted in
    let yes : ours.check untabled ≡ (Ok l.0) = rw (take_all 80 untabled (omega (arith, untabled_long))) at l.1 in
    let no = untabled_refused in
    let z : ◌≡◌ {A = ℕ} 0 1 = cc in
    omega arith
