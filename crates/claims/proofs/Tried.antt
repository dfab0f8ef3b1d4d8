-- Small volumes on which wrong libraries are tried, that they have a reading, and where appends start. Assumes nothing.
use Rattle.std.specs.Prelude.{None, Ok, Err}
use Prim.Native.Nat.{ℕ, ◌+◌, ◌^◌, ◌≤◌, ◌<◌}
use mathlib.Core.Bool.{false}
use mathlib.Core.Path.{◌≡◌, refl, sym, ap, ◌∙◌, subst}
use mathlib.Core.List.{List, [], ◌∷◌, ◌++◌, append-nil}
use native.Mathlib.Omega.{arith}
use lib.ListN.{length, replicate, length-append}
use Rattle.number.specs.Number.{Bytes, le_bytes}
use Rattle.number.proofs.Digits.{bytes-append}
use Rattle.number.proofs.Put.{length-put}
use Rattle.utf8.specs.Grammar.{empty}
use Rattle.format.specs.Layout.{All, laid, sealed}
use Rattle.format.specs.Blocks.{TableLink, Block, Data, Table, id_of, link_image, link_list, body, image, LinksOf, BlockRules}
use Rattle.format.specs.Headers.{HeaderRules, no_hash, header_fields, header_image}
use Rattle.format.specs.Readings.{Reading, IsTable, Keeps, images, volume_of, ReadingOf}
use Rattle.volume.specs.Heading.{first_mark}
use Rattle.volume.specs.Writing.{append_answer, append_buffer}
use Rattle.volume.specs.declared.Bookmark.{Bookmark}
use Rattle.volume.specs.Answers.{Verdict}
use Rattle.volume.proofs.HeaderImage.{length-header}
use Rattle.volume.proofs.OneCall.{after}
use Rattle.claims.specs.Library.{Library, ours}
use Rattle.claims.specs.Demand3Reading.{ReaderGives}
use Rattle.claims.specs.Demand3.{VolumeClaim, Start, from_volume, Demand3}
use Rattle.claims.specs.Samples.{first}
use Rattle.claims.proofs.Appending.{admitted_appended}
use Rattle.claims.proofs.Bytes.{all_small, small_bytes, zeros_bytes, volume_bytes}
use Rattle.claims.proofs.Demand3Reading.{reading_gives, check_answers}

-- The header of the samples alone is a volume.
abbrev pub bare : Reading
bare = record { header = first; blocks = [] }

pub first_rules : HeaderRules first
first_rules =
    record {
      fit = omega arith;
      id-length = refl;
      id_bytes = zeros_bytes 16;
      hash-length = refl;
      hash_bytes = zeros_bytes 32;
      first = λ e. refl;
    }

pub bare_keeps : Keeps bare
bare_keeps = record { header = first_rules; each = tt; table = tt; times = tt }

pub bare_long : length (volume_of bare) ≡ 80
unfolding volume_of images
bare_long = length-append (header_image first) [] ∙ rw (length-header first first_rules)

-- what a library claims of the volume of a reading that keeps the rules
pub of_reading : (library : Library) (reading : Reading) → Demand3 library → HeaderRules reading.header
    → All (λ block. Bytes (body block)) reading.blocks → length (volume_of reading) ≤ 16777216
    → VolumeClaim library (volume_of reading)
of_reading library reading claim rules b small = claim.volumes (volume_of reading) (volume_bytes reading rules b) small

pub whole : (reading : Reading) → Keeps reading → ReadingOf (volume_of reading) reading
whole reading keeps = record { keeps = keeps; bytes = refl }

pub of_bare : (library : Library) → Demand3 library → VolumeClaim library (volume_of bare)
of_bare library claim = of_reading library bare claim first_rules tt (omega (arith, bare_long))

-- A data block without payload, at a time.
abbrev pub bare_data : (time : ℕ) → Block
bare_data time = Data (record { time = time; payload = [] })

-- a bookmark after so many blocks where no table is due and no time stands before
abbrev pub untimed : (offset number : ℕ) → Bookmark
untimed offset number = record { offset = offset; due = false; last = None; number = number }

pub data_long : (time : ℕ) → length (image (bare_data time)) ≡ 21
unfolding image sealed laid le_bytes
data_long time = refl

pub data_rules : (time : ℕ) → time < 256 ^ 8 → BlockRules (bare_data time)
data_rules time small = record { fit = (small, (omega arith, tt)); bytes = λ i. omega arith; rules = tt }

-- it is appended wherever there is room and no last time before it
pub data_appended : (buffer : List ℕ) (offset number time : ℕ) → time < 256 ^ 8 → 80 ≤ offset → offset + 21 ≤ length buffer
    → offset + 21 ≤ 16777216 → number ≤ offset
    → (append_answer (length buffer) (untimed offset number) (bare_data time) ≡ Ok (after (untimed offset number) (bare_data time)))
    × (length (append_buffer buffer (untimed offset number) (bare_data time)) ≡ length buffer)
data_appended buffer offset number time small base room limit few =
    let long = data_long time in
    let there = admitted_appended buffer (untimed offset number) (bare_data time)
    (record {
      allowed = record { place = refl; keeps = data_rules time small; time = tt; counted = omega arith };
      base = base;
      small = omega (arith, long);
      fits = omega (arith, long);
    }) in
    (there.0, rw there.1 (length-put buffer offset (image (bare_data time))))

not_table : (time : ℕ) → IsTable (bare_data time) → ⊥
not_table time e = let z : ◌≡◌ {A = ℕ} 6 8 = ap id_of e in omega arith

-- One of them.
abbrev pub one : (time : ℕ) → Reading
one time = record { header = first; blocks = bare_data time ∷ [] }

pub one_keeps : (time : ℕ) → time < 256 ^ 8 → Keeps (one time)
one_keeps time small =
    record { header = first_rules; each = (data_rules time small, tt); table = (not_table time, tt); times = (tt, tt) }

pub one_bytes : (time : ℕ) → Bytes (volume_of (one time))
one_bytes time = volume_bytes (one time) first_rules ((λ i. omega arith), tt)

pub one_long : (time : ℕ) → length (volume_of (one time)) ≡ 101
unfolding volume_of images
one_long time =
    length-append (header_image first) (image (bare_data time) ++ [])
    ∙ rw (length-header first first_rules, append-nil (image (bare_data time)), data_long time)

-- Two of them, the second not at a lower time.
abbrev pub two : (time next : ℕ) → Reading
two time next = record { header = first; blocks = bare_data time ∷ bare_data next ∷ [] }

module _ (time next : ℕ) where
  two_keeps : time ≤ next → next < 256 ^ 8 → Keeps (two time next)
  two_keeps order small =
      record {
        header = first_rules;
        each = (data_rules time (omega arith), (data_rules next small, tt));
        table = (not_table time, (not_table next, tt));
        times = (tt, (order, tt));
      }

  bodies : All (λ block. Bytes (body block)) (two time next).blocks
  bodies = ((λ i. omega arith), ((λ i. omega arith), tt))

  pub two_bytes : Bytes (volume_of (two time next))
  two_bytes = volume_bytes (two time next) first_rules bodies

  two_small : length (volume_of (two time next)) ≤ 16777216
  unfolding volume_of images image header_image header_fields sealed laid le_bytes
  two_small = omega arith

  -- what a library that meets the claim hands out of them
  pub two_given : (library : Library) → Demand3 library → time ≤ next → next < 256 ^ 8
      → (end : Bookmark) × ReaderGives library (volume_of (two time next)) (two time next) end
  two_given library claim order small =
      ((of_reading library (two time next) claim first_rules bodies two_small
      ).reading.reader_gives_the_reading (two time next)).0 (whole (two time next) (two_keeps order small))

-- A table with a link from 1 to 2: in an empty part there is no such link.
abbrev pub one_link : List TableLink
one_link = record { child = 2; parent = 1; name = [] } ∷ []

abbrev pub tabled : Reading
tabled =
    record {
      header = record { id = replicate 16 0; sequence = 1; previous = no_hash };
      blocks = Table (record { count = 1; links = link_list one_link }) ∷ [];
    }

pub tabled_header : HeaderRules tabled.header
tabled_header =
    record {
      fit = omega arith;
      id-length = refl;
      id_bytes = zeros_bytes 16;
      hash-length = refl;
      hash_bytes = zeros_bytes 32;
      first = λ e. absurd (omega arith);
    }

pub link_bytes : Bytes (link_list one_link)
unfolding link_list link_image laid le_bytes all_small
link_bytes = small_bytes (link_list one_link) refl

one_link_rules : LinksOf 1 (link_list one_link)
one_link_rules =
    record {
      links = one_link;
      laid_out = refl;
      stated = refl;
      few = omega arith;
      each = (record { fit = (omega arith, (omega arith, (omega arith, tt))); bytes = λ i. omega arith; text = empty }, tt);
      distinct = (tt, tt);
    }

pub tabled_keeps : Keeps tabled
tabled_keeps =
    record {
      header = tabled_header;
      each = (record { fit = (omega arith, tt); bytes = link_bytes; rules = one_link_rules }, tt);
      table = (refl, tt);
      times = (tt, tt);
    }

pub tabled_small : length (volume_of tabled) ≤ 16777216
unfolding volume_of images image header_image header_fields sealed laid le_bytes link_list link_image
tabled_small = omega arith

-- A buffer with the header alone and room for more, from which appends start in every library whose check is ours.
abbrev spare : List ℕ
spare = replicate 100 0

abbrev pub roomy : List ℕ
roomy = volume_of bare ++ spare

pub roomy_long : length roomy ≡ 180
roomy_long = length-append (volume_of bare) spare ∙ rw bare_long

pub roomy_bytes : Bytes roomy
roomy_bytes = bytes-append (volume_of bare) spare (volume_bytes bare first_rules tt) (zeros_bytes 100)

pub started : (library : Library) → Demand3 library → library.check (volume_of bare) ≡ ours.check (volume_of bare)
    → Start library roomy (first_mark 0) bare
started library claim same =
    let claims = (of_bare library claim).reading in
    let gives = (claims.reader_gives_the_reading bare).0 (whole bare bare_keeps) in
    let small : length (volume_of bare) ≤ 16777216 = omega (arith, bare_long) in
    let right = check_answers (volume_of bare) bare (first_mark 0) (reading_gives (volume_of bare) bare small (whole bare bare_keeps)) in
    let told = claims.check_answers_for_the_reading bare gives.0 gives.1 in
    let end : first_mark 0 ≡ gives.0 = ap end_of (sym right ∙ sym same ∙ told) in
    from_volume (volume_of bare) spare bare refl (claims.accepted_iff_it_has_a_reading.1 (bare, whole bare bare_keeps))
    (subst (ReaderGives library (volume_of bare) bare) (sym end) gives.1)
  where
    end_of : Verdict → Bookmark
    end_of (Ok a) = a.end
    end_of (Err r) = first_mark 0
