-- What lookup names, fetch hands out. A lookup that names a place was not refused, so Demand 2 gives that the place lies inside the
-- volume; a fetch from there then passes its checks. Assumes nothing.
use Rattle.std.specs.Prelude.{Ok}
use Prim.Native.Nat.{ℕ, zero, suc, ◌+◌, ◌-◌, ◌*◌, ◌≤◌, ◌<◌}
use mathlib.Core.Path.{◌≡◌, refl, sym, ap, ap₂, ◌∙◌}
use mathlib.Core.Logic.{⊎_elim}
use mathlib.Core.Bool.{false}
use mathlib.Core.Option.{some}
use mathlib.Core.List.{List, [], ◌∷◌}
use mathlib.Mathlib.Data.Bool.Basic.{dichotomy}
use native.Mathlib.Nat.{add-zero}
use native.Mathlib.Omega.{arith}
use lib.Dec.{eqb, ltb}
use lib.ListN.{length, take, drop, get_or}
use lib.Seq.{drop-cons}
use borrow.Author.Tests.{le-ltb, ltb-true, ltb-false, eqb-true, eqb-false, ne_eqb}
use Rattle.number.specs.Number.{Bytes, part}
use Rattle.number.specs.Address.{Address}
use Rattle.number.proofs.Parts.{length_part, get_d_part, part-append, part_stands}
use Rattle.format.specs.Headers.{Header, header_image}
use Rattle.block.specs.Fields.{size_at}
use Rattle.volume.specs.Heading.{sequence_of, header_fault}
use Rattle.volume.proofs.HeaderImage.{header_at, HeaderStands, header_sound, HeaderShown, header_complete}
use Rattle.lookup.specs.Lookup.{lookup_fault}
use Rattle.lookup.specs.inner.Answers.{position_answer, runs_answer, runs_room}
use Rattle.lookup.specs.Fetch.{chosen, out_of}
use Rattle.lookup.specs.inner.Part.{fetch_part, fetch_address}
use Rattle.lookup.proofs.Fetch.{range_decides, fetch_passed, chosen_first, chosen_second}
use Rattle.lookup.proofs.Fetch.{second_has, Held, held_in_first, held_in_second}
use Rattle.lookup.specs.declared.Stored.{Stored}
use Rattle.lookup.specs.Answers.{PositionAnswer as Answer, RunsAnswer}
use Rattle.lookup.specs.declared.Position.TheVariants as position
use Rattle.claims.specs.Library.{ours}
use Rattle.claims.specs.Demand2.{extent_of, TrueLengths, IsHole, IsStored, Demand2For}
use Rattle.claims.specs.Demand2.{Says, a_hole, a_byte, RunsSay, over, run, RangeClaim}
use Rattle.claims.specs.Fetching.{Lent, refusal, fetched, HasNumber, Whichever, the_first, the_second, FetchClaim}
use Rattle.claims.specs.Fetching.{stored_answer, stands_where_named, Lends, HandsOut, Fetching}
use Rattle.claims.proofs.Demand2.{demand_2_holds}

-- A volume has a number by the format exactly if its header is not at fault, and it is the number read there.
has_number : (volume : List ℕ) (number : ℕ) → Bytes volume → header_fault volume ≡ 0 → sequence_of volume ≡ number
    → HasNumber volume number
has_number volume number b e n =
    let s : HeaderStands volume = header_sound volume b e in
    record { small = s.small; header = header_at volume; keeps = s.rules; stands = s.image; numbered = n }

module _ (volume : List ℕ) (number : ℕ) (h : HasNumber volume number) where
  shown : HeaderShown volume h.header
  shown =
      header_complete volume h.header (drop 80 volume) h.keeps h.small
      (part_stands volume (header_image h.header) 0 80 h.stands)

  is_sound_lem : header_fault volume ≡ 0
  is_sound_lem = shown.no_fault

  number_read : sequence_of volume ≡ number
  number_read = ap (λ (x : Header). x.sequence) shown.shown ∙ h.numbered

module _ (first second : Lent) (number offset len : ℕ) where
  abbrev Part : (taken : Lent) → Type 0
  Part taken =
      Held first.bytes second.bytes first.at second.at number offset len taken.bytes taken.at

  -- with sound headers, only the range is left to be checked
  in_range_lem : header_fault first.bytes ≡ 0 → header_fault second.bytes ≡ 0 → (volume : List ℕ)
      → chosen first.bytes second.bytes number ≡ some volume → offset + len ≤ length volume
      → refusal first second number offset len ≡ 0
  in_range_lem a b volume c fits =
      let out : false ≡ out_of offset len (chosen first.bytes second.bytes number)
      = rw c (sym (le-ltb (length volume) (offset + len) fits)) in
      sym (range_decides first.bytes second.bytes number offset len _ _ false refl a refl b out)

  not_refused : (taken : Lent) → Whichever first second number taken → offset + len ≤ length taken.bytes
      → refusal first second number offset len ≡ 0
  not_refused taken (the_first a b) fits =
      in_range_lem (is_sound_lem _ _ a) (is_sound_lem _ _ b) first.bytes
      (chosen_first first.bytes second.bytes number (number_read _ _ a)) fits
  not_refused taken (the_second a n b) fits =
      in_range_lem (is_sound_lem _ _ a) (is_sound_lem _ _ b) second.bytes
      (chosen_second first.bytes second.bytes number (λ e. n (sym (number_read _ _ a) ∙ e)) (number_read _ _ b)) fits

  the_part : refusal first second number offset len ≡ 0 → (taken : Lent) → Whichever first second number taken → Part taken
  the_part sound taken (the_first a b) = held_in_first _ _ _ _ _ _ _ sound (number_read _ _ a)
  the_part sound taken (the_second a n b) = held_in_second _ _ _ _ _ _ _ sound (λ e. n (sym (number_read _ _ a) ∙ e))

  it_is_there : Bytes first.bytes → Bytes second.bytes → refusal first second number offset len ≡ 0
      → (taken : Lent) × Whichever first second number taken × (offset + len ≤ length taken.bytes)
  it_is_there b d sound =
      let clear = fetch_passed first.bytes second.bytes number offset len sound in
      ⊎_elim
      (λ no.
      let n = eqb-false (sequence_of first.bytes) number no in
      let has = second_has first.bytes second.bytes number offset len sound n in (
        second,
        the_second (has_number _ _ b clear.first_sound refl) n (has_number _ _ d clear.second_sound has),
        (held_in_second _ _ first.at second.at _ _ _ sound n).fits,
      ))
      (λ yes.
      let has = eqb-true (sequence_of first.bytes) number yes in (
        first,
        the_first (has_number _ _ b clear.first_sound has) (has_number _ _ d clear.second_sound refl),
        (held_in_first _ _ first.at second.at _ _ _ sound has).fits,
      ))
      (dichotomy (eqb (sequence_of first.bytes) number))

  pub fetch_claim : Bytes first.bytes → Bytes second.bytes → FetchClaim first second number offset len
  unfolding fetch_part fetch_address
  fetch_claim b d =
      record {
        not_refused_iff_it_is_there = (it_is_there b d, λ t. not_refused t.0 t.1 t.2);
        the_very_part =
            λ taken w fits.
            let h = the_part (not_refused taken w fits) taken w in
            ap₂ (λ (bytes : List ℕ) (at : Address). record { bytes = bytes; at = at }) h.bytes h.address;
        empty_otherwise = λ n. rw (ne_eqb (refusal first second number offset len) 0 n);
      }

-- a run of kind 1 says that its positions are stored in a row
says_stored : {kind number start k : ℕ} {answer : Answer} → Says kind number start k answer → kind ≡ 1
    → answer ≡ stored_answer number (start + k)
says_stored a_hole e = absurd (omega arith)
says_stored a_byte e = refl

module _ (volume : List ℕ) (offset : ℕ) (lengths : List ℕ) where
  -- positions, at least one, whose bytes are stored in a row
  abbrev StoredRun : (start len number place : ℕ) → Type 0
  StoredRun start len number place =
      (0 < len) × ((k : ℕ) → k < len → position_answer volume offset lengths (start + k) ≡ stored_answer number (place + k))

  numbers_long : {from to : ℕ} {runs numbers : List ℕ} → RunsSay ours volume offset lengths from to runs numbers
      → length numbers ≡ 5 * length runs
  numbers_long (over l) = refl
  numbers_long (run more within all rest) = omega (arith, numbers_long rest)

  -- the run at an index: its numbers are the five that stand there
  run_at : {from to : ℕ} {runs numbers : List ℕ} → RunsSay ours volume offset lengths from to runs numbers
      → (index start len number place : ℕ) → index < length runs
      → part numbers (5 * index) 5 ≡ start ∷ len ∷ 1 ∷ number ∷ place ∷ []
      → StoredRun start len number place
  run_at (over l) index start len number place h e = absurd (omega arith)
  run_at (run {from = f} {len = l} {kind = kind} {number = n} {start = s} more within all rest) zero start len number place h e =
      let five : f ∷ l ∷ kind ∷ n ∷ s ∷ [] ≡ start ∷ len ∷ 1 ∷ number ∷ place ∷ [] = e in
      let a : f ≡ start = cc in
      let b : l ≡ len = cc in
      let c : kind ≡ 1 = cc in
      let d : n ≡ number = cc in
      let p : s ≡ place = cc in
      rw (← a, ← b, ← d, ← p) (more, λ k m. says_stored (all k m) c)
  run_at (run more within all rest) (suc index) start len number place h e =
      let next : 5 * suc index ≡ suc (suc (suc (suc (suc (5 * index))))) = omega arith in
      run_at rest index start len number place (omega arith) (rw next at e)

same_place : {a b : Stored} → ◌≡◌ {A = Answer} (Ok (position.Stored a)) (Ok (position.Stored b)) → a ≡ b
same_place e = cc

same_count : {m n : ℕ} → ◌≡◌ {A = RunsAnswer} (Ok m) (Ok n) → m ≡ n
same_count e = cc

-- What Demand 2 says of a place that lookup names.
module _ (volume : List ℕ) (offset : ℕ) (lengths : List ℕ) (volumes : ℕ → List ℕ) (b : Bytes volume)
    (true_lengths : TrueLengths lengths volumes) where
  demand : Demand2For ours volume offset lengths
  demand = demand_2_holds volume offset lengths b

  -- it lies inside the volume that is named with it
  inside : (position number place : ℕ) → position_answer volume offset lengths position ≡ stored_answer number place
      → place < length (volumes number)
  inside position number place e =
      ⊎_elim
      (λ no.
      let refused = (demand.refused_otherwise (λ all. eqb-false (lookup_fault volume offset lengths) 0 no (demand.no_fault_iff_all_is_there.1 all))).positions position in
      let z : ◌≡◌ {A = ℕ} 0 1 = cc in absurd (omega arith))
      (λ yes.
      let claim = demand.answered (demand.no_fault_iff_all_is_there.0 (eqb-true (lookup_fault volume offset lengths) 0 yes)) in
      ⊎_elim
      (λ no.
      let past = claim.past_the_end position (ltb-false position (size_at volume offset) no) in
      let z : ◌≡◌ {A = ℕ} 0 1 = cc in absurd (omega arith))
      (λ yes.
      ⊎_elim
      (λ (hole : IsHole ours volume offset lengths position). let h = hole.answer in let z : ◌≡◌ {A = ℕ} 0 1 = cc in absurd (omega arith))
      (λ (stored : IsStored ours volume offset lengths position).
      let same = same_place (sym e ∙ stored.answer) in
      let n : number ≡ (extent_of volume offset stored.keeper).volume = ap (λ (x : Stored). x.volume) same in
      let p : place ≡ stored.place = ap (λ (x : Stored). x.offset.0) same in
      rw (n, p) (stored.inside volumes true_lengths))
      (claim.hole_or_stored position (ltb-true position (size_at volume offset) yes)))
      (dichotomy (ltb position (size_at volume offset))))
      (dichotomy (eqb (lookup_fault volume offset lengths) 0))

  -- positions in a row whose bytes are named in a row: a fetch of them is not refused, and hands out these bytes
  in_a_row : (start len number place : ℕ) (first second : Lent) → 0 < len
      → ((k : ℕ) → k < len → position_answer volume offset lengths (start + k) ≡ stored_answer number (place + k))
      → Lends volumes first second number
      → (refusal first second number place len ≡ 0)
      × ((fetched first second number place len).bytes ≡ part (volumes number) place len)
      × HandsOut volume offset lengths volumes start len (fetched first second number place len).bytes
  in_a_row start len number place first second more all (taken, w, same) =
      let last : place + (len - 1) < length (volumes number)
      = inside (start + (len - 1)) number (place + (len - 1)) (all (len - 1) (omega arith)) in
      let within : place + len ≤ length (volumes number) = omega arith in
      let sound = not_refused first second number place len taken w (rw same within) in
      let bytes : (fetched first second number place len).bytes ≡ part (volumes number) place len
      = (the_part first second number place len sound taken w).bytes ∙ ap (λ v. part v place len) same in (
        sound,
        bytes,
        rw bytes (record {
          long = length_part (volumes number) place len within;
          each =
              λ k h.
              rw (get_d_part (volumes number) place len k h)
              (stands_where_named (all k h) (inside (start + k) number (place + k) (all k h)));
        }),
      )

  the_byte_of_a_position : (position number place : ℕ) (first second : Lent)
      → position_answer volume offset lengths position ≡ stored_answer number place
      → Lends volumes first second number
      → (refusal first second number place 1 ≡ 0)
      × (place < length (volumes number))
      × ((fetched first second number place 1).bytes ≡ get_or (volumes number) place 0 ∷ [])
  the_byte_of_a_position position number place first second e lends =
      let within = inside position number place e in
      let row = in_a_row position 1 number place first second (omega arith) (one e) lends in
      (row.0, within, row.1 ∙ ap (take 1) (drop-cons (volumes number) place 0 within))
    where
      one : position_answer volume offset lengths position ≡ stored_answer number place
          → (k : ℕ) → k < 1 → position_answer volume offset lengths (position + k) ≡ stored_answer number (place + k)
      one e zero h = rw (add-zero position, add-zero place) e
      one e (suc k) h = absurd (omega arith)

  the_bytes_of_a_run : (from to : ℕ) (out : List ℕ) (count index start len number place : ℕ) (first second : Lent)
      → runs_answer volume offset lengths from to (length out) ≡ Ok count
      → index < count
      → part (runs_room volume offset lengths from to out) (5 * index) 5 ≡ start ∷ len ∷ 1 ∷ number ∷ place ∷ []
      → Lends volumes first second number
      → (refusal first second number place len ≡ 0)
      × HandsOut volume offset lengths volumes start len (fetched first second number place len).bytes
  the_bytes_of_a_run from to out count index start len number place first second answered h e lends =
      ⊎_elim
      (λ no.
      let refused = ((demand.refused_otherwise (λ all. eqb-false (lookup_fault volume offset lengths) 0 no (demand.no_fault_iff_all_is_there.1 all))).ranges from to out).0 in
      let z : ◌≡◌ {A = ℕ} 0 1 = cc in absurd (omega arith))
      (λ yes.
      let claim : RangeClaim ours volume offset lengths from to
      = (demand.answered (demand.no_fault_iff_all_is_there.0 (eqb-true (lookup_fault volume offset lengths) 0 yes))).ranges from to in
      ⊎_elim
      (λ no.
      let fills = claim.room_enough out (ltb-false (length out) (5 * length claim.runs) no) in
      let n : length claim.runs ≡ count = same_count (sym fills.0 ∙ answered) in
      let long = numbers_long volume offset lengths claim.runs_agree_with_positions in
      let filled : part claim.numbers (5 * index) 5 ≡ start ∷ len ∷ 1 ∷ number ∷ place ∷ []
      = sym (part-append claim.numbers (drop (5 * length claim.runs) out) (5 * index) 5 (omega arith))
      ∙ ap (λ room. part room (5 * index) 5) (sym fills.1) ∙ e in
      let stored = run_at volume offset lengths claim.runs_agree_with_positions index start len number place (omega arith) filled in
      let row = in_a_row start len number place first second stored.0 stored.1 lends in
      (row.0, row.2))
      (λ yes.
      let refused = (claim.room_too_small out (ltb-true (length out) (5 * length claim.runs) yes)).0 in
      let z : ◌≡◌ {A = ℕ} 0 1 = cc in absurd (omega arith))
      (dichotomy (ltb (length out) (5 * length claim.runs))))
      (dichotomy (eqb (lookup_fault volume offset lengths) 0))

pub what_lookup_names_fetch_hands_out : Fetching
what_lookup_names_fetch_hands_out =
    record {
      of_every_fetch = fetch_claim;
      of_what_lookup_names =
          λ volume offset lengths volumes b true_lengths.
          record {
            the_byte_of_a_position = the_byte_of_a_position volume offset lengths volumes b true_lengths;
            the_bytes_of_a_run = the_bytes_of_a_run volume offset lengths volumes b true_lengths;
          };
    }
