-- Demand 2 on lookup holds. A lookup that is not refused has passed every check, so the extents of its file are sound and apart: the
-- keeper of a position is the only one, and the place where it stores the position lies within the volume that it names. Runs are
-- carried over from the file's list of extents. Assumes nothing.
use Rattle.std.specs.Prelude.{Ok}
use Prim.Native.Nat.{ℕ, ◌≤◌, ◌<◌}
use mathlib.Core.Path.{◌≡◌, refl, sym, ap, ◌∙◌}
use mathlib.Core.Logic.{◌↔◌, inl, inr, ⊎_elim}
use mathlib.Core.Bool.{true, false}
use mathlib.Core.Option.{none, some}
use mathlib.Core.List.{List}
use native.Mathlib.Omega.{arith}
use lib.Dec.{eqb}
use borrow.Author.Tests.{le-ltb, eq-eqb, ne_eqb}
use Rattle.checks.proofs.First.{option_cases, none_some}
use Rattle.format.specs.declared.Extent.{Extent}
use Rattle.format.specs.Extents.{KeepsPosition}
use Rattle.extent.specs.Extents.{extent_at}
use Rattle.extent.specs.inner.Tests.{is_sound}
use Rattle.extent.proofs.Sound.{sound_bounded, each_sound}
use Rattle.block.specs.Fields.{size_at, rest_at}
use Rattle.runs.specs.Positions.{keeps, keeper}
use Rattle.runs.specs.inner.Stored.{stored_at}
use Rattle.runs.proofs.Stored.{keeps_position, position_keeps, StoredPlace, stored_place}
use Rattle.runs.proofs.Keeper.{keeper_some, one_keeper, some_keeper}
use Rattle.runs.proofs.Labels.{label_none, label_some}
use Rattle.lookup.specs.inner.Answers.{place_for, position_answer}
use Rattle.lookup.specs.Lookup.{lookup_fault}
use Rattle.lookup.proofs.Clear.{RegularFile, Clear, a_lookup_without_a_fault_is_clear}
use Rattle.refusal.specs.Refusal.{refusal_with}
use Rattle.refusal.proofs.Laws.{with_number}
use Rattle.texts.specs.Texts.{texts_at}
use Rattle.lookup.proofs.Answers.{position_refused, runs_refused, room_kept}
use Rattle.lookup.specs.declared.Position.TheVariants.{PastEnd}
use lib.ListN.{length}
use Rattle.claims.specs.Library.{ours}
use Rattle.claims.specs.Demand2.{AllIsThere, IsPlace, in_a_row, in_each_copy, IsHole, IsStored, LookupClaim, Demand2}
use Rattle.claims.proofs.File.{is_there, all_is_there, no_fault}
use Rattle.claims.proofs.Ranges.{answer_below, range_claim}

-- the place of a position that a sound extent keeps, by multiplicity
place_is : (e : Extent) (position : ℕ) → is_sound e ≡ true → keeps e position ≡ true → IsPlace e position (stored_at e position)
unfolding stored_at
place_is e position sound kept =
    ⊎_elim
    (λ m.
    let t : eqb e.multiplicity 82 ≡ true = eq-eqb e.multiplicity 82 m in
    rw t (in_each_copy m (rw t at (stored_place e position sound kept).some)))
    (λ m.
    let d : e.multiplicity ≡ 82 → ⊥ = λ h. omega arith in
    let t : eqb e.multiplicity 82 ≡ false = ne_eqb e.multiplicity 82 d in
    rw t (in_a_row m))
    (sound_bounded e sound).multiplicity

module _ (volume : List ℕ) (offset : ℕ) (lengths : List ℕ) (clear : lookup_fault volume offset lengths ≡ 0) where
  abbrev list : List ℕ
  list = rest_at volume offset

  known : Clear volume offset lengths
  known = a_lookup_without_a_fault_is_clear volume offset lengths clear

  file : RegularFile volume offset
  file = known.opening.file

  past_end : (position : ℕ) → size_at volume offset ≤ position → position_answer volume offset lengths position ≡ Ok PastEnd
  unfolding position_answer
  past_end position h = rw (clear, le-ltb position (size_at volume offset) h)

  module _ (position : ℕ) (h : position < size_at volume offset) where
    is_hole : keeper list position ≡ none → IsHole ours volume offset lengths position
    is_hole e =
        record {
          kept_by_none =
              λ index k.
              none_some e
              (some_keeper list file.apart index position k.0 (position_keeps (extent_at list index) position k.1));
          answer = answer_below volume offset lengths clear position h ∙ ap (place_for list position) e;
          run_label = label_none list position e;
        }

    is_stored : (i : ℕ) → keeper list position ≡ some i → IsStored ours volume offset lengths position
    is_stored i e =
        let k = keeper_some list i position e in
        let x : Extent = extent_at list i in
        let kept : KeepsPosition x position = keeps_position x position k.1 in
        let sound : is_sound x ≡ true = each_sound list file.sound i k.0 in
        let place : StoredPlace x position = stored_place x position sound k.1 in
        let within = is_there volume offset lengths known i k.0 (omega arith) in
        record {
          keeper = i;
          kept = (k.0, kept);
          by_no_other =
              λ index o.
              one_keeper list file.apart index i position o.0 k.0 (position_keeps (extent_at list index) position o.1) k.1;
          place = stored_at x position;
          is_place = place_is x position sound k.1;
          answer = answer_below volume offset lengths clear position h ∙ ap (place_for list position) e;
          named = within.0;
          below = omega (arith, place.within);
          inside = λ volumes true. rw (← true x.volume within.0) (omega (arith, place.within));
          run_label = label_some list position i e;
        }

  claim : LookupClaim ours volume offset lengths
  claim =
      record {
        hole_or_stored =
            λ position h.
            option_cases (keeper list position) (λ e. inl (is_hole position h e)) (λ i e. inr (is_stored position h i e));
        never_both = λ position none_keeps one_keeps. none_keeps.kept_by_none one_keeps.keeper one_keeps.kept;
        past_the_end = past_end;
        ranges = range_claim volume offset lengths clear;
      }

pub demand_2_holds : Demand2 ours
demand_2_holds volume offset lengths b =
    let clear_iff_there : (lookup_fault volume offset lengths ≡ 0) ↔ AllIsThere volume offset lengths
    = (λ clear. all_is_there volume offset lengths b (a_lookup_without_a_fault_is_clear volume offset lengths clear), no_fault volume offset lengths) in
    record {
      no_fault_iff_all_is_there = clear_iff_there;
      answered = λ all. claim volume offset lengths (clear_iff_there.1 all);
      refused_otherwise =
          λ lacking.
          let fault : lookup_fault volume offset lengths ≡ 0 → ⊥ = λ clear. lacking (clear_iff_there.0 clear) in
          record {
            refusal = refusal_with (lookup_fault volume offset lengths) (texts_at volume offset);
            with_the_number = with_number (lookup_fault volume offset lengths) (texts_at volume offset);
            positions = λ position. sym (position_refused volume offset lengths refl fault refl position);
            ranges =
                λ from to out. (
                  sym (runs_refused volume offset lengths refl fault refl from to (length out)),
                  sym (room_kept volume offset lengths refl fault from to out),
                );
          };
    }
