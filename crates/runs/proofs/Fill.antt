-- The runs of a range one after the other: how many are left, and what the room holds. Assumes nothing.
use Prim.Native.Nat.{ℕ, ◌+◌, ◌-◌, ◌*◌, ◌≤◌}
use mathlib.Core.Path.{◌≡◌, refl, sym, ap, ◌∙◌}
use mathlib.Core.Option.{Option as Found, none, some}
use Rattle.std.specs.Prelude.{Option, None, Some}
use Rattle.format.specs.declared.Physical.{Physical}
use mathlib.Core.List.{List, [], ◌∷◌, ◌++◌, append_assoc, append-nil}
use native.Mathlib.Nat.{zero-add}
use native.Mathlib.Omega.{arith}
use lib.ListN.{length, drop, length-append}
use lib.Seq.{drop-drop}
use borrow.Rule.Slice.PartMut.{put_mid, post_of}
use Rattle.number.specs.Number.{put}
use Rattle.number.proofs.Put.{put_fits, put_nothing, put_next, length-put}
use Rattle.runs.specs.declared.walk.Run.{Run}
use Rattle.runs.specs.Positions.{keeper}
use Rattle.runs.specs.inner.Computed.{run_lengths, five_for, run_numbers}
use Rattle.runs.specs.inner.Steps.{FirstRun, numbers_of, numbers_with, numbers_from}
use Rattle.runs.proofs.Meaning.{no_run}

-- a run has five numbers, wherever it is stored
with_five : (start len : ℕ) (source : Option (ℕ × Physical)) → length (numbers_with start len source) ≡ 5
with_five start len None = refl
with_five start len (Some source) = refl

pub run_five : (run : Run) → length (numbers_of run) ≡ 5
run_five run = with_five run.start.0 run.len run.source

-- five numbers in the place of five
pub put_five : (old five : List ℕ) (at : ℕ) → length five ≡ 5 → at + 5 ≤ length old
    → put_mid at (at + 5 - at) old five ≡ put old at five
put_five old five at long fits =
    let rest : post_of at (at + 5 - at) old ≡ drop (at + length five) old
    = drop-drop (at + 5 - at) at old ∙ ap (λ (n : ℕ). drop n old) (omega arith) in
    rw rest (sym (put_fits old at five (omega arith)))

five_long : (list : List ℕ) (from len : ℕ) (o : Found ℕ) → length (five_for list from len o) ≡ 5
five_long list from len none = refl
five_long list from len (some i) = refl

module _ (list : List ℕ) where
  -- five numbers for each run
  pub numbers_long : (from : ℕ) (lengths : List ℕ) → length (run_numbers list from lengths) ≡ 5 * length lengths
  unfolding run_numbers
  numbers_long from [] = refl
  numbers_long from (len ∷ lengths) =
      length-append (five_for list from len (keeper list from)) (run_numbers list (from + len) lengths)
      ∙ omega (arith, five_long list from len (keeper list from), numbers_long (from + len) lengths)

  -- the numbers of a range begin with those of its first run
  next_numbers : (from to : ℕ) (run : Run) → FirstRun list from to run
      → numbers_from list from to ≡ numbers_of run ++ numbers_from list (from + run.len) to
  unfolding run_numbers
  next_numbers from to run w = ap (run_numbers list from) w.first ∙ rw (← w.shows)

  module _ (from to : ℕ) where
    -- the room holds the numbers of the runs before a position in its first `used` places, and beyond them what it held
    pub record Filling (old out : List ℕ) (at used : ℕ) : Type 0 where
      pub stored : List ℕ
      pub long : length stored ≡ used
      pub holds : out ≡ put old 0 stored
      pub rest : stored ++ numbers_from list at to ≡ numbers_from list from to

    pub fill_start : (out : List ℕ) → Filling out out from 0
    fill_start out = record { stored = []; long = refl; holds = sym (put_nothing out 0); rest = refl }

    module _ (old out : List ℕ) (at used : ℕ) (f : Filling old out at used) where
      pub fill-length : length out ≡ length old
      fill-length = ap length f.holds ∙ length-put old 0 f.stored

      -- the places that the runs still to come take
      pub fill_left : used + 5 * length (run_lengths list at to) ≡ 5 * length (run_lengths list from to)
      fill_left =
          omega (
            arith,
            f.long,
            numbers_long at (run_lengths list at to),
            numbers_long from (run_lengths list from to),
            simp length-append at (ap length f.rest),
          )

      module _ (room : 5 * length (run_lengths list from to) ≤ length old) where
        -- one run more
        pub fill_more : (run : Run) (new : List ℕ) → FirstRun list at to run → new ≡ put out used (numbers_of run)
            → Filling old new (at + run.len) (used + 5)
        fill_more run new w e =
            let five = numbers_of run in
            let long = run_five run in
            let next = next_numbers at to run w in
            let left = fill_left in
            record {
              stored = f.stored ++ five;
              long = length-append f.stored five ∙ omega (arith, f.long);
              holds =
                  put_next old f.stored five 0 used f.long (omega (arith, ap length w.first)) f.holds
                  (rw zero-add e);
              rest = simp append_assoc (ap (λ (l : List ℕ). f.stored ++ l) (sym next) ∙ f.rest);
            }

      -- no run is left
      pub fill_end : to ≤ at → out ≡ put old 0 (numbers_from list from to)
      unfolding run_numbers
      fill_end h =
          let none : numbers_from list at to ≡ [] = ap (run_numbers list at) (no_run list at to h) in
          let whole : f.stored ≡ numbers_from list from to = sym (append-nil f.stored) ∙ rw none at f.rest in
          f.holds ∙ ap (put old 0) whole
