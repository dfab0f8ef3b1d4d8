-- From the number of runs, counted no further than the room goes, to the answer of a range query. Assumes nothing.
use Prim.Native.Nat.{ℕ, ◌+◌, ◌*◌, ◌/◌, ◌≤◌, ◌<◌, min}
use mathlib.Core.Path.{◌≡◌, sym, ◌∙◌}
use mathlib.Core.List.{List}
use native.Mathlib.Omega.{arith}
use lib.ListN.{length}
use borrow.Author.Tests.{le-leb, lt-leb}
use Rattle.number.specs.Number.{put}
use Rattle.number.proofs.Put.{put_past}
use Rattle.std.specs.Prelude.{Some, None}
use Rattle.runs.specs.inner.Computed.{run_lengths, run_count, range_numbers}
use Rattle.runs.specs.inner.Answers.{range_answer}
use Rattle.runs.specs.inner.Steps.{numbers_from}
use Rattle.runs.proofs.Fill.{numbers_long}

-- a range that ends at `end` once it is clipped, and how many of its runs were counted
module _ (list : List ℕ) (size from to end runs : ℕ) (out : List ℕ)
    (clip : end ≡ min to size) (counted : runs ≡ min (length (run_lengths list from end)) (length out / 5 + 1)) where
  count_is : run_count list size from to ≡ length (run_lengths list from end)
  unfolding run_count
  count_is = rw clip

  -- those that were counted are all, and there is room
  module _ (few : runs ≤ length out / 5) where
    pub answer_runs : Some runs ≡ range_answer list size from to (length out)
    unfolding range_answer
    answer_runs =
        let e : run_count list size from to ≡ runs = count_is ∙ omega arith in
        rw (e, le-leb (5 * runs) (length out) (omega arith))

    pub room_filled : (new : List ℕ) → new ≡ put out 0 (numbers_from list from end)
        → new ≡ put out 0 (range_numbers list size from to)
    unfolding range_numbers
    room_filled new e = rw (← clip) e

  -- there are more than the room holds
  module _ (many : length out / 5 < runs) where
    too_many : length out < 5 * run_count list size from to
    too_many = rw count_is (omega arith)

    pub answer_small : None ≡ range_answer list size from to (length out)
    unfolding range_answer
    answer_small = rw (lt-leb (5 * run_count list size from to) (length out) too_many)

    pub room_kept : out ≡ put out 0 (range_numbers list size from to)
    unfolding range_numbers run_count
    room_kept =
        let long = numbers_long list from (run_lengths list from (min to size)) in
        sym (put_past out 0 (range_numbers list size from to) (omega (arith, too_many)))
