-- Links that fill the bytes to their end are handed out one by one, by their numbers and in their order. Assumes nothing.
use Prim.Native.Nat.{ℕ, zero, suc, ◌+◌, ◌≤◌, ◌<◌}
use mathlib.Core.Path.{◌≡◌, refl, sym, ap, ◌∙◌, subst}
use mathlib.Core.Option.{none, some}
use mathlib.Core.List.{List}
use native.Mathlib.Nat.{add-zero, zero-add, not-suc-le-zero}
use native.Mathlib.Omega.{arith}
use lib.ListN.{length, get_elem?}
use borrow.Author.Tests.{lt-ltb, le-leb}
use Rattle.order.proofs.Cases.{cases}
use Rattle.links.specs.Links.{name_length_at, link_end, link_start, link_at, links_from, found_at, link_from, link_answer}
use Rattle.links.specs.inner.Sorting.{Fits}
use Rattle.links.specs.Walked.{link_shown, Walked, none_left, handed}
use Rattle.std.specs.Prelude.{Some}
use Rattle.links.proofs.Starts.{start_zero, start_suc, link_within}
use Rattle.links.proofs.Answers.{cut_short, not_so_many}

module _ (links : List ℕ) where
  -- the link at a place, where it ends within the bytes
  found_there : (at : ℕ) → Fits links at → link_from links at ≡ Some (found_at links at)
  unfolding link_from
  found_there at fits = rw (le-leb (link_end links at) (length links) fits)

  -- By number.

  nth : (from count index : ℕ) → index < count
      → get_elem? (links_from links from count) index ≡ some (link_at links (link_start links (from + index)))
  unfolding links_from
  nth from zero index h = absurd (not-suc-le-zero h)
  nth from (suc count) zero h = rw (add-zero from)
  nth from (suc count) (suc index) h =
      let e : suc from + index ≡ from + suc index = omega arith in
      rw (← e) (nth (suc from) count index (omega arith))

  nth_past : (from count index : ℕ) → count ≤ index → get_elem? (links_from links from count) index ≡ none
  unfolding links_from
  nth_past from zero index h = refl
  nth_past from (suc count) zero h = absurd (not-suc-le-zero h)
  nth_past from (suc count) (suc index) h = nth_past (suc from) count index (omega arith)

  -- where the last of the links ends within the bytes, each number below the count has its link
  pub shown_by_number : (count index : ℕ) → link_start links count ≤ length links
      → link_shown links (link_answer links count index) ≡ get_elem? (links_from links 0 count) index
  unfolding link_shown link_answer
  shown_by_number count index within =
      cases index count
      (λ there.
      let fits = link_within links index count (link_start links index) there within refl in
      rw (lt-ltb index count there, found_there (link_start links index) fits, nth 0 count index there, zero-add index))
      (λ past. ap (link_shown links) (sym (not_so_many links count index past)) ∙ sym (nth_past 0 count index past))

  -- In order.

  walked_from : (index count : ℕ) → link_start links (index + count) ≡ length links
      → Walked links (link_start links index) (links_from links index count)
  unfolding links_from
  walked_from index zero end =
      let e : link_start links index ≡ length links = rw (add-zero index) at end in
      none_left (sym (cut_short links (link_start links index) (omega arith)))
  walked_from index (suc count) end =
      let at : ℕ = link_start links index in
      let fits : Fits links at = link_within links index (index + suc count) at (omega arith) (omega arith) refl in
      let next : link_start links (suc index) ≡ at + 18 + name_length_at links at = omega (arith, start_suc links index) in
      let e : suc index + count ≡ index + suc count = omega arith in
      handed (found_there at fits)
      (subst (λ (n : ℕ). Walked links n (links_from links (suc index) count)) next (walked_from (suc index) count (rw e end)))

  -- links that fill the bytes
  pub walked_to_the_end : (count : ℕ) → link_start links count ≡ length links → Walked links 0 (links_from links 0 count)
  walked_to_the_end count end =
      rw (← start_zero links) at (walked_from 0 count (rw (zero-add count) end))
