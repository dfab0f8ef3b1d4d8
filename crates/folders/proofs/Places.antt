-- The places of a number among others, from a place on. Assumes nothing.
use Prim.Native.Nat.{ℕ, zero, suc, ◌+◌, ◌-◌, ◌≤◌, ◌<◌}
use mathlib.Core.Path.{◌≡◌, refl, sym, ap, ◌∙◌}
use mathlib.Core.List.{List, [], ◌∷◌}
use native.Mathlib.Numerals.{add-one}
use native.Mathlib.Omega.{arith}
use lib.ListN.{length, get_or, drop, drop_of_length-le}
use lib.Seq.{drop-cons}
use borrow.Author.Tests.{eq-eqb, ne_eqb}
use Rattle.order.proofs.Cases.{cases}
use Rattle.folders.specs.Lines.{levels, places_from, each, entry_lines}
use Rattle.folders.specs.inner.Folders.{parent_of, siblings, NextIn}

module _ (parents : List ℕ) where
  -- the places of a folder's links from a place on
  abbrev from_on : (folder i : ℕ) → List ℕ
  from_on folder i = places_from i folder (drop i parents)

  past : (folder i : ℕ) → length parents ≤ i → from_on folder i ≡ []
  unfolding places_from
  past folder i h = rw (drop_of_length-le parents {i = i} h)

  here : (folder i : ℕ) → i < length parents → parent_of parents i ≡ folder → from_on folder i ≡ i ∷ from_on folder (i + 1)
  unfolding places_from
  here folder i h e = rw (drop-cons parents i 0 h, eq-eqb _ _ e, add-one i)

  skipped : (folder i : ℕ) → i < length parents → (parent_of parents i ≡ folder → ⊥) → from_on folder i ≡ from_on folder (i + 1)
  unfolding places_from
  skipped folder i h d = rw (drop-cons parents i 0 h, ne_eqb _ _ d, add-one i)

  -- no link from i on is in the folder: `left` counts the links that are left
  absent_from : (folder left i : ℕ) → length parents ≤ i + left
      → ((j : ℕ) → i ≤ j → j < length parents → parent_of parents j ≡ folder → ⊥) → from_on folder i ≡ []
  absent_from folder zero i h none = past folder i (omega arith)
  absent_from folder (suc left) i h none =
      cases i (length parents)
      (λ l. skipped folder i l (none i (omega arith) l) ∙ absent_from folder left (i + 1) (omega arith) (λ j p q. none j (omega arith) q))
      (λ l. past folder i l)

  -- past the last link there are none
  pub none_past : siblings parents (length parents) ≡ []
  none_past = past _ _ (omega arith)

  pub past_last : (place : ℕ) → length parents ≤ place → siblings parents place ≡ []
  past_last place h = past _ place h

  pub next_none : (folder from : ℕ) → from ≤ length parents
      → ((j : ℕ) → from ≤ j → j < length parents → parent_of parents j ≡ folder → ⊥) → NextIn parents folder from (length parents)
  next_none folder from h none =
      record {
        ahead = h;
        within = omega arith;
        same = absent_from folder (length parents) from (omega arith) none ∙ sym none_past;
      }

  -- a link stands first from its own place on
  pub next_self : (i : ℕ) → i < length parents → NextIn parents (parent_of parents i) i i
  next_self i h = record { ahead = omega arith; within = omega arith; same = refl }

  -- a link of another folder is passed over
  pub next_skip : (folder i next : ℕ) → i < length parents → (parent_of parents i ≡ folder → ⊥) → NextIn parents folder (i + 1) next
      → NextIn parents folder i next
  next_skip folder i next h d n =
      let a = n.ahead in
      record { ahead = omega arith; within = n.within; same = skipped folder i h d ∙ n.same }

  -- the links of a folder are the first of them and what follows it
  pub siblings_step : (i next : ℕ) → i < length parents → NextIn parents (parent_of parents i) (i + 1) next
      → siblings parents i ≡ i ∷ siblings parents next
  siblings_step i next h n = here _ i h refl ∙ ap (λ rest. i ∷ rest) n.same

-- with a level left, the lines of a link are its own and those of what it holds, from the first link on
pub line_first : (parents children : List ℕ) (left place first : ℕ) → NextIn parents (get_or children place 0) 0 first
    → entry_lines parents children (suc left) place
    ≡ record { depth = levels - suc left; place = place } ∷ each (entry_lines parents children left) (siblings parents first)
unfolding entry_lines
line_first parents children left place first next = rw next.same
