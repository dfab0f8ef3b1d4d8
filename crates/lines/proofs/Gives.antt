-- Lines that are given one after the other: those of a link, and those of a folder from one link to the next. Assumes nothing.
use Prim.Native.Nat.{ℕ, suc, ◌+◌, ◌-◌, ◌*◌, ◌/◌, ◌≤◌, ◌<◌}
use mathlib.Core.Path.{◌≡◌, refl, sym, ap, ◌∙◌}
use mathlib.Core.Bool.{true, false}
use mathlib.Core.List.{List, [], ◌∷◌, ◌++◌}
use native.Mathlib.Numerals.{add-one}
use native.Mathlib.Omega.{arith}
use lib.Dec.{leb, ltb}
use lib.ListN.{length, get_or}
use borrow.Author.Tests.{ne_eqb, lt-leb, le-ltb, lt-ltb}
use Rattle.refusal.specs.Faults.{number_of}
use Rattle.refusal.specs.inner.Numbered.{fault_of, fault_of-number}
use Rattle.refusal.specs.declared.Fault.{Fault}
use Rattle.refusal.specs.declared.Fault.TheVariants.{TooDeep}
use Rattle.folders.specs.Lines.{Line, levels, each, entry_lines}
use Rattle.folders.specs.inner.Folders.{siblings, NextIn}
use Rattle.lines.specs.inner.Giving.{State, Given, sound, stopped, with_line, give, give_all, given_in}
use Rattle.folders.proofs.Places.{siblings_step, past_last, line_first}

-- a state without a fault is known by its list and its lines
same_state : (state : State) → state.fault ≡ 0 → state ≡ sound state.list state.lines
same_state state e = ap (λ (f : ℕ). stopped state f) e

module _ (room : ℕ) where
  give-append : (state : State) (first second : List Line)
      → give_all room state (first ++ second) ≡ give_all room (give_all room state first) second
  unfolding give_all
  give-append state [] second = refl
  give-append state (line ∷ first) second = give-append (give room state line) first second

  pub give_none : (state : State) → give_all room state [] ≡ state
  unfolding give_all
  give_none state = refl

  pub give_first : (state : State) (line : Line) (lines : List Line) → give_all room state (line ∷ lines) ≡ give_all room (give room state line) lines
  unfolding give_all
  give_first state line lines = refl

  pub give_deep : (list : List ℕ) (n : ℕ) (line : Line) → leb levels line.depth ≡ true
      → give room (sound list n) line ≡ stopped (sound list n) 24
  unfolding give
  give_deep list n line d = rw d

  pub give_full : (list : List ℕ) (n : ℕ) (line : Line) → leb levels line.depth ≡ false → ltb room (2 * suc n) ≡ true
      → give room (sound list n) line ≡ stopped (sound list n) 17
  unfolding give
  give_full list n line d r = rw (d, r)

  pub give_stored : (list : List ℕ) (n : ℕ) (line : Line) → leb levels line.depth ≡ false → ltb room (2 * suc n) ≡ false
      → give room (sound list n) line ≡ sound (with_line list n line) (n + 1)
  unfolding give
  give_stored list n line d r = rw (d, r, add-one n)

  -- after a fault nothing more is given
  pub give_stays : (state : State) (lines : List Line) → (state.fault ≡ 0 → ⊥) → give_all room state lines ≡ state
  unfolding give_all give
  give_stays state [] d = refl
  give_stays state (line ∷ lines) d = rw (ne_eqb state.fault 0 d) (give_stays state lines d)

  module _ (parents children : List ℕ) where
    -- A link at a place, with so many levels left, behind n lines.
    module _ (left place n : ℕ) (list : List ℕ) where
      pub link_too_deep : left ≡ 0 → give_all room (sound list n) (entry_lines parents children left place) ≡ stopped (sound list n) 24
      unfolding give_all give entry_lines
      link_too_deep e = rw e

      abbrev line_here : Line
      line_here = record { depth = levels - left; place = place }

      module _ (more : left ≡ 0 → ⊥) where
        -- what it holds, from the first link on
        abbrev after : (first : ℕ) → List Line
        after first = each (entry_lines parents children (left - 1)) (siblings parents first)

        levels_left : left ≡ suc (left - 1)
        levels_left = omega arith

        not_deep : leb levels (levels - left) ≡ false
        not_deep = lt-leb levels (levels - left) (omega arith)

        opened : (first : ℕ) → NextIn parents (get_or children place 0) 0 first
            → entry_lines parents children left place
            ≡ line_here ∷ after first
        opened first next =
            ap (λ (m : ℕ). entry_lines parents children m place) levels_left ∙ line_first parents children (left - 1) place first next
            ∙ ap (λ (m : ℕ). record { depth = levels - m; place = place } ∷ after first)
            (sym levels_left)

        pub no_room_for_link : (first : ℕ) → NextIn parents (get_or children place 0) 0 first → room / 2 ≤ n
            → give_all room (sound list n) (entry_lines parents children left place) ≡ stopped (sound list n) 17
        no_room_for_link first next h =
            ap (give_all room (sound list n)) (opened first next)
            ∙ give_first (sound list n) line_here (after first) ∙ ap (λ s. give_all room s (after first)) (give_full list n line_here not_deep (lt-ltb room (2 * suc n) (omega arith)))
            ∙ give_stays (stopped (sound list n) 17) (after first) (λ e. omega arith)

        pub link_given : (first : ℕ) → NextIn parents (get_or children place 0) 0 first → n < room / 2
            → give_all room (sound list n) (entry_lines parents children left place)
            ≡ give_all room (sound (with_line list n line_here) (n + 1)) (each (entry_lines parents children (left - 1)) (siblings parents first))
        link_given first next h =
            ap (give_all room (sound list n)) (opened first next)
            ∙ give_first (sound list n) line_here (after first)
            ∙ ap (λ s. give_all room s (after first)) (give_stored list n line_here not_deep (le-ltb room (2 * suc n) (omega arith)))

    -- The links of a folder from a place on, with so many levels left.
    module _ (left : ℕ) where
      abbrev pub from_place : State → (place : ℕ) → State
      from_place state place = give_all room state (each (entry_lines parents children left) (siblings parents place))

      abbrev here : State → (place : ℕ) → State
      here state place = give_all room state (entry_lines parents children left place)

      pub folder_over : (state : State) (place : ℕ) → length parents ≤ place → from_place state place ≡ state
      unfolding give_all each
      folder_over state place h = rw (past_last parents place h)

      module _ (state : State) (place next : ℕ) (h : place < length parents) (n : NextIn parents (get_or parents place 0) (place + 1) next) where
        step : from_place state place ≡ from_place (here state place) next
        unfolding each
        step = rw (siblings_step parents place next h n) (give-append state (entry_lines parents children left place) _)

        module _ (answer : Given) (list : List ℕ) (a : answer ≡ given_in (here state place)) (l : list ≡ (here state place).list) where
          pub folder_stops : (answer.fault ≡ 0 → ⊥)
              → (answer ≡ given_in (from_place state place)) × (list ≡ (from_place state place).list)
          folder_stops d =
              let e : from_place state place ≡ here state place
              = step ∙ give_stays (here state place) _ (λ q. d (ap (λ g. g.fault) a ∙ q)) in
              rw e (a, l)

          pub folder_goes_on : answer.fault ≡ 0 → from_place state place ≡ from_place (sound list answer.lines) next
          folder_goes_on q =
              let f : (here state place).fault ≡ 0 = sym (ap (λ g. g.fault) a) ∙ q in
              let e : here state place ≡ sound list answer.lines = rw (l, a) (same_state (here state place) f) in
              step ∙ ap (λ s. from_place s next) e

-- what is answered of a state that is known
pub told : (state other : State) → state ≡ other → (given_in other ≡ given_in state) × (other.list ≡ state.list)
told state other e = (ap given_in (sym e), ap (λ s. s.list) (sym e))

-- no fault has the number 0, as that would be the last one's
pub some_fault : (fault : Fault) → number_of fault ≡ 0 → ⊥
some_fault fault e =
    let last : fault ≡ TooDeep = sym (fault_of-number fault) ∙ ap fault_of e in
    let number : number_of fault ≡ 24 = ap number_of last in
    omega arith
