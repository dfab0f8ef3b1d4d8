-- The tally of lines: what it is of lines behind others, that capped tallies are joined as tallies are, and that the answer follows
-- from the tally alone, capped or not. Assumes nothing.
use Prim.Native.Nat.{ℕ, suc, ◌+◌, ◌*◌, ◌/◌, ◌%◌, ◌≤◌, ◌<◌}
use mathlib.Core.Path.{◌≡◌, refl, sym, ap, ◌∙◌}
use mathlib.Core.Bool.{true, false}
use mathlib.Core.Logic.{⊎_elim}
use mathlib.Core.List.{List, [], ◌∷◌, ◌++◌}
use mathlib.Mathlib.Data.Bool.Basic.{dichotomy}
use native.Mathlib.Omega.{arith}
use lib.Dec.{leb}
use borrow.Author.Tests.{lt-ltb, le-ltb, eq-eqb, ne_eqb}
use Rattle.order.proofs.Cases.{cases}
use Rattle.folders.specs.Lines.{Line, levels}
use Rattle.lines.specs.inner.Giving.{State, sound, stopped, with_line, give, give_all, given_in}
use Rattle.counts.specs.inner.Counting.{tally, is_odd, most, capped, joined, given_at}
use Rattle.lines.proofs.Gives.{give_first, give_full, give_stored, give_stays}

-- what follows of an odd number, and of an even one, follows
parity : {A : Type 0} (n : ℕ) → (n % 2 ≡ 1 → A) → (n % 2 ≡ 0 → A) → A
parity n odd even = cases (n % 2) 1 (λ l. even (omega arith)) (λ l. odd (omega arith))

odd : (n : ℕ) → n % 2 ≡ 1 → is_odd n ≡ true
odd n e = eq-eqb (n % 2) 1 e

even : (n : ℕ) → n % 2 ≡ 0 → is_odd n ≡ false
even n e = ne_eqb (n % 2) 1 (λ q. omega arith)

-- A line in front.
module _ (line : Line) (lines : List Line) where
  tally_deep : leb levels line.depth ≡ true → tally (line ∷ lines) ≡ 1
  unfolding tally
  tally_deep e = rw e

  pub tally_more : leb levels line.depth ≡ false → tally (line ∷ lines) ≡ tally lines + 2
  unfolding tally
  tally_more e = rw e (omega arith)

tally_none : tally [] ≡ 0
unfolding tally
tally_none = refl

-- Lines behind others: nothing counts behind a line that is too deep.
pub tally_stops : (first second : List Line) → tally first % 2 ≡ 1 → tally (first ++ second) ≡ tally first
tally_stops [] second o = absurd (omega (arith, tally_none))
tally_stops (line ∷ first) second o =
    ⊎_elim
    (λ e.
    let m = tally_more line first e in
    let s = tally_stops first second (omega arith) in
    tally_more line (first ++ second) e ∙ omega arith)
    (λ e. tally_deep line (first ++ second) e ∙ sym (tally_deep line first e))
    (dichotomy (leb levels line.depth))

pub tally_goes_on : (first second : List Line) → tally first % 2 ≡ 0 → tally (first ++ second) ≡ tally first + tally second
tally_goes_on [] second z = omega (arith, tally_none)
tally_goes_on (line ∷ first) second z =
    ⊎_elim
    (λ e.
    let m = tally_more line first e in
    let s = tally_goes_on first second (omega arith) in
    tally_more line (first ++ second) e ∙ omega arith)
    (λ e. absurd (omega (arith, tally_deep line first e)))
    (dichotomy (leb levels line.depth))

-- Counts joined.
module _ (inside behind : ℕ) where
  pub joined_odd : inside % 2 ≡ 1 → joined inside behind ≡ capped (inside + 2)
  unfolding joined
  joined_odd e = rw (odd inside e)

  pub joined_even : inside % 2 ≡ 0 → joined inside behind ≡ capped (inside + 2 + behind)
  unfolding joined
  joined_even e = rw (even inside e)

  pub joined_small : joined inside behind ≤ most
  joined_small = parity inside (λ e. omega (arith, joined_odd e)) (λ e. omega (arith, joined_even e))

-- Capped tallies are joined to the capped tally of the whole.
pub joined_capped : (inside behind whole : ℕ) → (inside % 2 ≡ 1 → whole ≡ inside + 2) → (inside % 2 ≡ 0 → whole ≡ inside + 2 + behind)
    → capped whole ≡ joined (capped inside) (capped behind)
joined_capped inside behind whole stops goes_on =
    parity (capped inside)
    (λ e.
    let w = stops (omega arith) in
    omega (arith, joined_odd (capped inside) (capped behind) e))
    (λ e.
    parity inside
    (λ o. let w = stops o in omega (arith, joined_even (capped inside) (capped behind) e))
    (λ o. let w = goes_on o in omega (arith, joined_even (capped inside) (capped behind) e)))

-- The answer of a tally.
module _ (room count : ℕ) where
  pub answer_full : room / 2 < count / 2 → given_at room count ≡ record { lines = room / 2; fault = 17 }
  unfolding given_at
  answer_full h = rw (lt-ltb (room / 2) (count / 2) h)

  pub answer_deep : count / 2 ≤ room / 2 → count % 2 ≡ 1 → given_at room count ≡ record { lines = count / 2; fault = 24 }
  unfolding given_at
  answer_deep h e = rw (le-ltb (room / 2) (count / 2) h, odd count e)

  pub answer_sound : count / 2 ≤ room / 2 → count % 2 ≡ 0 → given_at room count ≡ record { lines = count / 2; fault = 0 }
  unfolding given_at
  answer_sound h e = rw (le-ltb (room / 2) (count / 2) h, even count e)

-- A cap above the room changes nothing.
pub answer_capped : (room count : ℕ) → room < most → given_at room (capped count) ≡ given_at room count
answer_capped room count h =
    cases count most
    (λ l. let e : capped count ≡ count = omega arith in rw e)
    (λ l. answer_full room (capped count) (omega arith) ∙ sym (answer_full room count (omega arith)))

-- Lines behind n others.
module _ (room n count : ℕ) (h : n ≤ room / 2) where
  answer_nothing : count ≡ 2 * n → record { lines = n; fault = 0 } ≡ given_at room count
  answer_nothing e =
      let q : count / 2 ≡ n = omega arith in
      sym (rw q at (answer_sound room count (omega arith) (omega arith)))

  answer_too_deep : count ≡ 2 * n + 1 → record { lines = n; fault = 24 } ≡ given_at room count
  answer_too_deep e =
      let q : count / 2 ≡ n = omega arith in
      sym (rw q at (answer_deep room count (omega arith) (omega arith)))

  answer_no_room : room / 2 ≤ n → 2 * n + 2 ≤ count → record { lines = n; fault = 17 } ≡ given_at room count
  answer_no_room r l =
      let q : room / 2 ≡ n = omega arith in
      sym (rw q at (answer_full room count (omega arith)))

module _ (room : ℕ) where
  stays : (state : State) (line : Line) (lines : List Line) (fault : ℕ) → (fault ≡ 0 → ⊥) → give room state line ≡ stopped state fault
      → give_all room state (line ∷ lines) ≡ stopped state fault
  stays state line lines fault d e =
      give_first room state line lines ∙ ap (λ s. give_all room s lines) e ∙ give_stays room (stopped state fault) lines d

  give_deep : (list : List ℕ) (n : ℕ) (line : Line) → leb levels line.depth ≡ true
      → give room (sound list n) line ≡ stopped (sound list n) 24
  unfolding give
  give_deep list n line e = rw e

  -- a line more, which is not too deep
  give_one : (list : List ℕ) (n : ℕ) (line : Line) (lines : List Line) → leb levels line.depth ≡ false → n < room / 2
      → give_all room (sound list n) (line ∷ lines) ≡ give_all room (sound (with_line list n line) (n + 1)) lines
  give_one list n line lines e l =
      give_first room (sound list n) line lines
      ∙ ap (λ s. give_all room s lines) (give_stored room list n line e (le-ltb room (2 * suc n) (omega arith)))

  give_none : (state : State) → give_all room state [] ≡ state
  unfolding give_all
  give_none state = refl

  -- what giving lines answers is told by their tally
  answer_tally : (list : List ℕ) (n : ℕ) (lines : List Line) → n ≤ room / 2
      → given_in (give_all room (sound list n) lines) ≡ given_at room (tally lines + 2 * n)
  answer_tally list n [] h =
      ap given_in (give_none (sound list n)) ∙ answer_nothing room n _ h (omega (arith, tally_none))
  answer_tally list n (line ∷ lines) h =
      ⊎_elim
      (λ e.
      let t = tally_more line lines e in
      cases n (room / 2)
      (λ l.
      let q : tally lines + 2 * (n + 1) ≡ tally (line ∷ lines) + 2 * n = omega arith in
      ap given_in (give_one list n line lines e l) ∙ answer_tally (with_line list n line) (n + 1) lines (omega arith)
      ∙ ap (given_at room) q)
      (λ l.
      ap given_in (stays (sound list n) line lines 17 (λ z. omega arith) (give_full room list n line e (lt-ltb room (2 * suc n) (omega arith))))
      ∙ answer_no_room room n _ h l (omega arith)))
      (λ e.
      ap given_in (stays (sound list n) line lines 24 (λ z. omega arith) (give_deep list n line e))
      ∙ answer_too_deep room n _ h (omega (arith, tally_deep line lines e)))
      (dichotomy (leb levels line.depth))

  pub answer_all : (list : List ℕ) (lines : List Line) (count : ℕ) → room < most → count ≡ capped (tally lines)
      → given_at room count ≡ given_in (give_all room (sound list 0) lines)
  answer_all list lines count h e =
      let z : tally lines + 2 * 0 ≡ tally lines = omega arith in
      rw e (answer_capped room (tally lines) h) ∙ sym (rw z at (answer_tally list 0 lines (omega arith)))
