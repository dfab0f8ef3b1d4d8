-- The counts of a level follow from those of the level below it, place by place from the last to the first: so what follows from the
-- tallies with so many levels left are the tallies with one more, and counts that follow from themselves stay the same at every level.
-- Assumes nothing.
use Prim.Native.Nat.{ℕ, zero, suc, ◌+◌, ◌-◌, ◌≤◌, ◌<◌}
use mathlib.Core.Path.{◌≡◌, sym, ap, ◌∙◌}
use mathlib.Core.List.{List, ◌∷◌, ◌++◌}
use native.Mathlib.Omega.{arith}
use mathlib.Core.Bool.{true}
use lib.Dec.{eqb}
use lib.Pointwise.{pointwise}
use lib.ListN.{length, get_or, set, take}
use lib.Seq.{get_or-set_same, get_or-set_other, get_or-take}
use borrow.Author.Tests.{lt-leb}
use Rattle.std.proofs.lemmas.Slice.Eq.{bytes_eq-Decides}
use Rattle.order.proofs.Cases.{cases}
use Rattle.folders.specs.Lines.{Line, levels, each, entry_lines}
use Rattle.folders.specs.inner.Folders.{siblings, Indexed}
use Rattle.counts.specs.inner.Counting.{tally, tally_from, capped, joined, Counted, Within, Follows, Small, Same, Bottom}
use Rattle.folders.proofs.Places.{siblings_step, past_last, line_first}
use Rattle.counts.proofs.Tallies.{tally_more, tally_stops, tally_goes_on, joined_small, joined_capped}

-- two levels are the same where their counts up to the last one are
pub same_of : (counts others : List ℕ) (links : ℕ) → pointwise eqb (take (links + 1) counts) (take (links + 1) others) ≡ true
    → Same counts others (links + 1)
same_of counts others links e i l =
    let lists : take (links + 1) counts ≡ take (links + 1) others = (bytes_eq-Decides _ _).0 e in
    sym (get_or-take (links + 1) counts i 0 l) ∙ ap (λ (list : List ℕ). get_or list i 0) lists ∙ get_or-take (links + 1) others i 0 l

-- A level as it is filled.
module _ (nexts firsts below counts : List ℕ) (links from : ℕ) (f : Follows nexts firsts below counts links from) where
  pub follows_small : Small counts links from
  follows_small i l h =
      cases i links
      (λ b. rw (f.step i l b) (joined_small _ _))
      (λ b. let e : i ≡ links = omega arith in rw (e, f.last) (omega arith))

  -- the count of the place before those that are filled
  pub follows_more : (i count : ℕ) → i + 1 ≡ from → i < links → links < length counts → Within nexts firsts links
      → count ≡ joined (get_or below (get_or firsts i 0) 0) (get_or counts (get_or nexts i 0) 0)
      → Follows nexts firsts below (set counts i count) links i
  follows_more i count e l h p v =
      record {
        last = get_or-set_other counts i links count 0 (λ q. omega arith) ∙ f.last;
        step = λ j a b.
            let behind = p.behind j b in
            let kept = get_or-set_other counts i (get_or nexts j 0) count 0 (λ q. omega arith) in
            cases i j
            (λ m. get_or-set_other counts i j count 0 (λ q. omega arith) ∙ rw kept (f.step j (omega arith) b))
            (λ m. let q : j ≡ i = omega arith in rw (kept, q, get_or-set_same counts i count 0 (omega arith)) v);
      }

-- The tallies of a table.
module _ (parents children nexts firsts : List ℕ) (x : Indexed parents children nexts firsts) where
  pub within : Within nexts firsts (length parents)
  within =
      record {
        next_each = x.next_each;
        first_each = x.first_each;
        behind = λ i l. let a = (x.chained i (omega arith) l).ahead in omega arith;
        next_place = λ i l. (x.chained i (omega arith) l).within;
        first_place = λ i l. (x.opened i l).within;
      }

  abbrev tally_at : (left place : ℕ) → ℕ
  tally_at left place = tally_from parents children left place

  none_last : (left : ℕ) → tally_at left (length parents) ≡ 0
  unfolding each tally
  none_last left = rw (past_last parents (length parents) (omega arith))

  module _ (place : ℕ) (l : place < length parents) where
    abbrev next : ℕ
    next = get_or nexts place 0

    abbrev first : ℕ
    first = get_or firsts place 0

    -- with no level left
    deep_first_lem : tally_at 0 place ≡ 1
    unfolding each entry_lines tally
    deep_first_lem = rw (siblings_step parents place next l (x.chained place (omega arith) l))

    -- with a level more
    module _ (left : ℕ) where
      abbrev line : Line
      line = record { depth = levels - suc left; place = place }

      abbrev inside : List Line
      inside = each (entry_lines parents children left) (siblings parents first)

      abbrev behind : List Line
      behind = each (entry_lines parents children (suc left)) (siblings parents next)

      lines_from : each (entry_lines parents children (suc left)) (siblings parents place) ≡ (line ∷ inside) ++ behind
      unfolding each
      lines_from =
          rw (siblings_step parents place next l (x.chained place (omega arith) l))
          (ap (λ own. own ++ behind) (line_first parents children left place first (x.opened place l)))

      tally_step : capped (tally_at (suc left) place) ≡ joined (capped (tally_at left first)) (capped (tally_at (suc left) next))
      tally_step =
          let one = tally_more line inside (lt-leb levels (levels - suc left) (omega arith)) in
          rw lines_from
          (joined_capped (tally inside) (tally behind) _
          (λ o. tally_stops (line ∷ inside) behind (omega arith) ∙ one)
          (λ o. tally_goes_on (line ∷ inside) behind (omega arith) ∙ ap (λ (n : ℕ). n + tally behind) one))

  pub bottom_counted : (counts : List ℕ) → Bottom counts (length parents) (length parents) → Counted parents children counts 0
  bottom_counted counts b i h =
      cases i (length parents)
      (λ l. b.deep i l ∙ sym (ap capped (deep_first_lem i l)))
      (λ l. let e : i ≡ length parents = omega arith in rw e (b.last ∙ sym (ap capped (none_last 0))))

  pub counted_small : (counts : List ℕ) (left : ℕ) → Counted parents children counts left → Small counts (length parents) 0
  counted_small counts left c i a h = rw (c i h) (omega arith)

  -- A level from the one below it: `more` counts the places that are left.
  module _ (below counts : List ℕ) (left : ℕ) (f : Follows nexts firsts below counts (length parents) 0)
      (c : Counted parents children below left) where
    counted_last : (i : ℕ) → length parents ≤ i → i ≤ length parents → get_or counts i 0 ≡ capped (tally_at (suc left) i)
    counted_last i a h = let e : i ≡ length parents = omega arith in rw e (f.last ∙ sym (ap capped (none_last (suc left))))

    counted_from : (more i : ℕ) → length parents ≤ i + more → i ≤ length parents → get_or counts i 0 ≡ capped (tally_at (suc left) i)
    counted_from zero i a h = counted_last i (omega arith) h
    counted_from (suc more) i a h =
        cases i (length parents)
        (λ l.
        let b = within.behind i l in
        f.step i (omega arith) l
        ∙ rw (c (get_or firsts i 0) (within.first_place i l), counted_from more (get_or nexts i 0) (omega arith) (within.next_place i l))
        (sym (tally_step i l left)))
        (λ l. counted_last i l h)

    pub counted_more : Counted parents children counts (suc left)
    counted_more i h = counted_from (length parents) i (omega arith) h

  -- Counts that follow from themselves are those of every level above.
  pub settled : (counts : List ℕ) (left : ℕ) → Follows nexts firsts counts counts (length parents) 0
      → Counted parents children counts left → (above : ℕ) → left ≤ above → Counted parents children counts above
  settled counts left f c zero l = let e : left ≡ 0 = omega arith in rw e at c
  settled counts left f c (suc above) l =
      cases left (suc above)
      (λ b. counted_more counts counts above f (settled counts left f c above (omega arith)))
      (λ b. let e : left ≡ suc above = omega arith in rw e at c)

  pub same_follows : (counts others : List ℕ) → Same counts others (length parents + 1)
      → Follows nexts firsts counts others (length parents) 0 → Follows nexts firsts counts counts (length parents) 0
  same_follows counts others same f =
      record {
        last = same (length parents) (omega arith) ∙ f.last;
        step = λ i a l.
            let n = within.next_place i l in
            rw (same i (omega arith), same (get_or nexts i 0) (omega arith)) (f.step i a l);
      }
