-- The first links of all folders, sorted by folder: a folder is found where it belongs, and a link more changes one of them or adds one.
-- Assumes nothing.
use Prim.Native.Nat.{ℕ, ◌+◌, ◌≤◌, ◌<◌}
use mathlib.Core.Path.{◌≡◌, refl, sym, ap, ◌∙◌}
use mathlib.Core.Bool.{true}
use mathlib.Core.List.{List}
use native.Mathlib.Omega.{arith}
use borrow.Author.Tests.{eq-eqb, eqb-true}
use Rattle.std.specs.Prelude.{Ok, Err, ◌==◌}
use Rattle.std.specs.List.{list_any}
use Rattle.std.proofs.lemmas.List.Folds.{list_any_at, Any-from_list_any}
use Rattle.std.proofs.lemmas.Grind.{get_or_default_zero}
use lib.ListN.{length, get_or, set, take, length-take}
use lib.Seq.{get_or-set_same, get_or-set_other, length-take-le, get_or-take}
use Rattle.order.specs.Order.{Placed, Inserted}
use Rattle.order.proofs.Cases.{cases}
use Rattle.order.proofs.Parts.{rising_take, placed_take}
use Rattle.order.proofs.Inserts.{inserted_each, inserted_kept, inserted_rising}
use Rattle.folders.specs.inner.Folders.{parent_of, NextIn, Chained, Sorted, Heads, FindsHead, stands, missing}
use Rattle.folders.proofs.Places.{next_none, next_self, next_skip}

-- two numbers are the same or not
same_or_not : {A : Type 0} (m n : ℕ) → (m ≡ n → A) → ((m ≡ n → ⊥) → A) → A
same_or_not m n same other =
    cases m n (λ l. other (λ e. omega arith)) (λ l. cases n m (λ r. other (λ e. omega arith)) (λ r. same (omega arith)))

-- a place among the heads where that of a folder stands is the same as a test that one of them passes
module _ (parents heads : List ℕ) (count folder : ℕ) where
  pub head_at : list_any (λ head. parent_of parents head == folder) (take count heads) ≡ true
      → (k : ℕ) × ((k < count) × (parent_of parents (get_or heads k 0) ≡ folder))
  head_at h =
      let f = Any-from_list_any {X = ℕ} _ _ h in
      let l : f.0 < count = omega (arith, f.2, length-take count heads) in
      let read = sym (get_or-take count heads f.0 0 l) ∙ sym (get_or_default_zero _ f.0 f.1 f.2) ∙ f.3 in
      (f.0, (l, ap (parent_of parents) read ∙ eqb-true _ _ f.4))

  pub at_head : (k : ℕ) → count ≤ length heads → k < count → parent_of parents (get_or heads k 0) ≡ folder
      → list_any (λ head. parent_of parents head == folder) (take count heads) ≡ true
  at_head k fits l e =
      let long : k < length (take count heads) = omega (arith, length-take-le count heads fits) in
      list_any_at {X = ℕ} _ _ k 0 long (eq-eqb _ _ (ap (parent_of parents) (get_or-take count heads k 0 l) ∙ e))

pub chained_more : (parents nexts : List ℕ) (i next : ℕ) → i < length nexts → Chained parents nexts (i + 1)
    → NextIn parents (parent_of parents i) (i + 1) next → Chained parents (set nexts i next) i
chained_more parents nexts i next h chained n j l m =
    same_or_not j i
    (λ e. rw (e, get_or-set_same nexts i next 0 h) n)
    (λ d. rw (get_or-set_other nexts i j next 0 d) (chained j (omega arith) m))

module _ (parents heads : List ℕ) (count from : ℕ) (h : Heads parents heads count from) where
  module _ (folder place : ℕ) (p : Placed (parent_of parents) heads count folder place) where
    -- the head there is that of the folder
    pub found_head : place < count → parent_of parents (get_or heads place 0) ≡ folder → NextIn parents folder from (get_or heads place 0)
    found_head l e = rw e at (h.first place l)

    module _ (other : place < count → parent_of parents (get_or heads place 0) ≡ folder → ⊥) where
      -- else every head from there on is that of a higher folder
      above : (k : ℕ) → place ≤ k → k < count → folder < parent_of parents (get_or heads k 0)
      above k a l =
          let u = p.upper place (omega arith) (omega arith) in
          let d : folder < parent_of parents (get_or heads place 0)
          = cases folder (parent_of parents (get_or heads place 0)) (λ q. q) (λ q. absurd (other (omega arith) (omega arith))) in
          cases place k
          (λ q. omega (arith, h.sorted.rising place k q l))
          (λ q. let e : k ≡ place = omega arith in rw e d)

      pub no_head : NextIn parents folder from (length parents)
      no_head =
          let f = h.few in
          next_none parents folder from (omega arith)
          (λ j l m e.
          let w = h.every j l m in
          cases w.0 place
          (λ q. omega (arith, p.lower w.0 q, w.1.1))
          (λ q. omega (arith, above w.0 q w.1.0, w.1.1)))

-- A link more, at the place before those of the heads.
module _ (parents heads : List ℕ) (count i place : ℕ) (within : i < length parents) (h : Heads parents heads count (i + 1))
    (p : Placed (parent_of parents) heads count (parent_of parents i) place) where
  -- a link of another folder still begins its folder
  passed : (k : ℕ) → k < count → (parent_of parents (get_or heads k 0) ≡ parent_of parents i → ⊥)
      → NextIn parents (parent_of parents (get_or heads k 0)) i (get_or heads k 0)
  passed k l d = next_skip parents _ i _ within (λ e. d (sym e)) (h.first k l)

  -- It takes the place of the head of its folder.
  module _ (size : count ≤ length heads) (l : place < count) (e : parent_of parents (get_or heads place 0) ≡ parent_of parents i) where
    new : List ℕ
    new = set heads place i

    same_folder : (k : ℕ) → k < count → parent_of parents (get_or new k 0) ≡ parent_of parents (get_or heads k 0)
    unfolding new
    same_folder k m =
        same_or_not k place
        (λ q. rw (q, get_or-set_same heads place i 0 (omega arith)) (sym e))
        (λ d. rw (get_or-set_other heads place k i 0 d))

    other_folder : (k : ℕ) → k < count → (k ≡ place → ⊥) → parent_of parents (get_or heads k 0) ≡ parent_of parents i → ⊥
    other_folder k m d q =
        cases k place
        (λ a. omega (arith, h.sorted.rising k place a l))
        (λ a. omega (arith, h.sorted.rising place k (omega arith) m))

    pub replaced : Heads parents (set heads place i) count i
    unfolding new
    replaced =
        let f = h.few in
        record {
          few = omega arith;
          sorted = record {
            rising = λ a b q r. rw (same_folder a (omega arith), same_folder b r) (h.sorted.rising a b q r);
            link = λ k m.
                same_or_not k place
                (λ q. rw (q, get_or-set_same heads place i 0 (omega arith)) within)
                (λ d. rw (get_or-set_other heads place k i 0 d) (h.sorted.link k m));
          };
          first = λ k m.
              same_or_not k place
              (λ q. rw (q, get_or-set_same heads place i 0 (omega arith)) (next_self parents i within))
              (λ d. rw (get_or-set_other heads place k i 0 d) (passed k m (other_folder k m d)));
          every = λ j a b.
              same_or_not j i
              (λ q. (place, (l, same_folder place l ∙ e ∙ ap (parent_of parents) (sym q))))
              (λ d. let w = h.every j (omega arith) b in (w.0, (w.1.0, same_folder w.0 w.1.0 ∙ w.1.1)));
        }

  -- It is the head of a new folder.
  module _ (new : List ℕ) (other : place < count → parent_of parents (get_or heads place 0) ≡ parent_of parents i → ⊥)
      (ins : Inserted heads new count place i) where
    higher : (k : ℕ) → place ≤ k → k < count → parent_of parents i < parent_of parents (get_or heads k 0)
    higher = above parents heads count (i + 1) h (parent_of parents i) place p other

    differs : (k : ℕ) → k < count → parent_of parents (get_or heads k 0) ≡ parent_of parents i → ⊥
    differs k l e = cases k place (λ q. omega (arith, p.lower k q)) (λ q. omega (arith, higher k q l))

    pub put_in : Heads parents new (count + 1) i
    put_in =
        let f = h.few in
        let w = p.within in
        record {
          few = omega arith;
          sorted = record {
            rising = inserted_rising heads new count place i w ins (parent_of parents) h.sorted.rising p.lower higher;
            link = inserted_each heads new count place i w ins (λ y. y < length parents) h.sorted.link within;
          };
          first =
              inserted_each heads new count place i w ins (λ y. NextIn parents (parent_of parents y) i y)
              (λ k l. passed k l (differs k l)) (next_self parents i within);
          every = λ j a b.
              same_or_not j i
              (λ q. (place, (omega arith, ap (parent_of parents) (ins.here ∙ sym q))))
              (λ d.
              let v = h.every j (omega arith) b in
              let k = inserted_kept heads new count place i w ins (get_or heads v.0 0) v.0 v.1.0 refl in
              (k.0, (k.1.0, ap (parent_of parents) k.1.1 ∙ v.1.1)));
        }

-- there are no more heads than links
pub long : (parents heads : List ℕ) (count from : ℕ) → length parents ≤ length heads → Heads parents heads count from → count ≤ length heads
long parents heads count from l h = let few = h.few in omega arith

-- The heads as the first of a longer list.
module _ (parents heads : List ℕ) (count : ℕ) (few : count ≤ length heads) where
  cut_len : length (take count heads) ≡ count
  cut_len = length-take-le count heads few

  at_cut : (k : ℕ) → k < count → get_or (take count heads) k 0 ≡ get_or heads k 0
  at_cut k l = get_or-take count heads k 0 l

  pub sorted_cut : Sorted parents heads count → Sorted parents (take count heads) (length (take count heads))
  sorted_cut s =
      record { rising = rising_take (parent_of parents) heads count few s.rising; link = rw cut_len (λ k l. rw (at_cut k l) (s.link k l)) }

  pub heads_cut : (from : ℕ) → Heads parents heads count from → Heads parents (take count heads) (length (take count heads)) from
  heads_cut from h =
      rw cut_len
      (record {
        few = h.few;
        sorted = rw cut_len at (sorted_cut h.sorted);
        first = λ k l. rw (at_cut k l) (h.first k l);
        every = λ i a b.
            let w = h.every i a b in (w.0, (w.1.0, ap (parent_of parents) (at_cut w.0 w.1.0) ∙ w.1.1));
      })

  -- what is found among them
  pub cut_stands : (folder place : ℕ) → FindsHead parents (take count heads) folder (Ok place)
      → Placed (parent_of parents) heads count folder place × ((place < count) × (parent_of parents (get_or heads place 0) ≡ folder))
  cut_stands folder place (stands p l e) =
      let l : place < count = rw cut_len at l in
      (placed_take (parent_of parents) heads count few folder place p, (l, rw (at_cut place l) at e))

  pub cut_missing : (folder place : ℕ) → FindsHead parents (take count heads) folder (Err place)
      → Placed (parent_of parents) heads count folder place × (place < count → parent_of parents (get_or heads place 0) ≡ folder → ⊥)
  cut_missing folder place (missing p none) =
      (placed_take (parent_of parents) heads count few folder place p, λ l e. none (rw cut_len l) (rw (at_cut place l) e))
