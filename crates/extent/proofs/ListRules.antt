-- A list of bytes passes the tests on extents exactly if it is the list of extents that keep the rules. Assumes nothing.
use Prim.Native.Nat.{ℕ, zero, suc, ◌+◌, ◌*◌, ◌%◌, ◌≤◌}
use mathlib.Core.Path.{◌≡◌, refl, sym, ap, ap₂, subst, ◌∙◌}
use mathlib.Core.Bool.{false, not}
use mathlib.Core.List.{List, [], ◌∷◌, ◌++◌}
use mathlib.Mathlib.Data.Bool.Basic.{eq-false_of_not-eq-true}
use native.Mathlib.Omega.{arith}
use lib.ListN.{length, take, drop, get_or, length-append, length-drop}
use lib.Seq.{take-add, take_all, drop-drop, drop_at}
use Rattle.number.specs.Number.{Bytes}
use Rattle.number.proofs.Digits.{bytes_drop}
use Rattle.checks.proofs.Scan.{never, any_nowhere, pair_false, pair_nowhere}
use Rattle.format.specs.declared.Extent.{Extent}
use Rattle.format.specs.Layout.{Fit, laid, All}
use Rattle.format.specs.Extents.{extent_widths, extent_fields, extent_list, ExtentRules, KeepsPosition, Apart}
use Rattle.format.specs.Blocks.{ExtentsOf}
use Rattle.format.proofs.Listed.{listed, length-listed, listed_same, all_listed, listed_all, pairs_listed, listed_pairs}
use Rattle.format.proofs.Fields.{values_in, length-laid, values_laid, laid_values, fit_values, values_listed}
use Rattle.extent.specs.Extents.{extent_at, extent_count}
use Rattle.extent.specs.inner.Tests.{some_broken, some_overlap}
use Rattle.extent.proofs.Sound.{sound_rules, rules_sound, each_sound}
use Rattle.extent.proofs.Share.{share_position, position_share}

-- an extent from the values of its fields
abbrev extent_of : (values : List ℕ) → Extent
extent_of values =
    record {
      volume = get_or values 0 0;
      start = record { 0 = get_or values 1 0 };
      size = get_or values 2 0;
      multiplicity = get_or values 3 0;
      count = get_or values 4 0;
      pre = get_or values 5 0;
      post = get_or values 6 0;
      logical = record { 0 = get_or values 7 0 };
    }

at_values : (list : List ℕ) (index : ℕ) → extent_at list index ≡ extent_of (values_in extent_widths (drop (57 * index) list))
unfolding extent_at
at_values list index = rw (values_listed extent_widths list (57 * index))

-- the fields of an extent stand where it is read
pub fields_stand : (list : List ℕ) (index : ℕ) → extent_fields (extent_at list index) ≡ values_in extent_widths (drop (57 * index) list)
unfolding values_in
fields_stand list index = rw (at_values list index)

-- and fit, where bytes stand there
pub fields_fit : (list : List ℕ) → Bytes list → (index : ℕ) → Fit extent_widths (extent_fields (extent_at list index))
fields_fit list b index =
    subst (Fit extent_widths) (sym (fields_stand list index))
    (fit_values extent_widths (drop (57 * index) list) (bytes_drop (57 * index) list b))

at_suc : (list : List ℕ) (index : ℕ) → extent_at list (suc index) ≡ extent_at (drop 57 list) index
at_suc list index =
    let e : 57 * suc index ≡ 57 + 57 * index = omega arith in
    at_values list (suc index) ∙ rw (e, ← drop-drop (57 * index) 57 list) (sym (at_values (drop 57 list) index))

-- the extents of a list, counted out
abbrev extents_of : (list : List ℕ) (count : ℕ) → List Extent
extents_of list count = listed count (extent_at list)

-- those after the first are the extents of the rest
after_first : (list : List ℕ) (count : ℕ) → listed count (λ i. extent_at list (suc i)) ≡ extents_of (drop 57 list) count
after_first list count = listed_same count (λ i. extent_at list (suc i)) (extent_at (drop 57 list)) (at_suc list)

-- Extents read are laid out as they stood.
list_extents : (count : ℕ) (list : List ℕ) → Bytes list → 57 * count ≤ length list
    → extent_list (extents_of list count) ≡ take (57 * count) list
unfolding extent_list
list_extents zero list b h = refl
list_extents (suc count) list b h =
    let e : 57 * suc count ≡ 57 + 57 * count = omega arith in
    let k : 57 * count ≤ length (drop 57 list) = omega (arith, length-drop 57 list) in
    rw (e, take-add 57 (57 * count) list, fields_stand list 0, after_first list count)
    (ap₂ ◌++◌ (laid_values extent_widths list b (omega arith)) (list_extents count (drop 57 list) (bytes_drop 57 list b) k))

-- Extents laid out are read back.
length-extents : (extents : List Extent) → All ExtentRules extents → length (extent_list extents) ≡ 57 * length extents
unfolding extent_list
length-extents [] rules = refl
length-extents (e ∷ es) rules =
    length-append (laid extent_widths (extent_fields e)) (extent_list es)
    ∙ omega (arith, length-laid extent_widths (extent_fields e) rules.0.fit, length-extents es rules.1)

extents_list : (extents : List Extent) → All ExtentRules extents → extents_of (extent_list extents) (length extents) ≡ extents
unfolding extent_list
extents_list [] rules = refl
extents_list (e ∷ es) rules =
    let fields : List ℕ = extent_fields e in
    let list : List ℕ = laid extent_widths fields ++ extent_list es in
    let values : values_in extent_widths list ≡ fields = values_laid extent_widths fields (extent_list es) rules.0.fit in
    let rest : drop 57 list ≡ extent_list es
    = drop_at (laid extent_widths fields) (extent_list es) 57 (length-laid extent_widths fields rules.0.fit) in
    ap₂ ◌∷◌ (at_values list 0 ∙ ap extent_of values) (after_first list (length es) ∙ rw rest (extents_list es rules.1))

abbrev NoneShared : Extent → Extent → Type 0
NoneShared d e = (position : ℕ) → KeepsPosition d position → KeepsPosition e position → ⊥

-- what the tests say of a list of extents that keep the rules
pub record ListPasses (list : List ℕ) : Type 0 where
  pub few : length list ≤ 58368
  pub whole : length list % 57 ≡ 0
  pub sound : some_broken list ≡ false
  pub apart : some_overlap list ≡ false

pub list_sound : (list : List ℕ) → Bytes list → ListPasses list → ExtentsOf list
unfolding some_overlap
list_sound list b p =
    let count : ℕ = extent_count list in
    let e : 57 * count ≡ length list = omega (arith, p.whole) in
    record {
      extents = extents_of list count;
      laid_out = list_extents count list b (omega arith) ∙ take_all (57 * count) list (omega arith);
      few = rw (length-listed count (extent_at list)) (omega (arith, p.few));
      each =
          all_listed ExtentRules count (extent_at list)
          (λ i h. sound_rules (extent_at list i) (each_sound list p.sound i h) (fields_fit list b i));
      apart =
          pairs_listed NoneShared Apart tt (λ a others x y. (x, y)) count (extent_at list)
          (λ i j h k position x y. never (position_share _ _ position x y) (pair_false _ count p.apart i j h k));
    }

pub list_complete : (list : List ℕ) → ExtentsOf list → ListPasses list
unfolding some_broken some_overlap
list_complete list of =
    let es : List Extent = of.extents in
    let count : ℕ = length es in
    let few : count ≤ 1024 = of.few in
    let l : length list ≡ 57 * count = rw of.laid_out at (length-extents es of.each) in
    let c : extent_count list ≡ count = omega arith in
    let same : extents_of list count ≡ es = rw of.laid_out at (extents_list es of.each) in
    let each = listed_all ExtentRules count (extent_at list) (rw same of.each) in
    let apart = listed_pairs NoneShared Apart (λ a others x. x) count (extent_at list) (rw same of.apart) in
    record {
      few = omega arith;
      whole = omega arith;
      sound = rw c (any_nowhere _ count (λ i h. ap not (rules_sound (extent_at list i) (each i h))));
      apart =
          rw c (
          pair_nowhere _ count (λ i j h k.
          eq-false_of_not-eq-true (λ t.
          let p = share_position _ _ t in
          apart i j h k p.0 p.1.0 p.1.1))
          );
    }
