-- The rules of one extent as facts: `is_sound` tests just these, and with fields that fit they are the format's rules. Assumes nothing.
use Prim.Native.Nat.{ℕ, ◌+◌, ◌≤◌, ◌<◌}
use mathlib.Core.Path.{◌≡◌, sym}
use mathlib.Core.Bool.{Bool, true, false, not, ◌||◌, and-eq-true_iff}
use mathlib.Core.Logic.{◌⊎◌, inl, inr, ⊎_elim}
use mathlib.Mathlib.Data.Bool.Basic.{dichotomy, or_inl, or_inr}
use mathlib.Core.List.{List}
use native.Mathlib.Omega.{arith}
use lib.Dec.{leb, ltb, eqb}
use borrow.Author.Tests.{leb-true, eqb-true, le-leb, eq-eqb, not-false}
use Rattle.checks.proofs.Scan.{or_cases, any_false}
use Rattle.checks.proofs.Tests.{told_below, told_from}
use Rattle.format.specs.declared.Extent.{Extent}
use Rattle.format.specs.Layout.{Fit}
use Rattle.format.specs.Extents.{extent_widths, extent_fields, top, raw_length, kept_length, footprint, ExtentRules}
use Rattle.extent.specs.Extents.{extent_at, extent_count}
use Rattle.extent.specs.inner.Tests.{is_sound, some_broken}

-- the rules of one extent, but for the widths of its fields: no sum and no product is more than 64 bits hold
pub record Bounded (e : Extent) : Type 0 where
  pub multiplicity : (e.multiplicity ≡ 82) ⊎ (e.multiplicity ≡ 67)
  pub raw : raw_length e ≤ top
  pub cuts : e.pre + e.post ≤ top
  pub within : e.pre + e.post ≤ raw_length e
  pub logical : e.logical.0 + kept_length e ≤ top
  pub physical : e.start.0 + footprint e ≤ top

pub sound_bounded : (e : Extent) → is_sound e ≡ true → Bounded e
unfolding is_sound
sound_bounded e h =
    let a = (and-eq-true_iff (eqb e.multiplicity 82 || eqb e.multiplicity 67) _).0 h in
    let b = (and-eq-true_iff (leb (raw_length e) top) _).0 a.1 in
    let c = (and-eq-true_iff (leb (e.pre + e.post) top) _).0 b.1 in
    let d = (and-eq-true_iff (leb (e.pre + e.post) (raw_length e)) _).0 c.1 in
    let f = (and-eq-true_iff (leb (e.logical.0 + kept_length e) top) _).0 d.1 in
    record {
      multiplicity = ⊎_elim (λ t. inl (eqb-true _ _ t)) (λ t. inr (eqb-true _ _ t)) (or_cases _ _ a.0);
      raw = leb-true _ _ b.0;
      cuts = leb-true _ _ c.0;
      within = leb-true _ _ d.0;
      logical = leb-true _ _ f.0;
      physical = leb-true _ _ f.1;
    }

pub bounded_sound : (e : Extent) → Bounded e → is_sound e ≡ true
unfolding is_sound
bounded_sound e b =
    let m = e.multiplicity in
    (and-eq-true_iff (eqb m 82 || eqb m 67) _).1 (
      ⊎_elim (λ q. or_inl (eqb m 82) (eqb m 67) (eq-eqb m 82 q)) (λ q. or_inr (eqb m 82) (eqb m 67) (eq-eqb m 67 q)) b.multiplicity,
      (and-eq-true_iff (leb (raw_length e) top) _).1 (
        le-leb _ _ b.raw,
        (and-eq-true_iff (leb (e.pre + e.post) top) _).1 (
          le-leb _ _ b.cuts,
          (and-eq-true_iff (leb (e.pre + e.post) (raw_length e)) _).1 (
            le-leb _ _ b.within,
            (and-eq-true_iff (leb (e.logical.0 + kept_length e) top) _).1
                (le-leb _ _ b.logical, le-leb _ _ b.physical),
          ),
        ),
      ),
    )

pub unsound : (e : Extent) → (Bounded e → ⊥) → is_sound e ≡ false
unsound e h = ⊎_elim (λ q. q) (λ q. absurd (h (sound_bounded e q))) (dichotomy (is_sound e))

-- where the other rules hold, the last one decides
pub last_decides : (e : Extent) (past : Bool) → past ≡ ltb top (e.start.0 + footprint e) → (e.start.0 + footprint e ≤ top → Bounded e)
    → not past ≡ is_sound e
last_decides e past test rules =
    ⊎_elim
    (λ q. let within = told_from test q in rw q (sym (bounded_sound e (rules within))))
    (λ q. let beyond = told_below test q in rw q (sym (unsound e (λ b. omega (arith, beyond, b.physical)))))
    (dichotomy past)

-- a sound extent whose fields fit keeps the format's rules, and an extent that keeps them is sound
pub sound_rules : (e : Extent) → is_sound e ≡ true → Fit extent_widths (extent_fields e) → ExtentRules e
sound_rules e h fit =
    let b = sound_bounded e h in
    record {
      fit = fit;
      multiplicity = b.multiplicity;
      raw = b.raw;
      cuts = b.cuts;
      logical = b.logical;
      physical = b.physical;
      within = b.within;
    }

pub rules_sound : (e : Extent) → ExtentRules e → is_sound e ≡ true
rules_sound e r =
    bounded_sound e
    (record {
      multiplicity = r.multiplicity;
      raw = r.raw;
      cuts = r.cuts;
      within = r.within;
      logical = r.logical;
      physical = r.physical;
    })

-- a list with no broken extent: each is sound
pub each_sound : (list : List ℕ) → some_broken list ≡ false → (i : ℕ) → i < extent_count list → is_sound (extent_at list i) ≡ true
unfolding some_broken
each_sound list h i l = not-false _ (any_false (λ i. not (is_sound (extent_at list i))) (extent_count list) h i l)

pub each_bounded : (list : List ℕ) → some_broken list ≡ false → (i : ℕ) → i < extent_count list → Bounded (extent_at list i)
each_bounded list h i l = sound_bounded _ (each_sound list h i l)
