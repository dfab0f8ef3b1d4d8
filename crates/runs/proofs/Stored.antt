-- Where an extent stores a position that it keeps: one law for both multiplicities. Assumes nothing.
use Prim.Native.Nat.{ℕ, zero, suc, ◌+◌, ◌*◌, ◌/◌, ◌%◌, ◌<◌}
use mathlib.Core.Path.{◌≡◌, refl, sym, ap}
use mathlib.Core.Bool.{Bool, true, false, cond, and-eq-true_iff}
use mathlib.Core.Logic.{⊎_elim}
use mathlib.Mathlib.Data.Bool.Basic.{dichotomy}
use native.Mathlib.Nat.{mod-lt, mod-eq_of_lt, div-eq_of_lt, zero-mul}
use native.Mathlib.Omega.{arith}
use lib.Dec.{leb, eqb}
use borrow.Author.Tests.{leb-true, ltb-true, le-leb, lt-ltb}
use Rattle.format.specs.declared.Extent.{Extent}
use Rattle.format.specs.Extents.{raw_length, footprint, KeepsPosition}
use Rattle.extent.specs.inner.Tests.{is_sound}
use Rattle.extent.proofs.Sound.{sound_bounded}
use Rattle.runs.specs.Positions.{keeps, raw_byte, copy_of}
use Rattle.runs.specs.inner.Stored.{stored_at}

-- the test `keeps` is the format's rule
pub keeps_position : (e : Extent) (position : ℕ) → keeps e position ≡ true → KeepsPosition e position
unfolding keeps
keeps_position e position h =
    let a = (and-eq-true_iff (leb e.logical.0 position) _).0 h in
    (leb-true _ _ a.0, ltb-true _ _ a.1)

pub position_keeps : (e : Extent) (position : ℕ) → KeepsPosition e position → keeps e position ≡ true
unfolding keeps
position_keeps e position k = (and-eq-true_iff (leb e.logical.0 position) _).1 (le-leb _ _ k.0, lt-ltb _ _ k.1)

pub not_kept : (e : Extent) (position : ℕ) → (KeepsPosition e position → ⊥) → keeps e position ≡ false
not_kept e position h = ⊎_elim (λ q. q) (λ q. absurd (h (keeps_position e position q))) (dichotomy (keeps e position))

-- a product above 0 has a first factor above 0
factor : (a b : ℕ) → 0 < a * b → 0 < a
factor zero b h = rw zero-mul at h
factor (suc a) b h = omega arith

-- a kept position is stored within the footprint, at the raw byte modulo F, in the copy that the raw byte divided by F says
pub record StoredPlace (e : Extent) (position : ℕ) : Type 0 where
  pub some : 0 < footprint e
  pub place : stored_at e position ≡ e.start.0 + raw_byte e position % footprint e
  pub copy : copy_of e position ≡ raw_byte e position / footprint e
  pub within : stored_at e position < e.start.0 + footprint e

module _ (e : Extent) (position : ℕ) (sound : is_sound e ≡ true) (kept : keeps e position ≡ true) where
  pub raw_below : raw_byte e position < raw_length e
  raw_below = omega (arith, sound_bounded e sound, keeps_position e position kept)

  some_footprint : (b : Bool) → 0 < cond b e.size (raw_length e)
  some_footprint true = factor e.size e.count (omega (arith, raw_below))
  some_footprint false = omega (arith, raw_below)

  -- of 67 the raw bytes lie in a row, and none is at F or beyond
  place_mod : (b : Bool)
      → cond b (raw_byte e position % e.size) (raw_byte e position) ≡ raw_byte e position % cond b e.size (raw_length e)
  place_mod true = refl
  place_mod false = sym (mod-eq_of_lt raw_below)

  copy_div : (b : Bool) → cond b (raw_byte e position / e.size) 0 ≡ raw_byte e position / cond b e.size (raw_length e)
  copy_div true = refl
  copy_div false = sym (div-eq_of_lt raw_below)

  pub stored_place : StoredPlace e position
  unfolding stored_at copy_of
  stored_place =
      let b = eqb e.multiplicity 82 in
      let place : stored_at e position ≡ e.start.0 + raw_byte e position % footprint e
      = ap (λ (at : ℕ). e.start.0 + at) (place_mod b) in
      record {
        some = some_footprint b;
        place = place;
        copy = copy_div b;
        within = rw place (omega (arith, mod-lt (raw_byte e position) {m = footprint e} (some_footprint b)));
      }
