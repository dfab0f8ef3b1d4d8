-- What the functions of src/ are proved by: laws of reading a text at a place.
use Prim.Native.Nat.{ℕ, zero, suc, ◌+◌, ◌≤◌, ◌<◌}
use mathlib.Core.Path.{◌≡◌, refl, sym, ◌∙◌}
use mathlib.Core.Bool.{Bool, true, false, cond, ◌&&◌, and-true}
use mathlib.Core.List.{List, [], ◌∷◌}
use mathlib.Core.Logic.{⊎_elim}
use native.Mathlib.Nat.{eq-or-lt_of_le}
use native.Mathlib.Omega.{arith}
use native.Mathlib.Numerals.{add-one}
use lib.Dec.{leb}
use lib.ListN.{length, drop, get_or, length-drop, drop_of_length-le}
use lib.Seq.{drop-drop, drop-cons}
use mathlib.Mathlib.Data.Bool.Basic.{dichotomy}
use Rattle.std.proofs.Common.{zero-le, ltb, ltb-true, ltb-false}
use borrow.Author.Tests.{le-leb, lt-leb}
use Rattle.utf8.specs.Ascii.{AsciiRun}
use Rattle.utf8.specs.Grammar.{Range, ◌to◌, forms, Listed}
use Rattle.utf8.specs.inner.Length.{in_range, begins, char_length, well_formed_length}
use Rattle.utf8.proofs.Forms.{begins_sound, utf8_1, lead_of_form, lead_between, lead_beyond, char_sound}
use Rattle.utf8.proofs.Longest.{step, stop, well_formed_length-within}

begins_next : (range : Range) (form : List Range) (t : List ℕ) → begins (range ∷ form) t ≡ (begins (range ∷ []) t && begins form (drop 1 t))
unfolding begins
begins_next range form [] = refl
begins_next range form (octet ∷ t) = rw (and-true (in_range range octet))

-- One octet at a place.
module _ (s : List ℕ) (low high at : ℕ) where
  pub octet_none : length s ≤ at → false ≡ begins (low to high ∷ []) (drop at s)
  unfolding begins
  octet_none h = rw (drop_of_length-le s {i = at} h)

  module _ (h : at < length s) where
    pub octet_there : in_range (low to high) (get_or s at 0) ≡ begins (low to high ∷ []) (drop at s)
    unfolding begins
    octet_there = rw (drop-cons s at 0) (sym (and-true (in_range (low to high) (get_or s at 0))))

    pub octet_from : low ≤ get_or s at 0 → leb (get_or s at 0) high ≡ begins (low to high ∷ []) (drop at s)
    unfolding in_range
    octet_from u = rw (le-leb low (get_or s at 0) u) at octet_there

    pub octet_below : get_or s at 0 < low → leb low (get_or s at 0) ≡ begins (low to high ∷ []) (drop at s)
    unfolding in_range
    octet_below u = rw (lt-leb low (get_or s at 0) u) (rw (lt-leb low (get_or s at 0) u) at octet_there)

  pub where_octet : (r : Bool) → (at < length s → r ≡ in_range (low to high) (get_or s at 0)) → (length s ≤ at → r ≡ false)
      → r ≡ begins (low to high ∷ []) (drop at s)
  where_octet r inside outside =
      ⊎_elim
      (λ e. outside (ltb-false at (length s) e) ∙ octet_none (ltb-false at (length s) e))
      (λ e. inside (ltb-true at (length s) e) ∙ octet_there (ltb-true at (length s) e))
      (dichotomy (ltb at (length s)))

-- The octets of a form: its first range and, an octet further on, the rest of it.
module _ (s : List ℕ) (at : ℕ) (range : Range) (p : Bool) (one : p ≡ begins (range ∷ []) (drop at s)) where
  pub begins_within : p ≡ true → at < length s
  begins_within e = omega (arith, (begins_sound (range ∷ []) (drop at s) (sym one ∙ e)).0, length-drop at s)

  pub begins_on : (form : List Range) → p ≡ true → (q : Bool) → q ≡ begins form (drop (at + 1) s) → q ≡ begins (range ∷ form) (drop at s)
  begins_on form e q f = rw (begins_next range form (drop at s), ← one, e, drop-drop 1 at s) f

  pub begins_not : (form : List Range) → p ≡ false → p ≡ begins (range ∷ form) (drop at s)
  begins_not form e = rw (begins_next range form (drop at s), ← one, e)

-- The character at a place.
module _ (s : List ℕ) (at : ℕ) (h : at < length s) where
  at_lead : drop at s ≡ get_or s at 0 ∷ drop (at + 1) s
  at_lead = rw (add-one, drop-cons s at 0)

  -- the first octet is in a form's first range: the rest of the form decides
  pub char_of_form : {low high : ℕ} {rest : List Range} → Listed (low to high ∷ rest) forms → low ≤ get_or s at 0 → get_or s at 0 ≤ high
      → (r : Bool) → r ≡ begins rest (drop (at + 1) s) → cond r (suc (length rest)) 0 ≡ char_length (drop at s)
  char_of_form l u v r e = rw (at_lead, lead_of_form (get_or s at 0) (drop (at + 1) s) l u v, e)

  -- the first octet is in none
  pub no_char_between : 0x80 ≤ get_or s at 0 → get_or s at 0 < 0xC2 → 0 ≡ char_length (drop at s)
  no_char_between u v = rw (at_lead, lead_between (get_or s at 0) (drop (at + 1) s) u v)

  pub no_char_beyond : 0xF5 ≤ get_or s at 0 → 0 ≡ char_length (drop at s)
  no_char_beyond u = rw (at_lead, lead_beyond (get_or s at 0) (drop (at + 1) s) u)

-- A reader is at i: all octets before are characters, so that what comes decides how far the text is well-formed.
pub record Reached (s : List ℕ) (i : ℕ) : Type 0 where
  pub within : i ≤ length s
  pub rest : well_formed_length s ≡ i + well_formed_length (drop i s)

pub reached_start : (s : List ℕ) → Reached s 0
reached_start s = record { within = omega arith; rest = omega arith }

pub reached_end : (s : List ℕ) (i : ℕ) → Reached s i → length s ≤ i → i ≡ well_formed_length s
reached_end s i r h = omega (arith, r.rest, well_formed_length-within (drop i s), length-drop i s)

-- A test for a character of k + 1 octets passes the character or stops.
module _ (s : List ℕ) (i k : ℕ) (test : Bool) (r : Reached s i) (is : cond test (suc k) 0 ≡ char_length (drop i s)) where
  pub reached_char : test ≡ true → Reached s (i + suc k)
  reached_char e =
      let c : char_length (drop i s) ≡ suc k = sym (rw e at is) in
      let d : well_formed_length (drop i s) ≡ suc k + well_formed_length (drop (i + suc k) s) = rw (← drop-drop (suc k) i s) (step (drop i s) k c) in
      record {
        within = omega (arith, r.within, (char_sound (drop i s) k c).1, length-drop i s);
        rest = omega (arith, r.rest, d);
      }

  pub reached_stop : test ≡ false → i ≡ well_formed_length s
  reached_stop e = omega (arith, r.rest, stop (drop i s) (sym (rw e at is)))

-- Octets below 0x80 are characters, one each.
reached_one : (s : List ℕ) (i : ℕ) → Reached s i → i < length s → get_or s i 0 < 0x80 → Reached s (i + 1)
unfolding begins
reached_one s i r h l =
    let u : get_or s i 0 ≤ 0x7F = omega arith in
    reached_char s i 0 true r (char_of_form s i h utf8_1 zero-le u true refl) refl

pub reached_run : (s : List ℕ) (i j : ℕ) → Reached s i → AsciiRun s i j → Reached s j
reached_run s i zero r a = let e : i ≡ 0 = omega (arith, a.rising) in rw e at r
reached_run s i (suc j) r a =
    ⊎_elim
    (λ e. rw e at r)
    (λ g.
    let b = reached_run s i j r (record { rising = omega arith; within = omega (arith, a.within); below = λ k u v. a.below k u (omega arith) }) in
    rw (← add-one j) (reached_one s j b (omega (arith, a.within)) (a.below j (omega arith) (omega arith))))
    (eq-or-lt_of_le a.rising)
