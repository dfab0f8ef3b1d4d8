-- The octets with which a text begins, and the forms: the first octet alone says which form can stand there.
use Prim.Native.Nat.{ℕ, suc, ◌≤◌, ◌<◌}
use mathlib.Core.Path.{◌≡◌, refl, ap}
use mathlib.Core.Bool.{Bool, true, false, cond, false≢true, and-eq-true_iff, and-false}
use mathlib.Core.List.{List, [], ◌∷◌, ◌++◌}
use native.Mathlib.Omega.{arith}
use lib.Dec.{leb}
use lib.ListN.{length, take, drop}
use borrow.Author.Tests.{leb-true, le-leb, lt-leb}
use Rattle.utf8.specs.Grammar.{Range, ◌to◌, only, tail, forms, Matches, none, next, Listed, here, there, Char}
use Rattle.utf8.specs.inner.Length.{in_range, begins, begin_length, char_length}

-- The forms, by the rule of the grammar and the first octet.

pub utf8_1 : Listed (0x00 to 0x7F ∷ []) forms
utf8_1 = here

pub utf8_2 : Listed (0xC2 to 0xDF ∷ tail ∷ []) forms
utf8_2 = there here

pub utf8_3-E0 : Listed (only 0xE0 ∷ 0xA0 to 0xBF ∷ tail ∷ []) forms
utf8_3-E0 = there (there here)

pub utf8_3-E1 : Listed (0xE1 to 0xEC ∷ tail ∷ tail ∷ []) forms
utf8_3-E1 = there (there (there here))

pub utf8_3-ED : Listed (only 0xED ∷ 0x80 to 0x9F ∷ tail ∷ []) forms
utf8_3-ED = there (there (there (there here)))

pub utf8_3-EE : Listed (0xEE to 0xEF ∷ tail ∷ tail ∷ []) forms
utf8_3-EE = there (there (there (there (there here))))

pub utf8_4-F0 : Listed (only 0xF0 ∷ 0x90 to 0xBF ∷ tail ∷ tail ∷ []) forms
utf8_4-F0 = there (there (there (there (there (there here)))))

pub utf8_4-F1 : Listed (0xF1 to 0xF3 ∷ tail ∷ tail ∷ tail ∷ []) forms
utf8_4-F1 = there (there (there (there (there (there (there here))))))

pub utf8_4-F4 : Listed (only 0xF4 ∷ 0x80 to 0x8F ∷ tail ∷ tail ∷ []) forms
utf8_4-F4 = there (there (there (there (there (there (there (there here)))))))

-- One octet.

in_range_lem : (low high octet : ℕ) → low ≤ octet → octet ≤ high → in_range (low to high) octet ≡ true
unfolding in_range
in_range_lem low high octet p q = rw (le-leb low octet p, le-leb octet high q)

below_range : (low high octet : ℕ) → octet < low → in_range (low to high) octet ≡ false
unfolding in_range
below_range low high octet p = rw (lt-leb low octet p)

above_range : (low high octet : ℕ) → high < octet → in_range (low to high) octet ≡ false
unfolding in_range
above_range low high octet p = rw (lt-leb octet high p) (and-false (leb low octet))

range_of : (low high octet : ℕ) → in_range (low to high) octet ≡ true → (low ≤ octet) × (octet ≤ high)
unfolding in_range
range_of low high octet e =
    let h = (and-eq-true_iff (leb low octet) (leb octet high)).0 e in
    (leb-true low octet h.0, leb-true octet high h.1)

-- The octets of one form.

matches-length : {form : List Range} {octets : List ℕ} → Matches form octets → length octets ≡ length form
matches-length none = refl
matches-length (next p q m) = ap suc (matches-length m)

begins_complete : {form : List Range} {octets : List ℕ} → Matches form octets → (s : List ℕ) → begins form (octets ++ s) ≡ true
unfolding begins
begins_complete none s = refl
begins_complete (next {low} {high} {octet} p q m) s = rw (in_range_lem low high octet p q) (begins_complete m s)

pub begins_sound : (form : List Range) (s : List ℕ) → begins form s ≡ true → (length form ≤ length s) × Matches form (take (length form) s)
unfolding begins
begins_sound [] s e = (omega arith, none)
begins_sound (range ∷ form) [] e = absurd (false≢true e)
begins_sound (low to high ∷ form) (octet ∷ s) e =
    let h = (and-eq-true_iff (in_range (low to high) octet) (begins form s)).0 e in
    let r = range_of low high octet h.0 in
    let m = begins_sound form s h.1 in
    (omega arith, next r.0 r.1 m.1)

-- Several forms whose first ranges rise from one to the next: the first octets lie from m to below n.
data Rising : ℕ → ℕ → List (List Range) → Type 0 where
  done : {m n : ℕ} → leb m n ≡ true → Rising m n []
  rise : {m n low high : ℕ} {rest : List Range} {others : List (List Range)}
      → leb m low ≡ true → leb low high ≡ true → Rising (suc high) n others → Rising m n ((low to high ∷ rest) ∷ others)

-- the forms after UTF8-1
later_rise : {m : ℕ} → leb m 0xC2 ≡ true → Rising m 0xF5 (drop 1 forms)
later_rise e =
    rise e refl
    (rise refl refl
    (rise refl refl
    (rise refl refl
    (rise refl refl
    (rise refl refl
    (rise refl refl
    (rise refl refl (done refl))))))))

forms_rise : Rising 0 0xF5 forms
forms_rise = rise refl refl (later_rise refl)

rising_up : {m n : ℕ} {fs : List (List Range)} → Rising m n fs → m ≤ n
rising_up (done e) = leb-true _ _ e
rising_up {m} (rise {low = low} {high = high} p q r) = omega (arith, leb-true m low p, leb-true low high q, rising_up r)

listed_from : {m n low high : ℕ} {rest : List Range} {fs : List (List Range)} → Rising m n fs → Listed (low to high ∷ rest) fs → m ≤ low
listed_from (rise p q r) here = leb-true _ _ p
listed_from {m} (rise {low = low} {high = high} p q r) (there l) =
    omega (arith, leb-true m low p, leb-true low high q, listed_from r l)
listed_from {low = low} {high = high} {rest = rest} (done {m = m} {n = n} _) l = elim l [ ]

module _ (lead : ℕ) (s : List ℕ) where
  -- no form begins with an octet below all of them, nor with one above
  lead_below : {m n : ℕ} {fs : List (List Range)} → Rising m n fs → lead < m → begin_length fs (lead ∷ s) ≡ 0
  unfolding begin_length begins
  lead_below (done e) h = refl
  lead_below {m} (rise {low = low} {high = high} p q r) h =
      let b : lead < low = omega (arith, leb-true m low p) in
      rw (below_range low high lead b) (lead_below r (omega (arith, leb-true low high q)))

  lead_above : {m n : ℕ} {fs : List (List Range)} → Rising m n fs → n ≤ lead → begin_length fs (lead ∷ s) ≡ 0
  unfolding begin_length begins
  lead_above (done e) h = refl
  lead_above (rise {low = low} {high = high} p q r) h =
      let b : high < lead = omega (arith, rising_up r) in
      rw (above_range low high lead b) (lead_above r h)

  -- an octet in the first range of a form leaves that form alone
  lead_of : {m n low high : ℕ} {rest : List Range} {fs : List (List Range)} → Rising m n fs → Listed (low to high ∷ rest) fs → low ≤ lead → lead ≤ high
      → begin_length fs (lead ∷ s) ≡ cond (begins rest s) (suc (length rest)) 0
  unfolding begin_length begins
  lead_of {low = low} {high = high} (rise p q r) here u v =
      let b : lead < suc high = omega arith in
      rw (in_range_lem low high lead u v, lead_below r b)
  lead_of (rise {low = low} {high = high} p q r) (there l) u v =
      let b : high < lead = omega (arith, listed_from r l) in
      rw (above_range low high lead b) (lead_of r l u v)
  lead_of {low = low} {high = high} {rest = rest} (done {m = m} {n = n} _) l u v = elim l [ ]

  -- the same of all forms of a character
  pub lead_of_form : {low high : ℕ} {rest : List Range} → Listed (low to high ∷ rest) forms → low ≤ lead → lead ≤ high
      → char_length (lead ∷ s) ≡ cond (begins rest s) (suc (length rest)) 0
  unfolding char_length
  lead_of_form l u v = lead_of forms_rise l u v

  -- 0x80 to 0xBF is UTF8-tail, and 0xC0 and 0xC1 could only begin a form longer than needed
  pub lead_between : 0x80 ≤ lead → lead < 0xC2 → char_length (lead ∷ s) ≡ 0
  unfolding char_length begin_length begins
  lead_between u v =
      let b : 0x7F < lead = omega arith in
      rw (above_range 0x00 0x7F lead b) (lead_below (later_rise refl) v)

  -- from 0xF5 on an octet could only begin the encoding of a number above 0x10FFFF
  pub lead_beyond : 0xF5 ≤ lead → char_length (lead ∷ s) ≡ 0
  unfolding char_length
  lead_beyond u = lead_above forms_rise u

-- Characters.

form_not_empty : {m n : ℕ} {fs : List (List Range)} → Rising m n fs → Listed [] fs → ⊥
form_not_empty (rise p q r) (there l) = form_not_empty r l
form_not_empty (done {m = m} {n = n} _) l = elim l [ ]

pub char_complete : {octets : List ℕ} → Char octets → (s : List ℕ) → char_length (octets ++ s) ≡ length octets
char_complete c s = go c.listed c.matches
  where
    go : {form : List Range} {octets : List ℕ} → Listed form forms → Matches form octets → char_length (octets ++ s) ≡ length octets
    go l none = absurd (form_not_empty forms_rise l)
    go l (next {octets = octets} p q m) = rw (lead_of_form _ (octets ++ s) l p q, begins_complete m s, matches-length m)

first_sound : (fs : List (List Range)) (s : List ℕ) (k : ℕ) → begin_length fs s ≡ suc k
    → (form : List Range) × Listed form fs × Matches form (take (suc k) s) × (suc k ≤ length s)
unfolding begin_length
first_sound [] s k e = absurd (omega arith)
first_sound (form ∷ others) s k e = go (begins form s) refl e (first_sound others s k)
  where
    go : (t : Bool) → begins form s ≡ t → cond t (length form) (begin_length others s) ≡ suc k
        → (begin_length others s ≡ suc k → (form : List Range) × Listed form others × Matches form (take (suc k) s) × (suc k ≤ length s))
        → (f : List Range) × Listed f (form ∷ others) × Matches f (take (suc k) s) × (suc k ≤ length s)
    go true b e ih =
        let r = begins_sound form s b in
        (form, here, rw e at r.1, rw e at r.0)
    go false b e ih = let r = ih e in (r.0, there r.1, r.2, r.3)

pub char_sound : (s : List ℕ) (k : ℕ) → char_length s ≡ suc k → Char (take (suc k) s) × (suc k ≤ length s)
unfolding char_length
char_sound s k e = let r = first_sound forms s k e in (record { form = r.0; listed = r.1; matches = r.2 }, r.3)
