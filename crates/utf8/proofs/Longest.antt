-- `well_formed_length` is the length of the longest well-formed beginning, and `is_text` says whether the whole text is well-formed.
use Prim.Native.Nat.{ℕ, zero, suc, ◌+◌, ◌-◌, ◌≤◌, ◌<◌}
use mathlib.Core.Path.{◌≡◌, refl}
use mathlib.Core.Bool.{true}
use mathlib.Core.Logic.{◌↔◌}
use mathlib.Core.List.{List, [], ◌∷◌, ◌++◌, append_assoc}
use native.Mathlib.Omega.{arith}
use lib.ListN.{length, take, drop, length-append, length-drop, take-append-drop}
use lib.Seq.{length-take-le, take-add, take-length, drop-append_seam}
use borrow.Author.Tests.{eqb-true, eq-eqb}
use Rattle.utf8.specs.Grammar.{Char, WellFormed, empty, more, Longest}
use Rattle.utf8.specs.inner.Length.{char_length, onward, passed, well_formed_length, is_text}
use Rattle.utf8.proofs.Forms.{char_complete, char_sound}

-- One character more, or none.

pass : (k : ℕ) (s : List ℕ) → k ≤ length s → passed k s ≡ k + passed 0 (drop k s)
unfolding passed
pass zero s h = omega arith
pass (suc k) [] h = absurd (omega arith)
pass (suc k) (octet ∷ s) h = omega (arith, pass k s (omega arith))

pub step : (s : List ℕ) (k : ℕ) → char_length s ≡ suc k → well_formed_length s ≡ suc k + well_formed_length (drop (suc k) s)
unfolding well_formed_length passed onward
step [] k e = absurd (omega (arith, (char_sound [] k e).1))
step (octet ∷ s) k e = rw e (omega (arith, pass k s (omega (arith, (char_sound (octet ∷ s) k e).1))))

pub stop : (s : List ℕ) → char_length s ≡ 0 → well_formed_length s ≡ 0
unfolding well_formed_length passed onward
stop [] e = refl
stop (octet ∷ s) e = rw e

step_char : {char : List ℕ} → Char char → (s : List ℕ) → well_formed_length (char ++ s) ≡ length char + well_formed_length s
step_char {char} c s = go char (char_complete c s)
  where
    go : (char : List ℕ) → char_length (char ++ s) ≡ length char → well_formed_length (char ++ s) ≡ length char + well_formed_length s
    go [] e = omega arith
    go (octet ∷ octets) e = rw (drop-append_seam octets s) at (step (octet ∷ octets ++ s) (length octets) e)

-- Both sides of the claim: the beginning passed is well-formed, and every well-formed beginning is passed.

abbrev Good : List ℕ → Type 0
Good s = (well_formed_length s ≤ length s) × WellFormed (take (well_formed_length s) s)

-- by n, which is above the length and falls by one with each character
good : (n : ℕ) (s : List ℕ) → length s < n → Good s
good zero s h = absurd (omega arith)
good (suc n) s h = go (char_length s) refl (good n)
  where
    go : (k : ℕ) → char_length s ≡ k → ((t : List ℕ) → length t < n → Good t) → Good s
    go zero e shorter = rw (stop s e) (omega arith, empty)
    go (suc k) e shorter =
        let c = char_sound s k e in
        let l : length (drop (suc k) s) ≡ length s - suc k = length-drop (suc k) s in
        let r = shorter (drop (suc k) s) (omega arith) in
        rw (step s k e, take-add (suc k) (well_formed_length (drop (suc k) s)) s) (omega (arith, c.1, r.0), more c.0 r.1)

passes : {p : List ℕ} → WellFormed p → (q : List ℕ) → length p ≤ well_formed_length (p ++ q)
passes empty q = omega arith
passes (more {char} {rest} c w) q =
    rw (append_assoc char rest q, step_char c (rest ++ q), length-append char rest) (omega (arith, passes w q))

-- The beginning of that length is well-formed, and no longer beginning is.
pub well_formed_length-is_the_longest : (text : List ℕ) → Longest text (well_formed_length text)
well_formed_length-is_the_longest text =
    let g = good (suc (length text)) text (omega arith) in
    record {
      within = g.0;
      well_formed = g.1;
      none_longer = λ m h w. omega (arith, length-take-le m text h, rw (take-append-drop m text) at (passes w (drop m text)));
    }

-- Only one number is the length of the longest well-formed beginning.
pub longest_length_is_unique : (text : List ℕ) (m n : ℕ) → Longest text m → Longest text n → m ≡ n
longest_length_is_unique text m n h k =
    omega (arith, k.none_longer m h.within h.well_formed, h.none_longer n k.within k.well_formed)

-- The length is at most the text's.
pub well_formed_length-within : (text : List ℕ) → well_formed_length text ≤ length text
well_formed_length-within text = (well_formed_length-is_the_longest text).within

-- `is_text` is true of exactly the well-formed texts.
pub text_iff_well_formed : (text : List ℕ) → (is_text text ≡ true) ↔ WellFormed text
unfolding is_text
text_iff_well_formed text =
    let l = well_formed_length-is_the_longest text in (
      λ e. rw (eqb-true (well_formed_length text) (length text) e, take-length text) at l.well_formed,
      λ w. eq-eqb (well_formed_length text) (length text) (omega (arith, l.none_longer (length text) (omega arith) (rw (take-length text) w))),
    )
