-- The rounds over lists that are taken in pieces. Assumes nothing.
use Prim.Native.Nat.{ℕ, suc, ◌+◌, ◌≤◌, ◌<◌}
use mathlib.Core.Path.{◌≡◌, refl, sym, ap, ap₂, ◌∙◌}
use mathlib.Core.List.{List, [], ◌∷◌, ◌++◌}
use native.Mathlib.Omega.{arith}
use lib.ListN.{length, get_or, take, drop, take-append-drop, length-drop, drop_of_length-le}
use lib.Seq.{length-take-le, drop-drop}
use Rattle.std.proofs.lemmas.List.{drop_more}
use Rattle.number.specs.Number.{part}
use Rattle.fips180.specs.Functions.{mod32, Ch, Maj, Σ0, Σ1}
use Rattle.fips180.specs.Hash.{round, rounds}
use Rattle.fips180.specs.declared.Words.{Words}

pub rounds-append : (v : Words) (ks ws K W : List ℕ) → length ks ≡ length ws → rounds v (ks ++ K) (ws ++ W) ≡ rounds (rounds v ks ws) K W
unfolding rounds
rounds-append v [] [] K W e = refl
rounds-append v [] (w ∷ ws) K W e = absurd (omega arith)
rounds-append v (k ∷ ks) [] K W e = absurd (omega arith)
rounds-append v (k ∷ ks) (w ∷ ws) K W e = rounds-append (round v k w) ks ws K W (omega arith)

-- one round, whose sums are taken modulo 2^32 after each summand
five_sums : (a b c d e : ℕ) → mod32 (mod32 (mod32 (mod32 (a + b) + c) + d) + e) ≡ mod32 (a + b + c + d + e)
five_sums a b c d e = omega arith

pub round_sums : (v : Words) (k w : ℕ) {s1 ch s0 maj : ℕ} → s1 ≡ Σ1 v.e → ch ≡ Ch v.e v.f v.g → s0 ≡ Σ0 v.a → maj ≡ Maj v.a v.b v.c
    → record {
      a = mod32 (mod32 (mod32 (mod32 (mod32 (v.h + s1) + ch) + k) + w) + mod32 (s0 + maj));
      b = v.a;
      c = v.b;
      d = v.c;
      e = mod32 (v.d + mod32 (mod32 (mod32 (mod32 (v.h + s1) + ch) + k) + w));
      f = v.e;
      g = v.f;
      h = v.g;
    } ≡ round v k w
unfolding round
round_sums v k w {s1} {ch} {s0} {maj} p q r s = rw (five_sums v.h s1 ch k w, p, q, r, s)

-- one round more of some
pub round_turn : (v next goal : Words) (k w : List ℕ) (i n m : ℕ) → i < length k → i < length w → n ≡ suc m
    → next ≡ round v (get_or k i 0) (get_or w i 0) → rounds v (part k i n) (part w i n) ≡ goal
    → rounds next (part k (i + 1) m) (part w (i + 1) m) ≡ goal
unfolding rounds
round_turn v next goal k w i n m h l e f inv = rw (f) (rw (e, drop_more k i 0 h, drop_more w i 0 l) at inv)

pub no_rounds : (v goal : Words) (k w : List ℕ) (i n : ℕ) → n ≡ 0 → rounds v (part k i n) (part w i n) ≡ goal → v ≡ goal
unfolding rounds
no_rounds v goal k w i n e inv = rw e at inv

-- the next rounds, in the parts of both lists that are left
pub rounds_step : (v : Words) (k w : List ℕ) (t n : ℕ) → t + n ≤ length k → t + n ≤ length w
    → rounds (rounds v (take n (drop t k)) (take n (drop t w))) (drop (t + n) k) (drop (t + n) w) ≡ rounds v (drop t k) (drop t w)
rounds_step v k w t n h l =
    let long : length (take n (drop t k)) ≡ length (take n (drop t w))
    = length-take-le n (drop t k) (omega (arith, length-drop t k)) ∙ sym (length-take-le n (drop t w) (omega (arith, length-drop t w))) in
    ap₂ (rounds (rounds v (take n (drop t k)) (take n (drop t w)))) (sym (drop-drop n t k)) (sym (drop-drop n t w))
    ∙ sym (rounds-append v (take n (drop t k)) (take n (drop t w)) (drop n (drop t k)) (drop n (drop t w)) long)
    ∙ ap₂ (rounds v) (take-append-drop n (drop t k)) (take-append-drop n (drop t w))

-- eight rounds more of all
pub rounds_turn : (v next goal : Words) (k w words : List ℕ) (t : ℕ) → t + 8 ≤ length k → t + 8 ≤ length w → words ≡ part w t 8
    → next ≡ rounds v (part k t 8) words → rounds v (drop t k) (drop t w) ≡ goal → rounds next (drop (t + 8) k) (drop (t + 8) w) ≡ goal
rounds_turn v next goal k w words t h l e f inv =
    ap (λ x. rounds x (drop (t + 8) k) (drop (t + 8) w)) (f ∙ ap (rounds v (part k t 8)) e) ∙ rounds_step v k w t 8 h l ∙ inv

pub rounds_end : (v goal : Words) (k w : List ℕ) (t : ℕ) → length k ≤ t → rounds v (drop t k) (drop t w) ≡ goal → v ≡ goal
unfolding rounds
rounds_end v goal k w t h inv = sym (ap (λ (rest : List ℕ). rounds v rest (drop t w)) (drop_of_length-le k h)) ∙ inv
