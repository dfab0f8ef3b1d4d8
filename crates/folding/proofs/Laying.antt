-- A slice written from its beginning on: a new list laid over an old one, element by element.
use Prim.Native.Nat.{ℕ, suc, ◌+◌, ◌-◌, ◌≤◌, ◌<◌}
use mathlib.Core.Path.{◌≡◌, sym, ap, ◌∙◌}
use mathlib.Core.List.{List, ◌∷◌, ◌++◌}
use native.Mathlib.Numerals.{add-one}
use native.Mathlib.Omega.{arith}
use lib.ListN.{length, take, drop, get_or, set, length-set}
use lib.Seq.{set_at, take_at, drop_at, take_all, take-suc, drop-cons, append_snoc, get_or-drop, length-take-le}

-- The first elements of a new list, and then those of an old one.
abbrev pub laid : List ℕ → List ℕ → ℕ → List ℕ
laid new old t = take t new ++ drop t old

-- A list in which the new one is laid over the old one so far.
pub record Laying (new old list : List ℕ) (t : ℕ) : Type 0 where
  pub long : length list ≡ length old
  pub so_far : list ≡ laid new old t

module _ (new old : List ℕ) where
  module _ (list : List ℕ) (t : ℕ) (sofar : Laying new old list t) where
    -- An element that is not written yet is the old one.
    pub ahead : (k : ℕ) → t ≤ length new → t ≤ k → get_or list k 0 ≡ get_or old k 0
    ahead k h le =
        let place : t + (k - t) ≡ k = omega arith in
        let same : drop t list ≡ drop t old
        = ap (drop t) sofar.so_far ∙ drop_at (take t new) (drop t old) t (length-take-le t new h) in
        ap (λ (i : ℕ). get_or list i 0) (sym place) ∙ sym (get_or-drop t list (k - t) 0) ∙ ap (λ (l : List ℕ). get_or l (k - t) 0) same
        ∙ get_or-drop t old (k - t) 0 ∙ ap (λ (i : ℕ). get_or old i 0) place

    -- One element more.
    pub laying_more : (value : ℕ) → t < length new → t < length old → value ≡ get_or new t 0 → Laying new old (set list t value) (t + 1)
    laying_more value h k e =
        let le : t ≤ length new = omega arith in
        record {
          long = length-set list t value ∙ sofar.long;
          so_far =
              ap (λ (l : List ℕ). set l t value) (sofar.so_far ∙ ap (λ (l : List ℕ). take t new ++ l) (drop-cons old t 0 k))
              ∙ set_at (take t new) (get_or old t 0) (drop (suc t) old) value t (length-take-le t new le)
              ∙ ap (λ (v : ℕ). take t new ++ (v ∷ drop (suc t) old)) e
              ∙ sym (append_snoc (take t new) (get_or new t 0) (drop (suc t) old))
              ∙ ap (λ (l : List ℕ). l ++ drop (suc t) old) (sym (take-suc new t 0 h))
              ∙ ap (λ (i : ℕ). laid new old i) (sym (add-one t));
        }

    -- What is written stands there.
    pub laid_there : t ≤ length new → take t list ≡ take t new
    laid_there h = ap (take t) sofar.so_far ∙ take_at (take t new) (drop t old) t (length-take-le t new h)

    -- All is written.
    pub laid_all : length new ≡ t → length old ≡ t → list ≡ new
    laid_all h k =
        let end : length old ≤ t = omega arith in
        let whole : length list ≤ t = omega (arith, sofar.long) in
        sym (take_all t list whole) ∙ laid_there (omega arith) ∙ take_all t new (omega arith)
