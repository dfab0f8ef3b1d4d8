-- The search for the first name that is no text: what it keeps up and what it finds. Assumes nothing.
use Prim.Native.Nat.{ℕ, zero, suc, ◌+◌, ◌-◌, ◌≤◌, ◌<◌}
use mathlib.Core.Path.{◌≡◌, refl, sym, ap, ◌∙◌}
use mathlib.Core.Bool.{Bool, true, false, not}
use mathlib.Mathlib.Data.Bool.Basic.{or-eq-false-eq-eq-false-and-eq-false as both_false}
use mathlib.Core.Logic.{◌↔◌}
use mathlib.Core.List.{List, [], ◌∷◌, map}
use native.Mathlib.Numerals.{add-one}
use native.Mathlib.Omega.{arith}
use lib.Dec.{ltb}
use lib.ListN.{length, drop_of_length-le}
use lib.Seq.{take-nil}
use borrow.Author.Tests.{not-false}
use Rattle.number.specs.Number.{part}
use Rattle.utf8.specs.Grammar.{empty}
use Rattle.utf8.specs.inner.Length.{well_formed_length, is_text}
use Rattle.utf8.proofs.Longest.{text_iff_well_formed}
use Rattle.refusal.specs.inner.FirstBad.{first_bad, some_bad}
use Rattle.refusal.specs.declared.BadText.{BadText}
use Rattle.refusal.proofs.FirstBad.{passes, stops, bad_within}
use Rattle.format.specs.Layout.{All}
use Rattle.format.specs.Blocks.{TableLink}
use Rattle.links.specs.Links.{name_length_at, name_at, link_start, links_from, names}
use Rattle.links.specs.inner.Tests.{some_name_not_text}
use Rattle.links.proofs.Starts.{start_suc}
use Rattle.links.proofs.Lists.{length-links}
use Rattle.links.proofs.Rules.{HasText, names_are_texts}

-- the names of `count` links from a number on
abbrev names_from : (links : List ℕ) (index count : ℕ) → List (List ℕ)
names_from links index count = map (λ link. link.name) (links_from links index count)

-- a bad text with so many more before it
abbrev later : ℕ → BadText → BadText
later n bad = record { text = n + bad.text; start = bad.start }

module _ (links : List ℕ) where
  -- What is found among all names is found among those from the i-th on: the names before it are texts.
  abbrev pub Ahead : (count i : ℕ) → Type 0
  Ahead count i = first_bad (names links count) ≡ later i (first_bad (names_from links i (count - i)))

  pub ahead_first : (count : ℕ) → Ahead count 0
  ahead_first count = let e : count - 0 ≡ count = omega arith in rw e (ap (λ n. record { text = n; start = (first_bad (names links count)).start }) (omega arith))

  next_name : (count i : ℕ) → i < count → names_from links i (count - i) ≡ name_at links (link_start links i) ∷ names_from links (i + 1) (count - (i + 1))
  unfolding links_from
  next_name count i h = let e : count - i ≡ suc (count - (i + 1)) = omega arith in rw (e, add-one i)

  -- `name` is the part that is looked at, after the fields of the link at `at`
  module _ (count i at len : ℕ) (h : i < count) (s : at ≡ link_start links i) (l : len ≡ name_length_at links at) (name : List ℕ)
      (n : name ≡ part links (at + 18) len) (ahead : Ahead count i) where
    looked_at : name_at links (link_start links i) ≡ name
    looked_at = rw (← s, ← l) (sym n)

    pub ahead_next : well_formed_length name ≡ length name → Ahead count (i + 1)
    ahead_next e =
        ahead ∙ ap (λ texts. later i (first_bad texts)) (next_name count i h)
        ∙ ap (later i) (passes _ _ (rw looked_at e))
        ∙ ap (λ (k : ℕ). record { text = k; start = (first_bad (names_from links (i + 1) (count - (i + 1)))).start }) (omega arith)

    pub ahead_hit : (well_formed_length name ≡ length name → ⊥) → record { text = i; start = well_formed_length name } ≡ first_bad (names links count)
    ahead_hit d =
        let z : i + 0 ≡ i = omega arith in
        let e = ahead ∙ ap (λ texts. later i (first_bad texts)) (next_name count i h) ∙ ap (later i) (stops _ _ (rw looked_at d)) in
        sym (rw (looked_at, z) at e)

  -- past the last link
  pub ahead_end : (count i : ℕ) → i ≡ count → Ahead count i → record { text = count; start = 0 } ≡ first_bad (names links count)
  unfolding links_from first_bad
  ahead_end count i e ahead =
      let z : count - i ≡ 0 = omega arith in
      let n : i + 0 ≡ count = omega arith in
      sym (rw (z, n) at ahead)

  -- past the end of the bytes names are empty
  empty_names : (i k : ℕ) → length links ≤ link_start links i → first_bad (names_from links i k) ≡ record { text = k; start = 0 }
  unfolding links_from first_bad
  empty_names i zero h = refl
  empty_names i (suc k) h =
      let none : name_at links (link_start links i) ≡ [] = rw (drop_of_length-le links {i = link_start links i + 18} (omega arith)) (take-nil (name_length_at links (link_start links i))) in
      let others = empty_names (suc i) k (omega (arith, start_suc links i)) in
      rw (none, (text_iff_well_formed []).1 empty, others)

  pub ahead_past : (count i at : ℕ) → i ≤ count → at ≡ link_start links i → length links ≤ at → Ahead count i
      → record { text = count; start = 0 } ≡ first_bad (names links count)
  ahead_past count i at h s l ahead =
      let n : i + (count - i) ≡ count = omega arith in
      sym (rw (n) at (ahead ∙ ap (later i) (empty_names i (count - i) (omega arith))))

-- a name that is no text is there exactly where one of the names is bad
texts_of : (list : List TableLink) → (some_bad (map (λ link. link.name) list) ≡ false) ↔ All HasText list
unfolding some_bad
texts_of [] = (λ e. tt, λ a. refl)
texts_of (link ∷ list) = (
  λ e.
      let p = (both_false (not (is_text link.name)) _).0 e in
      ((text_iff_well_formed link.name).0 (not-false _ p.0), (texts_of list).0 p.1),
  λ a. (both_false (not (is_text link.name)) _).1 (ap not ((text_iff_well_formed link.name).1 a.0), (texts_of list).1 a.1),
)

-- two tests that are false of the same are the same test
same_test : {A : Type 0} (a b : Bool) → (a ≡ false) ↔ A → (b ≡ false) ↔ A → a ≡ b
same_test true true p q = refl
same_test true false p q = p.1 (q.0 refl)
same_test false true p q = sym (q.1 (p.0 refl))
same_test false false p q = refl

pub some_bad_name : (links : List ℕ) (count : ℕ) → some_bad (names links count) ≡ some_name_not_text links count
some_bad_name links count = same_test _ _ (texts_of (links_from links 0 count)) (names_are_texts links count)

length-names : (list : List TableLink) → length (map (λ link. link.name) list) ≡ length list
length-names [] = refl
length-names (link ∷ list) = ap suc (length-names list)

pub bad_name_told : (links : List ℕ) (count : ℕ) {bad : BadText} → bad ≡ first_bad (names links count)
    → ltb bad.text count ≡ some_name_not_text links count
bad_name_told links count e =
    let n : length (names links count) ≡ count = length-names (links_from links 0 count) ∙ length-links links count in
    rw (e) (rw n at (bad_within (names links count)) ∙ some_bad_name links count)
