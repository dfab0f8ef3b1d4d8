-- The tests on the bytes of links are the rules on the links themselves: names that are texts, and no link twice. Assumes nothing.
use Prim.Native.Nat.{ℕ}
use mathlib.Core.Path.{◌≡◌, sym, ap, subst}
use mathlib.Core.Bool.{true, false, not}
use mathlib.Core.List.{List, [], ◌∷◌}
use mathlib.Core.Logic.{◌↔◌, ⊎_elim}
use mathlib.Mathlib.Data.Bool.Basic.{dichotomy}
use borrow.Author.Tests.{not-false}
use Rattle.checks.proofs.Scan.{never, any_false, any_nowhere, pair_false, pair_nowhere}
use Rattle.utf8.specs.Grammar.{WellFormed}
use Rattle.utf8.specs.inner.Length.{is_text}
use Rattle.utf8.proofs.Longest.{text_iff_well_formed}
use Rattle.format.specs.Layout.{All}
use Rattle.format.specs.Blocks.{TableLink, LinkRules, SameLink, Distinct}
use Rattle.format.proofs.Listed.{listed, all_listed, listed_all, pairs_listed, listed_pairs}
use Rattle.links.specs.Links.{name_at, link_start, links_from}
use Rattle.links.specs.inner.Tests.{some_name_not_text, some_link_twice}
use Rattle.links.proofs.Keys.{same_link_iff}
use Rattle.links.proofs.Lists.{Fitting, numbered, links_from_start}

-- a link by its rules is one that fits and whose name is a text
pub rules_fitting : (links : List TableLink) → All LinkRules links → All Fitting links
rules_fitting [] rules = tt
rules_fitting (link ∷ links) rules = ((rules.0.fit, rules.0.bytes), rules_fitting links rules.1)

abbrev pub HasText : TableLink → Type 0
HasText link = WellFormed link.name

pub rules_text : (links : List TableLink) → All LinkRules links → All HasText links
rules_text [] rules = tt
rules_text (link ∷ links) rules = (rules.0.text, rules_text links rules.1)

pub fitting_rules : (links : List TableLink) → All Fitting links → All HasText links → All LinkRules links
fitting_rules [] fitting text = tt
fitting_rules (link ∷ links) fitting text =
    (record { fit = fitting.0.0; bytes = fitting.0.1; text = text.0 }, fitting_rules links fitting.1 text.1)

-- two links that are not the same
abbrev Other : TableLink → TableLink → Type 0
Other a b = SameLink a b → ⊥

module _ (links : List ℕ) (count : ℕ) where
  -- a rule on the links is one on the links counted out
  counted : (Rule : List TableLink → Type 0) → Rule (links_from links 0 count) ↔ Rule (listed count (numbered links))
  counted Rule = (subst Rule (links_from_start links count), subst Rule (sym (links_from_start links count)))

  text : (i : ℕ) → (is_text (name_at links (link_start links i)) ≡ true) ↔ HasText (numbered links i)
  text i = text_iff_well_formed (name_at links (link_start links i))

  pub names_are_texts : (some_name_not_text links count ≡ false) ↔ All HasText (links_from links 0 count)
  unfolding some_name_not_text
  names_are_texts = (
    λ h. (counted (All HasText)).1 (all_listed HasText count (numbered links) (λ i l. (text i).0 (not-false _ (any_false _ count h i l)))),
    λ h.
        let all = (counted (All HasText)).0 h in
        any_nowhere _ count (λ i l. ap not ((text i).1 (listed_all HasText count (numbered links) all i l))),
  )

  pub links_are_distinct : (some_link_twice links count ≡ false) ↔ Distinct (links_from links 0 count)
  unfolding some_link_twice
  links_are_distinct = (
    λ h.
        (counted Distinct).1
        (pairs_listed Other Distinct tt (λ a others x y. (x, y)) count (numbered links)
        (λ i j l m s. never ((same_link_iff links _ _).1 s) (pair_false _ count h i j l m))),
    λ h.
        let pairs = listed_pairs Other Distinct (λ a others x. x) count (numbered links) ((counted Distinct).0 h) in
        pair_nowhere _ count
        (λ i j l m. ⊎_elim (λ e. e) (λ e. absurd (pairs i j l m ((same_link_iff links _ _).0 e))) (dichotomy _)),
  )
