-- The rule on the links of a table, which says that there are links by the rules that fill the bytes, is the tests on these bytes;
-- and there is one such list of links. Assumes nothing.
use Prim.Native.Nat.{ℕ, ◌≤◌}
use mathlib.Core.Path.{◌≡◌, sym, subst, ◌∙◌}
use mathlib.Core.Bool.{false}
use mathlib.Core.List.{List, [], ◌++◌, append-nil}
use native.Mathlib.Omega.{arith}
use lib.ListN.{length, take}
use lib.Seq.{take_all}
use Rattle.number.specs.Number.{Bytes}
use Rattle.format.specs.Layout.{All}
use Rattle.format.specs.Blocks.{TableLink, link_list, LinksOf}
use Rattle.links.specs.Links.{link_start, links_from}
use Rattle.links.specs.inner.Tests.{some_name_not_text, some_link_twice}
use Rattle.links.proofs.Lists.{Fitting, length-links, list_of_links, links_fitting, links_of_list, start_of_list}
use Rattle.links.proofs.Rules.{rules_fitting, rules_text, fitting_rules, names_are_texts, links_are_distinct}

-- the tests on the first links in the bytes, as many as the count says, find no fault
pub record LinksPass (bytes : List ℕ) (count : ℕ) : Type 0 where
  pub few : count ≤ 4096
  pub texts : some_name_not_text bytes count ≡ false
  pub once : some_link_twice bytes count ≡ false

-- From the tests to the rule.

-- the links that lie within the bytes
pub links_sound : (bytes : List ℕ) → Bytes bytes → (count : ℕ) → link_start bytes count ≤ length bytes → LinksPass bytes count
    → LinksOf count (take (link_start bytes count) bytes)
links_sound bytes b count within pass =
    let list : List TableLink = links_from bytes 0 count in
    record {
      links = list;
      laid_out = list_of_links bytes b count within;
      stated = length-links bytes count;
      few = pass.few;
      each = fitting_rules list (links_fitting bytes b count within) ((names_are_texts bytes count).0 pass.texts);
      distinct = (links_are_distinct bytes count).0 pass.once;
    }

-- links that fill the bytes
pub filled_sound : (bytes : List ℕ) → Bytes bytes → (count : ℕ) → link_start bytes count ≡ length bytes → LinksPass bytes count
    → LinksOf count bytes
filled_sound bytes b count end pass =
    subst (LinksOf count) (take_all (link_start bytes count) bytes (omega arith)) (links_sound bytes b count (omega arith) pass)

-- and end with them, whatever stands after them
pub filled_end : (bytes : List ℕ) → Bytes bytes → (count : ℕ) → link_start bytes count ≡ length bytes → (rest : List ℕ)
    → link_start (bytes ++ rest) count ≡ length bytes
filled_end bytes b count end rest =
    let list : List TableLink = links_from bytes 0 count in
    let same : link_list list ≡ bytes
    = list_of_links bytes b count (omega arith) ∙ take_all (link_start bytes count) bytes (omega arith) in
    rw (same, length-links bytes count) at (start_of_list list rest (links_fitting bytes b count (omega arith)))

-- From the rule to the tests, whatever stands after the links.
module _ {count : ℕ} {bytes : List ℕ} (rule : LinksOf count bytes) where
  fitting : All Fitting rule.links
  fitting = rules_fitting rule.links rule.each

  read_back : (rest : List ℕ) → links_from (bytes ++ rest) 0 count ≡ rule.links
  read_back rest = rw (rule.laid_out, rule.stated) at (links_of_list rule.links rest fitting)

  pub links_end : (rest : List ℕ) → link_start (bytes ++ rest) count ≡ length bytes
  links_end rest = rw (rule.laid_out, rule.stated) at (start_of_list rule.links rest fitting)

  pub links_complete : (rest : List ℕ) → LinksPass (bytes ++ rest) count
  links_complete rest =
      record {
        few = rule.few;
        texts = (names_are_texts (bytes ++ rest) count).1 (rw (read_back rest) (rules_text rule.links rule.each));
        once = (links_are_distinct (bytes ++ rest) count).1 (rw (read_back rest) rule.distinct);
      }

  -- the links that the bytes alone show
  pub links_shown : links_from bytes 0 count ≡ rule.links
  links_shown = rw (append-nil bytes) at (read_back [])

  pub links_fill_bytes : link_start bytes count ≡ length bytes
  links_fill_bytes = rw (append-nil bytes) at (links_end [])

  pub filled_complete : LinksPass bytes count
  filled_complete = rw (append-nil bytes) at (links_complete [])

pub links_unique : {count : ℕ} {bytes : List ℕ} (a b : LinksOf count bytes) → a.links ≡ b.links
links_unique a b = sym (links_shown a) ∙ links_shown b
