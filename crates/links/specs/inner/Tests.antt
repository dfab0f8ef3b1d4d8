-- Inner page: the rules on the links of a table as tests.
-- Joined to LinkRules, Distinct, LinksOf of format/Blocks by names_are_texts, links_are_distinct, links_sound, links_complete.
use Rattle.std.specs.Prelude.{ℕ, Bool, not, ◌&&◌, List, eqb}
use Rattle.number.specs.inner.Same.{same_bytes}
use Rattle.checks.specs.Scan.{any_below, any_pair_below}
use Rattle.utf8.specs.inner.Length.{is_text}
use Rattle.links.specs.Links.{parent_at, name_at, link_start}

-- whether a name among the links is no text
unfoldable pub some_name_not_text : (links : List ℕ) (count : ℕ) → Bool
some_name_not_text links count = any_below (λ i. not (is_text (name_at links (link_start links i)))) count

-- whether the links at two places have the same parent and the same name
unfoldable pub same_link_at : (links : List ℕ) (a b : ℕ) → Bool
same_link_at links a b = eqb (parent_at links a) (parent_at links b) && same_bytes (name_at links a) (name_at links b)

-- whether a link stands twice
unfoldable pub some_link_twice : (links : List ℕ) (count : ℕ) → Bool
some_link_twice links count = any_pair_below (λ i j. same_link_at links (link_start links i) (link_start links j)) count
