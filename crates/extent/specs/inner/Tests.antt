-- Inner page: the rules on extents as tests, for one extent and for a list.
-- Joined to ExtentRules of format/Extents by sound_rules, rules_sound, each_sound.
-- Joined to ExtentsOf of format/Blocks by list_sound, list_complete.
use Rattle.std.specs.Prelude.{ℕ, ◌+◌, min, max, Bool, not, ◌&&◌, ◌||◌, List, leb, ltb, eqb}
use Rattle.checks.specs.Scan.{any_below, any_pair_below}
use Rattle.format.specs.declared.Extent.{Extent}
use Rattle.format.specs.Extents.{top, raw_length, kept_length, footprint}
use Rattle.extent.specs.Extents.{extent_at, extent_count}

-- whether an extent keeps the rules of one extent
unfoldable pub is_sound : Extent → Bool
is_sound e =
    (eqb e.multiplicity 82 || eqb e.multiplicity 67)
    && (leb (raw_length e) top
    && (leb (e.pre + e.post) top
    && (leb (e.pre + e.post) (raw_length e)
    && (leb (e.logical.0 + kept_length e) top
    && leb (e.start.0 + footprint e) top))))

-- whether an extent of the list breaks a rule
unfoldable pub some_broken : (list : List ℕ) → Bool
some_broken list = any_below (λ i. not (is_sound (extent_at list i))) (extent_count list)

-- whether two kept ranges share a position: the later start lies below the earlier end
unfoldable pub share_range : Extent → Extent → Bool
share_range d e =
    ltb (max d.logical.0 e.logical.0) (min (d.logical.0 + kept_length d) (e.logical.0 + kept_length e))

-- whether the kept ranges of two extents of the list share a position
unfoldable pub some_overlap : (list : List ℕ) → Bool
some_overlap list = any_pair_below (λ i j. share_range (extent_at list i) (extent_at list j)) (extent_count list)
