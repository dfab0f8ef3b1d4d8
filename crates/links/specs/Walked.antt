-- What the calls on single links show: a link of the format, and all links of a table one after the other.
use Rattle.std.specs.Prelude.{ℕ, ◌+◌, ◌≡◌, List, [], ◌∷◌, Option, Some, None}
use Rattle.std.proofs.Math.Option.{Option as Shown, none, some}
use Rattle.number.specs.Number.{part}
use Rattle.format.specs.Blocks.{TableLink}
use Rattle.links.specs.Links.{link_from}
use Rattle.links.specs.declared.Link.{Link}

-- the link that is handed out, its name being the part of the links that begins at `name` and is `len` bytes long
abbrev pub shown_link : (links : List ℕ) → Link → TableLink
shown_link links link = record { child = link.child; parent = link.parent; name = part links link.name link.len }

-- the link that an answer shows; none where it is missing
unfoldable pub link_shown : (links : List ℕ) → Option Link → Shown TableLink
link_shown links (Some link) = some (shown_link links link)
link_shown links None = none

-- `link_from` is called at a place, and then at each place where the name of the last link ended, until it answers that none is
-- there. It hands out these links, in this order.
pub data Walked (links : List ℕ) : (at : ℕ) → List TableLink → Type 0 where
  none_left : {at : ℕ} → link_from links at ≡ None → Walked links at []
  handed :
      {at : ℕ} {link : Link} {others : List TableLink}
      → link_from links at ≡ Some link
      → Walked links (link.name + link.len) others
      → Walked links at (shown_link links link ∷ others)
