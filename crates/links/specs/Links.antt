-- The links of a table, one after the other. All goes by the bytes of the links alone, from the first link on.
use Rattle.std.specs.Prelude.{ℕ, zero, suc, ◌+◌, cond, List, [], ◌∷◌, map, ltb, leb, length, Option, Some, None}
use Prim.Native.String.{String}
use Rattle.number.specs.Number.{number_at, part}
use Rattle.format.specs.Layout.{start_of, width_of, total}
use Rattle.format.specs.Blocks.{TableLink, link_layout, link_widths}
use Rattle.links.specs.declared.Link.{Link}

-- a field of the link at a place, by its name in the layout
abbrev pub link_field : (name : String) (links : List ℕ) (at : ℕ) → ℕ
link_field name links at = number_at links (at + start_of name link_layout) (width_of name link_layout)

abbrev pub parent_at : (links : List ℕ) (at : ℕ) → ℕ
parent_at links at = link_field "parent" links at

-- the length of the name of the link at a place
abbrev pub name_length_at : (links : List ℕ) (at : ℕ) → ℕ
name_length_at links at = link_field "m" links at

abbrev pub name_at : (links : List ℕ) (at : ℕ) → List ℕ
name_at links at = part links (at + total link_widths) (name_length_at links at)

-- where the link at a place ends
abbrev pub link_end : (links : List ℕ) (at : ℕ) → ℕ
link_end links at = at + (total link_widths + name_length_at links at)

-- where the link with the given number begins; the number of links gives where the last one ends
unfoldable pub link_start : (links : List ℕ) (index : ℕ) → ℕ
link_start links zero = 0
link_start links (suc index) = link_end links (link_start links index)

-- the link at a place
abbrev pub link_at : (links : List ℕ) (at : ℕ) → TableLink
link_at links at = record { child = link_field "child" links at; parent = parent_at links at; name = name_at links at }

-- the links with numbers from `index` on, as many as the count says
unfoldable pub links_from : (links : List ℕ) (index count : ℕ) → List TableLink
links_from links index zero = []
links_from links index (suc count) = link_at links (link_start links index) ∷ links_from links (suc index) count

-- the names of the links, in their order
abbrev pub names : (links : List ℕ) (count : ℕ) → List (List ℕ)
names links count = map (λ link. link.name) (links_from links 0 count)

-- the link at a place, with its name by where that begins and how long it is
abbrev pub found_at : (links : List ℕ) (at : ℕ) → Link
found_at links at =
    record { child = link_field "child" links at; parent = parent_at links at; name = at + total link_widths; len = name_length_at links at }

-- the link that begins at a place, where it ends within the bytes
unfoldable pub link_from : (links : List ℕ) (at : ℕ) → Option Link
link_from links at = cond (leb (link_end links at) (length links)) (Some (found_at links at)) None

-- the link with the given number, where it is one of `count` links
unfoldable pub link_answer : (links : List ℕ) (count index : ℕ) → Option Link
link_answer links count index = cond (ltb index count) (link_from links (link_start links index)) None
