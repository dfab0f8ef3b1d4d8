-- Links laid out one after the other are read back, and links read are laid out as they stood. Assumes nothing.
use Prim.Native.Nat.{ℕ, zero, suc, ◌+◌, ◌-◌, ◌≤◌}
use mathlib.Core.Path.{◌≡◌, refl, sym, ap, ap₂, subst, ◌∙◌}
use mathlib.Core.List.{List, [], ◌∷◌, ◌++◌, append_assoc}
use native.Mathlib.Nat.{add-zero, zero-add}
use native.Mathlib.Omega.{arith}
use lib.ListN.{length, take, drop, length-append, length-drop}
use Rattle.number.specs.Number.{Bytes, part}
use Rattle.number.proofs.Digits.{bytes_drop}
use Rattle.number.proofs.Parts.{length_part, bytes_part, part_add, part_at, drop_past}
use Rattle.format.specs.Layout.{Fit, laid, All}
use Rattle.format.specs.Blocks.{TableLink, link_widths, link_fields, link_image, link_list}
use Rattle.format.proofs.Listed.{listed, length-listed, listed_same, all_listed}
use Rattle.format.proofs.Fields.{values_in, length-laid, values_laid, laid_values, fit_values, values_listed}
use Rattle.links.specs.Links.{link_field, name_length_at, parent_at, name_at, link_start, link_at, links_from}
use Rattle.links.specs.inner.Sorting.{Fits}
use Rattle.links.proofs.Starts.{start_zero, start_suc, start_rises, link_within}

-- a link whose values fit their fields, and whose name is bytes
abbrev pub Fitting : TableLink → Type 0
Fitting link = Fit link_widths (link_fields link) × Bytes link.name

-- the link with the given number
abbrev pub numbered : (links : List ℕ) (i : ℕ) → TableLink
numbered links i = link_at links (link_start links i)

-- the links from a number on, counted out
links_listed : (links : List ℕ) (index count : ℕ) → links_from links index count ≡ listed count (λ i. numbered links (index + i))
unfolding links_from
links_listed links index zero = refl
links_listed links index (suc count) =
    ap₂ ◌∷◌ (ap (numbered links) (sym (add-zero index)))
    (links_listed links (suc index) count
    ∙ listed_same count _ _ (λ i. let e : suc index + i ≡ index + suc i = omega arith in ap (numbered links) e))

pub links_from_start : (links : List ℕ) (count : ℕ) → links_from links 0 count ≡ listed count (numbered links)
links_from_start links count = links_listed links 0 count ∙ listed_same count _ _ (λ i. ap (numbered links) (zero-add i))

pub length-links : (links : List ℕ) (count : ℕ) → length (links_from links 0 count) ≡ count
length-links links count = ap length (links_from_start links count) ∙ length-listed count _

-- the fields of the link at a place
fields_at : (links : List ℕ) (at : ℕ)
    → values_in link_widths (drop at links) ≡ link_field "child" links at ∷ parent_at links at ∷ name_length_at links at ∷ []
fields_at links at = values_listed link_widths links at

-- A link read is laid out as it stood.
module _ (links : List ℕ) (bytes : Bytes links) where
  module _ (at : ℕ) (fits : Fits links at) where
    fields_of : link_fields (link_at links at) ≡ values_in link_widths (drop at links)
    fields_of = rw (fields_at links at, length_part links (at + 18) (name_length_at links at) (omega arith))

    fitting : Fitting (link_at links at)
    fitting = (
      subst (Fit link_widths) (sym fields_of) (fit_values link_widths (drop at links) (bytes_drop at links bytes)),
      bytes_part links (at + 18) (name_length_at links at) bytes,
    )

    image_at : link_image (link_at links at) ≡ part links at (18 + name_length_at links at)
    unfolding link_image
    image_at =
        let l : 18 ≤ length (drop at links) = omega (arith, length-drop at links) in
        rw (fields_of, laid_values link_widths (drop at links) (bytes_drop at links bytes) l, part_add links at 18 (name_length_at links at))

  list_part : (index count : ℕ) → link_start links (index + count) ≤ length links
      → link_list (links_from links index count) ≡ part links (link_start links index) (link_start links (index + count) - link_start links index)
  unfolding link_list links_from
  list_part index zero within =
      let e : link_start links (index + 0) - link_start links index ≡ 0 = rw (add-zero index) (omega arith) in
      rw e
  list_part index (suc count) within =
      let at = link_start links index in
      let len = 18 + name_length_at links at in
      let next : at + len ≡ link_start links (suc index) = start_suc links index in
      let e : suc index + count ≡ index + suc count = omega arith in
      let last = link_start links (index + suc count) in
      let rises : link_start links (suc index) ≤ last = start_rises links (suc index) (index + suc count) (omega arith) in
      let w : last - at ≡ len + (last - (at + len)) = omega arith in
      rw (w, part_add links at len (last - (at + len)), image_at at (omega arith))
      (ap (λ rest. part links at len ++ rest) (rw (e, ← next) at (list_part (suc index) count (rw e within))))

  pub list_of_links : (count : ℕ) → link_start links count ≤ length links
      → link_list (links_from links 0 count) ≡ take (link_start links count) links
  list_of_links count within =
      let e : link_start links count - 0 ≡ link_start links count = omega arith in
      rw (zero-add count, ← start_zero links, e) at (list_part 0 count (rw (zero-add count) within))

  pub links_fitting : (count : ℕ) → link_start links count ≤ length links → All Fitting (links_from links 0 count)
  links_fitting count within =
      subst (All Fitting) (sym (links_from_start links count))
      (all_listed Fitting count _ (λ i h. fitting (link_start links i) (link_within links i count (link_start links i) h within refl)))

-- A link laid out is read back, whatever stands after it.
module _ (links : List ℕ) where
  module _ (link : TableLink) (fit : Fit link_widths (link_fields link)) (at : ℕ) (rest : List ℕ)
      (stands : drop at links ≡ link_image link ++ rest) where
    after_fields : drop at links ≡ laid link_widths (link_fields link) ++ (link.name ++ rest)
    unfolding link_image
    after_fields = stands ∙ append_assoc (laid link_widths (link_fields link)) link.name rest

    field_values : link_field "child" links at ∷ parent_at links at ∷ name_length_at links at ∷ [] ≡ link_fields link
    field_values =
        sym (fields_at links at) ∙ ap (values_in link_widths) after_fields
        ∙ values_laid link_widths (link_fields link) (link.name ++ rest) fit

    name-length : name_length_at links at ≡ length link.name
    name-length = let e = field_values in cc

    link_there : link_at links at ≡ link
    link_there =
        let e = field_values in
        let c : link_field "child" links at ≡ link.child = cc in
        let p : parent_at links at ≡ link.parent = cc in
        let l : length (laid link_widths (link_fields link)) ≡ 18 = length-laid link_widths (link_fields link) fit in
        let d : drop (at + 18) links ≡ link.name ++ rest
        = drop_past links (laid link_widths (link_fields link)) (link.name ++ rest) at 18 after_fields l in
        let n : name_at links at ≡ link.name = part_at links link.name rest (at + 18) (name_length_at links at) d (sym name-length) in
        rw (c, p, n)

    image-length : length (link_image link) ≡ 18 + name_length_at links at
    unfolding link_image
    image-length =
        length-append (laid link_widths (link_fields link)) link.name
        ∙ ap₂ ◌+◌ (length-laid link_widths (link_fields link) fit) (sym name-length)

  links_there : (list : List TableLink) (index : ℕ) (rest : List ℕ) → All Fitting list
      → drop (link_start links index) links ≡ link_list list ++ rest
      → (links_from links index (length list) ≡ list) × (link_start links (index + length list) ≡ link_start links index + length (link_list list))
  unfolding links_from link_list
  links_there [] index rest fitting stands = (refl, rw (add-zero index) (omega arith))
  links_there (link ∷ list) index rest fitting stands =
      let at = link_start links index in
      let here : drop at links ≡ link_image link ++ (link_list list ++ rest) = stands ∙ append_assoc (link_image link) (link_list list) rest in
      let len = image-length link fitting.0.0 at (link_list list ++ rest) here in
      let next : link_start links (suc index) ≡ at + length (link_image link)
      = sym (start_suc links index) ∙ ap (λ (n : ℕ). at + n) (sym len) in
      let after : drop (link_start links (suc index)) links ≡ link_list list ++ rest
      = ap (λ (n : ℕ). drop n links) next ∙ drop_past links (link_image link) (link_list list ++ rest) at (length (link_image link)) here refl in
      let others = links_there list (suc index) rest fitting.1 after in
      let e : index + suc (length list) ≡ suc index + length list = omega arith in (
        ap₂ ◌∷◌ (link_there link fitting.0.0 at (link_list list ++ rest) here) others.0,
        rw e (omega (arith, others.1, length-append (link_image link) (link_list list))),
      )

module _ (list : List TableLink) (rest : List ℕ) (fitting : All Fitting list) where
  bytes : List ℕ
  bytes = link_list list ++ rest

  there : (links_from bytes 0 (length list) ≡ list) × (link_start bytes (0 + length list) ≡ link_start bytes 0 + length (link_list list))
  unfolding bytes
  there = links_there bytes list 0 rest fitting (ap (λ (n : ℕ). drop n bytes) (sym (start_zero bytes)))

  pub links_of_list : links_from (link_list list ++ rest) 0 (length list) ≡ list
  unfolding bytes
  links_of_list = there.0

  pub start_of_list : link_start (link_list list ++ rest) (length list) ≡ length (link_list list)
  unfolding bytes
  start_of_list = ap (link_start bytes) (sym (zero-add (length list))) ∙ there.1 ∙ rw (← start_zero bytes) (omega arith)
