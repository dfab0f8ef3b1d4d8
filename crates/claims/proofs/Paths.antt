-- The links of every table have one listing from a root on: it is gathered as the lines of a listing are, and its lines are those.
-- Assumes nothing.
use Prim.Native.Nat.{ℕ, zero, suc, ◌+◌, ◌-◌, ◌≤◌, ◌<◌}
use mathlib.Core.Path.{◌≡◌, refl, sym, ap, ap₂, ◌∙◌, subst, fun_ext}
use mathlib.Core.Bool.{Bool, true, false, cond}
use mathlib.Core.Logic.{◌⊎◌, inl, inr, ⊎_elim}
use mathlib.Core.Option.{some, none-ne-some, some-injective}
use mathlib.Core.List.Memᴰ
use mathlib.Core.List.Memᴰ.{head as here}
use mathlib.Core.List.Memᴰ.{tail as behind}
use mathlib.Core.List.{List, [], ◌∷◌, ◌++◌, map, map-map, map-append, Memᴰ as StandsIn}
use native.Mathlib.Nat.{add-zero, zero-add}
use native.Mathlib.Omega.{arith}
use lib.Dec.{eqb}
use lib.ListN.{length, get_or, get_elem?}
use borrow.Author.Tests.{eqb-true, eq-eqb}
use Rattle.format.specs.Blocks.{TableLink}
use Rattle.folders.specs.Lines.{Line, places_from, held, each, entry_lines, tree_lines}
use Rattle.claims.specs.Tree.{IsPath, to_a_link, further, Before, goes_on, lower, later, InOrder, line_of, IsListing, OneListing}
use Rattle.claims.proofs.PathOrder.{among, all_of, same_lists}

-- Paths that go through several links, one link after the other.

under : (rests : (place : ℕ) → List (List ℕ)) (places : List ℕ) → List (List ℕ)
under rests [] = []
under rests (place ∷ places) = map (λ rest. place ∷ rest) (rests place) ++ under rests places

record Through (rests : (place : ℕ) → List (List ℕ)) (places path : List ℕ) : Type 0 where
  pub place : ℕ
  pub rest : List ℕ
  pub same : path ≡ place ∷ rest
  pub first : StandsIn place places
  pub others : StandsIn rest (rests place)

longer_in : (place : ℕ) {rest : List ℕ} (rests : List (List ℕ)) → StandsIn rest rests → StandsIn (place ∷ rest) (map (λ r. place ∷ r) rests)
longer_in place rests (here e) = here (ap (λ r. place ∷ r) e)
longer_in place rests (behind {xs = xs} there) = behind (longer_in place xs there)

longer_out : (place : ℕ) {path : List ℕ} (rests : List (List ℕ)) → StandsIn path (map (λ r. place ∷ r) rests)
    → (rest : List ℕ) × (path ≡ place ∷ rest) × StandsIn rest rests
longer_out place [] there = absurd (Memᴰ.not-nil there)
longer_out place (rest ∷ rests) there =
    ⊎_elim
    (λ e. (rest, e, here refl))
    (λ t. let o = longer_out place rests t in (o.0, o.1, behind o.2))
    (Memᴰ.cases_cons there)

module _ (rests : (place : ℕ) → List (List ℕ)) where
  under_in : {place : ℕ} {rest : List ℕ} (places : List ℕ) → StandsIn place places → StandsIn rest (rests place)
      → StandsIn (place ∷ rest) (under rests places)
  unfolding under
  under_in {place} {rest} places (here {x = x} e) r =
      Memᴰ.append_left _
      (subst (λ (p : ℕ). StandsIn (p ∷ rest) (map (λ r. x ∷ r) (rests x))) (sym e)
      (longer_in x (rests x) (subst (λ (p : ℕ). StandsIn rest (rests p)) e r)))
  under_in places (behind {x = x} {xs = xs} there) r = Memᴰ.append_right (map (λ r. x ∷ r) (rests x)) (under_in xs there r)

  under_out : {path : List ℕ} (places : List ℕ) → StandsIn path (under rests places) → Through rests places path
  unfolding under
  under_out [] there = absurd (Memᴰ.not-nil there)
  under_out (place ∷ places) there =
      ⊎_elim
      (λ t.
      let o = longer_out place (rests place) t in
      record { place = place; rest = o.0; same = o.1; first = here refl; others = o.2 })
      (λ t.
      let o = under_out places t in
      record { place = o.place; rest = o.rest; same = o.same; first = behind o.first; others = o.others })
      (Memᴰ.append_cases (map (λ r. place ∷ r) (rests place)) there)

-- They are in order where the places rise and what goes on from each is in order.

abbrev Rising : (places : List ℕ) → Type 0
Rising [] = Unit {0}
Rising (place ∷ places) = ((other : ℕ) → StandsIn other places → place < other) × Rising places

order-append : (a b : List (List ℕ)) → InOrder a → InOrder b
    → ((path other : List ℕ) → StandsIn path a → StandsIn other b → Before path other) → InOrder (a ++ b)
order-append [] b p q h = q
order-append (path ∷ a) b (first, p) q h = (
  all_of (Before path) (a ++ b) (λ other there.
      ⊎_elim (λ t. among (Before path) a first t) (λ t. h path other (here refl) t) (Memᴰ.append_cases a there)),
  order-append a b p q (λ x y m n. h x y (behind m) n),
)

order_longer : (place : ℕ) (rests : List (List ℕ)) → InOrder rests → InOrder (map (λ r. place ∷ r) rests)
order_longer place [] o = tt
order_longer place (rest ∷ rests) (first, o) = (
  all_of (Before (place ∷ rest)) (map (λ r. place ∷ r) rests) (λ other there.
      let out = longer_out place rests there in
      subst (Before (place ∷ rest)) (sym out.1) (later refl (among (Before rest) rests first out.2))),
  order_longer place rests o,
)

order_under : (rests : (place : ℕ) → List (List ℕ)) (places : List ℕ) → ((place : ℕ) → InOrder (rests place)) → Rising places
    → InOrder (under rests places)
unfolding under
order_under rests [] each-rest rising = tt
order_under rests (place ∷ places) each-rest (low, rising) =
    order-append (map (λ r. place ∷ r) (rests place)) (under rests places) (order_longer place (rests place) (each-rest place))
    (order_under rests places each-rest rising)
    (λ path other m n.
    let o = longer_out place (rests place) m in
    let t = under_out rests places n in
    subst (λ p. Before p other) (sym o.1)
    (subst (Before (place ∷ o.0)) (sym t.same) (lower (low t.place t.first))))

-- Lines that are gathered in the same way.
lines_under : (lines : (place : ℕ) → List Line) (line : List ℕ → Line) (rests : (place : ℕ) → List (List ℕ))
    → ((place : ℕ) → lines place ≡ map (λ rest. line (place ∷ rest)) (rests place)) → (places : List ℕ)
    → each lines places ≡ map line (under rests places)
unfolding each under
lines_under lines line rests e [] = refl
lines_under lines line rests e (place ∷ places) =
    let longer : List (List ℕ) = map (λ rest. place ∷ rest) (rests place) in
    ap₂ ◌++◌ (e place ∙ sym (map-map line (λ rest. place ∷ rest) (rests place))) (lines_under lines line rests e places)
    ∙ sym (map-append line longer (under rests places))

-- The places at which a number stands.

taken_out : (taken : Bool) {place from : ℕ} (places : List ℕ) → StandsIn place (cond taken (from ∷ places) places)
    → ((taken ≡ true) × (place ≡ from)) ⊎ StandsIn place places
taken_out true places there = ⊎_elim (λ e. inl (refl, e)) (λ t. inr t) (Memᴰ.cases_cons there)
taken_out false places there = inr there

taken_in : (taken : Bool) {place : ℕ} (from : ℕ) (places : List ℕ) → StandsIn place places → StandsIn place (cond taken (from ∷ places) places)
taken_in true from places there = behind there
taken_in false from places there = there

record At (number from : ℕ) (numbers : List ℕ) (place : ℕ) : Type 0 where
  pub index : ℕ
  pub same : place ≡ from + index
  pub there : get_elem? numbers index ≡ some number

module _ (number : ℕ) where
  places_out : (from : ℕ) {place : ℕ} (numbers : List ℕ) → StandsIn place (places_from from number numbers) → At number from numbers place
  unfolding places_from
  places_out from [] there = absurd (Memᴰ.not-nil there)
  places_out from (n ∷ numbers) there =
      ⊎_elim
      (λ (e, f). record { index = 0; same = omega (arith, f); there = ap some (eqb-true n number e) })
      (λ t.
      let a = places_out (suc from) numbers t in
      record { index = suc a.index; same = omega (arith, a.same); there = a.there })
      (taken_out (eqb n number) (places_from (suc from) number numbers) there)

  places_in : (from : ℕ) (numbers : List ℕ) (index : ℕ) → get_elem? numbers index ≡ some number
      → StandsIn (from + index) (places_from from number numbers)
  unfolding places_from
  places_in from [] index e = absurd (none-ne-some _ e)
  places_in from (n ∷ numbers) zero e = rw (eq-eqb n number (some-injective _ _ e)) (here (add-zero from))
  places_in from (n ∷ numbers) (suc index) e =
      let s : suc from + index ≡ from + suc index = omega arith in
      taken_in (eqb n number) from (places_from (suc from) number numbers) (rw (← s) (places_in (suc from) numbers index e))

  places_rise : (from : ℕ) (numbers : List ℕ) → Rising (places_from from number numbers)
  unfolding places_from
  places_rise from [] = tt
  places_rise from (n ∷ numbers) =
      rising (eqb n number) (places_rise (suc from) numbers)
      (λ other there. let a = places_out (suc from) numbers there in omega (arith, a.same))
    where
      rising : (taken : Bool) {places : List ℕ} → Rising places → ((other : ℕ) → StandsIn other places → from < other)
          → Rising (cond taken (from ∷ places) places)
      rising true r low = (low, r)
      rising false r low = r

-- The paths of a table's links.

mapped : {A : Type 0} (f : A → ℕ) (list : List A) (index : ℕ) {n : ℕ} → get_elem? (map f list) index ≡ some n
    → (a : A) × (get_elem? list index ≡ some a) × (f a ≡ n)
mapped f [] index e = absurd (none-ne-some _ e)
mapped f (a ∷ list) zero e = (a, refl, some-injective _ _ e)
mapped f (a ∷ list) (suc index) e = mapped f list index e

map_at : {A : Type 0} (f : A → ℕ) (list : List A) (index : ℕ) {a : A} → get_elem? list index ≡ some a
    → (get_elem? (map f list) index ≡ some (f a)) × (get_or (map f list) index 0 ≡ f a)
map_at f [] index e = absurd (none-ne-some _ e)
map_at f (a ∷ list) zero e = (ap (λ x. some (f x)) (some-injective _ _ e), ap f (some-injective _ _ e))
map_at f (a ∷ list) (suc index) e = map_at f list index e

module _ (links : List TableLink) where
  abbrev parents : List ℕ
  parents = map (λ link. link.parent) links

  abbrev children : List ℕ
  children = map (λ link. link.child) links

  -- how a path may go on from a link: not at all, or through what the link holds
  rests : (left place : ℕ) → List (List ℕ)
  rests zero place = [] ∷ []
  rests (suc left) place = [] ∷ under (rests left) (held parents (get_or children place 0))

  -- the paths from a folder on: one link, and at most as many more as are left
  abbrev paths_from : (left folder : ℕ) → List (List ℕ)
  paths_from left folder = under (rests left) (held parents folder)

  ends_here : (left place : ℕ) → StandsIn [] (rests left place)
  unfolding rests
  ends_here zero place = here refl
  ends_here (suc left) place = here refl

  -- a link that a folder holds
  record Holds (folder place : ℕ) : Type 0 where
    pub link : TableLink
    pub there : get_elem? links place ≡ some link
    pub parent : link.parent ≡ folder

  holds : (folder : ℕ) {place : ℕ} → StandsIn place (held parents folder) → Holds folder place
  holds folder {place} there =
      let at = places_out folder 0 parents there in
      let m = mapped (λ link. link.parent) links at.index at.there in
      let e : at.index ≡ place = omega (arith, at.same) in
      record { link = m.0; there = subst (λ (i : ℕ). get_elem? links i ≡ some m.0) e m.1; parent = m.2 }

  held_there : (folder : ℕ) {place : ℕ} {link : TableLink} → get_elem? links place ≡ some link → link.parent ≡ folder
      → StandsIn place (held parents folder)
  held_there folder {place} e p =
      rw (zero-add place) at (places_in folder 0 parents place ((map_at (λ link. link.parent) links place e).0 ∙ ap some p))

  -- What is gathered are the paths that are not longer.
  is_path : (left folder : ℕ) {path : List ℕ} → StandsIn path (paths_from left folder)
      → IsPath links folder path × (length path ≤ suc left)
  unfolding rests
  is_path zero folder {path} there =
      let t = under_out (rests zero) (held parents folder) there in
      let h = holds folder t.first in
      let e : path ≡ t.place ∷ [] = t.same ∙ ap (λ r. t.place ∷ r) (Memᴰ.eq_of_singleton t.others) in
      rw e (to_a_link h.there h.parent, omega arith)
  is_path (suc left) folder {path} there =
      let t = under_out (rests (suc left)) (held parents folder) there in
      let h = holds folder t.first in
      let child : get_or children t.place 0 ≡ h.link.child = (map_at (λ link. link.child) links t.place h.there).1 in
      ⊎_elim
      (λ e.
      let s : path ≡ t.place ∷ [] = t.same ∙ ap (λ r. t.place ∷ r) e in
      rw s (to_a_link h.there h.parent, omega arith))
      (λ m.
      let on = is_path left (get_or children t.place 0) m in
      rw t.same (further h.there h.parent (rw child at on.0), omega (arith, on.1)))
      (Memᴰ.cases_cons t.others)

  some_link : {folder : ℕ} {path : List ℕ} → IsPath links folder path → 0 < length path
  some_link (to_a_link e p) = omega arith
  some_link (further e p on) = omega arith

  gathered : (left : ℕ) {folder : ℕ} {path : List ℕ} → IsPath links folder path → length path ≤ suc left
      → StandsIn path (paths_from left folder)
  unfolding rests
  gathered left {folder} (to_a_link {place = place} e p) short =
      under_in (rests left) (held parents folder) (held_there folder e p) (ends_here left place)
  gathered zero (further e p on) short = absurd (omega (arith, some_link on))
  gathered (suc left) {folder} (further {place = place} {link = link} {path = path} e p on) short =
      let child : get_or children place 0 ≡ link.child = (map_at (λ link. link.child) links place e).1 in
      let rest : StandsIn path (paths_from left (get_or children place 0)) = rw child (gathered left on (omega arith)) in
      under_in (rests (suc left)) (held parents folder) (held_there folder e p) (behind rest)

  -- They are in order.
  rests_in_order : (left place : ℕ) → InOrder (rests left place)
  unfolding rests
  rests_in_order zero place = (tt, tt)
  rests_in_order (suc left) place =
      let places : List ℕ = held parents (get_or children place 0) in (
        all_of (Before []) (under (rests left) places) (λ path there.
            let t = under_out (rests left) places there in
            rw t.same goes_on),
        order_under (rests left) places (rests_in_order left) (places_rise (get_or children place 0) 0 parents),
      )

  -- Their lines.

  -- the line of a path that begins at a depth
  abbrev line_at : (depth : ℕ) (path : List ℕ) → Line
  line_at depth path = record { depth = depth + (length path - 1); place = get_or path (length path - 1) 0 }

  one_deeper : (left : ℕ) (place next : ℕ) (rest : List ℕ) → suc left ≤ 32
      → line_at (32 - left) (next ∷ rest) ≡ line_at (32 - suc left) (place ∷ next ∷ rest)
  one_deeper left place next rest few =
      let n : ℕ = length rest in
      let a : suc n - 1 ≡ n = omega arith in
      let b : suc (suc n) - 1 ≡ suc n = omega arith in
      let e : (32 - left) + n ≡ (32 - suc left) + suc n = omega arith in
      rw (a, b, e)

  entry_lines_lem : (left place : ℕ) → left ≤ 32
      → entry_lines parents children left place ≡ map (λ rest. line_at (32 - left) (place ∷ rest)) (rests left place)
  unfolding entry_lines rests
  entry_lines_lem zero place few = refl
  entry_lines_lem (suc left) place few =
      ap₂ {C = List Line} ◌∷◌ (ap (λ (d : ℕ). record { depth = d; place = place }) (sym (add-zero (32 - suc left))))
      (lines_under (entry_lines parents children left) (λ path. line_at (32 - suc left) (place ∷ path)) (rests left)
      (λ next.
      entry_lines_lem left next (omega arith)
      ∙ ap (λ (f : List ℕ → Line). map f (rests left next)) (fun_ext (λ rest. one_deeper left place next rest few)))
      (held parents (get_or children place 0)))

  -- the paths of a listing
  pub listing_from : (root : ℕ) → List (List ℕ)
  listing_from root = paths_from 32 root

  pub listing_lines : (root : ℕ) → tree_lines links root ≡ map line_of (listing_from root)
  unfolding tree_lines listing_from
  listing_lines root =
      lines_under (entry_lines parents children 32) line_of (rests 32)
      (λ place.
      entry_lines_lem 32 place (omega arith)
      ∙ ap (λ (f : List ℕ → Line). map f (rests 32 place))
      (fun_ext (λ rest. ap (λ (d : ℕ). record { depth = d; place = (line_of (place ∷ rest)).place }) (zero-add (length (place ∷ rest) - 1)))))
      (held parents root)

  pub is_listing : (root : ℕ) → IsListing links root (listing_from root)
  unfolding listing_from
  is_listing root =
      record {
        in_order = order_under (rests 32) (held parents root) (rests_in_order 32) (places_rise root 0 parents);
        exactly = λ path. (is_path 32 root, λ p. gathered 32 p.0 p.1);
      }

-- no two listings differ
pub same_listings : {links : List TableLink} {root : ℕ} {paths others : List (List ℕ)} → IsListing links root paths
    → IsListing links root others → paths ≡ others
same_listings {links} {root} {paths} {others} a b =
    same_lists paths others a.in_order b.in_order (λ path there. (b.exactly path).1 ((a.exactly path).0 there))
    (λ path there. (a.exactly path).1 ((b.exactly path).0 there))

pub every_table_has_one_listing : (links : List TableLink) (root : ℕ) → OneListing links root
every_table_has_one_listing links root =
    record {
      paths = listing_from links root;
      is_listing = is_listing links root;
      only = λ others listing. same_listings listing (is_listing links root);
    }
