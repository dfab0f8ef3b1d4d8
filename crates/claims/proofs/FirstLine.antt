-- The checks of the lines of a listing, in listing order, find the first line that can't be given. Assumes nothing.
use Prim.Native.Nat.{ℕ, zero, suc, ◌+◌, ◌*◌, ◌≤◌, ◌<◌}
use mathlib.Core.Path.{◌≡◌, refl, ap, ◌∙◌, subst}
use mathlib.Core.Bool.{Bool, true, false, cond}
use mathlib.Core.Option.{some, none-ne-some, some-injective}
use mathlib.Core.List.{List, [], ◌∷◌, map}
use native.Mathlib.Nat.{add-zero, zero-add, not-suc-le-zero}
use native.Mathlib.Omega.{arith}
use lib.Dec.{leb, ltb}
use lib.ListN.{length, drop, get_elem?, drop_of_length-le}
use borrow.Author.Tests.{leb-true, leb-false, ltb-true, ltb-false, le-leb, lt-leb, lt-ltb, le-ltb}
use Rattle.checks.specs.Checks.{first_fault}
use Rattle.format.specs.Layout.{All}
use Rattle.tree.specs.Listing.{lines_order}
use Rattle.claims.specs.Tree.{line_of, CanBeGiven, FirstCanBeGiven}

-- what the checks find in the lines of these paths, where lines are given before them
abbrev pub fault_from : (room given : ℕ) (paths : List (List ℕ)) → ℕ
fault_from room given paths = first_fault (lines_order room given (map line_of paths))

-- the first of these lines can be given, so many, where lines are given before them
abbrev pub FirstFrom : (room given many : ℕ) (paths : List (List ℕ)) → Type 0
FirstFrom room given many paths =
    (before : ℕ) (path : List ℕ) → before < many → get_elem? paths before ≡ some path → CanBeGiven room (given + before) path

-- What is found, and in which line. No line stands deeper than the listing goes.
pub data Finds (room given : ℕ) (paths : List (List ℕ)) : ℕ → Type 0 where
  none_refused : FirstFrom room given (length paths) paths → Finds room given paths 0
  deep :
      (before : ℕ) {path : List ℕ}
      → FirstFrom room given before paths
      → get_elem? paths before ≡ some path
      → (line_of path).depth ≡ 32
      → Finds room given paths 24
  full :
      (before : ℕ) {path : List ℕ}
      → FirstFrom room given before paths
      → get_elem? paths before ≡ some path
      → (line_of path).depth < 32
      → room < 2 * suc (given + before)
      → Finds room given paths 17

drop-there : (paths : List (List ℕ)) (before : ℕ) {path : List ℕ} → get_elem? paths before ≡ some path
    → drop before paths ≡ path ∷ drop (suc before) paths
drop-there [] before e = absurd (none-ne-some _ e)
drop-there (path ∷ paths) zero e = ap (λ p. p ∷ paths) (some-injective _ _ e)
drop-there (path ∷ paths) (suc before) e = drop-there paths before e

module _ (room : ℕ) where
  -- a line that can be given, and those after it
  first_passes : (given : ℕ) (path : List ℕ) (paths : List (List ℕ)) → CanBeGiven room given path
      → fault_from room given (path ∷ paths) ≡ fault_from room (suc given) paths
  unfolding first_fault lines_order
  first_passes given path paths can =
      rw (lt-leb 32 (line_of path).depth can.not_too_deep, le-ltb room (2 * suc given) can.has_room)

  longer : (given many : ℕ) (path : List ℕ) (paths : List (List ℕ)) → CanBeGiven room given path → FirstFrom room (suc given) many paths
      → FirstFrom room given (suc many) (path ∷ paths)
  longer given many path paths can others zero p l e =
      subst (CanBeGiven room (given + 0)) (some-injective _ _ e) (rw (add-zero given) can)
  longer given many path paths can others (suc before) p l e =
      let s : suc given + before ≡ given + suc before = omega arith in
      rw (← s) (others before p (omega arith) e)

  shorter : (given many : ℕ) (path : List ℕ) (paths : List (List ℕ)) → FirstFrom room given (suc many) (path ∷ paths)
      → CanBeGiven room given path × FirstFrom room (suc given) many paths
  shorter given many path paths first = (
    rw (add-zero given) at (first 0 path (omega arith) refl),
    λ before p l e.
        let s : given + suc before ≡ suc given + before = omega arith in
        rw s at (first (suc before) p (omega arith) e),
  )

  pub found : (given : ℕ) (paths : List (List ℕ)) → All (λ path. length path ≤ 33) paths → Finds room given paths (fault_from room given paths)
  unfolding first_fault lines_order
  found given [] short = none_refused (λ before path l e. absurd (none-ne-some _ e))
  found given (path ∷ paths) (short, others) =
      go (leb 32 (line_of path).depth) refl (ltb room (2 * suc given)) refl (found (suc given) paths others)
    where
      nothing : FirstFrom room given 0 (path ∷ paths)
      nothing before p l e = absurd (not-suc-le-zero l)

      on : CanBeGiven room given path → {fault : ℕ} → Finds room (suc given) paths fault → Finds room given (path ∷ paths) fault
      on can (none_refused first) = none_refused (longer given (length paths) path paths can first)
      on can (deep before first e d) = deep (suc before) (longer given before path paths can first) e d
      on can (full before first e d l) = full (suc before) (longer given before path paths can first) e d (omega arith)

      go : (down : Bool) → leb 32 (line_of path).depth ≡ down → (past : Bool) → ltb room (2 * suc given) ≡ past
          → Finds room (suc given) paths (fault_from room (suc given) paths)
          → Finds room given (path ∷ paths) (cond down 24 (cond past 17 (fault_from room (suc given) paths)))
      go true e past f others = let l : 32 ≤ (line_of path).depth = leb-true 32 _ e in deep 0 nothing refl (omega arith)
      go false e true f others =
          full 0 nothing refl (leb-false 32 _ e) (rw (add-zero given) (ltb-true room _ f))
      go false e false f others = on (record { not_too_deep = leb-false 32 _ e; has_room = ltb-false room _ f }) others

  -- the lines that can be given are passed, and the next one decides
  passed_to : (given many : ℕ) (paths : List (List ℕ)) → FirstFrom room given many paths
      → fault_from room given paths ≡ fault_from room (given + many) (drop many paths)
  unfolding first_fault lines_order
  passed_to given zero paths first = rw (add-zero given)
  passed_to given (suc many) [] first = refl
  passed_to given (suc many) (path ∷ paths) first =
      let s = shorter given many path paths first in
      let e : given + suc many ≡ suc given + many = omega arith in
      rw e (first_passes given path paths s.0 ∙ passed_to (suc given) many paths s.1)

  -- Of all lines.

  at_first : (many : ℕ) (paths : List (List ℕ)) → FirstCanBeGiven room many paths → FirstFrom room 0 many paths
  at_first many paths first before path l e = rw (zero-add before) (first before path l e)

  pub from_first : (many : ℕ) (paths : List (List ℕ)) → FirstFrom room 0 many paths → FirstCanBeGiven room many paths
  from_first many paths first before path l e = rw (zero-add before) at (first before path l e)

  pub all_given : (paths : List (List ℕ)) → FirstCanBeGiven room (length paths) paths → fault_from room 0 paths ≡ 0
  unfolding first_fault lines_order
  all_given paths first =
      passed_to 0 (length paths) paths (at_first (length paths) paths first) ∙ rw (drop_of_length-le paths {i = length paths} (omega arith))

  at_line : (before : ℕ) (paths : List (List ℕ)) {path : List ℕ} → FirstCanBeGiven room before paths → get_elem? paths before ≡ some path
      → fault_from room 0 paths ≡ fault_from room before (path ∷ drop (suc before) paths)
  at_line before paths first e =
      passed_to 0 before paths (at_first before paths first) ∙ rw (zero-add before, drop-there paths before e)

  pub deep_decides : (before : ℕ) (paths : List (List ℕ)) {path : List ℕ} → FirstCanBeGiven room before paths
      → get_elem? paths before ≡ some path → (line_of path).depth ≡ 32 → fault_from room 0 paths ≡ 24
  unfolding first_fault lines_order
  deep_decides before paths {path} first e d = at_line before paths first e ∙ rw (le-leb 32 (line_of path).depth (omega arith))

  pub room_decides : (before : ℕ) (paths : List (List ℕ)) {path : List ℕ} → FirstCanBeGiven room before paths
      → get_elem? paths before ≡ some path → (line_of path).depth < 32 → room < 2 * suc before → fault_from room 0 paths ≡ 17
  unfolding first_fault lines_order
  room_decides before paths {path} first e d l =
      at_line before paths first e ∙ rw (lt-leb 32 (line_of path).depth d, lt-ltb room (2 * suc before) l)
