-- No lookup is refused with 18: an extent whose blocks have size 0 has no raw bytes (S×C is 0), so L is 0 and it keeps
-- nothing, whatever its other fields say. The check stands in the table, and is never at fault. Assumes nothing.
use Rattle.std.specs.Prelude.{Err}
use Prim.Native.Nat.{ℕ}
use mathlib.Core.Path.{◌≡◌, refl, sym, ap, ◌∙◌}
use mathlib.Core.Bool.{Bool, true, false, cond, ◌||◌, and-eq-true_iff, false≢true}
use mathlib.Core.Logic.{⊎_elim}
use mathlib.Mathlib.Data.Bool.Basic.{dichotomy, or-eq-false-eq-eq-false-and-eq-false as both_false}
use mathlib.Core.List.{List, [], ◌∷◌, ◌++◌}
use native.Mathlib.Nat.{zero-mul}
use native.Mathlib.Omega.{arith}
use lib.Dec.{ltb, eqb}
use borrow.Author.Tests.{ltb-true, eqb-true}
use Rattle.checks.specs.Checks.{Check, check}
use Rattle.checks.proofs.Laws.{gives, given}
use Rattle.checks.proofs.Scan.{any_nowhere}
use Rattle.refusal.specs.Refusal.{Refusal}
use Rattle.refusal.proofs.Laws.{with_number}
use Rattle.format.specs.declared.Extent.{Extent}
use Rattle.format.specs.Extents.{kept_length}
use Rattle.format.specs.Blocks.{Kind, inode_block, link_block, unlink_block, xattr_block, removed_xattr_block, data_block, rename_block, link_table}
use Rattle.format.specs.Blocks.{FileType, regular, symbolic_link, other}
use Rattle.extent.specs.Extents.{extent_at, extent_count}
use Rattle.block.specs.Fields.{kind_at, type_at, size_at, rest_at}
use Rattle.block.specs.Order.{rest_order, kind_order}
use Rattle.lookup.specs.Lookup.{not_file, is_stray, some_stray, extents_order, lookup_order, lookup_fault, runs_order, runs_fault}
use Rattle.lookup.specs.inner.Answers.{position_answer, runs_answer}
use Rattle.lookup.proofs.Refusals.{position_refusal, runs_refusal}

-- no extent is stray
pub never_stray : (e : Extent) → is_stray e ≡ false
unfolding is_stray
never_stray e =
    ⊎_elim
    (λ q. q)
    (λ q.
    let a = (and-eq-true_iff (ltb 0 (kept_length e)) _).0 q in
    let z : e.size ≡ 0 = eqb-true e.size 0 a.1 in
    let n : kept_length e ≡ 0 = rw (z, zero-mul) (omega arith) in
    absurd (omega (arith, ltb-true 0 (kept_length e) a.0)))
    (dichotomy (is_stray e))

pub none_stray : (list : List ℕ) → some_stray list ≡ false
unfolding some_stray
none_stray list = any_nowhere (λ i. is_stray (extent_at list i)) (extent_count list) (λ i l. never_stray (extent_at list i))

-- a table that does not give a number leaves it to the checks after it
gives_skip : (number : ℕ) (a b : List Check) → gives number a ≡ false → gives number (a ++ b) ≡ gives number b
gives_skip number [] b e = refl
gives_skip number (check fault gave ∷ a) b e = go (eqb gave number) e (gives_skip number a b)
  where
    go : (t : Bool) → cond t (fault || gives number a) (gives number a) ≡ false
        → (gives number a ≡ false → gives number (a ++ b) ≡ gives number b)
        → cond t (fault || gives number (a ++ b)) (gives number (a ++ b)) ≡ gives number b
    go true h skip = let p = (both_false fault (gives number a)).0 h in rw p.0 (skip p.1)
    go false h skip = skip h

-- no check of a block has the number
rest_without_18 : (type : FileType) (size : ℕ) (rest : List ℕ) → gives 18 (rest_order type size rest) ≡ false
rest_without_18 regular size rest = refl
rest_without_18 symbolic_link size rest = refl
rest_without_18 other size rest = refl

kind_without_18 : (kind : Kind) (volume : List ℕ) (offset : ℕ) → gives 18 (kind_order kind volume offset) ≡ false
kind_without_18 inode_block volume offset = rest_without_18 (type_at volume offset) (size_at volume offset) (rest_at volume offset)
kind_without_18 link_block volume offset = refl
kind_without_18 unlink_block volume offset = refl
kind_without_18 xattr_block volume offset = refl
kind_without_18 removed_xattr_block volume offset = refl
kind_without_18 data_block volume offset = refl
kind_without_18 rename_block volume offset = refl
kind_without_18 link_table volume offset = refl

lookup_without_18 : (volume : List ℕ) (offset : ℕ) (lengths : List ℕ) → gives 18 (lookup_order volume offset lengths) ≡ false
lookup_without_18 volume offset lengths =
    let kind = kind_order (kind_at volume offset) volume offset in
    let file = check (not_file volume offset) 15 ∷ [] in
    let opening : gives 18 (kind ++ file) ≡ false = gives_skip 18 kind file (kind_without_18 (kind_at volume offset) volume offset) in
    gives_skip 18 (kind ++ file) (extents_order lengths (rest_at volume offset)) opening ∙ rw (none_stray (rest_at volume offset))

pub lookup_never_gives_18 : (volume : List ℕ) (offset : ℕ) (lengths : List ℕ) → lookup_fault volume offset lengths ≡ 18 → ⊥
unfolding lookup_fault
lookup_never_gives_18 volume offset lengths e =
    false≢true (sym (lookup_without_18 volume offset lengths) ∙ given 18 (lookup_order volume offset lengths) (λ z. omega arith) e)

pub range_query_never_gives_18 : (volume : List ℕ) (offset : ℕ) (lengths : List ℕ) (from to room : ℕ)
    → runs_fault volume offset lengths from to room ≡ 18 → ⊥
unfolding runs_fault
range_query_never_gives_18 volume offset lengths from to room e =
    let none = gives_skip 18 (lookup_order volume offset lengths) _ (lookup_without_18 volume offset lengths) in
    false≢true (sym none ∙ given 18 (runs_order volume offset lengths from to room) (λ z. omega arith) e)

-- so no answer has it either
pub no_position_is_refused_with_18 : (volume : List ℕ) (offset : ℕ) (lengths : List ℕ) (position : ℕ) (refusal : Refusal)
    → position_answer volume offset lengths position ≡ Err refusal → refusal.number ≡ 18 → ⊥
no_position_is_refused_with_18 volume offset lengths position refusal e n =
    let same = position_refusal volume offset lengths position refusal e in
    lookup_never_gives_18 volume offset lengths (sym (with_number _ _) ∙ ap (λ (r : Refusal). r.number) same ∙ n)

pub no_range_is_refused_with_18 : (volume : List ℕ) (offset : ℕ) (lengths : List ℕ) (from to room : ℕ) (refusal : Refusal)
    → runs_answer volume offset lengths from to room ≡ Err refusal → refusal.number ≡ 18 → ⊥
no_range_is_refused_with_18 volume offset lengths from to room refusal e n =
    let same = runs_refusal volume offset lengths from to room refusal e in
    range_query_never_gives_18 volume offset lengths from to room (sym (with_number _ _) ∙ ap (λ (r : Refusal). r.number) same ∙ n)
