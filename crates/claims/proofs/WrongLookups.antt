-- Wrong lookups answer for an empty volume or for a sample file what the claim does not allow. Assumes nothing.
use Prim.Native.Nat.{ℕ}
use mathlib.Core.Path.{◌≡◌, refl, sym, ap, ◌∙◌}
use mathlib.Core.Logic.{⊎_elim}
use mathlib.Core.List.{[], ◌∷◌}
use native.Mathlib.Omega.{arith}
use Rattle.number.specs.Number.{Bytes}
use Rattle.lookup.specs.Lookup.{lookup_fault}
use Rattle.claims.specs.Demand2.{AllIsThere, Demand2}
use Rattle.claims.specs.Samples.{File, first, payload, inode, lengths, with_file, file_a, file_b}
use Rattle.claims.specs.Wrong.{holes_only, one_place_only, holes_where_refused, hole_for}
use Rattle.claims.proofs.Bytes.{all_small, small_bytes, volume_bytes, extents_bytes}
use Rattle.claims.proofs.Demand2.{demand_2_holds}
use Rattle.claims.proofs.Samples.{a_clear, a_size, a_keeps, b_clear, b_size, b_keeps_not}
use Rattle.claims.proofs.Tried.{first_rules}

-- In an empty volume nothing is there, so every lookup is refused.
pub holes_where_refused_lem : Demand2 holes_where_refused → ⊥
holes_where_refused_lem claim =
    let nothing : AllIsThere [] 0 [] → ⊥ = λ all. omega (arith, all.after_the_header) in
    let right = ((demand_2_holds [] 0 [] (λ i. omega arith)).refused_otherwise nothing).positions 0 in
    let wrong = ((claim [] 0 [] (λ i. omega arith)).refused_otherwise nothing).positions 0 in
    let both = sym (ap hole_for right) ∙ wrong in
    let z : ◌≡◌ {A = ℕ} 0 1 = cc in
    omega arith

-- The sample files: A keeps position 0, B does not. All that they need is there, as ours tells.
sample_bytes : (file : File) → Bytes (with_file file)
unfolding all_small
sample_bytes file =
    volume_bytes (record { header = first; blocks = payload ∷ inode file ∷ [] }) first_rules
    (small_bytes (49 ∷ 44 ∷ 53 ∷ []) refl, (extents_bytes file.extents, tt))

sample_there : (file : File) → lookup_fault (with_file file) 104 lengths ≡ 0 → AllIsThere (with_file file) 104 lengths
sample_there file clear = (demand_2_holds (with_file file) 104 lengths (sample_bytes file)).no_fault_iff_all_is_there.0 clear

pub holes_only_lem : Demand2 holes_only → ⊥
holes_only_lem claim =
    ⊎_elim
    (λ hole. hole.kept_by_none 0 a_keeps)
    (λ stored. let e = stored.answer in let z : ◌≡◌ {A = ℕ} 0 1 = cc in omega arith)
    (((claim (with_file (file_a 0)) 104 lengths (sample_bytes (file_a 0))).answered (sample_there (file_a 0) a_clear)).hole_or_stored 0 (a_size))

pub one_place_only_lem : Demand2 one_place_only → ⊥
one_place_only_lem claim =
    ⊎_elim
    (λ hole. let e = hole.answer in let z : ◌≡◌ {A = ℕ} 0 1 = cc in omega arith)
    (λ stored. b_keeps_not stored.keeper stored.kept)
    (((claim (with_file file_b) 104 lengths (sample_bytes file_b)).answered (sample_there file_b b_clear)).hole_or_stored 0 b_size)
