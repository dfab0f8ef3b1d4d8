-- A lookup that is refused is refused with its first fault, which is not 0. Assumes nothing.
use Rattle.std.specs.Prelude.{Ok, Err}
use Prim.Native.Nat.{ℕ}
use mathlib.Core.Path.{◌≡◌, refl, sym, ◌∙◌}
use mathlib.Core.Bool.{Bool, true, false, cond}
use mathlib.Core.Logic.{⊎_elim}
use mathlib.Core.Option.{Option, none, some}
use mathlib.Core.List.{List}
use mathlib.Mathlib.Data.Bool.Basic.{dichotomy}
use native.Mathlib.Omega.{arith}
use lib.Dec.{eqb, ltb}
use borrow.Author.Tests.{eqb-false}
use Rattle.refusal.specs.Refusal.{refusal_with}
use Rattle.refusal.specs.Refusal.{Refusal}
use Rattle.refusal.proofs.Laws.{with_number}
use Rattle.block.specs.Fields.{size_at, rest_at}
use Rattle.texts.specs.Texts.{texts_at}
use Rattle.runs.specs.Positions.{keeper}
use Rattle.runs.specs.inner.Computed.{run_count}
use Rattle.lookup.specs.Lookup.{lookup_fault, runs_fault}
use Rattle.lookup.specs.inner.Answers.{place_for, position_answer, runs_answer}
use Rattle.lookup.specs.Answers.{PositionAnswer}
use Rattle.lookup.specs.declared.Position.TheVariants.{Hole, PastEnd, Stored}

abbrev pub RefusedByNumber : PositionAnswer → Type 0
RefusedByNumber (Ok Hole) = Unit {0}
RefusedByNumber (Ok PastEnd) = Unit {0}
RefusedByNumber (Ok (Stored place)) = Unit {0}
RefusedByNumber (Err refusal) = refusal.number ≡ 0 → ⊥

place_not_refused : (list : List ℕ) (position : ℕ) (keeper : Option ℕ) → RefusedByNumber (place_for list position keeper)
place_not_refused list position none = tt
place_not_refused list position (some i) = tt

pub position_refused_by_number : (volume : List ℕ) (offset : ℕ) (lengths : List ℕ) (position : ℕ)
    → RefusedByNumber (position_answer volume offset lengths position)
unfolding position_answer
position_refused_by_number volume offset lengths position =
    go (eqb (lookup_fault volume offset lengths) 0) refl (ltb position (size_at volume offset))
  where
    go : (clear : Bool) → eqb (lookup_fault volume offset lengths) 0 ≡ clear → (below : Bool)
        → RefusedByNumber (
        cond clear (cond below (place_for (rest_at volume offset) position (keeper (rest_at volume offset) position)) (Ok PastEnd))
        (Err (refusal_with (lookup_fault volume offset lengths) (texts_at volume offset)))
        )
    go true e true = place_not_refused (rest_at volume offset) position (keeper (rest_at volume offset) position)
    go true e false = tt
    go false e below = λ z. eqb-false _ _ e (sym (with_number (lookup_fault volume offset lengths) (texts_at volume offset)) ∙ z)

-- the refusal is that of the first fault
no_refusal : (list : List ℕ) (position : ℕ) (refusal : Refusal) (t : Bool) (keeper : Option ℕ)
    → cond t (place_for list position keeper) (Ok PastEnd) ≡ Err refusal → ⊥
no_refusal list position refusal true none e = let z : ◌≡◌ {A = ℕ} 0 1 = cc in omega arith
no_refusal list position refusal true (some i) e = let z : ◌≡◌ {A = ℕ} 0 1 = cc in omega arith
no_refusal list position refusal false keeper e = let z : ◌≡◌ {A = ℕ} 0 1 = cc in omega arith

pub position_refusal : (volume : List ℕ) (offset : ℕ) (lengths : List ℕ) (position : ℕ) (refusal : Refusal)
    → position_answer volume offset lengths position ≡ Err refusal
    → refusal_with (lookup_fault volume offset lengths) (texts_at volume offset) ≡ refusal
unfolding position_answer
position_refusal volume offset lengths position refusal e =
    ⊎_elim
    (λ q.
    let told : (Err (refusal_with (lookup_fault volume offset lengths) (texts_at volume offset))) ≡ (Err refusal) = rw q at e in cc)
    (λ q.
    absurd (no_refusal (rest_at volume offset) position refusal (ltb position (size_at volume offset))
    (keeper (rest_at volume offset) position) (rw q at e)))
    (dichotomy (eqb (lookup_fault volume offset lengths) 0))

pub runs_refusal : (volume : List ℕ) (offset : ℕ) (lengths : List ℕ) (from to room : ℕ) (refusal : Refusal)
    → runs_answer volume offset lengths from to room ≡ Err refusal
    → refusal_with (runs_fault volume offset lengths from to room) (texts_at volume offset) ≡ refusal
unfolding runs_answer
runs_refusal volume offset lengths from to room refusal e =
    ⊎_elim
    (λ q.
    let told : (Err (refusal_with (runs_fault volume offset lengths from to room) (texts_at volume offset))) ≡ (Err refusal) = rw q at e in cc)
    (λ q.
    let told : (Ok (run_count (rest_at volume offset) (size_at volume offset) from to)) ≡ (Err refusal) = rw q at e in
    let z : ◌≡◌ {A = ℕ} 0 1 = cc in
    absurd (omega arith))
    (dichotomy (eqb (runs_fault volume offset lengths from to room) 0))
