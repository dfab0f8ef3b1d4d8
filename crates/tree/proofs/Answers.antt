-- The answer, by the reading of the table and the listing of its lines. Assumes nothing.
use Rattle.std.specs.Prelude.{Option, Some, None, Ok, Err}
use Prim.Native.Nat.{ℕ, suc, ◌+◌, ◌*◌, ◌≤◌}
use mathlib.Core.Path.{◌≡◌, refl, sym, ap, ◌∙◌}
use mathlib.Core.Bool.{Bool, true, false, cond, false≢true, and-false}
use mathlib.Core.List.{List, [], ◌∷◌}
use native.Mathlib.Omega.{arith}
use lib.Dec.{T, leb, ltb, eqb}
use lib.ListN.{length}
use borrow.Author.Tests.{eq-eqb, ne_eqb, eqb-true, eqb-false}
use Rattle.number.specs.Number.{put}
use Rattle.checks.specs.Checks.{first_fault}
use Rattle.checks.proofs.Laws.{numbered, first_fault-append}
use Rattle.checks.proofs.Cleared.{numbered-append}
use Rattle.refusal.specs.Refusal.{Refusal, refusal_of, refusal_with}
use Rattle.refusal.proofs.Laws.{with_other, with_number}
use Rattle.format.specs.Blocks.{link_table}
use Rattle.block.specs.Fields.{id_at, kind_with, field_at}
use Rattle.block.specs.Order.{kind_order, block_order}
use Rattle.block.proofs.Passed.{KindPassed, kind_passed, block_numbered}
use Rattle.texts.specs.Texts.{texts_at}
use Rattle.volume.specs.Reading.{is_end, follow_order, read_order, read_fault, read_answer}
use Rattle.volume.specs.declared.Bookmark.{Bookmark}
use Rattle.volume.specs.declared.Found.{Found}
use Rattle.volume.specs.Answers.{ReadAnswer}
use Rattle.volume.proofs.Passed.{read_passed}
use Rattle.volume.proofs.Steps.{refusal_at, Answers, ends, finds, refuses, answers, found_sound}
use Rattle.volume.proofs.OneCall.{right_place}
use Rattle.folders.specs.Lines.{Line, line_numbers}
use Rattle.tree.specs.Listing.{table_due, lines_at, lines_order, tree_fault, tree_answer, tree_room}
use Rattle.tree.specs.inner.Listed.{Listed}
use Rattle.lines.specs.inner.Giving.{Given}
use Rattle.tree.specs.Answers.{TreeAnswer}

-- no line is refused for a text
lines_fault : (room n : ℕ) (lines : List Line) → first_fault (lines_order room n lines) ≡ 10 → ⊥
unfolding lines_order first_fault
lines_fault room n [] e = omega arith
lines_fault room n (line ∷ lines) e = go (leb 32 line.depth) (ltb room (2 * suc n)) (lines_fault room (suc n) lines) e
  where
    go : (d r : Bool) {m : ℕ} → (m ≡ 10 → ⊥) → cond d 24 (cond r 17 m) ≡ 10 → ⊥
    go true r other e = omega arith
    go false true other e = omega arith
    go false false other e = other e

module _ (volume : List ℕ) (mark : Bookmark) where
  abbrev due : Bookmark
  due = table_due mark

  abbrev at : ℕ
  at = mark.offset

  -- with a table due the volume does not end
  pub never_ends : is_end volume due ≡ false
  unfolding is_end
  never_ends = rw (and-false, and-false, and-false)

  pub read_numbered : T (numbered (read_order volume due))
  read_numbered = numbered-append (block_order volume at true) (follow_order due _) (block_numbered volume at true) tt

  -- where nothing is at fault, a table stands there
  pub table_id : read_fault volume due ≡ 0 → id_at volume at ≡ 8
  table_id e = eqb-true _ _ (sym (right_place true _ (read_passed volume due e).block.place))

  table_passed : read_fault volume due ≡ 0 → KindPassed link_table volume at
  unfolding kind_with
  table_passed e =
      kind_passed volume at link_table
      (ap (λ (id : ℕ). first_fault (kind_order (kind_with id) volume at)) (sym (table_id e)) ∙ (read_passed volume due e).block.own)

  -- and its links may be listed
  pub table_fits : read_fault volume due ≡ 0 → (at + 9 ≤ length volume) × (field_at link_table "link count" volume at ≤ 4096)
  table_fits e = let p = table_passed e in (p.fixed_fields, p.own.few)

  module _ (root : ℕ) where
    pub fault_is : (room : ℕ)
        → tree_fault volume mark root room
        ≡ cond (eqb (read_fault volume due) 0) (first_fault (lines_order room 0 (lines_at volume at root))) (read_fault volume due)
    unfolding tree_fault read_fault
    fault_is room = first_fault-append (read_order volume due) (lines_order room 0 (lines_at volume at root)) read_numbered

    module _ (out : List ℕ) where
      -- what is answered, and what the list then holds
      abbrev pub Gives : TreeAnswer → (after : List ℕ) → Type 0
      Gives answer after = (tree_answer volume mark root (length out) ≡ answer) × (tree_room volume mark root out ≡ after)

      pub refused_with : {fault : ℕ} → tree_fault volume mark root (length out) ≡ fault → (fault ≡ 0 → ⊥)
          → Gives (Err (refusal_with fault (texts_at volume at))) out
      unfolding tree_answer tree_room
      refused_with {fault} e n = rw (e, ne_eqb fault 0 n) (refl, refl)

      -- a line that is refused
      pub line_refused : (number : ℕ) → tree_fault volume mark root (length out) ≡ number → (number ≡ 0 → ⊥) → (number ≡ 10 → ⊥)
          → Gives (Err (refusal_of number)) out
      line_refused number e n d = rw (with_other number (texts_at volume at) d) (refused_with e n)

      pub lines_given : tree_fault volume mark root (length out) ≡ 0
          → Gives (Ok (length (lines_at volume at root))) (put out 0 (line_numbers (lines_at volume at root)))
      unfolding tree_answer tree_room
      lines_given e = rw e (refl, refl)

      -- reading refuses
      pub not_read_gives : {refusal : Refusal} → read_answer volume due ≡ Err refusal → Gives (Err refusal) out
      not_read_gives {refusal} e = go (answers volume due) e
        where
          go : {a : ReadAnswer} → Answers volume due a → a ≡ Err refusal → Gives (Err refusal) out
          go (ends p) e = let z : ◌≡◌ {A = ℕ} 0 1 = cc in absurd (omega arith)
          go (finds p f) e = let z : ◌≡◌ {A = ℕ} 0 1 = cc in absurd (omega arith)
          go (refuses p f) e =
              let same : refusal_at volume due ≡ refusal = cc in
              rw (← same) (refused_with (rw (fault_is (length out), ne_eqb _ 0 f)) f)

      -- What was listed of the table that was read.
      module _ (given : Given) (after : List ℕ) (sound : read_fault volume due ≡ 0) (listed : Listed (lines_at volume at root) out given after) where
        same_fault : tree_fault volume mark root (length out) ≡ given.fault
        same_fault = rw (fault_is (length out), sound) (sym listed.fault_is)

        pub all_given : given.fault ≡ 0 → Gives (Ok given.lines) after
        all_given z =
            rw (listed.lines_are z, listed.list_is, eq-eqb given.fault 0 z) (lines_given (same_fault ∙ z))

        pub not_given : (given.fault ≡ 0 → ⊥) → Gives (Err (refusal_of given.fault)) after
        not_given n =
            rw (listed.list_is, ne_eqb given.fault 0 n)
            (line_refused given.fault same_fault n (λ e. lines_fault _ _ _ (sym listed.fault_is ∙ e)))

-- What is read with a table due, by what the answer holds: it never ends there, and a block that is found is sound.
module _ (volume : List ℕ) (mark due : Bookmark) (same : due ≡ table_due mark) (answer : Option Found) (told : Ok answer ≡ read_answer volume due) where
  pub end_never : {A : Type 0} → answer ≡ None → A
  end_never {A} none = go (answers volume (table_due mark)) (sym (rw (same, none) at told))
    where
      go : {a : ReadAnswer} → Answers volume (table_due mark) a → a ≡ Ok None → A
      go (ends p) e = absurd (false≢true (sym (never_ends volume mark) ∙ p))
      go (finds p f) e = let z : ◌≡◌ {A = ℕ} 0 1 = cc in absurd (omega arith)
      go (refuses p f) e = let z : ◌≡◌ {A = ℕ} 0 1 = cc in absurd (omega arith)

  pub table_sound : (found : Found) → answer ≡ Some found → read_fault volume (table_due mark) ≡ 0
  table_sound found some = found_sound volume (table_due mark) found (sym (rw (same, some) at told))

-- a refusal has a number
abbrev pub RefusedByNumber : TreeAnswer → Type 0
RefusedByNumber (Ok n) = Unit {0}
RefusedByNumber (Err refusal) = refusal.number ≡ 0 → ⊥

pub tree_refused_by_number : (volume : List ℕ) (mark : Bookmark) (root room : ℕ) → RefusedByNumber (tree_answer volume mark root room)
unfolding tree_answer
tree_refused_by_number volume mark root room = go (tree_fault volume mark root room) (eqb (tree_fault volume mark root room) 0) refl
  where
    go : (fault : ℕ) (t : Bool) → eqb fault 0 ≡ t
        → RefusedByNumber (cond t (Ok (length (lines_at volume mark.offset root))) (Err (refusal_with fault (texts_at volume mark.offset))))
    go fault true e = tt
    go fault false e = λ z. eqb-false _ _ e (sym (with_number fault (texts_at volume mark.offset)) ∙ z)
