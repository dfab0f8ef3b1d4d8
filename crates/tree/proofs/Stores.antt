-- What is given is what the checks of the lines say, and the lines are stored as the list of their numbers. Assumes nothing.
use Prim.Native.Nat.{ℕ, suc, ◌+◌, ◌*◌, ◌≤◌, ◌<◌}
use mathlib.Core.Path.{◌≡◌, refl, sym, ap, ◌∙◌}
use mathlib.Core.Bool.{Bool, true, false}
use mathlib.Core.List.{List, [], ◌∷◌}
use native.Mathlib.Nat.{add-zero, zero-add}
use native.Mathlib.Numerals.{add-one}
use native.Mathlib.Omega.{arith}
use lib.Dec.{leb, ltb}
use lib.ListN.{length, set, length-set}
use borrow.Author.Tests.{ltb-false, le-leb, lt-leb, eq-eqb, ne_eqb}
use Rattle.number.specs.Number.{put}
use Rattle.number.proofs.Put.{put_nothing, put_next, put-set, length-put}
use Rattle.checks.specs.Checks.{first_fault}
use Rattle.folders.specs.Lines.{Line, levels, line_numbers}
use Rattle.tree.specs.Listing.{lines_order}
use Rattle.lines.specs.inner.Giving.{State, sound, stopped, with_line, give, give_all, given_in}
use Rattle.tree.specs.inner.Listed.{Listed}
use Rattle.lines.specs.inner.Giving.{Given}
use Rattle.lines.proofs.Gives.{give_none, give_first, give_deep, give_full, give_stored, give_stays}

-- a line where the list is long enough
module _ (list : List ℕ) (n : ℕ) (line : Line) where
  pub line_put : 2 * suc n ≤ length list → with_line list n line ≡ put list (2 * n) (line.depth ∷ line.place ∷ [])
  unfolding with_line
  line_put h =
      let a = put-set list (2 * n) line.depth (omega arith) in
      let b = put-set (set list (2 * n) line.depth) (2 * n + 1) line.place (omega (arith, length-set list (2 * n) line.depth)) in
      rw (le-leb (2 * suc n) (length list) h)
      (put_next list (line.depth ∷ []) (line.place ∷ []) (2 * n) 1 refl (omega arith) a b)

  pub line_past : length list < 2 * suc n → with_line list n line ≡ list
  unfolding with_line
  line_past h = rw (lt-leb (2 * suc n) (length list) h)

numbers-length : (lines : List Line) → length (line_numbers lines) ≡ 2 * length lines
unfolding line_numbers
numbers-length [] = refl
numbers-length (line ∷ lines) = omega (arith, numbers-length lines)

module _ (room : ℕ) where
  -- the state once a line is refused, and all that follow
  ended : (list : List ℕ) (n fault : ℕ) (line : Line) (lines : List Line) → (fault ≡ 0 → ⊥)
      → give room (sound list n) line ≡ stopped (sound list n) fault
      → give_all room (sound list n) (line ∷ lines) ≡ stopped (sound list n) fault
  ended list n fault line lines d e =
      give_first room (sound list n) line lines ∙ ap (λ s. give_all room s lines) e ∙ give_stays room (stopped (sound list n) fault) lines d

  onward : (list : List ℕ) (n : ℕ) (line : Line) (lines : List Line) → leb levels line.depth ≡ false → ltb room (2 * suc n) ≡ false
      → give_all room (sound list n) (line ∷ lines) ≡ give_all room (sound (with_line list n line) (n + 1)) lines
  onward list n line lines d r =
      give_first room (sound list n) line lines ∙ ap (λ s. give_all room s lines) (give_stored room list n line d r)

  -- what is known of the state once lines are given behind n others
  pub record Shows (n : ℕ) (list : List ℕ) (lines : List Line) (state : State) : Type 0 where
    pub fault_is : state.fault ≡ first_fault (lines_order room n lines)
    pub lines_are : state.fault ≡ 0 → state.lines ≡ n + length lines
    pub room_is : state.fault ≡ 0 → 2 * n ≤ room → 2 * (n + length lines) ≤ room
    pub stored : state.fault ≡ 0 → 2 * n ≤ room → room ≤ length list → state.list ≡ put list (2 * n) (line_numbers lines)
    pub nothing : length list ≡ 0 → state.list ≡ list

  none_shown : (n : ℕ) (list : List ℕ) → Shows n list [] (sound list n)
  unfolding lines_order first_fault line_numbers
  none_shown n list =
      record {
        fault_is = refl;
        lines_are = λ e. sym (add-zero n);
        room_is = λ e h. rw (add-zero n) h;
        stored = λ e h r. sym (put_nothing list (2 * n));
        nothing = λ e. refl;
      }

  -- a line that is refused decides, whatever follows
  refused_shown : (n fault : ℕ) (list : List ℕ) (line : Line) (lines : List Line) → (fault ≡ 0 → ⊥)
      → fault ≡ first_fault (lines_order room n (line ∷ lines)) → Shows n list (line ∷ lines) (stopped (sound list n) fault)
  refused_shown n fault list line lines d e =
      record {
        fault_is = e;
        lines_are = λ z. absurd (d z);
        room_is = λ z. absurd (d z);
        stored = λ z. absurd (d z);
        nothing = λ z. refl;
      }

  module _ (n : ℕ) (list : List ℕ) (line : Line) (lines : List Line) where
    deep_fault : leb levels line.depth ≡ true → 24 ≡ first_fault (lines_order room n (line ∷ lines))
    unfolding lines_order first_fault
    deep_fault d = rw d

    full_fault : leb levels line.depth ≡ false → ltb room (2 * suc n) ≡ true → 17 ≡ first_fault (lines_order room n (line ∷ lines))
    unfolding lines_order first_fault
    full_fault d r = rw (d, r)

    next_fault : leb levels line.depth ≡ false → ltb room (2 * suc n) ≡ false
        → first_fault (lines_order room (n + 1) lines) ≡ first_fault (lines_order room n (line ∷ lines))
    unfolding lines_order first_fault
    next_fault d r = rw (d, r, add-one n)

    -- a line that is given, and what is shown of the others behind it
    more_shown : leb levels line.depth ≡ false → ltb room (2 * suc n) ≡ false → (state : State)
        → Shows (n + 1) (with_line list n line) lines state → Shows n list (line ∷ lines) state
    unfolding line_numbers
    more_shown d r state s =
        let fits : 2 * suc n ≤ room = ltb-false room (2 * suc n) r in
        record {
          fault_is = s.fault_is ∙ next_fault d r;
          lines_are = λ e. omega (arith, s.lines_are e);
          room_is = λ e h. omega (arith, s.room_is e (omega arith));
          stored = λ e h q.
              let put_here = line_put list n line (omega arith) in
              let long : length (with_line list n line) ≡ length list = ap length put_here ∙ length-put list (2 * n) (line.depth ∷ line.place ∷ []) in
              let next : 2 * (n + 1) ≡ 2 * n + 2 = omega arith in
              put_next list (line.depth ∷ line.place ∷ []) (line_numbers lines) (2 * n) 2 refl
              (omega (arith, numbers-length lines, s.room_is e (omega arith))) put_here
              (rw next at (s.stored e (omega arith) (omega arith)));
          nothing = λ e. let kept = line_past list n line (omega arith) in s.nothing (rw kept e) ∙ kept;
        }

  pub shows : (lines : List Line) (list : List ℕ) (n : ℕ) → Shows n list lines (give_all room (sound list n) lines)
  shows [] list n = rw (give_none room (sound list n)) (none_shown n list)
  shows (line ∷ lines) list n =
      go (shows lines (with_line list n line) (n + 1)) (leb levels line.depth) refl (ltb room (2 * suc n)) refl
    where
      go : Shows (n + 1) (with_line list n line) lines (give_all room (sound (with_line list n line) (n + 1)) lines)
          → (d : Bool) → leb levels line.depth ≡ d → (r : Bool) → ltb room (2 * suc n) ≡ r
          → Shows n list (line ∷ lines) (give_all room (sound list n) (line ∷ lines))
      go others true d r q =
          rw (ended list n 24 line lines (λ e. omega arith) (give_deep room list n line d))
          (refused_shown n 24 list line lines (λ e. omega arith) (deep_fault n list line lines d))
      go others false d true q =
          rw (ended list n 17 line lines (λ e. omega arith) (give_full room list n line d q))
          (refused_shown n 17 list line lines (λ e. omega arith) (full_fault n list line lines d q))
      go others false d false q = rw (onward list n line lines d q) (more_shown n list line lines d q _ others)

-- Lines that are counted first and then, if all can be given, stored.
module _ (lines : List Line) (old : List ℕ) (counted : Given) (c : counted ≡ given_in (give_all (length old) (sound [] 0) lines)) where
  counted_fault : counted.fault ≡ first_fault (lines_order (length old) 0 lines)
  counted_fault = ap (λ g. g.fault) c ∙ (shows (length old) lines [] 0).fault_is

  pub none_listed : (counted.fault ≡ 0 → ⊥) → Listed lines old counted old
  none_listed d =
      record { fault_is = counted_fault; lines_are = λ e. absurd (d e); list_is = rw (ne_eqb counted.fault 0 d) }

  pub all_listed : (given : Given) (new : List ℕ) → counted.fault ≡ 0
      → given ≡ given_in (give_all (length old) (sound old 0) lines) → new ≡ (give_all (length old) (sound old 0) lines).list
      → Listed lines old given new
  all_listed given new z g l =
      let s = shows (length old) lines old 0 in
      let f : given.fault ≡ (give_all (length old) (sound old 0) lines).fault = ap (λ x. x.fault) g in
      let sound_all : given.fault ≡ 0 = f ∙ s.fault_is ∙ sym counted_fault ∙ z in
      let none : (give_all (length old) (sound old 0) lines).fault ≡ 0 = sym f ∙ sound_all in
      record {
        fault_is = f ∙ s.fault_is;
        lines_are = λ e. ap (λ x. x.lines) g ∙ s.lines_are none ∙ zero-add (length lines);
        list_is = rw (eq-eqb given.fault 0 sound_all) (l ∙ s.stored none (omega arith) (omega arith));
      }
