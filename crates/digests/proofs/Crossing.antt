-- A state comes back from its bytes, and lent bytes from the state that they are taken for. Assumes nothing.
use Prim.Native.Nat.{ℕ, zero, suc, ◌+◌, ◌*◌, ◌≤◌, ◌<◌}
use mathlib.Core.Path.{◌≡◌, refl, sym, subst⁻¹, ap, ap₂, ◌∙◌}
use mathlib.Core.List.{List, [], ◌∷◌, ◌++◌, append_assoc, append-nil}
use native.Mathlib.Numerals.{add-one, unary_clauses}
use native.Mathlib.Omega.{arith}
use lib.Dec.{lit<}
use lib.ListN.{length, take, drop, get_or, replicate, length-append}
use lib.Seq.{drop_at, take-add}
use Rattle.number.specs.Number.{Bytes, le_bytes, part, put}
use Rattle.number.proofs.Digits.{length-le_bytes}
use Rattle.number.proofs.Parts.{length_part, part_at}
use Rattle.number.proofs.Put.{put_next, put_fits}
use Rattle.format.specs.Layout.{Fit, laid}
use Rattle.format.proofs.Fields.{values_in, length-laid, values_laid, laid_values, fit_values, values_listed}
use Rattle.fips180.specs.Constants.{H0}
use Rattle.sha256.specs.Feeding.{new}
use Rattle.sha256.specs.declared.Digest.{Digest}
use Rattle.digests.specs.States.{state_widths, state_numbers, SizedState, state_bytes, words_of, state_of}

-- words written one after the other

laid_more : (i : ℕ) (words : List ℕ) → i < length words → laid (replicate (suc i) 4) words ≡ laid (replicate i 4) words ++ le_bytes 4 (get_or words i 0)
unfolding laid
laid_more i [] h = absurd (omega arith)
laid_more zero (word ∷ words) h = append-nil (le_bytes 4 word)
laid_more (suc i) (word ∷ words) h =
    ap (λ rest. le_bytes 4 word ++ rest) (laid_more i words (omega arith))
    ∙ sym (append_assoc (le_bytes 4 word) (laid (replicate i 4) words) (le_bytes 4 (get_or words i 0)))

length-laid_words : (i : ℕ) (words : List ℕ) → i ≤ length words → length (laid (replicate i 4) words) ≡ 4 * i
unfolding laid
length-laid_words zero words h = refl
length-laid_words (suc i) [] h = absurd (omega arith)
length-laid_words (suc i) (word ∷ words) h =
    length-append (le_bytes 4 word) (laid (replicate i 4) words)
    ∙ simp unary_clauses (omega (arith, length-le_bytes 4 word, length-laid_words i words (omega arith)))

pub word_written : (old words : List ℕ) (i : ℕ) {room next : List ℕ} → i < length words → 4 * i + 4 ≤ length old
    → room ≡ put old 0 (laid (replicate i 4) words) → next ≡ put room (4 * i) (le_bytes 4 (get_or words i 0))
    → next ≡ put old 0 (laid (replicate (i + 1) 4) words)
word_written old words i {room} {next} h l e f =
    let long = length-laid_words i words (omega arith) in
    let at : 4 * i ≡ 0 + 4 * i = omega arith in
    put_next old (laid (replicate i 4) words) (le_bytes 4 (get_or words i 0)) 0 (4 * i) long
    (omega (arith, length-le_bytes 4 (get_or words i 0))) e (f ∙ ap (λ (n : ℕ). put room n (le_bytes 4 (get_or words i 0))) at)
    ∙ ap (put old 0) (sym (laid_more i words h) ∙ ap (λ (n : ℕ). laid (replicate n 4) words) (sym (add-one i)))

-- and all of a state
pub state_written : (old : List ℕ) (state : Digest) {one two three : List ℕ} → length state.held ≡ 64 → 104 ≤ length old
    → one
    ≡ put old 0
    (laid (replicate 8 4)
    (state.words.a ∷ state.words.b ∷ state.words.c ∷ state.words.d ∷ state.words.e ∷ state.words.f ∷ state.words.g ∷ state.words.h ∷ []))
    → two ≡ put one 32 (le_bytes 8 state.fed) → three ≡ put two 40 state.held → three ≡ put old 0 (state_bytes state)
unfolding laid le_bytes state_bytes
state_written old state l h e f g =
    let words = state.words in
    let first : List ℕ = laid (replicate 8 4) (words.a ∷ words.b ∷ words.c ∷ words.d ∷ words.e ∷ words.f ∷ words.g ∷ words.h ∷ []) in
    let two = put_next old first (le_bytes 8 state.fed) 0 32 refl (omega arith) e f in
    put_next old (first ++ le_bytes 8 state.fed) state.held 0 40 refl (omega arith) two g

-- The numbers of a state, and the state that numbers and held bytes make.

numbers_read : (bytes : List ℕ) → state_numbers (state_of bytes) ≡ values_in state_widths bytes
unfolding state_of words_of
numbers_read bytes = sym (values_listed state_widths bytes 0)

state_with : (numbers held : List ℕ) → Digest
state_with numbers held = record {
  words = record {
    a = get_or numbers 0 0;
    b = get_or numbers 1 0;
    c = get_or numbers 2 0;
    d = get_or numbers 3 0;
    e = get_or numbers 4 0;
    f = get_or numbers 5 0;
    g = get_or numbers 6 0;
    h = get_or numbers 7 0;
  };
  fed = get_or numbers 8 0;
  held = held;
}

numbers-length : (state : Digest) → SizedState state → length (laid state_widths (state_numbers state)) ≡ 40
numbers-length state sized = length-laid state_widths (state_numbers state) sized.fit

-- a state that goes out comes back, whatever stands after its bytes
pub state_comes_back : (state : Digest) (rest : List ℕ) → SizedState state → state_of (state_bytes state ++ rest) ≡ state
unfolding state_of words_of state_bytes state_with
state_comes_back state rest sized =
    let numbers : List ℕ = laid state_widths (state_numbers state) in
    let others : List ℕ = state.held ++ rest in
    ap state_of (append_assoc numbers state.held rest)
    ∙ ap₂ state_with (numbers_read (numbers ++ others) ∙ values_laid state_widths (state_numbers state) others sized.fit)
    (part_at (numbers ++ others) state.held rest 40 64 (drop_at numbers others 40 (numbers-length state sized)) sized.long)

-- lent bytes that are taken for a state stand as they stood when it goes out
pub bytes_come_back : (bytes : List ℕ) → Bytes bytes → 104 ≤ length bytes → state_bytes (state_of bytes) ≡ take 104 bytes
unfolding state_of state_bytes
bytes_come_back bytes b h =
    ap (λ numbers. laid state_widths numbers ++ part bytes 40 64) (numbers_read bytes)
    ∙ ap (λ numbers. numbers ++ part bytes 40 64) (laid_values state_widths bytes b (omega arith)) ∙ sym (take-add 40 64 bytes)

-- the state that lent bytes are taken for is sized
pub lent_state_sized : (bytes : List ℕ) → Bytes bytes → 104 ≤ length bytes → SizedState (state_of bytes)
unfolding state_of
lent_state_sized bytes b h =
    record { fit = subst⁻¹ (Fit state_widths) (numbers_read bytes) (fit_values state_widths bytes b); long = length_part bytes 40 64 (omega arith) }

-- a state that was written over lent bytes is read back from them
pub state_kept : (state : Digest) (room : List ℕ) → SizedState state → 104 ≤ length room → state_of (put room 0 (state_bytes state)) ≡ state
unfolding state_bytes
state_kept state room sized h =
    let l : length (state_bytes state) ≡ 104 = simp length-append (omega (arith, numbers-length state sized, sized.long)) in
    ap state_of (put_fits room 0 (state_bytes state) (omega arith)) ∙ state_comes_back state (drop (0 + length (state_bytes state)) room) sized

pub new_sized : SizedState new
unfolding new H0
new_sized = record { fit = (lit< tt, (lit< tt, (lit< tt, (lit< tt, (lit< tt, (lit< tt, (lit< tt, (lit< tt, (lit< tt, tt))))))))); long = refl }
