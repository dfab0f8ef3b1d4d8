-- The message schedule, word by word. Assumes nothing.
use Prim.Native.Nat.{ℕ, zero, suc, ◌+◌, ◌-◌, ◌*◌, ◌%◌, ◌≤◌, ◌<◌}
use mathlib.Core.Path.{◌≡◌, refl, sym, ap, ap₂, ◌∙◌}
use mathlib.Core.List.{List, [], ◌∷◌, ◌++◌, map}
use native.Mathlib.Numerals.{add-one}
use native.Mathlib.Nat.{zero-add, suc-add}
use native.Mathlib.Omega.{arith}
use lib.ListN.{length, get_or, take, drop, set, length-append, take-append-drop}
use lib.Seq.{length-take-le, get_or-take, take-suc-set, take-suc, take-length, take-take, take-append_seam}
use Rattle.fips180.specs.Functions.{mod32, σ0, σ1}
use Rattle.number.specs.Number.{part}
use Rattle.number.proofs.Parts.{part-append}
use Rattle.fips180.specs.Padding.{be, parts}
use Rattle.fips180.specs.Hash.{next_word, extended}
use Rattle.compression.specs.inner.HasWords.{HasWords}
use Rattle.fips180.proofs.Parts.{words-length, word_at}

-- the next word, read in the room of which the words so far are the beginning
pub next_at : (room : List ℕ) (t : ℕ) → 16 ≤ t → t ≤ length room
    → next_word (take t room) ≡ mod32 (σ1 (get_or room (t - 2) 0) + get_or room (t - 7) 0 + σ0 (get_or room (t - 15) 0) + get_or room (t - 16) 0)
unfolding next_word
next_at room t h l =
    rw (
      length-take-le t room l,
      get_or-take t room (t - 2) 0 (omega arith),
      get_or-take t room (t - 7) 0 (omega arith),
      get_or-take t room (t - 15) 0 (omega arith),
      get_or-take t room (t - 16) 0 (omega arith),
    )

-- one word more is stored, and one less is left
pub extended_step : (room : List ℕ) (t n word : ℕ) → t < length room → word ≡ next_word (take t room)
    → extended n (take (suc t) (set room t word)) ≡ extended (suc n) (take t room)
unfolding extended
extended_step room t n word h e = ap (extended n) (take-suc-set room t word h ∙ ap (λ (w : ℕ). take t room ++ (w ∷ [])) e)

pub length-extended : (n : ℕ) (W : List ℕ) → length (extended n W) ≡ length W + n
unfolding extended
length-extended zero W = omega arith
length-extended (suc n) W = length-extended n (W ++ (next_word W ∷ [])) ∙ omega (arith, length-append W (next_word W ∷ []))

-- a word of the block is loaded
pub load_step : (block room : List ℕ) (t word : ℕ) → t < 16 → t < length room → take t room ≡ take t (map be (parts 4 16 block))
    → word ≡ be (part block (4 * t) 4) → take (t + 1) (set room t word) ≡ take (t + 1) (map be (parts 4 16 block))
load_step block room t word h l e f =
    let words : List ℕ = map be (parts 4 16 block) in
    rw add-one
    (take-suc-set room t word l
    ∙ ap₂ (λ (front : List ℕ) (w : ℕ). front ++ (w ∷ [])) e (f ∙ sym (word_at block t h))
    ∙ sym (take-suc words t 0 (omega (arith, words-length block))))

-- another word of the schedule is stored
pub extend_step : (room goal : List ℕ) (i end word : ℕ) → 16 ≤ i → i < end → i < length room
    → word ≡ mod32 (σ1 (get_or room (i - 2) 0) + get_or room (i - 7) 0 + σ0 (get_or room (i - 15) 0) + get_or room (i - 16) 0)
    → extended (end - i) (take i room) ≡ goal → extended (end - (i + 1)) (take (i + 1) (set room i word)) ≡ goal
extend_step room goal i end word h k l e inv =
    let left : end - i ≡ suc (end - suc i) = omega arith in
    rw (add-one i) (extended_step room i (end - suc i) word l (e ∙ sym (next_at room i h (omega arith))))
    ∙ ap (λ (n : ℕ). extended n (take i room)) (sym left) ∙ inv

-- none is left
pub extend_end : (room goal : List ℕ) (i end : ℕ) → i ≡ end → extended (end - i) (take i room) ≡ goal → take end room ≡ goal
unfolding extended
extend_end room goal i end e inv =
    let none : end - i ≡ 0 = omega arith in
    ap (λ (n : ℕ). take n room) (sym e) ∙ rw none at inv

-- more words after more words, and those that were there first
extended_add : (m n : ℕ) (W : List ℕ) → extended (m + n) W ≡ extended n (extended m W)
unfolding extended
extended_add zero n W = ap (λ (k : ℕ). extended k W) (zero-add n)
extended_add (suc m) n W = ap (λ (k : ℕ). extended k W) (suc-add m n) ∙ extended_add m n (W ++ (next_word W ∷ []))

beginning : (n : ℕ) (W : List ℕ) → take (length W) (extended n W) ≡ W
unfolding extended
beginning zero W = take-length W
beginning (suc n) W =
    let more : List ℕ = W ++ (next_word W ∷ []) in
    let longer : length W ≤ length more = omega (arith, length-append W (next_word W ∷ [])) in
    sym (take-take (length W) (length more) (extended n more) longer)
    ∙ ap (take (length W)) (beginning n more) ∙ take-append_seam W (next_word W ∷ [])

-- The words that are there, in a list of any length: before the first round, in a list that stays, and with eight words more.
pub there_first : (room : List ℕ) → take (16 + (0 - 16)) room ≡ extended (0 - 16) (take 16 room)
unfolding extended
there_first room = refl

pub there_kept : (first room : List ℕ) (t : ℕ) → t % 8 ≡ 0 → t < 16 → take (16 + (t - 16)) room ≡ extended (t - 16) first
    → take (16 + (t + 8 - 16)) room ≡ extended (t + 8 - 16) first
there_kept first room t d h there =
    let before : t - 16 ≡ 0 = omega arith in
    let after : t + 8 - 16 ≡ 0 = omega arith in
    rw after (rw before at there)

pub there_more : (first room next : List ℕ) (t : ℕ) → 16 ≤ t → take (t + 8) next ≡ extended 8 (take t room)
    → take (16 + (t - 16)) room ≡ extended (t - 16) first → take (16 + (t + 8 - 16)) next ≡ extended (t + 8 - 16) first
there_more first room next t h e there =
    let all : 16 + (t - 16) ≡ t = omega arith in
    let more : 16 + (t + 8 - 16) ≡ t + 8 = omega arith in
    let sum : t - 16 + 8 ≡ t + 8 - 16 = omega arith in
    ap (λ (n : ℕ). take n next) more ∙ e ∙ ap (extended 8) (ap (λ (n : ℕ). take n room) (sym all) ∙ there)
    ∙ sym (extended_add (t - 16) 8 first) ∙ ap (λ (n : ℕ). extended n first) sum

-- So a room for sixty-four words has them, before the first round, with eight words more or as it is.
pub words_first : (room : List ℕ) → length room ≡ 64 → HasWords (take 16 room) 0 room
words_first room l = record { long = l; there = there_first room }

pub words_kept : (first room : List ℕ) (t : ℕ) → t % 8 ≡ 0 → t < 16 → HasWords first t room → HasWords first (t + 8) room
words_kept first room t d h has = record { long = has.long; there = there_kept first room t d h has.there }

pub words_more : (first room next : List ℕ) (t : ℕ) → 16 ≤ t → length next ≡ 64 → take (t + 8) next ≡ extended 8 (take t room)
    → HasWords first t room → HasWords first (t + 8) next
words_more first room next t h l e has = record { long = l; there = there_more first room next t h e has.there }

-- those for eight rounds are those of the whole schedule
part-take : (list : List ℕ) (offset len n : ℕ) → offset + len ≤ n → n ≤ length list → part (take n list) offset len ≡ part list offset len
part-take list offset len n h l =
    sym (part-append (take n list) (drop n list) offset len (omega (arith, length-take-le n list l)))
    ∙ ap (λ (whole : List ℕ). part whole offset len) (take-append-drop n list)

pub words_there : (first room : List ℕ) (t : ℕ) → length first ≡ 16 → t + 8 ≤ 64 → HasWords first (t + 8) room
    → part room t 8 ≡ part (extended 48 first) t 8
words_there first room t l h has =
    let n : ℕ = t + 8 - 16 in
    let words : List ℕ = extended n first in
    let long : length words ≡ 16 + n = length-extended n first ∙ ap (λ (k : ℕ). k + n) l in
    let room_long : length room ≡ 64 = has.long in
    let whole : extended 48 first ≡ extended (48 - n) words = split n (omega arith) ∙ extended_add n (48 - n) first in
    let longer : length words ≤ length (extended (48 - n) words) = omega (arith, length-extended (48 - n) words) in
    sym (part-take room t 8 (16 + n) (omega arith) (omega arith))
    ∙ ap (λ (list : List ℕ). part list t 8) (has.there ∙ sym (beginning (48 - n) words))
    ∙ part-take (extended (48 - n) words) t 8 (length words) (omega arith) longer
    ∙ ap (λ (list : List ℕ). part list t 8) (sym whole)
  where
    split : (n : ℕ) → n ≤ 48 → extended 48 first ≡ extended (n + (48 - n)) first
    split n h = ap (λ (k : ℕ). extended k first) (sum n h)
      where
        sum : (n : ℕ) → n ≤ 48 → 48 ≡ n + (48 - n)
        sum n h = omega arith

pub schedule-length : (room : List ℕ) → length room ≡ 64 → length (extended 48 (take 16 room)) ≡ 64
schedule-length room l = length-extended 48 (take 16 room) ∙ omega (arith, length-take-le 16 room (omega arith))
