-- Refusals of appends that say the wrong thing of a text, each at one small request. Assumes nothing.
use Rattle.std.specs.Prelude.{None, Err}
use Prim.Native.Nat.{ℕ, ◌≤◌, ◌<◌}
use mathlib.Core.Path.{◌≡◌, refl, sym, ap, ◌∙◌}
use mathlib.Core.Bool.{false, true, false≢true}
use mathlib.Core.List.{List, [], ◌∷◌}
use native.Mathlib.Omega.{arith}
use lib.ListN.{length, get_or}
use Rattle.utf8.specs.Grammar.{WellFormed}
use Rattle.utf8.specs.inner.Length.{is_text, well_formed_length, passed, onward, char_length, begin_length, begins, in_range}
use Rattle.utf8.proofs.Longest.{text_iff_well_formed}
use Rattle.checks.specs.Checks.{first_fault}
use Rattle.refusal.specs.Refusal.{refusal_with}
use Rattle.refusal.specs.Texts.{FirstBad, this_one, a_later_one}
use Rattle.refusal.specs.inner.FirstBad.{first_bad}
use Rattle.refusal.specs.Refusal.{Refusal}
use Rattle.format.specs.Blocks.{Block, Link, Xattr, Rename}
use Rattle.texts.specs.Texts.{texts}
use Rattle.volume.specs.Writing.{append_fault, append_answer}
use Rattle.volume.specs.declared.Bookmark.{Bookmark}
use Rattle.claims.specs.BadText.{Says, a_bad_text, nothing, BadTextClaim}
use Rattle.claims.specs.Wrong.{told, telling, in_block, in_last_text, beside_any_number, in_second_part}

-- What a refusal that is as claimed has.

bad_told : {Bad : (text start : ℕ) → Type 0} {refusal : Refusal} → Says Bad refusal → refusal.number ≡ 10 → Bad refusal.text refusal.start
bad_told (a_bad_text bad) e = bad
bad_told (nothing other) e = absurd (other e)

nothing_told : {Bad : (text start : ℕ) → Type 0} {refusal : Refusal} → Says Bad refusal → (refusal.number ≡ 10 → ⊥) → refusal.start ≡ 0
nothing_told (a_bad_text bad) d = absurd (d refl)
nothing_told (nothing other) d = refl

start_within : {texts : List (List ℕ)} {place start : ℕ} → FirstBad texts place start → start ≤ length (get_or texts place [])
start_within (this_one bad longest) = longest.within
start_within (a_later_one good later) = start_within later

place_within : {texts : List (List ℕ)} {place start : ℕ} → FirstBad texts place start → place < length texts
place_within (this_one bad longest) = omega arith
place_within (a_later_one good later) = omega (arith, place_within later)

first_good : {text : List ℕ} {texts : List (List ℕ)} {place start : ℕ} → FirstBad (text ∷ texts) place start → 0 < place → WellFormed text
first_good (this_one bad longest) h = absurd (omega arith)
first_good (a_later_one good later) h = good

-- The requests, at the bookmark after the header of volume 0, or with a table due there.

abbrev at_first : Bookmark
at_first = record { offset = 80; due = false; last = None; number = 0 }

abbrev table_due : Bookmark
table_due = record { offset = 80; due = true; last = None; number = 0 }

-- a name, two paths and the name of an xattr, each the byte FF
abbrev bad_name : Block
bad_name = Link (record { time = 0; child = 0; parent = 0; name = 0xFF ∷ [] })

abbrev bad_paths : Block
bad_paths = Rename (record { time = 0; old = 0xFF ∷ []; new = 0xFF ∷ [] })

abbrev bad_xattr : Block
bad_xattr = Xattr (record { time = 0; inode = 0; name = 0xFF ∷ []; value = [] })

-- and a name whose second byte it is
abbrev later_bad : Block
later_bad = Link (record { time = 0; child = 0; parent = 0; name = 97 ∷ 0xFF ∷ [] })

ff_is_bad : is_text (0xFF ∷ []) ≡ false
unfolding is_text well_formed_length passed onward char_length begin_length begins in_range
ff_is_bad = refl

-- what ours answers
bad_name_lem : append_answer 0 at_first bad_name ≡ Err (record { number = 10; text = 0; start = 0 })
unfolding append_answer append_fault first_fault refusal_with first_bad is_text well_formed_length passed onward char_length begin_length begins in_range
bad_name_lem = refl

bad_paths_lem : append_answer 0 at_first bad_paths ≡ Err (record { number = 10; text = 0; start = 0 })
unfolding append_answer append_fault first_fault refusal_with first_bad is_text well_formed_length passed onward char_length begin_length begins in_range
bad_paths_lem = refl

bad_xattr_lem : append_answer 0 at_first bad_xattr ≡ Err (record { number = 10; text = 0; start = 0 })
unfolding append_answer append_fault first_fault refusal_with first_bad is_text well_formed_length passed onward char_length begin_length begins in_range
bad_xattr_lem = refl

out_of_place : append_answer 0 table_due later_bad ≡ Err (record { number = 8; text = 0; start = 0 })
unfolding append_answer append_fault first_fault refusal_with
out_of_place = refl

later_start : (first_bad (texts later_bad)).start ≡ 1
unfolding first_bad is_text well_formed_length passed onward char_length begin_length begins in_range
later_start = refl

-- and a library that tells something else in its place
told_else : (other : Block → Refusal → Refusal) (mark : Bookmark) (block : Block) (refusal : Refusal)
    → append_answer 0 mark block ≡ Err refusal → (telling other).append 0 mark block ≡ Err (other block refusal)
told_else other mark block refusal e = ap (told (other block)) e

-- Each says something that is not so.

-- the text is shorter than the start
pub start_in_block : BadTextClaim (telling in_block) → ⊥
start_in_block claim =
    let says = claim.append 0 at_first bad_name _ (told_else in_block at_first bad_name _ bad_name_lem) in
    omega (arith, start_within (bad_told says refl))

-- a text before it is bad
pub last_text_told : BadTextClaim (telling in_last_text) → ⊥
last_text_told claim =
    let says = claim.append 0 at_first bad_paths _ (told_else in_last_text at_first bad_paths _ bad_paths_lem) in
    let good : WellFormed (0xFF ∷ []) = first_good (bad_told says refl) (omega arith) in
    false≢true (sym ff_is_bad ∙ (text_iff_well_formed (0xFF ∷ [])).1 good)

-- the number is not 10
pub text_told_beside_any_number : BadTextClaim (telling beside_any_number) → ⊥
text_told_beside_any_number claim =
    let says = claim.append 0 table_due later_bad _ (told_else beside_any_number table_due later_bad _ out_of_place) in
    let zero = nothing_told says (λ (e : ◌≡◌ {A = ℕ} 8 10). omega arith) in
    omega (arith, zero, later_start)

-- there is no such text
pub second_part_told : BadTextClaim (telling in_second_part) → ⊥
second_part_told claim =
    let says = claim.append 0 at_first bad_xattr _ (told_else in_second_part at_first bad_xattr _ bad_xattr_lem) in
    omega (arith, place_within (bad_told says refl))
