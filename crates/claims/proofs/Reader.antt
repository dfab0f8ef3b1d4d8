-- The reader called until "end" hands out exactly blocks that keep the rules and whose images stand there end to end, and the
-- check goes the same way. Assumes nothing.
use Rattle.std.specs.Prelude.{Some, Ok, Err}
use Prim.Native.Nat.{ℕ, suc, ◌+◌, ◌-◌, ◌≤◌}
use mathlib.Core.Path.{◌≡◌, refl, sym, ap, ap₂, ◌∙◌, subst}
use mathlib.Core.List.{List, [], ◌∷◌, ◌++◌}
use native.Mathlib.Omega.{arith}
use lib.ListN.{length, drop, length-append, length-drop}
use lib.Seq.{drop-length}
use Rattle.number.specs.Number.{Bytes}
use Rattle.number.proofs.Parts.{drop_past}
use Rattle.refusal.specs.Refusal.{Refusal}
use Rattle.format.specs.Blocks.{Block, image}
use Rattle.format.specs.Readings.{images}
use Rattle.block.specs.Order.{volume_limit}
use Rattle.block.specs.Shown.{shown}
use Rattle.volume.specs.Reading.{read_answer}
use Rattle.volume.specs.Checking.{CheckedFrom, accepted_at_the_end, refused_at_a_block, after_a_block}
use Rattle.volume.specs.declared.Bookmark.{Bookmark}
use Rattle.volume.specs.declared.Found.{Found}
use Rattle.volume.specs.Answers.{Verdict}
use Rattle.volume.proofs.Steps.{read_counts}
use Rattle.volume.proofs.OneCall.{after, HandedOut, read_sound, Hands, read_complete, AtEnd, end_sound, end_complete}
use Rattle.claims.specs.Library.{ours}
use Rattle.claims.specs.Demand3Reading.{Calls, ended, handed, Stops, stopped, handed_before}
use Rattle.claims.proofs.Walk.{Runs, after_all}

-- what the calls tell of the blocks
pub record Read (volume : List ℕ) (mark : Bookmark) (blocks : List Block) : Type 0 where
  pub runs : Runs mark blocks
  pub same : drop mark.offset volume ≡ images blocks

pub calls_sound : {volume : List ℕ} {number : ℕ} {mark end : Bookmark} {blocks : List Block} → Bytes volume
    → Calls ours volume number mark blocks end → Read volume mark blocks
unfolding images
calls_sound {volume} {mark = mark} b (ended e) =
    let p : AtEnd volume mark = end_sound volume mark e in
    record { runs = p.none_due; same = ap (λ (n : ℕ). drop n volume) p.offset ∙ drop-length volume }
calls_sound {volume} {mark = mark} b (handed {found = found} {blocks = blocks} e numbered calls) =
    let p : HandedOut volume mark found = read_sound volume mark found b e in
    let next : found.next ≡ after mark (shown volume found.block) = p.next in
    let others : Read volume found.next blocks = calls_sound b calls in
    record {
      runs = (p.allowed, rw next at others.runs);
      same = p.same ∙ ap (λ rest. image (shown volume found.block) ++ rest) others.same;
    }

-- where such blocks stand to the end of the volume, the calls give them
pub calls_complete : (volume : List ℕ) (mark : Bookmark) (blocks : List Block) → length volume ≤ volume_limit
    → 80 ≤ mark.offset → mark.offset ≤ length volume → Runs mark blocks → drop mark.offset volume ≡ images blocks
    → Calls ours volume mark.number mark blocks (after_all mark blocks)
unfolding images
calls_complete volume mark [] small base within runs e =
    let offset : mark.offset ≡ length volume = omega (arith, length-drop mark.offset volume, ap length e) in
    ended (end_complete volume mark (record { small = small; base = base; offset = offset; none_due = runs }))
calls_complete volume mark (block ∷ blocks) small base within runs e =
    let p : Hands volume mark block = read_complete volume mark block small base runs.0 (images blocks) e in
    let n : ℕ = length (image block) in
    let l : length volume - mark.offset ≡ n + length (images blocks)
    = sym (length-drop mark.offset volume) ∙ ap length e ∙ length-append (image block) (images blocks) in
    let next : Bookmark = after mark block in
    let others : Calls ours volume next.number next blocks (after_all next blocks)
    = calls_complete volume next blocks small (omega arith) (omega arith) runs.1
    (drop_past volume (image block) (images blocks) mark.offset n e refl) in
    subst (λ b. Calls ours volume mark.number mark (b ∷ blocks) (after_all next blocks)) p.same
    (handed p.answer refl (rw p.next others))

-- where the reader comes to "end", the check from the same bookmark on accepts
pub check_complete : {volume : List ℕ} {number : ℕ} {mark end : Bookmark} {blocks : List Block} (sequence : ℕ)
    → Calls ours volume number mark blocks end
    → CheckedFrom volume sequence mark (Ok (record { sequence = sequence; end = end }))
check_complete sequence (ended e) = accepted_at_the_end e
check_complete sequence (handed e numbered calls) = after_a_block e (check_complete sequence calls)

-- where the reader refuses, the check from the same bookmark on refuses there
pub check_stops : {volume : List ℕ} {number : ℕ} {mark at : Bookmark} {blocks : List Block} {refusal : Refusal} (sequence : ℕ)
    → Stops ours volume number mark blocks at refusal
    → CheckedFrom volume sequence mark (Err (record { refusal = refusal; offset = at.offset; blocks = at.number }))
check_stops sequence (stopped e) = refused_at_a_block e
check_stops sequence (handed_before e numbered calls) = after_a_block e (check_stops sequence calls)

-- and the bookmark at which it does has counted the blocks before
pub stops_count : {volume : List ℕ} {number : ℕ} {mark at : Bookmark} {blocks : List Block} {refusal : Refusal}
    → Stops ours volume number mark blocks at refusal → at.number ≡ mark.number + length blocks
stops_count (stopped e) = omega arith
stops_count {volume} {mark = mark} (handed_before {found = found} e numbered calls) =
    omega (arith, stops_count calls, (read_counts volume mark found e).1)

-- what a verdict tells of the reader from a bookmark on: it comes to "end" at the end bookmark, or it is refused, where and after how
-- many blocks the verdict says
abbrev pub Told : (volume : List ℕ) → Bookmark → Verdict → Type 0
Told volume mark (Ok answer) = (blocks : List Block) × Calls ours volume mark.number mark blocks answer.end
Told volume mark (Err answer) =
    (blocks : List Block) × (at : Bookmark) × Stops ours volume mark.number mark blocks at answer.refusal
    × (answer ≡ record { refusal = answer.refusal; offset = at.offset; blocks = at.number })

one_more : (volume : List ℕ) (mark : Bookmark) (found : Found) → read_answer volume mark ≡ Ok (Some found)
    → (answer : Verdict) → Told volume found.next answer → Told volume mark answer
one_more volume mark found e (Ok answer) (blocks, calls) =
    let counts = read_counts volume mark found e in (
      shown volume found.block ∷ blocks,
      handed e counts.0 (subst (λ (n : ℕ). Calls ours volume n found.next blocks answer.end) counts.1 calls),
    )
one_more volume mark found e (Err answer) (blocks, at, calls, same) =
    let counts = read_counts volume mark found e in (
      shown volume found.block ∷ blocks,
      at,
      handed_before e counts.0 (subst (λ (n : ℕ). Stops ours volume n found.next blocks at answer.refusal) counts.1 calls),
      same,
    )

pub told : {volume : List ℕ} {sequence : ℕ} {mark : Bookmark} {answer : Verdict} → CheckedFrom volume sequence mark answer
    → Told volume mark answer
told (accepted_at_the_end e) = ([], ended e)
told {mark = mark} (refused_at_a_block e) = ([], mark, stopped e, refl)
told {volume} {mark = mark} (after_a_block {found = found} {answer = answer} e later) = one_more volume mark found e answer (told later)

-- the calls are fixed by the volume and the bookmark
pub calls_same : {volume : List ℕ} {number : ℕ} {mark end other_end : Bookmark} {blocks others : List Block}
    → Calls ours volume number mark blocks end → Calls ours volume number mark others other_end → blocks ≡ others
calls_same (ended e) (ended f) = refl
calls_same (ended e) (handed f n g) = let z : ◌≡◌ {A = ℕ} 0 1 = cc in absurd (omega arith)
calls_same (handed e n c) (ended f) = let z : ◌≡◌ {A = ℕ} 0 1 = cc in absurd (omega arith)
calls_same {volume} {number} (handed {end = end} {found = found} {blocks = blocks} e n c) (handed {found = other} f m d) =
    let same : found ≡ other = cc in
    ap₂ ◌∷◌ (ap (λ a. shown volume a.block) same)
    (calls_same (subst (λ a. Calls ours volume (suc number) a.next blocks end) same c) d)
