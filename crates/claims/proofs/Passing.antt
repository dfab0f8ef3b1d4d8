-- The bookmarks that the reader comes to, one block after the other: how they lie in a volume, that there is one way through it, and that
-- another volume with the same bytes up to there has the same. Assumes nothing.
use Rattle.std.specs.Prelude.{Some, None, Ok, Err}
use Prim.Native.Nat.{ℕ, ◌≤◌}
use mathlib.Core.Path.{◌≡◌, sym, ap, subst}
use mathlib.Core.Bool.{false}
use mathlib.Core.List.{List, ◌++◌}
use native.Mathlib.Omega.{arith}
use lib.ListN.{length}
use Rattle.number.specs.Number.{Bytes}
use Rattle.refusal.specs.Refusal.{Refusal}
use Rattle.format.specs.Blocks.{Block}
use Rattle.block.specs.Order.{volume_limit}
use Rattle.volume.specs.Reading.{read_answer}
use Rattle.volume.specs.Checking.{CheckedFrom, after_a_block}
use Rattle.volume.specs.declared.Bookmark.{Bookmark}
use Rattle.volume.specs.declared.Found.{Found}
use Rattle.volume.specs.Answers.{Verdict}
use Rattle.volume.proofs.Steps.{found_there, read_further}
use Rattle.claims.specs.Library.{ours}
use Rattle.claims.specs.Demand3Reading.{Calls, ended, handed, Stops, stopped, handed_before}
use Rattle.claims.proofs.Alike.{still_read, read_in_beginning}

-- the reader comes from one bookmark to another
pub data Passes (volume : List ℕ) : (from to : Bookmark) → Type 0 where
  here : {mark : Bookmark} → Passes volume mark mark
  past : {mark to : Bookmark} {found : Found} → read_answer volume mark ≡ Ok (Some found) → Passes volume found.next to
      → Passes volume mark to

-- as it does up to "end", and up to a refusal
pub calls_pass : {volume : List ℕ} {number : ℕ} {mark end : Bookmark} {blocks : List Block} → Calls ours volume number mark blocks end
    → Passes volume mark end × (read_answer volume end ≡ Ok None)
calls_pass (ended e) = (here, e)
calls_pass (handed e numbered calls) = let p = calls_pass calls in (past e p.0, p.1)

pub stops_pass : {volume : List ℕ} {number : ℕ} {mark at : Bookmark} {blocks : List Block} {refusal : Refusal}
    → Stops ours volume number mark blocks at refusal → Passes volume mark at × (read_answer volume at ≡ Err refusal)
stops_pass (stopped e) = (here, e)
stops_pass (handed_before e numbered calls) = let p = stops_pass calls in (past e p.0, p.1)

-- and the check with it
pub checked_past : {volume : List ℕ} {sequence : ℕ} {mark at : Bookmark} {answer : Verdict} → Passes volume mark at
    → CheckedFrom volume sequence at answer → CheckedFrom volume sequence mark answer
checked_past here c = c
checked_past (past e later) c = after_a_block e (checked_past later c)

-- it goes further, within the volume
pub passes_further : {volume : List ℕ} {mark at : Bookmark} → Passes volume mark at → mark.offset ≤ length volume
    → (mark.offset ≤ at.offset) × (at.offset ≤ length volume)
passes_further here h = (omega arith, h)
passes_further {volume} {mark} (past {found = found} e later) h =
    let further = read_further volume mark found e in
    let onward = passes_further later further.1 in
    (omega (arith, further.0, onward.0), onward.1)

-- behind the first block no table is due
pub passes_due : {volume : List ℕ} {mark at : Bookmark} → Passes volume mark at → mark.due ≡ false → at.due ≡ false
passes_due here d = d
passes_due {volume} {mark} (past {found = found} e later) d =
    passes_due later (sym (ap (λ (f : Found). f.next.due) (found_there volume mark found e)))

-- wherever it comes to, it is refused at no earlier bookmark
pub not_refused_before : {volume : List ℕ} {mark to at : Bookmark} {refusal : Refusal} → mark.offset ≤ length volume
    → Passes volume mark to → Passes volume mark at → read_answer volume at ≡ Err refusal → to.offset ≤ at.offset
not_refused_before within here p r = (passes_further p within).0
not_refused_before within (past e later) here r = let z : ◌≡◌ {A = ℕ} 0 1 = cc in absurd (omega arith)
not_refused_before {volume} {mark} {at = at} within (past {found = found} e later) (past {found = other} f onward) r =
    let same : other ≡ found = cc in
    not_refused_before (read_further volume mark found e).1 later (subst (λ (g : Found). Passes volume g.next at) same onward) r

-- in a longer volume it goes the same way
pub passes_on : (volume more : List ℕ) {mark at : Bookmark} → Bytes volume → length (volume ++ more) ≤ volume_limit
    → Passes volume mark at → Passes (volume ++ more) mark at
passes_on volume more b small here = here
passes_on volume more {mark} b small (past {found = found} e later) =
    past (still_read volume more mark found b small e).same_place (passes_on volume more b small later)

-- and in a beginning, up to a bookmark that lies in it
pub passes_in_beginning : (volume more : List ℕ) {mark at : Bookmark} → Bytes (volume ++ more) → length volume ≤ volume_limit
    → at.offset ≤ length volume → Passes (volume ++ more) mark at → Passes volume mark at
passes_in_beginning volume more b small within here = here
passes_in_beginning volume more {mark} b small within (past {found = found} e later) =
    let onward = passes_further later (read_further (volume ++ more) mark found e).1 in
    past (read_in_beginning volume more mark found b small (omega (arith, onward.0)) e) (passes_in_beginning volume more b small within later)
