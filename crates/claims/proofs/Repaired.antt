-- Repair answers what is claimed: the test by offset and sequence number finds the volumes that are cut in a block other than the table, and
-- the offset of that block is the length of the longest accepted beginning. Assumes nothing.
use Rattle.std.specs.Prelude.{Ok, Err}
use Prim.Native.Nat.{ℕ}
use mathlib.Core.Path.{◌≡◌, refl, sym, ap, ap₂, ◌∙◌, subst}
use mathlib.Core.Bool.{Bool, true, false, not, cond, ◌&&◌, and-false, and-true, and-eq-true_iff, false≢true}
use mathlib.Core.List.{List}
use native.Mathlib.Omega.{arith}
use lib.Dec.{eqb, ltb}
use lib.ListN.{length}
use borrow.Author.Tests.{eqb-true, eq-eqb, ne_eqb, not-true}
use Rattle.number.specs.Number.{Bytes}
use Rattle.format.specs.Readings.{Reading}
use Rattle.volume.specs.Heading.{sequence_of, first_mark, header_answer}
use Rattle.volume.specs.inner.Check.{check_answer}
use Rattle.volume.specs.declared.Bookmark.{Bookmark}
use Rattle.volume.specs.declared.Found.{Found}
use Rattle.volume.specs.declared.HeaderRead.{HeaderRead}
use Rattle.volume.specs.declared.Rejected.{Rejected}
use Rattle.volume.specs.Answers.{Verdict}
use Rattle.volume.proofs.Steps.{found_there, read_further}
use Rattle.repair.specs.Repairing.{in_table, is_torn, repaired, repair_answer}
use Rattle.repair.specs.Answers.{RepairAnswer}
use Rattle.claims.specs.Library.{ours}
use Rattle.claims.specs.Demand3Reading.{RefusedAt, at_the_header, at_a_block}
use Rattle.claims.specs.Torn.{TornAppend, CutInBlock, LongestAccepted, Repairs, whole, cut, refused, RepairClaim}
use Rattle.claims.proofs.Refused.{refused_volumes}
use Rattle.claims.proofs.Passing.{Passes, here, past, stops_pass, passes_further, passes_due}
use Rattle.claims.proofs.Longest.{Begun, begun, longest_there, longest_whole, one_longest}
use Rattle.claims.proofs.Torn.{left, at_end_lem, header_there, passes_there, torn_refused}

-- at 80 behind a header above 0 a table is due, and behind it none is
table_test_is_due : (volume : List ℕ) (sequence : ℕ) (at : Bookmark) → Passes volume (first_mark sequence) at
    → in_table sequence at.offset ≡ at.due
table_test_is_due volume sequence at here = and-true (ltb 0 sequence)
table_test_is_due volume sequence at (past {found = found} e later) =
    let further = read_further volume (first_mark sequence) found e in
    let onward = passes_further later further.1 in
    let due = passes_due later (sym (ap (λ (f : Found). f.next.due) (found_there volume (first_mark sequence) found e))) in
    rw (ne_eqb at.offset 80 (λ same. omega (arith, further.0, onward.0)), and-false, due)

-- so behind a sound header a volume is torn where it is refused with 2 and no table is due
torn_there : (volume : List ℕ) (header : HeaderRead) (at : Bookmark) (number : ℕ) → header_answer volume ≡ Ok header
    → Passes volume header.next at → is_torn (sequence_of volume) number at.offset ≡ (eqb number 2 && not at.due)
unfolding is_torn
torn_there volume header at number e p =
    let start : Begun volume header = begun volume header e in
    let far = passes_further p (omega (arith, start.base, start.long)) in
    let due = table_test_is_due volume (sequence_of volume) at (subst (λ (mark : Bookmark). Passes volume mark at) (sym start.first) p) in
    rw (ne_eqb at.offset 0 (λ z. omega (arith, far.0, start.base)), due)

-- The test and the rule, of a volume that is refused.
abbrev TestedTorn : (volume : List ℕ) → Rejected → Bool
TestedTorn volume rejected = is_torn (sequence_of volume) rejected.refusal.number rejected.offset

header_not_torn : (sequence number : ℕ) → is_torn sequence number 0 ≡ false
unfolding is_torn
header_not_torn sequence number = and-false (eqb number 2)

torn_is_cut : (volume : List ℕ) (rejected : Rejected) → Bytes volume → RefusedAt ours volume rejected → TestedTorn volume rejected ≡ true
    → CutInBlock ours volume × LongestAccepted ours volume rejected.offset
torn_is_cut volume rejected b (at_the_header {refusal = refusal} e) t =
    absurd (false≢true (sym (header_not_torn (sequence_of volume) refusal.number) ∙ t))
torn_is_cut volume rejected b (at_a_block {header = header} {blocks = blocks} {at = at} {refusal = refusal} e stops) t =
    let p = stops_pass stops in
    let tests = (and-eq-true_iff (eqb refusal.number 2) (not at.due)).0 (sym (torn_there volume header at refusal.number e p.0) ∙ t) in
    let no_table : at.due ≡ false = not-true _ tests.1 in (
      record {
        header = header;
        blocks = blocks;
        at = at;
        refusal = refusal;
        sound_header = e;
        stops = stops;
        ends_early = eqb-true _ _ tests.0;
        no_table = no_table;
      },
      longest_there volume b header e at p.0 p.1 no_table,
    )

-- a volume that is cut in a block: what the check answers, that the test finds it, and its longest accepted beginning
record FoundCut (volume : List ℕ) : Type 0 where
  pub rejected : Rejected
  pub refusal : check_answer volume ≡ Err rejected
  pub torn : TestedTorn volume rejected ≡ true
  pub longest : LongestAccepted ours volume rejected.offset

cut_is_torn : (volume : List ℕ) → Bytes volume → CutInBlock ours volume → FoundCut volume
cut_is_torn volume b c =
    let at : Bookmark = c.at in
    let p = stops_pass c.stops in
    let rejected : Rejected = record { refusal = c.refusal; offset = at.offset; blocks = length c.blocks } in
    let tests : (eqb c.refusal.number 2 && not at.due) ≡ true = rw (eq-eqb _ 2 c.ends_early, c.no_table) in
    record {
      rejected = rejected;
      refusal = (refused_volumes volume rejected).1 (at_a_block c.sound_header c.stops);
      torn = torn_there volume c.header at c.refusal.number c.sound_header p.0 ∙ tests;
      longest = longest_there volume b c.header c.sound_header at p.0 p.1 c.no_table;
    }

module _ (volume : List ℕ) (b : Bytes volume) where
  -- what is answered is so
  is_so : Repairs ours volume (repair_answer volume)
  unfolding repair_answer repaired
  is_so = go (check_answer volume) refl
    where
      either : (rejected : Rejected) → check_answer volume ≡ Err rejected → (torn : Bool) → TestedTorn volume rejected ≡ torn
          → Repairs ours volume (cond torn (Ok rejected.offset) (Err rejected.refusal))
      either rejected e true t =
          let c = torn_is_cut volume rejected b ((refused_volumes volume rejected).0 e) t in
          cut c.0 c.1
      either rejected e false t =
          refused e (λ c.
          let f : FoundCut volume = cut_is_torn volume b c in
          let same : f.rejected ≡ rejected = cc (f.refusal, e) in
          false≢true (sym t ∙ sym (ap (TestedTorn volume) same) ∙ f.torn))

      go : (v : Verdict) → check_answer volume ≡ v → Repairs ours volume (repaired volume v)
      go (Ok a) e = whole (a, e)
      go (Err rejected) e = either rejected e (TestedTorn volume rejected) refl

  -- and what is so is answered
  answered : (answer : RepairAnswer) → Repairs ours volume answer → repair_answer volume ≡ answer
  unfolding repair_answer repaired
  answered answer (whole a) = rw a.1
  answered answer (cut c l) =
      let f : FoundCut volume = cut_is_torn volume b c in
      rw (f.refusal, f.torn) (ap Ok (one_longest f.longest l))
  answered answer (refused {rejected = rejected} e not-cut) = rw e (go (TestedTorn volume rejected) refl)
    where
      go : (torn : Bool) → TestedTorn volume rejected ≡ torn
          → cond {A = RepairAnswer} torn (Ok rejected.offset) (Err rejected.refusal) ≡ Err rejected.refusal
      go true t = absurd (not-cut (torn_is_cut volume rejected b ((refused_volumes volume rejected).0 e) t).0)
      go false t = refl

  length-longest : {answer : RepairAnswer} (n : ℕ) → Repairs ours volume answer → answer ≡ Ok n → LongestAccepted ours volume n
  length-longest n (whole a) e =
      let same : length volume ≡ n = cc in
      subst (LongestAccepted ours volume) same (longest_whole volume a)
  length-longest n (cut {n = m} c l) e =
      let same : m ≡ n = cc in
      subst (LongestAccepted ours volume) same l
  length-longest n (refused e not-cut) f = let z : ◌≡◌ {A = ℕ} 0 1 = cc in absurd (omega arith)

-- a torn append is found by the test
pub torn_tested : (volume : List ℕ) (reading : Reading) (torn : List ℕ) → Bytes volume → TornAppend ours volume reading torn
    → is_torn (sequence_of torn) 2 (length volume) ≡ true
torn_tested volume reading torn b t =
    let ends = at_end_lem volume reading torn b t in
    ap₂ (λ bytes offset. is_torn (sequence_of bytes) 2 offset) t.same (sym ends.offset)
    ∙ torn_there (left volume reading torn b t) _ t.end 2 (header_there volume reading torn b t) (passes_there volume reading torn b t)
    ∙ ap not ends.none_due

torn_repaired : (volume : List ℕ) (reading : Reading) (torn : List ℕ) → Bytes volume → TornAppend ours volume reading torn
    → repair_answer torn ≡ Ok (length volume)
unfolding repair_answer repaired
torn_repaired volume reading torn b t = rw (torn_refused volume reading torn b t, torn_tested volume reading torn b t)

pub repair_holds : RepairClaim ours repair_answer
repair_holds =
    record {
      answers = λ volume answer b. ((λ e. subst (Repairs ours volume) e (is_so volume b)), answered volume b answer);
      longest = λ volume n b e. length-longest volume b n (is_so volume b) e;
      torn-append = torn_repaired;
    }
