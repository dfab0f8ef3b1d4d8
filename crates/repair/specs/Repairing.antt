-- What repair answers: how much of a volume is left once a block that its end cuts off is dropped.
--
-- That this is the longest beginning that the check accepts is claimed in claims/specs/Torn.antt.
use Rattle.std.specs.Prelude.{ℕ, Bool, not, cond, ◌&&◌, ◌||◌, List, ltb, eqb, length, Ok, Err}
use Rattle.volume.specs.Heading.{sequence_of}
use Rattle.volume.specs.inner.Check.{check_answer}
use Rattle.volume.specs.Answers.{Verdict}
use Rattle.repair.specs.Answers.{RepairAnswer}

-- a fault in the header, which begins at 0
abbrev pub in_header : (offset : ℕ) → Bool
in_header offset = eqb offset 0

-- a fault in the link table, which stands at 80 in every volume but volume 0
abbrev pub in_table : (sequence offset : ℕ) → Bool
in_table sequence offset = ltb 0 sequence && eqb offset 80

-- the first fault is 2, at a block other than the table
unfoldable pub is_torn : (sequence number offset : ℕ) → Bool
is_torn sequence number offset = eqb number 2 && not (in_header offset || in_table sequence offset)

-- the answer, by the verdict: an accepted volume's own length, a torn one's up to the block that is cut, else the refusal
unfoldable pub repaired : (volume : List ℕ) → Verdict → RepairAnswer
repaired volume (Ok accepted) = Ok (length volume)
repaired volume (Err rejected) =
    cond (is_torn (sequence_of volume) rejected.refusal.number rejected.offset) (Ok rejected.offset) (Err rejected.refusal)

unfoldable pub repair_answer : (volume : List ℕ) → RepairAnswer
repair_answer volume = repaired volume (check_answer volume)
