-- Inner page: the whole-volume check, computed.
-- Joined to Checked of volume/Checking by checked_exactly.
use Rattle.std.specs.Prelude.{Ok, Err, ℕ, List}
use Rattle.volume.specs.Heading.{header_answer}
use Rattle.volume.specs.declared.Bookmark.{Bookmark}
use Rattle.volume.specs.Answers.{HeaderAnswer, Verdict}
use Rattle.volume.specs.inner.Walk.{Way, walk_from}

abbrev pub check_way : (sequence : ℕ) → Way Verdict
check_way sequence =
    record {
      at_block = λ mark found onward. onward;
      at_end = λ mark. Ok (record { sequence = sequence; end = mark });
      at_refusal = λ mark refusal. Err (record { refusal = refusal; offset = mark.offset; blocks = mark.number });
    }

abbrev pub check_from : (volume : List ℕ) (sequence : ℕ) → Bookmark → Verdict
check_from volume sequence mark = walk_from volume (check_way sequence) mark

unfoldable pub after_header : (volume : List ℕ) → HeaderAnswer → Verdict
after_header volume (Ok header) = check_from volume header.sequence header.next
after_header volume (Err refusal) = Err (record { refusal = refusal; offset = 0; blocks = 0 })

unfoldable pub check_answer : (volume : List ℕ) → Verdict
check_answer volume = after_header volume (header_answer volume)
