-- Inner page: the walk over the blocks of a volume, from a bookmark on. The check and the listing are such walks; the fuel, what
-- follows a block, and the law of one step (proofs/Walk.antt) stand here alone.
use Rattle.std.specs.Prelude.{Some, None, Ok, Err, ℕ, zero, suc, List, length}
use Rattle.refusal.specs.Refusal.{refusal_of, Refusal}
use Rattle.volume.specs.Reading.{read_answer}
use Rattle.volume.specs.declared.Bookmark.{Bookmark}
use Rattle.volume.specs.declared.Found.{Found}
use Rattle.volume.specs.Answers.{ReadAnswer}

-- What a walk makes of each reading. At a block it may make its answer from the answer of the walk that goes on from the next bookmark,
-- or stop. A walk that keeps something from block to block has an answer that is a function of it.
pub record Way (Answer : Type 0) : Type 0 where
  pub at_block : Bookmark → Found → (onward : Answer) → Answer
  pub at_end : Bookmark → Answer
  pub at_refusal : Bookmark → Refusal → Answer

-- one reading
unfoldable pub on_read : {Answer : Type 0} → Way Answer → Bookmark → (onward : Bookmark → Answer) → ReadAnswer → Answer
on_read way mark onward (Ok (Some found)) = way.at_block mark found (onward found.next)
on_read way mark onward (Ok None) = way.at_end mark
on_read way mark onward (Err refusal) = way.at_refusal mark refusal

-- reading after reading. The fuel counts down and is never used up: each block takes at least one byte
unfoldable pub walk : {Answer : Type 0} → (fuel : ℕ) (volume : List ℕ) → Way Answer → Bookmark → Answer
walk zero volume way mark = way.at_refusal mark (refusal_of 0)
walk (suc fuel) volume way mark = on_read way mark (λ next. walk fuel volume way next) (read_answer volume mark)

unfoldable pub walk_from : {Answer : Type 0} → (volume : List ℕ) → Way Answer → Bookmark → Answer
walk_from volume way mark = walk (suc (length volume)) volume way mark
