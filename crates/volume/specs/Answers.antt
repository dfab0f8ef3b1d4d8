-- What the calls on a volume answer.
use Rattle.std.specs.Prelude.{Option, Result}
use Rattle.refusal.specs.Refusal.{Refusal}
use Rattle.volume.specs.declared.Bookmark.{Bookmark}
use Rattle.volume.specs.declared.HeaderRead.{HeaderRead}
use Rattle.volume.specs.declared.Found.{Found}
use Rattle.volume.specs.declared.Accepted.{Accepted}
use Rattle.volume.specs.declared.Rejected.{Rejected}

-- reading the header
abbrev pub HeaderAnswer : Type 0
HeaderAnswer = Result HeaderRead Refusal

-- reading at a bookmark: a block, "end" or the refusal
abbrev pub ReadAnswer : Type 0
ReadAnswer = Result (Option Found) Refusal

-- the check of a whole volume
abbrev pub Verdict : Type 0
Verdict = Result Accepted Rejected

-- writing a header or a block: the bookmark after it, or the refusal
abbrev pub WriteAnswer : Type 0
WriteAnswer = Result Bookmark Refusal
