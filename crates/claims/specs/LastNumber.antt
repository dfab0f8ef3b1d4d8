-- The last number: what is answered at a bookmark whose number is 2^64−1, so that no block more can be counted. The number is the
-- caller's, for the blocks of a volume are never so many.
--
-- It is a claim about a library, by its calls. Proved of ours in proofs/LastNumber.antt.
use Rattle.std.specs.Prelude.{Some, None, Ok, Err, ℕ, ◌<◌, ◌≡◌, List}
use Rattle.refusal.specs.Refusal.{refusal_of}
use Rattle.format.specs.Blocks.{Block}
use Rattle.volume.specs.declared.Bookmark.{Bookmark}
use Rattle.volume.specs.Answers.{ReadAnswer}
use Rattle.claims.specs.Library.{Library}
use Rattle.claims.specs.AnyBookmark.{InPlace, NextAfter}

-- a bookmark with another number
abbrev pub numbered : (number : ℕ) → Bookmark → Bookmark
numbered number mark = record { offset = mark.offset; due = mark.due; last = mark.last; number = number }

abbrev pub last_number : ℕ
last_number = 18446744073709551615

-- "end" and every refusal of the block stay, and only a block that would be handed out is refused
abbrev pub uncounted : ReadAnswer → ReadAnswer
uncounted (Ok None) = Ok None
uncounted (Err refusal) = Err refusal
uncounted (Ok (Some found)) = Err (refusal_of 9)

module _ (library : Library) where
  pub record LastNumber : Type 0 where
    -- in reading 9 comes last: the answer is made from the one at any lower number
    pub read_last : (volume : List ℕ) (mark : Bookmark) (number : ℕ) → number < last_number
        → library.read volume (numbered last_number mark) ≡ uncounted (library.read volume (numbered number mark))
    -- in writing it comes right after 8, the refusal of the place, whatever else is at fault, and the buffer stays
    pub out_of_place : (room : ℕ) (mark : Bookmark) (block : Block) → (InPlace mark block → ⊥)
        → library.append room (numbered last_number mark) block ≡ Err (refusal_of 8)
    pub in_place : (room : ℕ) (mark : Bookmark) (block : Block) → InPlace mark block
        → library.append room (numbered last_number mark) block ≡ Err (refusal_of 9)
    pub buffer_stays : (buffer : List ℕ) (mark : Bookmark) (block : Block)
        → library.append_buffer buffer (numbered last_number mark) block ≡ buffer
    -- at any other number an append that is accepted answers the bookmark after the block, which has been counted
    pub counts_on : (room : ℕ) (mark next : Bookmark) (block : Block) → library.append room mark block ≡ Ok next
        → NextAfter mark block next
