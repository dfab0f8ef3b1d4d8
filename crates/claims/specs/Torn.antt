-- Power lost during an append, and what repairing a volume answers.
--
-- It is a claim about a library, and about a call on one volume that is a parameter too. Proved of ours, `repair_answer`, in
-- proofs/Torn.antt and proofs/Repaired.antt.
use Rattle.std.specs.Prelude.{ℕ, ◌≤◌, ◌<◌, ◌≡◌, false, ◌↔◌, List, ◌++◌, length, take, Ok, Err}
use Rattle.number.specs.Number.{Bytes}
use Rattle.refusal.specs.Refusal.{Refusal, refusal_of}
use Rattle.format.specs.Blocks.{Block, image}
use Rattle.format.specs.Readings.{Reading}
use Rattle.request.specs.Asking.{Sized}
use Rattle.volume.specs.declared.Bookmark.{Bookmark}
use Rattle.volume.specs.declared.HeaderRead.{HeaderRead}
use Rattle.volume.specs.declared.Rejected.{Rejected}
use Rattle.repair.specs.Answers.{RepairAnswer}
use Rattle.claims.specs.Library.{Library}
use Rattle.claims.specs.Demand3Reading.{ReaderGives, Stops, IsAccepted}

module _ (library : Library) where
  -- An accepted volume, an append that is accepted at its end, and a file that ends after some of the new block's bytes but not all.
  -- The block is of any kind: a table is never accepted there, since none is due at the end of an accepted volume.
  pub record TornAppend (volume : List ℕ) (reading : Reading) (torn : List ℕ) : Type 0 where
    pub end : Bookmark
    pub accepted : IsAccepted library volume
    pub read : ReaderGives library volume reading end
    pub room : ℕ
    pub block : Block
    pub sized : Sized block
    pub next : Bookmark
    pub appended : library.append room end block ≡ Ok next
    pub stored : ℕ
    pub some : 0 < stored
    pub not_all : stored < length (image block)
    pub same : torn ≡ volume ++ take stored (image block)

  -- It is refused with 2, where the volume ended before the append, and the check counts the blocks that the volume had.
  abbrev pub TornClaim : Type 0
  TornClaim =
      (volume : List ℕ) (reading : Reading) (torn : List ℕ)
      → Bytes volume
      → TornAppend volume reading torn
      → library.check torn
      ≡ Err (record { refusal = refusal_of 2; offset = length volume; blocks = length reading.blocks })

  -- A volume whose first fault is 2 at a block other than the table: so the reader is refused, at a bookmark where no table is due.
  pub record CutInBlock (volume : List ℕ) : Type 0 where
    pub header : HeaderRead
    pub blocks : List Block
    pub at : Bookmark
    pub refusal : Refusal
    pub sound_header : library.read_header volume ≡ Ok header
    pub stops : Stops library volume 0 header.next blocks at refusal
    pub ends_early : refusal.number ≡ 2
    pub no_table : at.due ≡ false

  -- A beginning of the volume that is accepted, and no longer one is.
  pub record LongestAccepted (volume : List ℕ) (n : ℕ) : Type 0 where
    pub within : n ≤ length volume
    pub accepted : IsAccepted library (take n volume)
    pub longest : (m : ℕ) → m ≤ length volume → IsAccepted library (take m volume) → m ≤ n

  -- What is to be answered for a volume.
  pub data Repairs (volume : List ℕ) : RepairAnswer → Type 0 where
    -- an accepted volume: its own length
    whole : IsAccepted library volume → Repairs volume (Ok (length volume))
    -- one that is cut in a block: the length of its longest accepted beginning
    cut : {n : ℕ} → CutInBlock volume → LongestAccepted volume n → Repairs volume (Ok n)
    -- any other: the refusal of its first fault
    refused :
        {rejected : Rejected}
        → library.check volume ≡ Err rejected
        → (CutInBlock volume → ⊥)
        → Repairs volume (Err rejected.refusal)

  -- What is claimed of repairing.
  pub record RepairClaim (repair : (volume : List ℕ) → RepairAnswer) : Type 0 where
    -- this is answered and nothing else
    pub answers : (volume : List ℕ) (answer : RepairAnswer) → Bytes volume → (repair volume ≡ answer) ↔ Repairs volume answer
    -- whatever length is answered, that beginning is accepted and no longer one is
    pub longest : (volume : List ℕ) (n : ℕ) → Bytes volume → repair volume ≡ Ok n → LongestAccepted volume n
    -- where an append was torn, what is left is the volume before it
    pub torn-append :
        (volume : List ℕ) (reading : Reading) (torn : List ℕ)
        → Bytes volume
        → TornAppend volume reading torn
        → repair torn ≡ Ok (length volume)
