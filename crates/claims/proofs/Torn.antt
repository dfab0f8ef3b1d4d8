-- A torn append is refused with 2 where the volume ended: the reader goes through the volume as before, and the block that comes then is
-- one that was sound before its end was cut off. Assumes nothing.
use Rattle.std.specs.Prelude.{Ok, Err}
use Prim.Native.Nat.{ℕ, ◌+◌, ◌≤◌}
use mathlib.Core.Path.{◌≡◌, sym, ap, ap₂, ◌∙◌}
use mathlib.Core.List.{List, [], ◌++◌, append_assoc, append-nil}
use native.Mathlib.Omega.{arith}
use lib.ListN.{length, take, drop, length-append, take-append-drop}
use lib.Seq.{length-take-le, take-append-le, drop_at}
use Rattle.number.specs.Number.{Bytes}
use Rattle.refusal.specs.Refusal.{refusal_of}
use Rattle.format.specs.Blocks.{image}
use Rattle.format.specs.Readings.{Reading}
use Rattle.block.specs.Order.{volume_limit}
use Rattle.volume.specs.Heading.{header_answer}
use Rattle.volume.specs.Reading.{read_fault, next_mark, read_answer}
use Rattle.volume.specs.Checking.{Checked, refused_at_a_block, after_the_header}
use Rattle.volume.specs.declared.Bookmark.{Bookmark}
use Rattle.volume.proofs.Steps.{found_sound}
use Rattle.volume.proofs.OneCall.{Hands, read_complete, AtEnd, end_sound}
use Rattle.volume.proofs.Checked.{checked_exactly}
use Rattle.claims.specs.Library.{ours}
use Rattle.claims.specs.Torn.{TornAppend, TornClaim}
use Rattle.claims.proofs.Appending.{Admitted, append-sound, append-accepted}
use Rattle.claims.proofs.Demand3Reading.{given}
use Rattle.claims.proofs.Alike.{header_alike}
use Rattle.claims.proofs.Passing.{Passes, calls_pass, checked_past, passes_on}
use Rattle.claims.proofs.CutShort.{cut_refused}

module _ (volume : List ℕ) (reading : Reading) (torn : List ℕ) (b : Bytes volume) (t : TornAppend ours volume reading torn) where
  abbrev new : List ℕ
  new = image t.block

  -- what was stored, and what was not
  abbrev pub left : List ℕ
  left = volume ++ take t.stored new

  abbrev off : List ℕ
  off = drop t.stored new

  admitted : Admitted t.room t.end t.block
  admitted = append-sound t.room t.end t.block t.sized (append-accepted t.room t.end t.next t.block t.appended).0

  pub at_end_lem : AtEnd volume t.end
  at_end_lem = end_sound volume t.end (calls_pass t.read.blocks).1

  together : left ++ off ≡ volume ++ new
  together = append_assoc volume (take t.stored new) off ∙ ap (λ bytes. volume ++ bytes) (take-append-drop t.stored new)

  long : length left ≡ length volume + t.stored
  long =
      let some = t.not_all in
      length-append volume (take t.stored new) ∙ ap (λ (n : ℕ). length volume + n) (length-take-le t.stored new (omega arith))

  small : length left ≤ volume_limit
  small =
      let limit = admitted.small in
      let offset = at_end_lem.offset in
      let some = t.not_all in
      omega (arith, long)

  -- with all of its bytes the block is read
  sound : Hands (volume ++ new) t.end t.block
  sound =
      let limit = admitted.small in
      let offset = at_end_lem.offset in
      read_complete (volume ++ new) t.end t.block (omega (arith, length-append volume new)) admitted.base admitted.allowed []
      (drop_at volume new t.end.offset (sym offset) ∙ sym (append-nil new))

  -- and with some of them it is refused
  pub refused_there : read_answer left t.end ≡ Err (refusal_of 2)
  refused_there =
      let offset = at_end_lem.offset in
      let some = t.some in
      let not_all = t.not_all in
      let end : (next_mark (left ++ off) t.end).offset ≡ t.end.offset + length new
      = ap (λ bytes. (next_mark bytes t.end).offset) together ∙ ap (λ (m : Bookmark). m.offset) sound.next in
      cut_refused left off t.end
      (ap (λ bytes. read_fault bytes t.end) together ∙ found_sound (volume ++ new) t.end _ sound.answer)
      at_end_lem.none_due (omega (arith, long)) (omega (arith, long, end))

  -- up to there all is as it was
  pub header_there : header_answer left ≡ Ok (record { sequence = reading.header.sequence; next = t.read.first })
  header_there =
      let base = at_end_lem.base in
      let offset = at_end_lem.offset in
      header_alike volume left b small (take-append-le 80 volume (take t.stored new) (omega arith))
      (given volume reading t.end t.read).no_fault
      ∙ t.read.header

  pub passes_there : Passes left t.read.first t.end
  passes_there = passes_on volume (take t.stored new) b small (calls_pass t.read.blocks).0

  checked_there : Checked left (Err (record { refusal = refusal_of 2; offset = t.end.offset; blocks = t.end.number }))
  checked_there = after_the_header header_there (checked_past passes_there (refused_at_a_block refused_there))

  pub torn_refused : ours.check torn
      ≡ Err (record { refusal = refusal_of 2; offset = length volume; blocks = length reading.blocks })
  torn_refused =
      ap (λ bytes. ours.check bytes) t.same
      ∙ sym ((checked_exactly left _).0 checked_there)
      ∙ ap₂ (λ offset blocks. (Err (record { refusal = refusal_of 2; offset = offset; blocks = blocks })))
      at_end_lem.offset t.read.counted

pub torn_appends_are_refused : TornClaim ours
torn_appends_are_refused = torn_refused
