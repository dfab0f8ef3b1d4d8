-- Libraries that are wrong, each in one way, and that a claim is false of. The first are the empty programs that a claim has to shut
-- out: they answer, but nothing comes of it. The next are right wherever a claim used to look, and wrong beside it. Two go by another
-- rule for times, three count blocks in another way, four tell the wrong text or place, three go by another rule for pairs, one
-- takes a torn append for a damaged one, and four repair other volumes or leave another length. Wrong listings of trees are in
-- WrongCalls.antt.
--
-- What a wrong library answers is what ours does, but for the calls named. Proved in proofs/Wrong.antt.
use Rattle.std.specs.Prelude.{ℕ, suc, ◌+◌, ◌-◌, Bool, true, false, not, cond, ◌&&◌, ◌||◌, List, [], ◌++◌, eqb, length, Option, Some, None, Result, Ok, Err}
use Rattle.number.specs.Number.{put}
use Rattle.number.specs.inner.Same.{same_bytes}
use Rattle.refusal.specs.Refusal.{Refusal, refusal_of}
use Rattle.refusal.specs.inner.FirstBad.{first_bad}
use Rattle.fips180.specs.Hash.{sha256}
use Rattle.sha256.specs.declared.Digest.{Digest}
use Rattle.refusal.specs.declared.Fault.{Fault}
use Rattle.sha256.specs.Feeding.{new, finish_answer, whole_answer}
use Rattle.format.specs.Blocks as format
use Rattle.format.specs.Headers.{Header}
use Rattle.format.specs.Readings.{time_of}
use Rattle.block.specs.Fields.{fixed_length}
use Rattle.block.specs.Shown.{shown}
use Rattle.block.specs.inner.Decoded.{block_at}
use Rattle.block.specs.declared.Block.{Block}
use Rattle.block.specs.declared.Block.TheVariants as block
use Rattle.texts.specs.Texts.{texts}
use Rattle.volume.specs.Heading.{header_bytes, sequence_of}
use Rattle.volume.specs.declared.Bookmark.{Bookmark}
use Rattle.volume.specs.Answers.{ReadAnswer, Verdict, WriteAnswer}
use Rattle.chain.specs.Pairing.{paired}
use Rattle.chain.specs.Answers.{Pairing}
use Rattle.repair.specs.Repairing.{in_header, in_table, is_torn}
use Rattle.repair.specs.Answers.{RepairAnswer}
use Rattle.lookup.specs.Answers.{PositionAnswer}
use Rattle.listing.specs.Listing.{heading_line, end_line}
use Rattle.lookup.specs.declared.Position.TheVariants.{Hole, PastEnd, Stored}
use Rattle.claims.specs.Library.{Library, ours}
use Rattle.claims.specs.LastNumber.{numbered}
use Rattle.claims.specs.BadText.{BadTextClaim}
use Rattle.claims.specs.Demand2.{Demand2}
use Rattle.claims.specs.Demand3.{Demand3}
use Rattle.claims.specs.Listed.{Listed}
use Rattle.claims.specs.Chained.{PairClaim}
use Rattle.claims.specs.Digests.{DigestClaim}
use Rattle.claims.specs.Torn.{TornClaim, RepairClaim}
use Rattle.claims.specs.Tree.{TreeClaim}
use Rattle.claims.specs.WrongCalls.{tree_by, list_by, lines_in_order, deeper, in_folder, once_in_order, once, deep_first, as_they_are}

-- ours, but for these calls
abbrev pub answering :
    (read : List ℕ → Bookmark → ReadAnswer)
    (check : List ℕ → Verdict)
    (header_buffer : List ℕ → Header → List ℕ)
    (append : ℕ → Bookmark → format.Block → WriteAnswer)
    (append_buffer : List ℕ → Bookmark → format.Block → List ℕ)
    (position : List ℕ → ℕ → List ℕ → ℕ → PositionAnswer)
    (list_room : List ℕ → List ℕ → List ℕ)
    → Library
answering read check header_buffer append append_buffer position list_room =
    record {
      read_header = ours.read_header;
      file_system_id = ours.file_system_id;
      previous_hash = ours.previous_hash;
      read = read;
      check = check;
      write_header = ours.write_header;
      header_buffer = header_buffer;
      append = append;
      append_buffer = append_buffer;
      position = position;
      runs = ours.runs;
      runs_list = ours.runs_list;
      list = ours.list;
      list_room = list_room;
    }

abbrev pub reading : (List ℕ → Bookmark → ReadAnswer) → Library
reading read =
    answering read ours.check ours.header_buffer ours.append ours.append_buffer ours.position ours.list_room

abbrev pub checking : (List ℕ → Verdict) → Library
checking check =
    answering ours.read check ours.header_buffer ours.append ours.append_buffer ours.position ours.list_room

abbrev pub looking : (List ℕ → ℕ → List ℕ → ℕ → PositionAnswer) → Library
looking position =
    answering ours.read ours.check ours.header_buffer ours.append ours.append_buffer position ours.list_room

-- The empty programs.

-- one refuses everything
abbrev pub refuses_all : Library
refuses_all =
    record {
      read_header = λ volume. Err (refusal_of 2);
      file_system_id = λ volume. [];
      previous_hash = λ volume. [];
      read = λ volume mark. Err (refusal_of 2);
      check = λ volume. Err (record { refusal = refusal_of 2; offset = 0; blocks = 0 });
      write_header = λ room header. Err (refusal_of 17);
      header_buffer = λ buffer header. buffer;
      append = λ room mark request. Err (refusal_of 17);
      append_buffer = λ buffer mark request. buffer;
      position = λ volume offset lengths position. Err (refusal_of 9);
      runs = λ volume offset lengths from to room. Err (refusal_of 9);
      runs_list = λ volume offset lengths from to out. out;
      list = λ room volume. Err (refusal_of 17);
      list_room = λ out volume. out;
    }

-- one answers every lookup "hole", one with a fixed place
abbrev pub holes_only : Library
holes_only = looking (λ volume offset lengths position. (Ok Hole))

abbrev pub one_place_only : Library
one_place_only = looking (λ volume offset lengths position. Ok (Stored (record { volume = 0; offset = record { 0 = 97 } })))

-- a writer that stores nothing
abbrev pub stores_nothing : Library
stores_nothing =
    answering ours.read ours.check (λ buffer header. buffer) ours.append (λ buffer mark request. buffer) ours.position
    ours.list_room

-- a reader that is right in the first block and repeats it for the rest
abbrev pub first_block : (volume : List ℕ) → ReadAnswer → ReadAnswer
first_block volume (Ok (Some found)) = Ok (Some (record { block = block_at volume 80; number = found.number; next = found.next }))
first_block volume (Ok None) = Ok None
first_block volume (Err refusal) = Err refusal

abbrev pub repeats_first : Library
repeats_first = reading (λ volume mark. first_block volume (ours.read volume mark))

-- a check that invents its number of blocks
abbrev pub seven_of : Verdict → Verdict
seven_of (Ok a) = Ok (record { sequence = a.sequence; end = numbered 7 a.end })
seven_of (Err r) = Err r

abbrev pub invents_blocks : Library
invents_blocks = checking (λ volume. seven_of (ours.check volume))

-- a listing that does: it says of every volume that it ends after seven blocks
abbrev pub invents_listed_blocks : Library
invents_listed_blocks =
    answering ours.read ours.check ours.header_buffer ours.append ours.append_buffer ours.position
    (λ out volume. put out 0 (heading_line ++ end_line (length volume) 7))

-- Wrong in one place.

-- a hole wherever a lookup is to be refused
abbrev pub hole_for : PositionAnswer → PositionAnswer
hole_for (Ok Hole) = Ok Hole
hole_for (Ok PastEnd) = Ok PastEnd
hole_for (Ok (Stored stored)) = Ok (Stored stored)
hole_for (Err refusal) = Ok Hole

abbrev pub holes_where_refused : Library
holes_where_refused = looking (λ volume offset lengths position. hole_for (ours.position volume offset lengths position))

-- seven blocks before every fault
abbrev pub seven_before : Verdict → Verdict
seven_before (Ok a) = Ok a
seven_before (Err r) = Err (record { refusal = r.refusal; offset = r.offset; blocks = 7 })

abbrev pub invents_blocks_before_faults : Library
invents_blocks_before_faults = checking (λ volume. seven_before (ours.check volume))

-- a table's part that has no length
abbrev pub empty_part : Block → Block
empty_part (block.Inode b) = block.Inode b
empty_part (block.Link b) = block.Link b
empty_part (block.Unlink b) = block.Unlink b
empty_part (block.Xattr b) = block.Xattr b
empty_part (block.RemovedXattr b) = block.RemovedXattr b
empty_part (block.Data b) = block.Data b
empty_part (block.Rename b) = block.Rename b
empty_part (block.Table b) = block.Table (record { count = b.count; links = record { offset = b.links.offset; len = 0 } })

abbrev pub without_length : ReadAnswer → ReadAnswer
without_length (Ok (Some found)) = Ok (Some (record { block = empty_part found.block; number = found.number; next = found.next }))
without_length (Ok None) = Ok None
without_length (Err refusal) = Err refusal

abbrev pub hands_out_no_links : Library
hands_out_no_links = reading (λ volume mark. without_length (ours.read volume mark))

-- bookmarks that say after every append that a table is due
abbrev pub due_after : WriteAnswer → WriteAnswer
due_after (Ok mark) = Ok (record { offset = mark.offset; due = true; last = mark.last; number = mark.number })
due_after (Err refusal) = Err refusal

abbrev pub always_due : Library
always_due =
    answering ours.read ours.check ours.header_buffer (λ room mark request. due_after (ours.append room mark request))
    ours.append_buffer ours.position ours.list_room

-- Wrong about times.

-- whether a time is the last one
abbrev pub is_last : Option ℕ → (time : Option ℕ) → Bool
is_last None time = false
is_last (Some last) None = false
is_last (Some last) (Some time) = eqb last time

-- a reader that asks for a greater time: it refuses a block whose time is the last one
abbrev pub greater_only : (volume : List ℕ) → Bookmark → ReadAnswer → ReadAnswer
greater_only volume mark (Ok (Some found)) =
    cond (is_last mark.last (time_of (shown volume found.block))) (Err (refusal_of 14)) (Ok (Some found))
greater_only volume mark (Ok None) = Ok None
greater_only volume mark (Err refusal) = Err refusal

abbrev pub refuses_same_time : Library
refuses_same_time = reading (λ volume mark. greater_only volume mark (ours.read volume mark))

-- a writer that does not look at the last time, and so accepts a lower one
abbrev pub timeless : Bookmark → Bookmark
timeless mark = record { offset = mark.offset; due = mark.due; last = None; number = mark.number }

abbrev pub accepts_lower_time : Library
accepts_lower_time =
    answering ours.read ours.check ours.header_buffer (λ room mark request. ours.append room (timeless mark) request)
    (λ buffer mark request. ours.append_buffer buffer (timeless mark) request) ours.position ours.list_room

-- Wrong about numbers.

-- a reader that numbers the blocks from 1
abbrev pub one_higher : ReadAnswer → ReadAnswer
one_higher (Ok (Some found)) = Ok (Some (record { block = found.block; number = suc found.number; next = found.next }))
one_higher (Ok None) = Ok None
one_higher (Err refusal) = Err refusal

abbrev pub numbers_from_one : Library
numbers_from_one = reading (λ volume mark. one_higher (ours.read volume mark))

-- a reader that does not count a table
abbrev pub same_after_table : Bookmark → ReadAnswer → ReadAnswer
same_after_table mark (Ok (Some found)) =
    Ok (Some (record { block = found.block; number = found.number; next = cond mark.due (numbered mark.number found.next) found.next }))
same_after_table mark (Ok None) = Ok None
same_after_table mark (Err refusal) = Err refusal

abbrev pub counts_no_table : Library
counts_no_table = reading (λ volume mark. same_after_table mark (ours.read volume mark))

-- appends that do not count
abbrev pub not_counted : Bookmark → WriteAnswer → WriteAnswer
not_counted mark (Ok next) = Ok (numbered mark.number next)
not_counted mark (Err refusal) = Err refusal

abbrev pub counts_no_append : Library
counts_no_append =
    answering ours.read ours.check ours.header_buffer (λ room mark request. not_counted mark (ours.append room mark request))
    ours.append_buffer ours.position ours.list_room

-- Wrong about texts, in the refusals of appends.
abbrev pub told : (Refusal → Refusal) → WriteAnswer → WriteAnswer
told other (Ok next) = Ok next
told other (Err refusal) = Err (other refusal)

abbrev pub telling : (format.Block → Refusal → Refusal) → Library
telling other =
    answering ours.read ours.check ours.header_buffer (λ room mark request. told (other request) (ours.append room mark request))
    ours.append_buffer ours.position ours.list_room

-- one counts the start from the beginning of the block
abbrev pub in_block : format.Block → Refusal → Refusal
in_block request refusal =
    record { number = refusal.number; text = refusal.text; start = fixed_length (format.kind_of request) + refusal.start }

-- one tells the last text of the block, whichever is bad
abbrev pub in_last_text : format.Block → Refusal → Refusal
in_last_text request refusal = record { number = refusal.number; text = length (texts request) - 1; start = refusal.start }

-- one says where a text is bad beside any number
abbrev pub beside_any_number : format.Block → Refusal → Refusal
beside_any_number request refusal =
    record { number = refusal.number; text = (first_bad (texts request)).text; start = (first_bad (texts request)).start }

-- one tells the second part of a block as the bad text, an xattr's value too
abbrev pub in_second_part : format.Block → Refusal → Refusal
in_second_part request refusal = record { number = refusal.number; text = 1; start = 0 }

-- Wrong about torn appends: where bytes are missing, a checksum is told to be wrong.
abbrev pub damaged_for_cut : Verdict → Verdict
damaged_for_cut (Ok accepted) = Ok accepted
damaged_for_cut (Err rejected) =
    Err (record {
      refusal = cond (eqb rejected.refusal.number 2) (refusal_of 5) rejected.refusal;
      offset = rejected.offset;
      blocks = rejected.blocks;
    })

abbrev pub tells_damage : Library
tells_damage = checking (λ volume. damaged_for_cut (ours.check volume))

-- Wrong about pairs: the volumes are refused as ours does, and whether the second follows goes by another test.
abbrev pub pairing : (test : (first second : List ℕ) → Bool) → (first second : List ℕ) → Pairing
pairing test first second = paired (ours.check first) (ours.check second) (test first second)

-- one does not compare the file system IDs
abbrev pub any_id : (first second : List ℕ) → Bool
any_id first second = eqb (sequence_of second) (suc (sequence_of first)) && same_bytes (header_bytes "previous hash" second) (sha256 first)

-- one takes any hash
abbrev pub any_hash : (first second : List ℕ) → Bool
any_hash first second =
    same_bytes (header_bytes "file system ID" second) (header_bytes "file system ID" first)
    && eqb (sequence_of second) (suc (sequence_of first))

-- one refuses all pairs
abbrev pub no_pair : (first second : List ℕ) → Bool
no_pair first second = false

-- Wrong about digests: nothing is fed, and the state stays as it was.
abbrev pub feeds_nothing : Digest → (part : List ℕ) → Result Digest Fault
feeds_nothing state part = Ok state

-- Wrong about repairing: another test for what is torn, or another length that is left.
abbrev pub repairing :
    (test : (sequence number offset : ℕ) → Bool)
    (left : (volume : List ℕ) (offset : ℕ) → ℕ)
    (volume : List ℕ)
    → Verdict
    → RepairAnswer
repairing test left volume (Ok accepted) = Ok (length volume)
repairing test left volume (Err rejected) =
    cond (test (sequence_of volume) rejected.refusal.number rejected.offset) (Ok (left volume rejected.offset))
    (Err rejected.refusal)

-- one leaves all of a torn volume
abbrev pub leaves_all : (volume : List ℕ) → RepairAnswer
leaves_all volume = repairing is_torn (λ whole offset. length whole) volume (ours.check volume)

-- one leaves the header alone
abbrev pub leaves_header : (volume : List ℕ) → RepairAnswer
leaves_header volume = repairing is_torn (λ whole offset. 80) volume (ours.check volume)

-- one drops a block whose checksum is wrong, too
abbrev pub torn_or_damaged : (sequence number offset : ℕ) → Bool
torn_or_damaged sequence number offset = (eqb number 2 || eqb number 5) && not (in_header offset || in_table sequence offset)

abbrev pub drops_damaged : (volume : List ℕ) → RepairAnswer
drops_damaged volume = repairing torn_or_damaged (λ whole offset. offset) volume (ours.check volume)

-- one drops a table that is cut
abbrev pub behind_header : (sequence number offset : ℕ) → Bool
behind_header sequence number offset = eqb number 2 && not (in_header offset)

abbrev pub drops_table : (volume : List ℕ) → RepairAnswer
drops_table volume = repairing behind_header (λ whole offset. offset) volume (ours.check volume)

-- No claim holds of them.
pub record WrongAreShutOut : Type 0 where
  pub refuses_all_lem : Demand3 refuses_all → ⊥
  pub holes_only_lem : Demand2 holes_only → ⊥
  pub one_place_only_lem : Demand2 one_place_only → ⊥
  pub stores_nothing_lem : Demand3 stores_nothing → ⊥
  pub repeats_first_lem : Demand3 repeats_first → ⊥
  pub invents_blocks_lem : Demand3 invents_blocks → ⊥
  pub invents_listed_blocks_lem : Listed invents_listed_blocks → ⊥
  pub holes_where_refused_lem : Demand2 holes_where_refused → ⊥
  pub invents_blocks_before_faults_lem : Demand3 invents_blocks_before_faults → ⊥
  pub hands_out_no_links_lem : Demand3 hands_out_no_links → ⊥
  pub always_due_lem : Demand3 always_due → ⊥
  pub refuses_same_time_lem : Demand3 refuses_same_time → ⊥
  pub accepts_lower_time_lem : Demand3 accepts_lower_time → ⊥
  pub numbers_from_one_lem : Demand3 numbers_from_one → ⊥
  pub counts_no_table_lem : Demand3 counts_no_table → ⊥
  pub counts_no_append_lem : Demand3 counts_no_append → ⊥
  pub start_in_block : BadTextClaim (telling in_block) → ⊥
  pub last_text_told : BadTextClaim (telling in_last_text) → ⊥
  pub text_told_beside_any_number : BadTextClaim (telling beside_any_number) → ⊥
  pub second_part_told : BadTextClaim (telling in_second_part) → ⊥
  pub any_id_follows : PairClaim ours (pairing any_id) → ⊥
  pub any_hash_follows : PairClaim ours (pairing any_hash) → ⊥
  pub no_volume_follows : PairClaim ours (pairing no_pair) → ⊥
  pub feeds_nothing_lem : DigestClaim new feeds_nothing finish_answer whole_answer → ⊥
  pub tells_damage_where_bytes_are_missing : TornClaim tells_damage → ⊥
  pub leaves_all_of_a_torn_volume : RepairClaim ours leaves_all → ⊥
  pub leaves_the_header_alone : RepairClaim ours leaves_header → ⊥
  pub drops_a_damaged_block : RepairClaim ours drops_damaged → ⊥
  pub drops_a_cut_table : RepairClaim ours drops_table → ⊥
  pub counts_depth_from_one : TreeClaim ours (tree_by lines_in_order deeper) (list_by lines_in_order deeper) → ⊥
  pub counts_places_in_the_folder : TreeClaim ours (tree_by lines_in_order in_folder) (list_by lines_in_order in_folder) → ⊥
  pub lists_each_link_once : TreeClaim ours (tree_by once_in_order once) (list_by once_in_order once) → ⊥
  pub tells_depth_before_room : TreeClaim ours (tree_by deep_first as_they_are) (list_by deep_first as_they_are) → ⊥
