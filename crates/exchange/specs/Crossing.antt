-- What is claimed of the boundary to other languages: every answer crosses it whole.
--
-- Each answer goes out as numbers, and a definition in inner/Back.antt takes numbers back to an answer. It gives back what was
-- answered, for every answer that the calls can give. So a caller who goes on with the numbers goes on from the same bookmark, and
-- everything that the library hands out is in them. The way back takes an answer for a refusal exactly where the field `refusal` is
-- not 0: so no refusal has the number 0, and no other answer is taken for one. The check of a pair is the one exception: the number
-- of blocks before a volume's own fault does not go out, and such a fault is told by the field `which`. The state of a digest goes
-- out as bytes and comes back from them. For fetched bytes see proofs/Told.antt. Proved in proofs/Crossing.antt.
use Rattle.std.specs.Prelude.{ℕ, ◌+◌, ◌≤◌, ◌≡◌, ◌↔◌, List, [], ◌∷◌, ◌++◌, length, take, Some, Ok, Err}
use Prim.Native.String.{String}
use Rattle.number.specs.Number.{Bytes, part, put}
use Rattle.sha256.specs.Feeding.{new}
use Rattle.sha256.specs.declared.Digest.{Digest}
use Rattle.format.specs.Layout.{width_of}
use Rattle.format.specs.Blocks.{link_table, id_of, Block, TableLink, LinksOf}
use Rattle.format.specs.Headers.{Header, header_layout}
use Rattle.extent.specs.Extents.{extent_at}
use Rattle.links.specs.Links.{link_from}
use Rattle.block.specs.Fields.{bytes_of}
use Rattle.block.specs.declared.TableBlock.{TableBlock}
use Rattle.block.specs.declared.Block.TheVariants.{Table}
use Rattle.volume.specs.Heading.{header_answer, field_answer}
use Rattle.volume.specs.Reading.{read_answer}
use Rattle.volume.specs.inner.Check.{check_answer}
use Rattle.volume.specs.Writing.{write_answer, append_answer}
use Rattle.volume.specs.declared.Bookmark.{Bookmark}
use Rattle.volume.specs.declared.Found.{Found}
use Rattle.chain.specs.Pairing.{pair_answer}
use Rattle.chain.specs.Answers.{Pairing}
use Rattle.repair.specs.Repairing.{repair_answer}
use Rattle.tree.specs.Listing.{tree_answer}
use Rattle.lookup.specs.inner.Answers.{position_answer, runs_answer}
use Rattle.exchange.specs.inner.Back.{header_back, read_back, check_back, written_back, position_back, runs_back, link_back, extent_back, pair_back, repair_back, tree_back}
use Rattle.exchange.specs.Marks.{flag_number, timed_number, time_number, bookmark_of}
use Rattle.exchange.specs.Checking.{check_numbers}
use Rattle.exchange.specs.Walking.{heading_numbers, block_numbers, link_numbers, extent_numbers}
use Rattle.exchange.specs.Places.{place_numbers, run_count_numbers}
use Rattle.exchange.specs.Writing.{written_numbers}
use Rattle.digests.specs.States.{SizedState, state_bytes, state_of}
use Rattle.chain.specs.declared.PairFault.TheVariants.{FirstRefused, SecondRefused, DoesNotFollow}
use Rattle.exchange.specs.Pairs.{pair_numbers}
use Rattle.exchange.specs.Repairs.{repair_numbers}
use Rattle.exchange.specs.Trees.{line_numbers}
use Rattle.exchange.specs.declared.BlockNumbers.{BlockNumbers}
use Rattle.exchange.specs.declared.LinkNumbers.{LinkNumbers}

-- an answer that goes out as numbers is the same answer when these come back
abbrev pub Crosses : {Answer Numbers : Type 0} (out : Answer → Numbers) (back : Numbers → Answer) (answer : Answer) → Type 0
Crosses out back answer = back (out answer) ≡ answer

-- a place that hdrfs_header tells: there stands the field of the header that file_system_id or previous_hash hands out
pub record FieldTold (name : String) (volume : List ℕ) (place : ℕ) : Type 0 where
  pub same : part volume place (width_of name header_layout) ≡ field_answer name volume
  pub within : place + width_of name header_layout ≤ length volume

-- The links of a table.

-- the link that the numbers show, its name being a part of the links
abbrev pub link_told : (links : List ℕ) → LinkNumbers → TableLink
link_told links n = record { child = n.child; parent = n.parent; name = part links n.name n.namelen }

-- hdrfs_link is called at a place, and then at each `next` that it answers, until `missing` is 1. It tells these links, in this
-- order.
pub data LinksTold (links : List ℕ) : (at : ℕ) → List TableLink → Type 0 where
  none_left : {at : ℕ} → (link_numbers (link_from links at)).missing ≡ 1 → LinksTold links at []
  told :
      {at : ℕ} {n : LinkNumbers} {others : List TableLink}
      → link_numbers (link_from links at) ≡ n
      → n.missing ≡ 0
      → LinksTold links n.next others
      → LinksTold links at (link_told links n ∷ others)

-- hdrfs_read tells a table with these links
pub record TableTold (volume : List ℕ) (n : BlockNumbers) (links : List TableLink) : Type 0 where
  pub a_table : n.id ≡ id_of link_table
  pub count : n.count ≡ length links
  pub in_order : LinksTold (part volume n.part n.partlen) 0 links

-- what of the check of a pair goes out: all but the number of blocks before a fault
abbrev pub without_blocks : Pairing → Pairing
without_blocks (Ok tt) = Ok tt
without_blocks (Err (FirstRefused r)) = Err (FirstRefused (record { refusal = r.refusal; offset = r.offset; blocks = 0 }))
without_blocks (Err (SecondRefused r)) = Err (SecondRefused (record { refusal = r.refusal; offset = r.offset; blocks = 0 }))
without_blocks (Err DoesNotFollow) = Err DoesNotFollow

-- What is claimed of the boundary.
pub record Crossing : Type 0 where
  -- a bookmark that goes out as five numbers is the same bookmark when these come back
  pub bookmark :
      (mark : Bookmark)
      → bookmark_of mark.offset (flag_number mark.due) (timed_number mark.last) (time_number mark.last) mark.number ≡ mark
  -- hdrfs_header, hdrfs_read, hdrfs_check
  pub header : (volume : List ℕ) → Crosses heading_numbers header_back (header_answer volume)
  pub header_parts :
      (volume : List ℕ)
      → (heading_numbers (header_answer volume)).refusal ≡ 0
      → FieldTold "file system ID" volume (heading_numbers (header_answer volume)).id
      × FieldTold "previous hash" volume (heading_numbers (header_answer volume)).previous
  pub read : (volume : List ℕ) (mark : Bookmark) → Crosses block_numbers read_back (read_answer volume mark)
  pub check : (volume : List ℕ) → Crosses check_numbers check_back (check_answer volume)
  -- hdrfs_write_header, and the eight appends
  pub write_header_lem : (room : ℕ) (header : Header) → Crosses written_numbers written_back (write_answer room header)
  pub append :
      (room : ℕ) (mark : Bookmark) (block : Block)
      → Crosses written_numbers written_back (append_answer room mark block)
  -- hdrfs_lookup, hdrfs_runs
  pub position :
      (volume : List ℕ) (offset : ℕ) (lengths : List ℕ) (at : ℕ)
      → Crosses place_numbers position_back (position_answer volume offset lengths at)
  pub runs :
      (volume : List ℕ) (offset : ℕ) (lengths : List ℕ) (from to room : ℕ)
      → Crosses run_count_numbers runs_back (runs_answer volume offset lengths from to room)
  -- hdrfs_extent
  pub extent : (list : List ℕ) (index : ℕ) → Crosses extent_numbers extent_back (extent_at list index)
  -- hdrfs_link, and all links of a table that is handed out: the links by which its bytes keep the rules
  pub link : (links : List ℕ) (at : ℕ) → Crosses link_numbers link_back (link_from links at)
  pub table_links_lem :
      (volume : List ℕ) (mark : Bookmark) (found : Found) (table : TableBlock)
      → Bytes volume
      → read_answer volume mark ≡ Ok (Some found)
      → found.block ≡ Table table
      → (of : LinksOf table.count (bytes_of volume table.links))
      × TableTold volume (block_numbers (read_answer volume mark)) of.links
  -- The state of a digest comes back from its bytes, whatever stands after them, and so from lent bytes over which it was written.
  -- The new state is sized, and so is every state that hdrfs_sha256_feed writes, by its contract.
  pub state : (state : Digest) (rest : List ℕ) → SizedState state → state_of (state_bytes state ++ rest) ≡ state
  pub state_kept :
      (state : Digest) (lent : List ℕ)
      → SizedState state
      → 104 ≤ length lent
      → state_of (put lent 0 (state_bytes state)) ≡ state
  pub new_state : SizedState new
  -- lent bytes that are taken for a state, made up or not, are the bytes of that state, which is sized
  pub lent_state :
      (lent : List ℕ)
      → Bytes lent
      → 104 ≤ length lent
      → SizedState (state_of lent) × (state_bytes (state_of lent) ≡ take 104 lent)
  -- hdrfs_pair
  pub pair : (first second : List ℕ) → pair_back (pair_numbers (pair_answer first second)) ≡ without_blocks (pair_answer first second)
  -- whoever looks at the refusal alone is right: no volume's own refusal has the number 0
  pub pair_refused : (first second : List ℕ) → ((pair_numbers (pair_answer first second)).refusal ≡ 0) ↔ (pair_answer first second ≡ Ok tt)
  -- hdrfs_repair
  pub repair : (volume : List ℕ) → Crosses repair_numbers repair_back (repair_answer volume)
  -- hdrfs_tree
  pub tree :
      (volume : List ℕ) (mark : Bookmark) (root room : ℕ)
      → Crosses line_numbers tree_back (tree_answer volume mark root room)
