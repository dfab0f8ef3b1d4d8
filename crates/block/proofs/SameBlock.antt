-- A block's fields and the places of its parts are fixed by its image and its offset, whatever stands around it. Assumes nothing.
use Prim.Native.Nat.{ℕ, ◌+◌}
use mathlib.Core.Path.{◌≡◌, sym, ap, ◌∙◌}
use mathlib.Core.List.{List, ◌++◌}
use lib.ListN.{drop, get_or}
use Rattle.format.specs.Blocks.{Kind, inode_block, link_block, unlink_block, xattr_block, removed_xattr_block, data_block, rename_block, link_table}
use Rattle.format.specs.Blocks as format
use Rattle.block.specs.Fields.{kind_with, kind_at, fixed_length, body_length}
use Rattle.block.specs.inner.Decoded.{block_of, block_at}
use Rattle.block.specs.declared.Part.{Part}
use Rattle.block.specs.declared.Block.TheVariants.{Inode, Link, Unlink, Xattr, RemovedXattr, Data, Rename, Table}
use Rattle.block.proofs.Ids.{kind_known}
use Rattle.block.proofs.Standing.{fields_at}
use Rattle.block.proofs.BlockImage.{Reads, block_complete}

-- a first and a second variable part, by their lengths
abbrev first : Kind → (n offset : ℕ) → Part
first kind n offset = record { offset = offset + fixed_length kind; len = n }

abbrev second : Kind → (n m offset : ℕ) → Part
second kind n m offset = record { offset = offset + fixed_length kind + n; len = m }

-- the fields and the length of the variable parts tell all
fixed : (kind : Kind) (volume other : List ℕ) (offset : ℕ) → fields_at kind volume offset ≡ fields_at kind other offset
    → body_length kind volume offset ≡ body_length kind other offset → block_of kind volume offset ≡ block_of kind other offset
unfolding block_of
fixed inode_block volume other offset f l =
    λ i.
    let value : ℕ → ℕ = λ k. get_or (f i) k 0 in
    Inode (
    record {
      number = value 0;
      time = value 1;
      mode = value 2;
      uid = value 3;
      gid = value 4;
      atime = value 5;
      mtime = value 6;
      ctime = value 7;
      btime = value 8;
      size = value 9;
      rest = first inode_block (value 10) offset;
    }
    )
fixed link_block volume other offset f l =
    λ i.
    let value : ℕ → ℕ = λ k. get_or (f i) k 0 in
    Link (record { time = value 0; child = value 1; parent = value 2; name = first link_block (value 3) offset })
fixed unlink_block volume other offset f l =
    λ i.
    let value : ℕ → ℕ = λ k. get_or (f i) k 0 in
    Unlink (record { time = value 0; child = value 1; parent = value 2; name = first unlink_block (value 3) offset })
fixed xattr_block volume other offset f l =
    λ i.
    let value : ℕ → ℕ = λ k. get_or (f i) k 0 in
    Xattr (
    record {
      time = value 0;
      number = value 1;
      name = first xattr_block (value 2) offset;
      value = second xattr_block (value 2) (value 3) offset;
    }
    )
fixed removed_xattr_block volume other offset f l =
    λ i.
    let value : ℕ → ℕ = λ k. get_or (f i) k 0 in
    RemovedXattr (record { time = value 0; number = value 1; name = first removed_xattr_block (value 2) offset })
fixed data_block volume other offset f l =
    λ i.
    let value : ℕ → ℕ = λ k. get_or (f i) k 0 in
    Data (record { time = value 0; payload = first data_block (value 1) offset })
fixed rename_block volume other offset f l =
    λ i.
    let value : ℕ → ℕ = λ k. get_or (f i) k 0 in
    Rename (
    record {
      time = value 0;
      old = first rename_block (value 1) offset;
      new = second rename_block (value 1) (value 2) offset;
    }
    )
fixed link_table volume other offset f l =
    λ i. Table (record { count = get_or (f i) 0 0; links = first link_table (l i) offset })

-- where the image of the same block stands at the same offset, the blocks there are the same
pub same_block : (block : format.Block) (volume other : List ℕ) (offset : ℕ) (after others : List ℕ) → format.BlockRules block
    → drop offset volume ≡ format.image block ++ after → drop offset other ≡ format.image block ++ others
    → block_at volume offset ≡ block_at other offset
same_block block volume other offset after others keeps d e =
    let kind : Kind = format.kind_of block in
    let r : Reads volume offset block = block_complete block volume offset after keeps d in
    let s : Reads other offset block = block_complete block other offset others keeps e in
    let k : kind_at volume offset ≡ kind = ap kind_with r.id ∙ (kind_known kind).0 in
    let l : kind_at other offset ≡ kind = ap kind_with s.id ∙ (kind_known kind).0 in
    rw (k, l)
    (fixed kind volume other offset (r.values ∙ sym s.values) (r.body-length ∙ sym s.body-length))
