-- Inner page: the ways back from the numbers of the boundary to the answers. What matters is that each answer has one, not which it
-- is: it gives back what was answered, for every answer that the calls can give.
-- Joined to Crossing of exchange/Crossing by everything_crosses.
use Rattle.std.specs.Prelude.{Some, None, Ok, Err, Option, ℕ, cond, eqb}
use Rattle.refusal.specs.Refusal.{Refusal}
use Rattle.format.specs.Blocks.{Kind, inode_block, link_block, unlink_block, xattr_block, removed_xattr_block, data_block, rename_block, link_table}
use Rattle.format.specs.declared.Extent.{Extent}
use Rattle.links.specs.declared.Link.{Link as LinkPlace}
use Rattle.block.specs.Fields.{kind_with}
use Rattle.block.specs.declared.Part.{Part}
use Rattle.block.specs.declared.LinkBlock.{LinkBlock}
use Rattle.block.specs.declared.Block.{Block}
use Rattle.block.specs.declared.Block.TheVariants.{Inode, Link, Unlink, Xattr, RemovedXattr, Data, Rename, Table}
use Rattle.volume.specs.declared.Found.{Found}
use Rattle.volume.specs.Answers.{HeaderAnswer, ReadAnswer, Verdict, WriteAnswer}
use Rattle.volume.specs.declared.Rejected.{Rejected}
use Rattle.chain.specs.Answers.{Pairing}
use Rattle.repair.specs.Answers.{RepairAnswer}
use Rattle.tree.specs.Answers.{TreeAnswer}
use Rattle.lookup.specs.Answers.{PositionAnswer, RunsAnswer}
use Rattle.chain.specs.declared.PairFault.TheVariants.{FirstRefused, SecondRefused, DoesNotFollow}
use Rattle.lookup.specs.declared.Position.TheVariants.{Hole, PastEnd, Stored}
use Rattle.exchange.specs.Marks.{bookmark_of}
use Rattle.exchange.specs.declared.HeadingNumbers.{HeadingNumbers}
use Rattle.exchange.specs.declared.BlockNumbers.{BlockNumbers}
use Rattle.exchange.specs.declared.LinkNumbers.{LinkNumbers}
use Rattle.exchange.specs.declared.ExtentNumbers.{ExtentNumbers}
use Rattle.exchange.specs.declared.CheckNumbers.{CheckNumbers}
use Rattle.exchange.specs.declared.PlaceNumbers.{PlaceNumbers}
use Rattle.exchange.specs.declared.RunCountNumbers.{RunCountNumbers}
use Rattle.exchange.specs.declared.MarkNumbers.{MarkNumbers}
use Rattle.exchange.specs.declared.PairNumbers.{PairNumbers}
use Rattle.exchange.specs.declared.RepairNumbers.{RepairNumbers}
use Rattle.exchange.specs.declared.LineNumbers.{LineNumbers}

-- the refusal that three numbers tell, or where the first is 0 the other answer
abbrev pub refused_or : {Answer : Type 0} (number text start : ℕ) (refused : Refusal → Answer) (other : Answer) → Answer
refused_or number text start refused other =
    cond (eqb number 0) other (refused (record { number = number; text = text; start = start }))

-- the header, whose bookmark has no last time and no block before it
unfoldable pub header_back : HeadingNumbers → HeaderAnswer
header_back n =
    refused_or n.refusal n.text n.start Err (Ok (record { sequence = n.sequence; next = bookmark_of n.next n.due 0 0 0 }))

-- the variable parts of a block
abbrev pub first_back : BlockNumbers → Part
first_back n = record { offset = n.part; len = n.partlen }

abbrev pub second_back : BlockNumbers → Part
second_back n = record { offset = n.second; len = n.secondlen }

-- a link or an unlink
abbrev pub link_fields_back : BlockNumbers → LinkBlock
link_fields_back n = record { time = n.time; child = n.child; parent = n.parent; name = first_back n }

-- a block, by its kind
unfoldable pub block_with : Kind → BlockNumbers → Block
block_with inode_block n =
    Inode (
    record {
      number = n.inode;
      time = n.time;
      mode = n.mode;
      uid = n.uid;
      gid = n.gid;
      atime = n.atime;
      mtime = n.mtime;
      ctime = n.ctime;
      btime = n.btime;
      size = n.size;
      rest = first_back n;
    }
    )
block_with link_block n = Link (link_fields_back n)
block_with unlink_block n = Unlink (link_fields_back n)
block_with xattr_block n = Xattr (record { time = n.time; number = n.inode; name = first_back n; value = second_back n })
block_with removed_xattr_block n = RemovedXattr (record { time = n.time; number = n.inode; name = first_back n })
block_with data_block n = Data (record { time = n.time; payload = first_back n })
block_with rename_block n = Rename (record { time = n.time; old = first_back n; new = second_back n })
block_with link_table n = Table (record { count = n.count; links = first_back n })

-- the block that was read, its own number and the bookmark after it
abbrev pub found_back : BlockNumbers → Found
found_back n =
    record {
      block = block_with (kind_with n.id) n;
      number = n.number;
      next = bookmark_of n.next n.due n.timed n.last n.nextnumber;
    }

unfoldable pub read_back : BlockNumbers → ReadAnswer
read_back n =
    refused_or n.refusal n.text n.start Err (cond (eqb n.end 0) (Ok (Some (found_back n))) (Ok None))

-- the check, at whose end bookmark no table is due
unfoldable pub check_back : CheckNumbers → Verdict
check_back n =
    refused_or n.refusal n.text n.start
    (λ refusal. Err (record { refusal = refusal; offset = n.offset; blocks = n.blocks }))
    (Ok (record { sequence = n.sequence; end = bookmark_of n.offset 0 n.timed n.time n.blocks }))

unfoldable pub written_back : MarkNumbers → WriteAnswer
written_back n =
    refused_or n.refusal n.text n.start Err (Ok (bookmark_of n.next n.due n.timed n.last n.number))

-- a position: kind 0 is a hole, 1 a stored byte, and 2 past the end
unfoldable pub position_back : PlaceNumbers → PositionAnswer
position_back n =
    refused_or n.refusal n.text n.start Err (cond (eqb n.kind 0) (Ok Hole)
    (cond (eqb n.kind 1) (Ok (Stored (record { volume = n.volume; offset = record { 0 = n.offset } })))
    (Ok PastEnd)))

unfoldable pub runs_back : RunCountNumbers → RunsAnswer
runs_back n = refused_or n.refusal n.text n.start Err (Ok n.count)

unfoldable pub link_back : LinkNumbers → Option LinkPlace
link_back n =
    cond (eqb n.missing 0)
    (Some (record { child = n.child; parent = n.parent; name = n.name; len = n.namelen }))
    None

unfoldable pub extent_back : ExtentNumbers → Extent
extent_back n =
    record {
      volume = n.volume;
      start = record { 0 = n.start };
      size = n.size;
      multiplicity = n.multiplicity;
      count = n.count;
      pre = n.pre;
      post = n.post;
      logical = record { 0 = n.logical };
    }

-- a pair, by which of the two volumes is at fault; the number of blocks before a fault is not among the numbers
abbrev pub fault_back : PairNumbers → Rejected
fault_back n = record { refusal = record { number = n.refusal; text = n.text; start = n.start }; offset = n.offset; blocks = 0 }

unfoldable pub pair_back : PairNumbers → Pairing
pair_back n =
    cond (eqb n.which 1) (Err (FirstRefused (fault_back n)))
    (cond (eqb n.which 2) (Err (SecondRefused (fault_back n)))
    (cond (eqb n.refusal 0) (Ok tt) (Err DoesNotFollow)))

unfoldable pub repair_back : RepairNumbers → RepairAnswer
repair_back n = refused_or n.refusal n.text n.start Err (Ok n.length)

unfoldable pub tree_back : LineNumbers → TreeAnswer
tree_back n = refused_or n.refusal n.text n.start Err (Ok n.lines)
