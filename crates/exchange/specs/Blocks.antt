-- A block that was read, as numbers: its fields by their names in the layout, and the places of its variable parts.
use Rattle.std.specs.Prelude.{ℕ, false, cond, List, [], ◌∷◌, get_or, None}
use Prim.Native.String.{String}
use lib.Text.{eqt}
use Rattle.format.specs.Layout.{Field, field}
use Rattle.format.specs.Blocks as format
use Rattle.format.specs.Blocks.{id_of, layout, kind_of, fields}
use Rattle.refusal.specs.Refusal.{refusal_of, Refusal}
use Rattle.block.specs.Shown.{shown, parts}
use Rattle.block.specs.declared.Part.{Part}
use Rattle.block.specs.declared.Block.{Block}
use Rattle.volume.specs.declared.Bookmark.{Bookmark}
use Rattle.exchange.specs.Marks.{flag_number, timed_number, time_number}
use Rattle.exchange.specs.declared.BlockNumbers.{BlockNumbers}

-- the value of the field with a name; 0 where the layout has no such field
abbrev pub value_in : (name : String) (layout : List Field) (values : List ℕ) → ℕ
value_in name [] values = 0
value_in name (field other width ∷ layout) [] = 0
value_in name (field other width ∷ layout) (value ∷ values) = cond (eqt name other) value (value_in name layout values)

-- the fields of a block do not depend on what its variable parts hold, so they are taken with empty ones
abbrev pub without_parts : Block → format.Block
without_parts block = shown [] block

-- a fixed field of a block, by its name in the layout
abbrev pub field_of : (block : format.Block) (name : String) → ℕ
field_of block name = value_in name (layout (kind_of block)) (fields block)

-- a part by its number, counted from 0; a block with fewer parts has it at 0, with no bytes
abbrev pub part_with : (index : ℕ) (parts : List Part) → Part
part_with index parts = get_or parts index (record { offset = 0; len = 0 })

-- the numbers of an answer: the block's own, the bookmark after it, its fields by name, and the places of its parts
abbrev pub numbers_with : Refusal → (end id number : ℕ) (next : Bookmark) (value : String → ℕ) (parts : List Part) → BlockNumbers
numbers_with refusal end id number next value parts = record {
  refusal = refusal.number;
  text = refusal.text;
  start = refusal.start;
  end = end;
  id = id;
  number = number;
  next = next.offset;
  due = flag_number next.due;
  timed = timed_number next.last;
  last = time_number next.last;
  nextnumber = next.number;
  time = value "time";
  inode = value "inode";
  child = value "child";
  parent = value "parent";
  mode = value "mode";
  uid = value "uid";
  gid = value "gid";
  atime = value "atime";
  mtime = value "mtime";
  ctime = value "ctime";
  btime = value "btime";
  size = value "size";
  count = value "link count";
  part = (part_with 0 parts).offset;
  partlen = (part_with 0 parts).len;
  second = (part_with 1 parts).offset;
  secondlen = (part_with 1 parts).len;
}

-- a block, its own number and the bookmark after it
unfoldable pub found_numbers : Block → (number : ℕ) (next : Bookmark) → BlockNumbers
found_numbers block number next =
    numbers_with (refusal_of 0) 0 (id_of (kind_of (without_parts block))) number next (field_of (without_parts block)) (parts block)

-- no block: a refusal, or 1 for "end", and 0 for the rest
abbrev pub no_block : Refusal → (end : ℕ) → BlockNumbers
no_block refusal end = numbers_with refusal end 0 0 (record { offset = 0; due = false; last = None; number = 0 }) (λ name. 0) []
