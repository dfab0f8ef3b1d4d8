-- A reading of a volume: a header and a list of blocks. They keep the rules, and one image after the other they make up its bytes.
use Rattle.std.specs.Prelude.{ℕ, zero, suc, ◌≤◌, ◌≡◌, Option, Some, None, List, [], ◌∷◌, ◌++◌}
use Rattle.format.specs.Layout.{All}
use Rattle.format.specs.Blocks.{link_table, Block, Inode, Link, Unlink, Xattr, RemovedXattr, Data, Rename, Table, kind_of, image, BlockRules}
use Rattle.format.specs.Headers.{Header, header_image, HeaderRules}

pub record Reading : Type 0 where
  pub header : Header
  pub blocks : List Block

-- whether a block is a table
abbrev pub IsTable : Block → Type 0
IsTable block = kind_of block ≡ link_table

abbrev pub NoTable : List Block → Type 0
NoTable blocks = All (λ block. IsTable block → ⊥) blocks

-- volume 0 has no table; every other volume has one, and it stands first, at offset 80
abbrev pub TableRule : (sequence : ℕ) → List Block → Type 0
TableRule zero blocks = NoTable blocks
TableRule (suc n) [] = ⊥
TableRule (suc n) (block ∷ blocks) = IsTable block × NoTable blocks

-- the time of a block; a table has none
abbrev pub time_of : Block → Option ℕ
time_of (Inode b) = Some b.time
time_of (Link b) = Some b.time
time_of (Unlink b) = Some b.time
time_of (Xattr b) = Some b.time
time_of (RemovedXattr b) = Some b.time
time_of (Data b) = Some b.time
time_of (Rename b) = Some b.time
time_of (Table b) = None

-- the time rule: where there is a last time, the next one is not lower
abbrev pub TimeFollows : (last time : Option ℕ) → Type 0
TimeFollows None time = Unit {0}
TimeFollows (Some last) None = Unit {0}
TimeFollows (Some last) (Some time) = last ≤ time

-- the last time once a block has been passed; a table leaves it as it was
abbrev pub last_after : (last time : Option ℕ) → Option ℕ
last_after last None = last
last_after last (Some time) = Some time

-- every time in the volume keeps the time rule
abbrev pub TimesFollow : (last : Option ℕ) → List Block → Type 0
TimesFollow last [] = Unit {0}
TimesFollow last (block ∷ blocks) = TimeFollows last (time_of block) × TimesFollow (last_after last (time_of block)) blocks

-- a header, a table where one is due and a list of blocks, all keeping the rules
pub record Keeps (reading : Reading) : Type 0 where
  pub header : HeaderRules reading.header
  pub each : All BlockRules reading.blocks
  pub table : TableRule reading.header.sequence reading.blocks
  pub times : TimesFollow None reading.blocks

unfoldable pub images : List Block → List ℕ
images [] = []
images (block ∷ blocks) = image block ++ images blocks

-- the images of the header and of the blocks, laid end to end
unfoldable pub volume_of : Reading → List ℕ
volume_of reading = header_image reading.header ++ images reading.blocks

pub record ReadingOf (volume : List ℕ) (reading : Reading) : Type 0 where
  pub keeps : Keeps reading
  pub bytes : volume_of reading ≡ volume

abbrev pub HasReading : (volume : List ℕ) → Type 0
HasReading volume = (reading : Reading) × ReadingOf volume reading
