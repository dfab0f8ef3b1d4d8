-- The eight kinds of block: their layouts, their images, and the rules inside them.
use Rattle.std.specs.Prelude.{ℕ, ◌+◌, ◌/◌, ◌≤◌, ◌≡◌, cond, List, [], ◌∷◌, ◌++◌, eqb, length}
use Rattle.number.specs.Number.{Bytes}
use Rattle.utf8.specs.Grammar.{WellFormed}
use Rattle.format.specs.declared.Extent.{Extent}
use Rattle.format.specs.Layout.{Field, field, widths_in, Fit, laid, sealed, All}
use Rattle.format.specs.Extents.{extent_list, ExtentRules, Apart}

pub data Kind : Type 0 where
  inode_block link_block unlink_block xattr_block removed_xattr_block data_block rename_block link_table : Kind

-- the number that stands first in a block of the kind
abbrev pub id_of : Kind → ℕ
id_of inode_block = 1
id_of link_block = 2
id_of unlink_block = 3
id_of xattr_block = 4
id_of removed_xattr_block = 5
id_of data_block = 6
id_of rename_block = 7
id_of link_table = 8

-- the fields between the ID and the first variable part: the fixed fields
abbrev pub layout : Kind → List Field
layout inode_block =
    field "inode" 8 ∷ field "time" 8 ∷ field "mode" 2 ∷ field "uid" 2 ∷ field "gid" 2
    ∷ field "atime" 8 ∷ field "mtime" 8 ∷ field "ctime" 8 ∷ field "btime" 8 ∷ field "size" 8 ∷ field "n" 8 ∷ []
layout link_block = field "time" 8 ∷ field "child" 8 ∷ field "parent" 8 ∷ field "n" 2 ∷ []
layout unlink_block = field "time" 8 ∷ field "child" 8 ∷ field "parent" 8 ∷ field "n" 2 ∷ []
layout xattr_block = field "time" 8 ∷ field "inode" 8 ∷ field "n" 1 ∷ field "m" 2 ∷ []
layout removed_xattr_block = field "time" 8 ∷ field "inode" 8 ∷ field "n" 1 ∷ []
layout data_block = field "time" 8 ∷ field "n" 8 ∷ []
layout rename_block = field "time" 8 ∷ field "n" 2 ∷ field "m" 2 ∷ []
layout link_table = field "link count" 8 ∷ []

abbrev pub widths : Kind → List ℕ
widths kind = widths_in (layout kind)

-- a link of a table: these fields and a name of m bytes
abbrev pub TableLink : Type 0
TableLink = record { child : ℕ; parent : ℕ; name : List ℕ }

abbrev pub link_layout : List Field
link_layout = field "child" 8 ∷ field "parent" 8 ∷ field "m" 2 ∷ []

abbrev pub link_widths : List ℕ
link_widths = widths_in link_layout

abbrev pub link_fields : TableLink → List ℕ
link_fields link = link.child ∷ link.parent ∷ length link.name ∷ []

unfoldable pub link_image : TableLink → List ℕ
link_image link = laid link_widths (link_fields link) ++ link.name

unfoldable pub link_list : List TableLink → List ℕ
link_list [] = []
link_list (link ∷ links) = link_image link ++ link_list links

-- What stands in a block of each kind. An inode's n bytes are a target or a list of extents.
abbrev pub InodeFields : Type 0
InodeFields =
    record { inode : ℕ; time : ℕ; mode : ℕ; uid : ℕ; gid : ℕ; atime : ℕ; mtime : ℕ; ctime : ℕ; btime : ℕ; size : ℕ; rest : List ℕ }

abbrev pub LinkFields : Type 0
LinkFields = record { time : ℕ; child : ℕ; parent : ℕ; name : List ℕ }

abbrev pub XattrFields : Type 0
XattrFields = record { time : ℕ; inode : ℕ; name : List ℕ; value : List ℕ }

abbrev pub RemovedXattrFields : Type 0
RemovedXattrFields = record { time : ℕ; inode : ℕ; name : List ℕ }

abbrev pub DataFields : Type 0
DataFields = record { time : ℕ; payload : List ℕ }

abbrev pub RenameFields : Type 0
RenameFields = record { time : ℕ; old : List ℕ; new : List ℕ }

-- the bytes of the links, one after the other
abbrev pub TableFields : Type 0
TableFields = record { count : ℕ; links : List ℕ }

-- a block, as it stands in a volume and as an append is asked for it
pub data Block : Type 0 where
  Inode : InodeFields → Block
  Link : LinkFields → Block
  Unlink : LinkFields → Block
  Xattr : XattrFields → Block
  RemovedXattr : RemovedXattrFields → Block
  Data : DataFields → Block
  Rename : RenameFields → Block
  Table : TableFields → Block

abbrev pub kind_of : Block → Kind
kind_of (Inode b) = inode_block
kind_of (Link b) = link_block
kind_of (Unlink b) = unlink_block
kind_of (Xattr b) = xattr_block
kind_of (RemovedXattr b) = removed_xattr_block
kind_of (Data b) = data_block
kind_of (Rename b) = rename_block
kind_of (Table b) = link_table

-- the values of the fixed fields, in layout order
abbrev pub fields : Block → List ℕ
fields (Inode b) =
    b.inode ∷ b.time ∷ b.mode ∷ b.uid ∷ b.gid ∷ b.atime ∷ b.mtime ∷ b.ctime ∷ b.btime ∷ b.size ∷ length b.rest ∷ []
fields (Link b) = b.time ∷ b.child ∷ b.parent ∷ length b.name ∷ []
fields (Unlink b) = b.time ∷ b.child ∷ b.parent ∷ length b.name ∷ []
fields (Xattr b) = b.time ∷ b.inode ∷ length b.name ∷ length b.value ∷ []
fields (RemovedXattr b) = b.time ∷ b.inode ∷ length b.name ∷ []
fields (Data b) = b.time ∷ length b.payload ∷ []
fields (Rename b) = b.time ∷ length b.old ∷ length b.new ∷ []
fields (Table b) = b.count ∷ []

-- the variable parts, in layout order
abbrev pub body : Block → List ℕ
body (Inode b) = b.rest
body (Link b) = b.name
body (Unlink b) = b.name
body (Xattr b) = b.name ++ b.value
body (RemovedXattr b) = b.name
body (Data b) = b.payload
body (Rename b) = b.old ++ b.new
body (Table b) = b.links

-- a block's image: its bytes by the layout, CRC included
unfoldable pub image : Block → List ℕ
image block = sealed (id_of (kind_of block) ∷ laid (widths (kind_of block)) (fields block) ++ body block)

-- the type of a file, from its mode divided by 4,096
pub data FileType : Type 0 where
  regular symbolic_link other : FileType

abbrev pub file_type : (mode : ℕ) → FileType
file_type mode = cond (eqb (mode / 4096) 8) regular (cond (eqb (mode / 4096) 10) symbolic_link other)

-- a regular file's n bytes are at most 1,024 extents, each by its rules, whose kept ranges never share a position
pub record ExtentsOf (bytes : List ℕ) : Type 0 where
  pub extents : List Extent
  pub laid_out : extent_list extents ≡ bytes
  pub few : length extents ≤ 1024
  pub each : All ExtentRules extents
  pub apart : Apart extents

-- what an inode's size and its n bytes are, by file type
abbrev pub InodeRules : FileType → (size : ℕ) (rest : List ℕ) → Type 0
InodeRules regular size rest = ExtentsOf rest
InodeRules symbolic_link size rest = WellFormed rest × (size ≡ 70 + length rest)
InodeRules other size rest = (length rest ≡ 0) × (size ≡ 70)

pub record LinkRules (link : TableLink) : Type 0 where
  pub fit : Fit link_widths (link_fields link)
  pub bytes : Bytes link.name
  pub text : WellFormed link.name

abbrev pub SameLink : TableLink → TableLink → Type 0
SameLink a b = (a.parent ≡ b.parent) × (a.name ≡ b.name)

-- no two links have the same parent and the same name
abbrev pub Distinct : List TableLink → Type 0
Distinct [] = Unit {0}
Distinct (a ∷ links) = All (λ b. SameLink a b → ⊥) links × Distinct links

-- a table's bytes are exactly the stated links, at most 4,096, each by its rules, and no two alike
pub record LinksOf (count : ℕ) (bytes : List ℕ) : Type 0 where
  pub links : List TableLink
  pub laid_out : link_list links ≡ bytes
  pub stated : length links ≡ count
  pub few : count ≤ 4096
  pub each : All LinkRules links
  pub distinct : Distinct links

-- the rules of each kind
abbrev pub KindRules : Block → Type 0
KindRules (Inode b) = InodeRules (file_type b.mode) b.size b.rest
KindRules (Link b) = WellFormed b.name
KindRules (Unlink b) = WellFormed b.name
KindRules (Xattr b) = WellFormed b.name
KindRules (RemovedXattr b) = WellFormed b.name
KindRules (Data b) = Unit {0}
KindRules (Rename b) = WellFormed b.old × WellFormed b.new
KindRules (Table b) = LinksOf b.count b.links

-- the rules inside blocks: each value fits its field, the variable parts are bytes, and the kind's own rules
pub record BlockRules (block : Block) : Type 0 where
  pub fit : Fit (widths (kind_of block)) (fields block)
  pub bytes : Bytes (body block)
  pub rules : KindRules block
