-- The texts of a block, in layout order. An xattr's value and a payload are raw bytes, and no texts.
use Rattle.std.specs.Prelude.{ℕ, List, [], ◌∷◌}
use Rattle.format.specs.Blocks.{FileType, regular, symbolic_link, other, file_type, Block, Inode, Link, Unlink, Xattr, RemovedXattr, Data, Rename, Table}
use Rattle.links.specs.Links.{names}
use Rattle.block.specs.Shown.{shown}
use Rattle.block.specs.inner.Decoded.{block_at}

-- an inode's n bytes are a text where they are a target
abbrev pub targets : FileType → (rest : List ℕ) → List (List ℕ)
targets regular rest = []
targets symbolic_link rest = rest ∷ []
targets other rest = []

abbrev pub texts : Block → List (List ℕ)
texts (Inode b) = targets (file_type b.mode) b.rest
texts (Link b) = b.name ∷ []
texts (Unlink b) = b.name ∷ []
texts (Xattr b) = b.name ∷ []
texts (RemovedXattr b) = b.name ∷ []
texts (Data b) = []
texts (Rename b) = b.old ∷ b.new ∷ []
texts (Table b) = names b.links b.count

-- those of the block at an offset
abbrev pub texts_at : (volume : List ℕ) (offset : ℕ) → List (List ℕ)
texts_at volume offset = texts (shown volume (block_at volume offset))
