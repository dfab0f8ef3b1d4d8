-- The checks that give 10 are those of the texts: a check with that number is at fault exactly where one of the texts is bad. So the
-- tables of checks and the texts of a block cannot come to differ. Assumes nothing.
use Prim.Native.Nat.{ℕ, ◌+◌}
use mathlib.Core.Path.{◌≡◌, refl, sym, ap, ◌∙◌}
use mathlib.Core.Bool.{Bool, true, false, ◌||◌}
use mathlib.Core.List.{List, map}
use lib.ListN.{drop}
use Rattle.checks.proofs.Laws.{gives}
use Rattle.refusal.specs.inner.FirstBad.{some_bad}
use Rattle.format.specs.Blocks.{Kind, inode_block, link_block, unlink_block, xattr_block, removed_xattr_block, data_block, rename_block, link_table}
use Rattle.format.specs.Blocks.{FileType, regular, symbolic_link, other, file_type, Block, Inode, Link, Unlink, Xattr, RemovedXattr, Data, Rename, Table}
use Rattle.links.specs.inner.Tests.{some_name_not_text}
use Rattle.links.proofs.Names.{some_bad_name}
use Rattle.links.proofs.Cut.{links_in_part}
use Rattle.block.specs.Fields.{field_at, fixed_length, body_length, type_at, size_at, rest_at}
use Rattle.block.specs.Order.{rest_order, kind_order}
use Rattle.block.specs.Shown.{shown}
use Rattle.block.specs.inner.Decoded.{block_of}
use Rattle.request.specs.Requests.{request_order}
use Rattle.texts.specs.Texts.{targets, texts}

-- an inode's n bytes
rest_texts : (type : FileType) (size : ℕ) (rest : List ℕ) → gives 10 (rest_order type size rest) ≡ some_bad (targets type rest)
unfolding some_bad
rest_texts regular size rest = refl
rest_texts symbolic_link size rest = refl
rest_texts other size rest = refl

or_false : (a : Bool) → (a || false) ≡ a
or_false true = refl
or_false false = refl

-- the block at an offset
pub block_texts : (kind : Kind) (volume : List ℕ) (offset : ℕ)
    → gives 10 (kind_order kind volume offset) ≡ some_bad (texts (shown volume (block_of kind volume offset)))
unfolding shown block_of body_length some_bad
block_texts inode_block volume offset = rest_texts (type_at volume offset) (size_at volume offset) (rest_at volume offset)
block_texts link_block volume offset = refl
block_texts unlink_block volume offset = refl
block_texts xattr_block volume offset = refl
block_texts removed_xattr_block volume offset = refl
block_texts data_block volume offset = refl
block_texts rename_block volume offset = refl
block_texts link_table volume offset =
    let links = drop (offset + fixed_length link_table) volume in
    let count = field_at link_table "link count" volume offset in
    or_false (some_name_not_text links count) ∙ sym (some_bad_name links count)
    ∙ ap (λ list. some_bad (map (λ link. link.name) list)) (sym (links_in_part links count))

-- the block that an append is asked for
pub request_texts : (block : Block) → gives 10 (request_order block) ≡ some_bad (texts block)
unfolding some_bad
request_texts (Inode b) = rest_texts (file_type b.mode) b.size b.rest
request_texts (Link b) = refl
request_texts (Unlink b) = refl
request_texts (Xattr b) = refl
request_texts (RemovedXattr b) = refl
request_texts (Data b) = refl
request_texts (Rename b) = refl
request_texts (Table b) = or_false (some_name_not_text b.links b.count) ∙ sym (some_bad_name b.links b.count)
