-- What each kind supplies in the other direction: where the fields and variable parts of a block stand, this block is shown, and
-- where it keeps the rules the checks find no fault. Assumes nothing.
use Prim.Native.Nat.{ℕ, ◌+◌}
use mathlib.Core.Path.{◌≡◌, refl, sym, ap, ap₂, ◌∙◌, subst}
use mathlib.Core.List.{List, ◌++◌, append_assoc}
use lib.ListN.{length, drop, get_or, length-append, take-append-drop}
use borrow.Author.Tests.{le-ltb}
use Rattle.number.specs.Number.{part}
use Rattle.number.proofs.Parts.{part_at, drop_past}
use Rattle.format.specs.Blocks.{Kind, inode_block, link_block, unlink_block, xattr_block, removed_xattr_block, data_block, rename_block, link_table}
use Rattle.format.specs.Blocks.{TableFields, Block, Inode, Link, Unlink, Xattr, RemovedXattr, Data, Rename, Table, kind_of, fields, body}
use Rattle.format.specs.Blocks.{FileType, regular, symbolic_link, other, InodeRules, KindRules, BlockRules}
use Rattle.extent.proofs.ListRules as extents
use Rattle.links.specs.Links.{link_start}
use Rattle.links.proofs.Tables.{links_end, links_complete}
use Rattle.block.specs.Fields.{fixed_length, field_at, body_length, type_at, size_at, rest_at}
use Rattle.block.specs.inner.Decoded.{block_of}
use Rattle.block.specs.Shown.{shown}
use Rattle.block.proofs.Passed.{InodePassed, OwnPassed}
use Rattle.block.proofs.Standing.{fields_at}

-- a table's bytes are exactly the stated links
abbrev pub LinksFill : Block → Type 0
LinksFill block = (table : TableFields) → block ≡ Table table → link_start table.links table.count ≡ length table.links

-- so that the links end there, also where other bytes stand after them
abbrev pub TableEnds : Block → (rest : List ℕ) → Type 0
TableEnds block rest = (table : TableFields) → block ≡ Table table → link_start (table.links ++ rest) table.count ≡ length table.links

-- the block that is shown at an offset, of the kind that it has
pub record ShownAs (volume : List ℕ) (offset : ℕ) (block : Block) : Type 0 where
  pub body-length : body_length (kind_of block) volume offset ≡ length (body block)
  pub same : shown volume (block_of (kind_of block) volume offset) ≡ block

-- two variable parts in a row that stand where the fixed fields end
two_parts : (volume : List ℕ) (start m n : ℕ) (a b rest : List ℕ) → drop start volume ≡ (a ++ b) ++ rest → m ≡ length a → n ≡ length b
    → (part volume start m ≡ a) × (part volume (start + m) n ≡ b)
two_parts volume start m n a b rest d k l =
    let e : drop start volume ≡ a ++ (b ++ rest) = d ∙ append_assoc a b rest in
    let after : drop (start + m) volume ≡ b ++ rest = drop_past volume a (b ++ rest) start m e (sym k) in
    (part_at volume a (b ++ rest) start m e (sym k), part_at volume b rest (start + m) n after (sym l))

pub shown_as : (block : Block) (volume : List ℕ) (offset : ℕ) (rest : List ℕ) → TableEnds block rest
    → fields_at (kind_of block) volume offset ≡ fields block → drop (offset + fixed_length (kind_of block)) volume ≡ body block ++ rest
    → ShownAs volume offset block
unfolding shown block_of body_length
shown_as (Inode b) volume offset rest ends f d =
    let n : field_at inode_block "n" volume offset ≡ length b.rest = ap (λ values. get_or values 10 0) f in
    let part = part_at volume b.rest rest (offset + fixed_length inode_block) (field_at inode_block "n" volume offset) d (sym n) in
    record {
      body-length = n;
      same =
          λ i.
          let value : ℕ → ℕ = λ k. get_or (f i) k 0 in
          Inode (
          record {
            inode = value 0;
            time = value 1;
            mode = value 2;
            uid = value 3;
            gid = value 4;
            atime = value 5;
            mtime = value 6;
            ctime = value 7;
            btime = value 8;
            size = value 9;
            rest = part i;
          }
          );
    }
shown_as (Link b) volume offset rest ends f d =
    let n : field_at link_block "n" volume offset ≡ length b.name = ap (λ values. get_or values 3 0) f in
    let part = part_at volume b.name rest (offset + fixed_length link_block) (field_at link_block "n" volume offset) d (sym n) in
    record {
      body-length = n;
      same = λ i. Link (record { time = get_or (f i) 0 0; child = get_or (f i) 1 0; parent = get_or (f i) 2 0; name = part i });
    }
shown_as (Unlink b) volume offset rest ends f d =
    let n : field_at unlink_block "n" volume offset ≡ length b.name = ap (λ values. get_or values 3 0) f in
    let part = part_at volume b.name rest (offset + fixed_length unlink_block) (field_at unlink_block "n" volume offset) d (sym n) in
    record {
      body-length = n;
      same = λ i. Unlink (record { time = get_or (f i) 0 0; child = get_or (f i) 1 0; parent = get_or (f i) 2 0; name = part i });
    }
shown_as (Xattr b) volume offset rest ends f d =
    let m : field_at xattr_block "n" volume offset ≡ length b.name = ap (λ values. get_or values 2 0) f in
    let n : field_at xattr_block "m" volume offset ≡ length b.value = ap (λ values. get_or values 3 0) f in
    let parts = two_parts volume (offset + fixed_length xattr_block) _ _ b.name b.value rest d m n in
    record {
      body-length = ap₂ ◌+◌ m n ∙ sym (length-append b.name b.value);
      same = λ i. Xattr (record { time = get_or (f i) 0 0; inode = get_or (f i) 1 0; name = parts.0 i; value = parts.1 i });
    }
shown_as (RemovedXattr b) volume offset rest ends f d =
    let n : field_at removed_xattr_block "n" volume offset ≡ length b.name = ap (λ values. get_or values 2 0) f in
    let part
    = part_at volume b.name rest (offset + fixed_length removed_xattr_block) (field_at removed_xattr_block "n" volume offset) d (sym n) in
    record {
      body-length = n;
      same = λ i. RemovedXattr (record { time = get_or (f i) 0 0; inode = get_or (f i) 1 0; name = part i });
    }
shown_as (Data b) volume offset rest ends f d =
    let n : field_at data_block "n" volume offset ≡ length b.payload = ap (λ values. get_or values 1 0) f in
    let part = part_at volume b.payload rest (offset + fixed_length data_block) (field_at data_block "n" volume offset) d (sym n) in
    record { body-length = n; same = λ i. Data (record { time = get_or (f i) 0 0; payload = part i }) }
shown_as (Rename b) volume offset rest ends f d =
    let m : field_at rename_block "n" volume offset ≡ length b.old = ap (λ values. get_or values 1 0) f in
    let n : field_at rename_block "m" volume offset ≡ length b.new = ap (λ values. get_or values 2 0) f in
    let parts = two_parts volume (offset + fixed_length rename_block) _ _ b.old b.new rest d m n in
    record {
      body-length = ap₂ ◌+◌ m n ∙ sym (length-append b.old b.new);
      same = λ i. Rename (record { time = get_or (f i) 0 0; old = parts.0 i; new = parts.1 i });
    }
shown_as (Table b) volume offset rest ends f d =
    let start : ℕ = offset + fixed_length link_table in
    let n : field_at link_table "link count" volume offset ≡ b.count = ap (λ values. get_or values 0 0) f in
    let end : body_length link_table volume offset ≡ length b.links = rw (n, d) (ends b refl) in
    let part : part volume start (body_length link_table volume offset) ≡ b.links
    = part_at volume b.links rest start (body_length link_table volume offset) d (sym end) in
    record { body-length = end; same = λ i. Table (record { count = get_or (f i) 0 0; links = part i }) }

-- an inode, by file type
pub inode_tests : (type : FileType) (size : ℕ) (rest : List ℕ) → InodeRules type size rest → InodePassed type size (length rest) rest
inode_tests regular size rest rules =
    let p : extents.ListPasses rest = extents.list_complete rest rules in
    record {
      few = le-ltb 58368 (length rest) p.few;
      sound = record { whole = p.whole; sound = p.sound; apart = p.apart };
    }
inode_tests symbolic_link size rest rules = record { few = refl; sound = rules }
inode_tests other size rest rules = record { few = refl; sound = rules }

-- the own checks of a kind find no fault where the block that is shown keeps the kind's rules
kind_tests : (kind : Kind) (volume : List ℕ) (offset : ℕ)
    → body_length kind volume offset ≡ length (body (shown volume (block_of kind volume offset)))
    → KindRules (shown volume (block_of kind volume offset)) → OwnPassed kind volume offset
unfolding shown block_of body_length
kind_tests inode_block volume offset l rules =
    let type : FileType = type_at volume offset in
    let size : ℕ = size_at volume offset in
    let rest : List ℕ = rest_at volume offset in
    subst (λ (n : ℕ). InodePassed type size n rest) (sym l) (inode_tests type size rest rules)
kind_tests link_block volume offset l rules = rules
kind_tests unlink_block volume offset l rules = rules
kind_tests xattr_block volume offset l rules = rules
kind_tests removed_xattr_block volume offset l rules = rules
kind_tests data_block volume offset l rules = tt
kind_tests rename_block volume offset l rules = rules
kind_tests link_table volume offset l rules =
    let links : List ℕ = drop (offset + fixed_length link_table) volume in
    let n : ℕ = body_length link_table volume offset in
    rw (take-append-drop n links) at (links_complete rules (drop n links))

pub record Accepts (volume : List ℕ) (offset : ℕ) (block : Block) : Type 0 where
  pub as_shown : ShownAs volume offset block
  pub own : OwnPassed (kind_of block) volume offset

pub accepts : (block : Block) (volume : List ℕ) (offset : ℕ) (rest : List ℕ) → BlockRules block
    → fields_at (kind_of block) volume offset ≡ fields block → drop (offset + fixed_length (kind_of block)) volume ≡ body block ++ rest
    → Accepts volume offset block
accepts block volume offset rest o f d =
    let s : ShownAs volume offset block = shown_as block volume offset rest (λ table e. links_end (subst KindRules e o.rules) rest) f d in
    record {
      as_shown = s;
      own =
          kind_tests (kind_of block) volume offset (s.body-length ∙ ap (λ b. length (body b)) (sym s.same))
          (subst KindRules (sym s.same) o.rules);
    }
