-- The checks of a block that an append is asked for, by itself, with no bookmark and no buffer:
-- 9, 11 (link bytes), 10, 11 (inode), 12, 13. Each kind has those that can find a fault in it.
use Rattle.std.specs.Prelude.{ℕ, not, List, [], ◌∷◌, ltb, eqb, length}
use Rattle.checks.specs.Checks.{Check, check}
use Rattle.utf8.specs.inner.Length.{is_text}
use Rattle.format.specs.Blocks.{Block, Inode, Link, Unlink, Xattr, RemovedXattr, Data, Rename, Table, file_type}
use Rattle.links.specs.Links.{link_start}
use Rattle.links.specs.inner.Tests.{some_name_not_text, some_link_twice}
use Rattle.block.specs.Order.{too_long, rest_order}

-- a name of at most so many bytes, the largest value of its length field
abbrev pub name_order : (most : ℕ) (name : List ℕ) → List Check
name_order most name = check (ltb most (length name)) 9 ∷ check (not (is_text name)) 10 ∷ []

-- 9: a regular file's list, a table, or a name, value or path longer than its length field; 11 (link bytes): they are not exactly
-- the stated links; 10, 11 (inode) and 12 are those of reading
abbrev pub request_order : Block → List Check
request_order (Inode b) =
    check (too_long (file_type b.mode) (length b.rest)) 9
    ∷ rest_order (file_type b.mode) b.size b.rest
request_order (Link b) = name_order 65535 b.name
request_order (Unlink b) = name_order 65535 b.name
request_order (Xattr b) = check (ltb 65535 (length b.value)) 9 ∷ name_order 255 b.name
request_order (RemovedXattr b) = name_order 255 b.name
request_order (Data b) = []
request_order (Rename b) =
    check (ltb 65535 (length b.old)) 9
    ∷ check (ltb 65535 (length b.new)) 9
    ∷ check (not (is_text b.old)) 10
    ∷ check (not (is_text b.new)) 10
    ∷ []
request_order (Table b) =
    check (ltb 4096 b.count) 9
    ∷ check (not (eqb (link_start b.links b.count) (length b.links))) 11
    ∷ check (some_name_not_text b.links b.count) 10
    ∷ check (some_link_twice b.links b.count) 13
    ∷ []
