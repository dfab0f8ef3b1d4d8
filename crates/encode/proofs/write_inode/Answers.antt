-- ID, fields up to the group, the tail and CRC stand one after the other; the tail begins with the other fields.
use Prim.Native.Nat.{ℕ}
use mathlib.Core.Path.{ap, ◌∙◌}
use mathlib.Core.List.{List, [], ◌∷◌, ◌++◌, append_assoc}
use native.Mathlib.Omega.{arith}
use lib.Dec.{lit<}
use lib.ListN.{length, length-append}
use Rattle.number.specs.Number.{put}
use Rattle.number.proofs.Digits.{length-le_bytes}
use Rattle.format.specs.Layout.{laid, sealed}
use Rattle.format.specs.Blocks.{image}
use Rattle.encode.proofs.Writes.{last, ◌then◌}
use Rattle.encode.proofs.Images.{block_written}
use Rattle.encode.proofs.write_inode.Goals as goal

pub returns : goal.returns
unfolding laid image
returns c =
    let a = c.args in
    let times : List ℕ
    = laid (8 ∷ 8 ∷ 8 ∷ 8 ∷ 8 ∷ 8 ∷ []) (a.b.atime ∷ a.b.mtime ∷ a.b.ctime ∷ a.b.btime ∷ a.b.size ∷ length a.b.rest.now ∷ []) ++ a.b.rest.now in
    block_written {rest = times} a.buf.now a.offset 1 _ (lit< tt) (simp (length-append, length-le_bytes) (omega arith))
    (omega (arith, c.requires)) c.write_u8.ensures
    (c.write_u64.ensures then c.write_u64-2.ensures then c.write_u16.ensures then c.write_u16-2.ensures
    then c.write_u16-3.ensures then last {rest = times} c.write_inode_tail.ensures)
    c.seal.ensures
    ∙ ap (λ (bytes : List ℕ). put a.buf.now a.offset (sealed (1 ∷ bytes))) (simp append_assoc)
