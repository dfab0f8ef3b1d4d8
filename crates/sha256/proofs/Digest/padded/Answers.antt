-- The bytes in use, the byte after them and the length are laid over zeros.
use Rattle.std.proofs.Common.{arith, ◌∙◌}
use Rattle.sha256.proofs.LastBlocks.{padded_by}
use Rattle.sha256.proofs.Digest.padded.Goals as goal

pub returns : goal.returns
returns c =
    let s = c.args.self.now in
    (padded_by s.held _ _ s.fed _ _ (omega arith) c.used-used.ensures c.padded_len-end.ensures
    c.copy_from_slice.ensures.after (c.copy_from_slice-2.ensures.after ∙ c.to_be_bytes.ensures)).1
