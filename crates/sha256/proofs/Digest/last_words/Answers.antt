-- What was written is hashed as far as it is padded.
use Rattle.std.proofs.Common.{◌/◌, List, ℕ, length, take, ap, ◌∙◌}
use mathlib.Core.List.{foldl}
use Rattle.fips180.specs.Hash.{hashed}
use Rattle.fips180.specs.Padding.{blocks}
use Rattle.fips180.proofs.Parts.{chunks_parts}
use Rattle.sha256.proofs.LastBlocks.{part_padded}
use Rattle.sha256.proofs.Digest.last_words.Goals as goal

pub returns : goal.returns
returns c =
    let s = c.args.self.now in
    let last = c.padded-last in
    let whole : List ℕ = take c.padded_len.result last.result in
    c.hash_blocks.ensures
    ∙ ap (foldl hashed s.words) (c.as_chunks.ensures.front ∙ chunks_parts 64 (length whole / 64) whole)
    ∙ ap (λ (bytes : List ℕ). foldl hashed s.words (blocks bytes))
    (part_padded s.fed _ _ last.result _ c.used.ensures c.padded_len.ensures last.ensures)
