-- The blocks that are left always end at the same words.
use Rattle.std.proofs.Common.{◌≡◌, drop}
use mathlib.Core.List.{foldl}
use Rattle.fips180.specs.Hash.{hashed}
use Rattle.compression.proofs.hash_blocks.Given as goal

abbrev pub invariant-loop-block : goal.invariant-loop-block
invariant-loop-block l = foldl hashed l.words (drop l.block-index l.blocks) ≡ foldl hashed l.initial.words l.blocks
