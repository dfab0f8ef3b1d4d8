-- `many_bytes` meets its contract: what folding leaves makes of zero what all the bytes make of all ones.
use mathlib.Core.Path.{ap, ◌∙◌}
use mathlib.Core.List.{foldl}
use Rattle.crc32.specs.Crc.{byte_step}
use Rattle.crc32.proofs.Folded.{register_folded}
use Rattle.crc32.proofs.many_bytes.Goals as goal

pub returns : goal.returns
returns c = c.wordwise.ensures ∙ ap (foldl byte_step 0) c.fold.ensures ∙ register_folded _
