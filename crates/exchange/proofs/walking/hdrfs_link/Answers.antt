-- A link that is there ends within the bytes, so its end fits.
use Rattle.std.proofs.Common.{sym, ◌∙◌}
use native.Mathlib.Omega.{arith}
use Rattle.links.proofs.Answers.{answer_ends_within}
use Rattle.exchange.proofs.walking.hdrfs_link.Goals as goal

pub overflow_add-result : goal.overflow_add-result
overflow_add-result c = omega (arith, answer_ends_within _ _ _ (sym c.link_from.ensures ∙ c.in-Some.is))
