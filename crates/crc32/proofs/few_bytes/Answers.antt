-- `few_bytes` meets its contract: the register goes on from the first byte.
use Rattle.crc32.proofs.Laws.{register_none, register_first}
use Rattle.crc32.proofs.few_bytes.Goals as goal

pub returns-in-None : goal.returns-in-None
returns-in-None c = register_none _ c.in-None.ensures.cases

pub returns-in-Some : goal.returns-in-Some
returns-in-Some c = register_first _ _ _ _ _ c.in-Some.ensures.cases.0 c.byte_step.ensures c.wordwise.ensures
