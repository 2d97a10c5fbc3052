-- `translated` meets its contract.
-- Assumes nothing.
use Rattle.bits.specs.Bits.{pick}
use Rattle.answers.specs.Answers.{carries}
use Rattle.exported.specs.Words.{spelled, listed_at, word_at, worded}
use Rattle.exported.proofs.translated.Goals as goal

pub returns : goal.returns
unfolding pick carries spelled listed_at word_at worded
returns c = rw (c.memory_code.ensures, c.shareability_code.ensures)
