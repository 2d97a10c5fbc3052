-- `translate` meets its contract, by the memory of a raw capture.
-- Assumes nothing.
use Rattle.answers.proofs.Counts.{counts}
use Rattle.answers.proofs.Framing.{framing}
use Rattle.question.proofs.Telling.{raw_tells}
use Rattle.question.proofs.translate.Goals as goal

pub returns-clause-told : goal.returns-clause-told
returns-clause-told c = raw_tells _ _ _ _ c.args.base c.args.bytes.now c.raw.ensures.high (c.over.ensures _ c.raw.ensures.finds)

pub returns-clause-counted : goal.returns-clause-counted
returns-clause-counted c = counts _ _ _ _ _ _

pub returns-clause-framed : goal.returns-clause-framed
returns-clause-framed c = λ other. framing _ _ _ _ _ _ _
