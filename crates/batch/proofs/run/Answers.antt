-- `run` meets its contract, by the memory of a raw capture.
-- Assumes nothing.
use Rattle.batch.proofs.Promises.{promised}
use Rattle.batch.proofs.Telling.{raw_tells}
use Rattle.batch.proofs.run.Goals as goal

pub returns-clause-told : goal.returns-clause-told
returns-clause-told c = raw_tells _ _ _ _ c.args.base c.args.bytes.now c.raw.ensures.high (c.over.ensures _ c.raw.ensures.finds)

pub returns-clause-promised : goal.returns-clause-promised
returns-clause-promised c = promised _ _ _ _ _ _
