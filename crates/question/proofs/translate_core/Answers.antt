-- `translate_core` meets its contract: a bank that is alone is one part, and else all of them are read.
-- Assumes nothing.
use Rattle.std.proofs.Common.{sym}
use Rattle.bits.proofs.Tests.{and_left}
use Rattle.answers.proofs.Counts.{counts}
use Rattle.answers.proofs.Framing.{framing}
use Rattle.question.proofs.Telling.{core_tells}
use Rattle.question.proofs.translate_core.Goals as goal

pub returns-in-Some-clause-told : goal.returns-in-Some-clause-told
returns-in-Some-clause-told c =
    core_tells _ _ _ _ _ (and_left _ _ (sym c.in-Some.ensures.found)) c.in-Some.ensures.high (c.over.ensures _ c.in-Some.ensures.finds)

pub returns-in-Some-clause-counted : goal.returns-in-Some-clause-counted
returns-in-Some-clause-counted c = counts _ _ _ _ _ _

pub returns-in-Some-clause-framed : goal.returns-in-Some-clause-framed
returns-in-Some-clause-framed c = λ other. framing _ _ _ _ _ _ _

pub returns-in-None-clause-counted : goal.returns-in-None-clause-counted
returns-in-None-clause-counted c = counts _ _ _ _ _ _

pub returns-in-None-clause-framed : goal.returns-in-None-clause-framed
returns-in-None-clause-framed c = λ other. framing _ _ _ _ _ _ _
