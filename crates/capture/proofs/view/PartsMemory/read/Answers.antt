-- `read` meets its contract: what the part in front has is there, and what it has not is left to the others.
-- Assumes nothing.
use Rattle.std.proofs.Common.{sym, ◌∙◌}
use Rattle.capture.proofs.Searches.{front_has, front_lacks}
use Rattle.capture.proofs.view.PartsMemory.read.Goals as goal

pub returns-in-Some : goal.returns-in-Some
returns-in-Some c = λ reader. front_has _ _ _ _ (sym (c.read_front.ensures reader) ∙ c.in-Some.is)

pub returns-in-None : goal.returns-in-None
returns-in-None c = λ reader. c.read_parts.ensures reader ∙ front_lacks _ _ _ _ (sym (c.read_front.ensures reader) ∙ c.in-None.is)
