-- `read_parts` meets its contract: it reads where the descriptor stands.
-- Assumes nothing.
use Rattle.std.proofs.Common.{ap, ◌∙◌}
use Rattle.std.specs.Prelude.{Some}
use Rattle.capture.proofs.Searches.{rising, nowhere, at_spot}
use Rattle.capture.proofs.read_parts.Goals as goal

pub find-requires : goal.find-requires
find-requires c = rising c.requires

pub returns-in_err-spot : goal.returns-in_err-spot
returns-in_err-spot c = λ reader. c.from_residual.ensures ∙ nowhere (c.find.ensures _ c.requires) c.in_err-spot.was reader

pub word_at-requires : goal.word_at-requires
word_at-requires c = (c.find.ensures _ c.requires).inside _ c.in_ok-spot.was

pub returns : goal.returns
returns c = λ reader. ap Some c.word_at.ensures ∙ at_spot (c.find.ensures _ c.requires) c.in_ok-spot.was reader
