-- `read_front` meets its contract: the part's bytes, which stand at its address.
-- Assumes nothing.
use Rattle.std.proofs.Common.{◌∙◌}
use Rattle.capture.proofs.Searches.{alone}
use Rattle.capture.proofs.read_front.Goals as goal

pub returns : goal.returns
returns c = λ reader. c.read_bytes.ensures ∙ alone _ c.args.file.now c.requires.lies _
