-- `word_at` meets its contract: the eight bytes from a place of the part on.
-- Assumes nothing.
use Rattle.std.proofs.Common.{◌-◌, take, drop, ◌∙◌, rules}
use Rattle.capture.proofs.Spelled.{eight}
use Rattle.capture.proofs.word_at.Goals as goal

pub returns : goal.returns
returns c =
    let s = c.args.s in
    let bytes = take (s.to - s.from) (drop s.from c.args.file.now) in
    c.word.ensures ∙ eight s.at bytes (search rules)
