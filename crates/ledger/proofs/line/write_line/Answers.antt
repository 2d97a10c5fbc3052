-- `write_line` meets its contract: what stands on the page is the line.
-- Assumes nothing.
use mathlib.Core.Path.{◌≡◌, ◌∙◌}
use native.Mathlib.Omega.{arith}
use Rattle.ledger.specs.Ledger.{line}
use Rattle.ledger.proofs.Fields.{whole, tells_short, tells_written}
use Rattle.ledger.proofs.line.write_line.Goals as goal

pub returns-then-buffer-size : goal.returns-then-buffer-size
returns-then-buffer-size c =
    let text : c.text-text.result.now ≡ line c.args.l = c.text-text.ensures ∙ whole c.args.l (omega arith) c.put_line.ensures in
    tells_short _ _ (rw text at c.if-buffer-size.true)

pub returns : goal.returns
returns c =
    let text : c.text-text.result.now ≡ line c.args.l = c.text-text.ensures ∙ whole c.args.l (omega arith) c.put_line.ensures in
    rw (c.copy_from_slice.ensures.after, text) (tells_written _ _ (rw text at c.if-buffer-size.false))
