-- `count_banks` meets its contract: after i turns the count is how many of the first i headers are banks, and the last of those is known.
-- Assumes nothing.
use mathlib.Core.Path.{sym, ◌∙◌}
use Rattle.layout.proofs.Banks.{counting_bank, counting_other, counting_done}
use Rattle.layout.proofs.elf.Headers.count_banks.Goals as goal
use Rattle.layout.proofs.elf.Headers.count_banks.Goals.{then-is_bank, else-is_bank}

pub loop-i-preserved : goal.loop-i-preserved
loop-i-preserved c =
    let inv = c.loop-i.invariant in
    let less = c.loop-i-test.true in
    let told = c.is_bank.ensures in
    elim c.if-is_bank.branch [
      | then-is_bank w ↦ rw (w.count-is, w.last-is) (counting_bank _ _ inv less (sym told ∙ w.if-is_bank.true) (c.requires _ less))
      | else-is_bank w ↦ rw (w.count-is, w.last-is) (counting_other _ _ inv less (sym told ∙ w.if-is_bank.false))
    ]

pub returns : goal.returns
returns c = counting_done _ _ c.loop-i.invariant c.loop-i-test.false
