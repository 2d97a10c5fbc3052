-- `write_banks` meets its contract: what is stored from the i-th header on is what is stored from the start.
-- Assumes nothing.
use mathlib.Core.Path.{sym, ◌∙◌}
use Rattle.layout.proofs.Banks.{bank_fits, writing_bank, writing_other, writing_done}
use Rattle.layout.proofs.elf.Headers.write_banks.Goals as goal
use Rattle.layout.proofs.elf.Headers.write_banks.Goals.{then-is_bank, else-is_bank}

pub bounds-banks-count : goal.bounds-banks-count
bounds-banks-count c = bank_fits _ _ c.loop-i.invariant c.loop-i-test.true (sym c.is_bank.ensures ∙ c.if-is_bank.true)

pub loop-i-preserved : goal.loop-i-preserved
loop-i-preserved c =
    let told = c.is_bank.ensures in
    elim c.if-is_bank.branch [
      | then-is_bank w ↦ rw (w.banks-is, w.count-is) (writing_bank _ _ c.loop-i.invariant _ c.loop-i-test.true (sym told ∙ w.if-is_bank.true) w.bank_at.ensures)
      | else-is_bank w ↦ rw (w.banks-is, w.count-is) (writing_other _ _ c.loop-i.invariant c.loop-i-test.true (sym told ∙ w.if-is_bank.false))
    ]

pub returns : goal.returns
returns c = writing_done _ _ c.loop-i.invariant c.loop-i-test.false
