-- `write_banks` meets its contract: what is stored from the i-th header on is what is stored from the start.
-- Assumes nothing.
use Rattle.layout.proofs.Banks.{Writing}
use Rattle.layout.proofs.elf.Headers.write_banks.Given as goal

abbrev pub invariant-loop-i : goal.invariant-loop-i
invariant-loop-i l = Writing l.file l.fn.self l.initial.banks l.banks l.count l.i
