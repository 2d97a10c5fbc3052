-- `count_banks` meets its contract: after i turns the count is how many of the first i headers are banks, and the last of those is known.
-- Assumes nothing.
use Rattle.layout.proofs.Banks.{Counting}
use Rattle.layout.proofs.elf.Headers.count_banks.Given as goal

abbrev pub invariant-loop-i : goal.invariant-loop-i
invariant-loop-i l = Counting l.file l.fn.self l.count l.last l.i
