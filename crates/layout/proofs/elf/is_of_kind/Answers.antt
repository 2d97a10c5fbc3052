-- `is_of_kind` meets its contract.
-- Assumes nothing.
use Rattle.layout.specs.Elf.{of_kind}
use Rattle.layout.proofs.elf.is_of_kind.Goals as goal

pub returns : goal.returns
unfolding of_kind
returns c = cc
