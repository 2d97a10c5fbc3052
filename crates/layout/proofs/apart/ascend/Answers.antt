-- `ascend` meets its contract: each bank and the next decide.
-- Assumes nothing.
use Rattle.std.proofs.Common.{rules}
use Rattle.std.proofs.lemmas.List.Sorted.{answers_always}
use Rattle.layout.proofs.Recursions.{ends, ascend_is}
use Rattle.layout.proofs.apart.ascend.Goals as goal

pub returns : goal.returns
returns c = ascend_is c.args.banks.now c.is_sorted_by.result (c.is_sorted_by.ensures.cases ends (answers_always _ _ _ (λ f a r g h. search rules)))
