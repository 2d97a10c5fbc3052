-- `any_high` meets its contract: each bank decides.
-- Assumes nothing.
use Rattle.std.proofs.Common.{◌∙◌, rules, tests}
use Rattle.std.proofs.lemmas.Iterator.{YieldsList-from_slice}
use Rattle.std.proofs.lemmas.Iterator.Search.{any_from_yields_List}
use Rattle.capture.specs.Capture.{ends_high}
use Rattle.capture.specs.declared.Bank.{Bank}
use Rattle.layout.proofs.Recursions.{any_high_is}
use Rattle.layout.proofs.any_high.Goals as goal

pub returns : goal.returns
returns c =
    let banks = c.args.banks.now in
    any_from_yields_List (λ (b : Bank). ends_high b.address b.size) _ _ _ c.any.ensures.ran (YieldsList-from_slice banks cc) (λ x b q k. search (rules, tests))
    ∙ any_high_is banks
