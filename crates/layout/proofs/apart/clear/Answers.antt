-- `clear` meets its contract: each bank decides.
-- Assumes nothing.
use Rattle.std.proofs.Common.{◌∙◌, not, rules, tests}
use Rattle.std.proofs.lemmas.Iterator.{YieldsList-from_slice}
use Rattle.std.proofs.lemmas.Iterator.Search.{all_from_yields_List}
use Rattle.capture.specs.Capture.{part}
use Rattle.capture.specs.declared.Bank.{Bank}
use Rattle.layout.specs.Elf.{meets}
use Rattle.layout.proofs.Recursions.{clear_is}
use Rattle.layout.proofs.apart.clear.Goals as goal

pub returns : goal.returns
returns c =
    let a = c.args in
    all_from_yields_List (λ (b : Bank). not (meets a.from a.to (part a.total b))) _ _ _ c.all.ensures.ran (YieldsList-from_slice a.banks.now cc) (λ x b q k. search (rules, tests))
    ∙ clear_is a.from a.to a.total a.banks.now
