-- `write_list` meets its contract: with the other banks' words written too, each list is as it is wanted.
-- Assumes nothing.
use Rattle.std.proofs.Common.{refl, ap, ◌∙◌}
use Rattle.capture.specs.Capture.{kept}
use Rattle.banks.proofs.write_list.Invariants.{next, mark}
use Rattle.banks.proofs.write_list.Goals as goal

pub loop-i-preserved : goal.loop-i-preserved
loop-i-preserved c =
    let i = c.loop-i.invariant in
    let less = c.loop-i-test.true in
    let is = c.kept-kept.ensures ∙ ap kept c.part.ensures in
    (next _ less i.0 refl, next _ less i.1 refl, next _ less i.2 is, next _ less i.3 (c.from.ensures ∙ mark _ is))
