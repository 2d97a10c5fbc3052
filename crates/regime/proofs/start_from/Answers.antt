-- `start_from` meets its contract: its test is the definition's, by a mask.
-- Assumes nothing.
use borrow.Author.Tests.{eq-eqb, ne_eqb}
use mathlib.Core.Path.{◌≡◌, sym, ap, ◌∙◌}
use mathlib.Core.Bool.{true, false, not}
use Rattle.bits.specs.Bits.{pick, beyond}
use Rattle.descriptor.proofs.Masks.{beyond_above}
use Rattle.walk.specs.Ends.{faulted}
use Rattle.regime.specs.Roots.{root_of}
use Rattle.regime.proofs.start_from.Goals as goal

pub returns-then-register-above-ne0 : goal.returns-then-register-above-ne0
unfolding root_of pick faulted
returns-then-register-above-ne0 c =
    let outside : (let z = c.args in beyond z.register z.geometry.outputsize ≡ true) = let z = c.args in sym (beyond_above z.register z.geometry.outputsize) ∙ ap not (ne_eqb _ _ (rw c.above.ensures at c.if-register-above-ne0.true)) in
    rw outside c.nowhere.ensures

pub returns : goal.returns
unfolding root_of pick faulted
returns c =
    let inside : (let z = c.args in beyond z.register z.geometry.outputsize ≡ false) = let z = c.args in sym (beyond_above z.register z.geometry.outputsize) ∙ ap not (eq-eqb _ _ (rw c.above.ensures at c.if-register-above-ne0.false)) in
    rw (inside, ← c.table_of.ensures) c.at.ensures
