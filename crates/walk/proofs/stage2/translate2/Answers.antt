-- `translate2` meets its contract: beyond the input size, at a root that is of no use, or by its walk.
-- Assumes nothing.
use Rattle.std.specs.Prelude.{Ok}
use borrow.Author.Tests.{eq-eqb, ne_eqb}
use mathlib.Core.Path.{◌≡◌, sym, ap, ◌∙◌}
use mathlib.Core.Bool.{false, not}
use native.Mathlib.Omega.{arith}
use Rattle.bits.specs.Bits.{beyond}
use Rattle.descriptor.proofs.Masks.{beyond_above}
use Rattle.attributes.specs.Attributes.{stage2_attributes}
use Rattle.walk.specs.Stage2.{uncached2}
use Rattle.walk.specs.Ends.{faulted}
use Rattle.walk.specs.Calls.{Fit, root_of, table_of}
use Rattle.walk.specs.Prepared.{stage2_of}
use Rattle.walk.proofs.Ends.{starts_usable, starts_unusable}
use Rattle.walk.proofs.Calls.{ran_outside, ran_unusable, ran_usable}
use Rattle.walk.proofs.stage2.translate2.Goals as goal

pub returns-then-ipa-above-ne0 : goal.returns-then-ipa-above-ne0
unfolding faulted
returns-then-ipa-above-ne0 g c =
    let z = c.args in
    rw c.stopped.ensures
    ((
      ran_outside _ (stage2_of z.p) z.a.access z.onwalk z.ipa (stage2_attributes (uncached2 (stage2_of z.p) z.a.access z.onwalk))
          (sym (beyond_above z.ipa z.p.inputsize) ∙ ap not (ne_eqb _ _ (rw (c.args.p.masked c.requires.1) at c.if-ipa-above-ne0.true))),
      omega arith,
    ))

pub walk2-requires : goal.walk2-requires
walk2-requires g c =
    let usable : (let p = c.args.p in (root_of p.start ≡ Ok (table_of p.start)) × Fit p.start) = starts_usable _ _ c.args.p.started (sym c.passed.ensures ∙ c.if-passed.true) in
    let p = c.requires in
    (usable.1, omega (arith, usable.1.small.levels, p.0))

pub returns-then-passed : goal.returns-then-passed
returns-then-passed g c =
    let inside : (let z = c.args in beyond z.ipa z.p.inputsize ≡ false) = let z = c.args in
    sym (beyond_above z.ipa z.p.inputsize) ∙ ap not (eq-eqb _ _ (rw (c.args.p.masked c.requires.1) at c.if-ipa-above-ne0.false)) in
    let usable : (let p = c.args.p in (root_of p.start ≡ Ok (table_of p.start)) × Fit p.start) = starts_usable _ _ c.args.p.started (sym c.passed.ensures ∙ c.if-passed.true) in
    let u = usable in (
      ran_usable _ _ _ _ _ inside u.0 c.walk2.ensures.0,
      omega (arith, u.1.small.levels, c.walk2.ensures.1),
    )

pub returns-else-passed : goal.returns-else-passed
returns-else-passed g c =
    let inside : (let z = c.args in beyond z.ipa z.p.inputsize ≡ false) = let z = c.args in
    sym (beyond_above z.ipa z.p.inputsize) ∙ ap not (eq-eqb _ _ (rw (c.args.p.masked c.requires.1) at c.if-ipa-above-ne0.false)) in
    let z = c.args in
    let u = starts_unusable _ _ c.args.p.started (sym c.passed.ensures ∙ c.if-passed.false) in
    rw c.stopped-else-passed.ensures ((ran_unusable _ (stage2_of z.p) z.a.access z.onwalk z.ipa inside (stage2_attributes (uncached2 (stage2_of z.p) z.a.access z.onwalk)) u.0 _ u.1 u.2, omega arith))
