-- `any` meets its contract: where no pair before passes, those from here on decide.
-- Assumes nothing.
use mathlib.Core.Path.{sym, ◌∙◌}
use native.Mathlib.Omega.{arith}
use lib.ListN.{get_or}
use Rattle.lists.specs.Lists.{zip}
use Rattle.lists.proofs.Pairs.{pair_at, pairs_long}
use Rattle.lists.proofs.Searches.{search_next, search_found, search_over}
use Rattle.lists.proofs.search.any.Goals as goal

pub bounds-seconds-i : goal.bounds-seconds-i
bounds-seconds-i g c = omega (arith, c.requires.1)

pub returns-then-passes : goal.returns-then-passes
returns-then-passes g c =
    let z = c.args in
    let i = c.loop-i.i in
    let less = c.loop-i-test.true in
    search_found g.test (zip z.firsts.now z.seconds.now) i c.loop-i.invariant (get_or z.firsts.now i 0, get_or z.seconds.now i 0) (omega (arith, pairs_long z.firsts.now z.seconds.now c.requires.1.0))
    (pair_at z.firsts.now z.seconds.now i less (omega (arith, c.requires.1.0)) _) (sym c.if-passes.true ∙ c.requires.1.1.1 i _ less c.passes.ensures)

pub loop-i-preserved : goal.loop-i-preserved
loop-i-preserved g c =
    let z = c.args in
    let i = c.loop-i.i in
    let less = c.loop-i-test.true in
    search_next g.test (zip z.firsts.now z.seconds.now) i c.loop-i.invariant (get_or z.firsts.now i 0, get_or z.seconds.now i 0) (omega (arith, pairs_long z.firsts.now z.seconds.now c.requires.1.0))
    (pair_at z.firsts.now z.seconds.now i less (omega (arith, c.requires.1.0)) _) (sym c.if-passes.false ∙ c.requires.1.1.1 i _ less c.passes.ensures)

pub returns : goal.returns
returns g c =
    let z = c.args in
    search_over g.test (zip z.firsts.now z.seconds.now) c.loop-i.i c.loop-i.invariant (omega (arith, pairs_long z.firsts.now z.seconds.now c.requires.1.0))
