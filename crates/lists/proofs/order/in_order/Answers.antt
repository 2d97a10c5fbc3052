-- `in_order` meets its contract: a pair that fits and is led by the last leaves the verdict to those after it.
-- Assumes nothing.
use mathlib.Core.Path.{sym, ◌∙◌}
use mathlib.Core.List.{◌∷◌, []}
use lib.ListN.{length-append}
use Rattle.lists.proofs.Pairs.{turn, over}
use Rattle.lists.proofs.Orders.{unfit, unled, goes_first, goes_on, all_ordered}
use Rattle.lists.proofs.order.in_order.Goals as goal

pub returns-then-not-fits : goal.returns-then-not-fits
returns-then-not-fits g c =
    let at = turn c.into_iter-first-iterator.ensures.into_iter_gives c.zip-first-items.ensures.first c.iter.ensures.rest c.zip-first-items.ensures.second.0 c.loop-first.yielded c.loop-first.first-iterator c.loop-first.yielded_by c.next.result c.next.new.self c.next.ensures.steps (c.in-Some.first, c.in-Some.second) c.in-Some.is in
    unfit _ _ _ _ _ c.loop-first.invariant.2 (c.in-Some.first.now, c.in-Some.second.now) at.0 at.1 (sym c.fits.ensures ∙ c.if-not-fits.true)

pub returns-then-not-leads : goal.returns-then-not-leads
returns-then-not-leads g c =
    let at = turn c.into_iter-first-iterator.ensures.into_iter_gives c.zip-first-items.ensures.first c.iter.ensures.rest c.zip-first-items.ensures.second.0 c.loop-first.yielded c.loop-first.first-iterator c.loop-first.yielded_by c.next.result c.next.new.self c.next.ensures.steps (c.in-Some.first, c.in-Some.second) c.in-Some.is in
    unled _ _ _ _ _ c.loop-first.invariant.2 (c.in-Some.first.now, c.in-Some.second.now) at.0 at.1 _ c.in-Some-last.is (sym c.leads.ensures ∙ c.if-not-leads.true)

pub loop-first-preserved-else-not-leads : goal.loop-first-preserved-else-not-leads
loop-first-preserved-else-not-leads g c =
    let at = turn c.into_iter-first-iterator.ensures.into_iter_gives c.zip-first-items.ensures.first c.iter.ensures.rest c.zip-first-items.ensures.second.0 c.loop-first.yielded c.loop-first.first-iterator c.loop-first.yielded_by c.next.result c.next.new.self c.next.ensures.steps (c.in-Some.first, c.in-Some.second) c.in-Some.is in
    let more = length-append c.loop-first.yielded ((c.in-Some.first, c.in-Some.second) ∷ []) in
    ((tt, tt), tt, goes_on _ _ _ _ _ c.loop-first.invariant.2 (c.in-Some.first.now, c.in-Some.second.now) at.0 at.1 _ more (sym c.fits.ensures ∙ c.if-not-fits.false) _ c.in-Some-last.is (sym c.leads.ensures ∙ c.if-not-leads.false))

pub loop-first-preserved : goal.loop-first-preserved
loop-first-preserved g c =
    let at = turn c.into_iter-first-iterator.ensures.into_iter_gives c.zip-first-items.ensures.first c.iter.ensures.rest c.zip-first-items.ensures.second.0 c.loop-first.yielded c.loop-first.first-iterator c.loop-first.yielded_by c.next.result c.next.new.self c.next.ensures.steps (c.in-Some.first, c.in-Some.second) c.in-Some.is in
    let more = length-append c.loop-first.yielded ((c.in-Some.first, c.in-Some.second) ∷ []) in
    ((tt, tt), tt, goes_first _ _ _ _ _ c.loop-first.invariant.2 (c.in-Some.first.now, c.in-Some.second.now) at.0 at.1 _ more (sym c.fits.ensures ∙ c.if-not-fits.false) c.in_default.is)

pub returns : goal.returns
returns g c =
    all_ordered _ _ _ _ _ c.loop-first.invariant.2
    (over c.into_iter-first-iterator.ensures.into_iter_gives c.zip-first-items.ensures.first c.iter.ensures.rest c.zip-first-items.ensures.second.0 c.loop-first.yielded c.loop-first.first-iterator c.loop-first.yielded_by c.next.result c.next.new.self c.next.ensures.steps c.in-None.is)
