-- `listed_tables` meets its contract: a table that is clean leaves the answer to those after it.
-- Assumes nothing.
use mathlib.Core.Path.{◌≡◌}
use mathlib.Core.List.{◌∷◌, []}
use Prim.Native.Nat.{◌-◌, ◌*◌, ◌≤◌}
use native.Mathlib.Nat.{mul-le-mul}
use native.Mathlib.Omega.{arith}
use lib.ListN.{length-append}
use Rattle.std.proofs.lemmas.Result.{err_from_is_err_and}
use Rattle.lists.proofs.Pairs.{turn, over, tables_within}
use Rattle.audit.proofs.Calls.{listing_next, listing_found, listing_over}
use Rattle.audit.proofs.table.Auditor.listed_tables.Goals as goal

pub overflow_sub-level : goal.overflow_sub-level
overflow_sub-level c =
    let at = turn c.into_iter-table-iterator.ensures.into_iter_gives c.zip-table-items.ensures.first c.iter.ensures.rest c.zip-table-items.ensures.second.0 c.loop-table.yielded c.loop-table.table-iterator c.loop-table.yielded_by c.next.result c.next.new.self c.next.ensures.steps (c.in-Some.table, c.in-Some.level) c.in-Some.is in
    omega (arith, (tables_within _ _ c.args.self.now.lists.tables.formed _ _ at.0 at.1).2)

pub one_table-requires : goal.one_table-requires
one_table-requires c =
    let at = turn c.into_iter-table-iterator.ensures.into_iter_gives c.zip-table-items.ensures.first c.iter.ensures.rest c.zip-table-items.ensures.second.0 c.loop-table.yielded c.loop-table.table-iterator c.loop-table.yielded_by c.next.result c.next.new.self c.next.ensures.steps (c.in-Some.table, c.in-Some.level) c.in-Some.is in
    let bounds = tables_within _ _ c.args.self.now.lists.tables.formed _ _ at.0 at.1 in
    let n : 4 - c.in-Some.level.now - 1 ≡ 3 - c.in-Some.level.now = omega arith in
    let few : 3 - c.in-Some.level.now ≤ 2 = omega (arith, bounds.1) in
    let low : c.args.geometry.stride * (3 - c.in-Some.level.now) ≤ 13 * 2 = mul-le-mul c.requires.1 few in
    record {
      some = omega (arith, bounds.2);
      levels = omega (arith, bounds.1);
      bits = omega (arith, c.requires.1);
      base = bounds.0;
      grainsize = c.requires.0;
      stride = c.requires.1;
      block = c.requires.2;
      shift = rw n (omega (arith, c.requires.0, low));
    }

pub loop-table-preserved : goal.loop-table-preserved
loop-table-preserved c =
    let at = turn c.into_iter-table-iterator.ensures.into_iter_gives c.zip-table-items.ensures.first c.iter.ensures.rest c.zip-table-items.ensures.second.0 c.loop-table.yielded c.loop-table.table-iterator c.loop-table.yielded_by c.next.result c.next.new.self c.next.ensures.steps (c.in-Some.table, c.in-Some.level) c.in-Some.is in
    let n : 4 - c.in-Some.level.now - 1 ≡ 3 - c.in-Some.level.now = omega arith in
    listing_next c.loop-table.invariant _ at.0 at.1 _ n _ (length-append c.loop-table.yielded ((c.in-Some.table, c.in-Some.level) ∷ [])) c.in_ok-one_table.ensures

pub returns-in_err-one_table : goal.returns-in_err-one_table
returns-in_err-one_table c =
    let at = turn c.into_iter-table-iterator.ensures.into_iter_gives c.zip-table-items.ensures.first c.iter.ensures.rest c.zip-table-items.ensures.second.0 c.loop-table.yielded c.loop-table.table-iterator c.loop-table.yielded_by c.next.result c.next.new.self c.next.ensures.steps (c.in-Some.table, c.in-Some.level) c.in-Some.is in
    let n : 4 - c.in-Some.level.now - 1 ≡ 3 - c.in-Some.level.now = omega arith in
    let p = err_from_is_err_and c.from_residual.result c.from_residual.ensures.1 in
    rw (p.1, p.2) (listing_found c.loop-table.invariant _ at.0 at.1 _ n _ c.in_err-one_table.ensures)

pub returns : goal.returns
returns c =
    listing_over c.loop-table.invariant
    (over c.into_iter-table-iterator.ensures.into_iter_gives c.zip-table-items.ensures.first c.iter.ensures.rest c.zip-table-items.ensures.second.0 c.loop-table.yielded c.loop-table.table-iterator c.loop-table.yielded_by c.next.result c.next.new.self c.next.ensures.steps c.in-None.is)
