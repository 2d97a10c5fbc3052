-- `over` meets its contract: the verdict, and then the accesses.
-- Assumes nothing.
use Rattle.std.proofs.Common.{sym, ◌∙◌, arith, false}
use Rattle.std.specs.Option.{is_none}
use Rattle.std.proofs.lemmas.Result.{err_from_is_err_and}
use Rattle.answers.proofs.Refusals.{accepted_settings, accepted_size}
use Rattle.answers.proofs.Tried.{tried_ok, tried_err}
use Rattle.batch.specs.Batch.{sharing}
use Rattle.batch.proofs.Telling.{equal_lists, refused_lists, equal_own, tells_refused, tells_filled, filled_by}
use Rattle.batch.proofs.over.Goals as goal

pub returns-then-unequal : goal.returns-then-unequal
returns-then-unequal g c = λ m finds.
    let z = c.args in
    tells_refused _ _ _ _ _ _ (refused_lists (is_none z.memory) (sharing z.r z.g z.kind z.el z.size) z.addresses.now z.outputs.now z.numbers.now (sym c.unequal.ensures ∙ c.if-unequal.true))

pub returns-in_err-memory : goal.returns-in_err-memory
returns-in_err-memory g c =
    let p = err_from_is_err_and c.from_residual.result c.from_residual.ensures.1 in
    let z = c.args in
    rw (p.1, p.2)
    (λ m finds. tells_refused _ _ _ _ _ _
    (equal_own (is_none z.memory) (sharing z.r z.g z.kind z.el z.size) z.addresses.now z.outputs.now z.numbers.now (sym c.unequal.ensures ∙ c.if-unequal.false)
    ∙ tried_err z.r z.g z.kind z.el z.size z.memory (sym c.accepted.ensures ∙ c.in_err-memory.was)))

pub prepared1-p-requires : goal.prepared1-p-requires
prepared1-p-requires g c =
    let z = c.args in
    let accepted = tried_ok z.r z.g z.kind z.el z.size z.memory (sym c.accepted.ensures ∙ c.in_ok-memory.was) in
    accepted_settings _ _ _ z.kind z.el z.size accepted.1

pub each-requires : goal.each-requires
each-requires g c =
    let z = c.args in
    let accepted = tried_ok z.r z.g z.kind z.el z.size z.memory (sym c.accepted.ensures ∙ c.in_ok-memory.was) in
    let equal = equal_lists _ _ _ (sym c.unequal.ensures ∙ c.if-unequal.false) in
    (accepted_size _ _ _ z.kind z.el z.size accepted.1, omega arith, equal.0, equal.1)

pub returns : goal.returns
returns g c = λ m finds.
    let z = c.args in
    let accepted = tried_ok z.r z.g z.kind z.el z.size z.memory (sym c.accepted.ensures ∙ c.in_ok-memory.was) in
    let own = equal_own false (sharing z.r z.g z.kind z.el z.size) z.addresses.now z.outputs.now z.numbers.now (sym c.unequal.ensures ∙ c.if-unequal.false) ∙ accepted.1 in
    let same = rw accepted.0 at finds in
    let filled = filled_by m (sharing z.r z.g z.kind z.el z.size) (accepted_settings _ _ _ z.kind z.el z.size accepted.1) z.addresses.now (λ i less. omega (arith, c.type_inv.addresses i)) c.prepared1-p.ensures c.prepared2-q.ensures (rw same at c.each.ensures) c.count.ensures in
    rw accepted.0 (tells_filled _ _ _ _ _ _ own filled)
