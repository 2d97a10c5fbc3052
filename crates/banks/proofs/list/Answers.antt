-- `list` meets its contract: an accepted file's banks are written as its headers say them.
-- Assumes nothing.
use Rattle.std.proofs.Common.{◌≡◌, ℕ, sym, arith, length-take-le, rules}
use Rattle.std.specs.Prelude.{Option, Some, None, Result, Err, ok_or}
use Rattle.answers.specs.declared.Refusal.{Refusal}
use Rattle.answers.specs.declared.Refusal.TheVariants.{CoreFile}
use Rattle.std.proofs.lemmas.Result.{err_from_is_err_and}
use Rattle.bits.proofs.Tests.{told}
use Rattle.layout.proofs.Written.{refused, accepted, counted, few, used}
use Rattle.banks.proofs.Telling.{tells_core, tells_short, tells_listed}
use Rattle.banks.proofs.list.Goals as goal

-- the error in the place of nothing
why : (o : Option ℕ) (e f : Refusal) → o ≡ None → ◌≡◌ {A = Result ℕ Refusal} (Err e) (ok_or o f) → e ≡ f
why None e f n v = cc
why (Some x) e f n v = cc

pub returns-in_err-count : goal.returns-in_err-count
returns-in_err-count c =
    let none = c.in_err-count.ensures.ok_part in
    let p = err_from_is_err_and c.from_residual.result c.from_residual.ensures.1 in
    rw (p.1, p.2, why c.read_headers.result _ CoreFile none c.in_err-count.ensures.value) (tells_core _ _ _ _ _ (refused c.read_headers.ensures none))

pub returns-then-too_short : goal.returns-then-too_short
returns-then-too_short c =
    tells_short _ _ _ _ _ (accepted c.read_headers.ensures c.in_ok-count.ensures.ok_part) (told c.too_short.ensures c.if-too_short.true)

pub slice_bounds-banks-end : goal.slice_bounds-banks-end
slice_bounds-banks-end c =
    let h = few c.read_headers.ensures c.in_ok-count.ensures.ok_part in
    omega (arith, c.read_headers.auto.banks)

pub slice_bounds-write_list-end : goal.slice_bounds-write_list-end
slice_bounds-write_list-end c =
    let h = few c.read_headers.ensures c.in_ok-count.ensures.ok_part in
    sym (length-take-le _ c.read_headers.new.banks (omega (arith, c.read_headers.auto.banks)))

pub returns : goal.returns
returns c =
    let s = c.read_headers.ensures in
    let found = c.in_ok-count.ensures.ok_part in
    let said = used s found (search rules) in
    let w = c.write_list.ensures in
    tells_listed _ _ _ _ _ (accepted s found) (told c.too_short.ensures c.if-too_short.false) _ (counted s found)
    (rw said at w.0) (rw said at w.1) (rw said at w.2) (rw said at w.3)
