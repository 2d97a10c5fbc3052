-- `of_question` meets its contract: the first items decide where one fails, then item 4, then the others.
-- Assumes nothing.
use mathlib.Core.Path.{◌≡◌, refl}
use mathlib.Core.Bool.{true, false, ◌&&◌}
use mathlib.Core.List.{[]}
use Rattle.std.proofs.lemmas.Result.{err_from_is_err_and}
use Rattle.bits.specs.Bits.{pick}
use Rattle.settings.specs.Settings.{first_failing, first_items, item4_el1, item4_el2, settings}
use Rattle.settings.proofs.Items.{first_fails, first_hold, numbered}
use Rattle.settings.proofs.of_question.Goals as goal

pub returns-in_err-first_items : goal.returns-in_err-first_items
unfolding settings numbered pick
returns-in_err-first_items c =
    let p = err_from_is_err_and c.from_residual.result c.from_residual.ensures.1 in
    rw (p.1, p.2) (first_fails _ (first_items c.args.r []) _ refl c.in_err-first_items.ensures)

pub returns : goal.returns
unfolding settings first_failing numbered pick
returns c =
    let little : (item4_el1 c.args.r c.args.g && item4_el2 c.args.r) ≡ true = cc in
    rw (first_hold (first_items c.args.r []) _ refl c.in_ok-first_items.ensures, little) c.stage_items.ensures

pub returns-then-not-little : goal.returns-then-not-little
unfolding settings first_failing numbered pick
returns-then-not-little c =
    let big : (item4_el1 c.args.r c.args.g && item4_el2 c.args.r) ≡ false = cc in
    rw (first_hold (first_items c.args.r []) _ refl c.in_ok-first_items.ensures, big)
