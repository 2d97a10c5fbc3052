-- `accepted` meets its contract: at each return the tests that led there decide.
-- Assumes nothing.
use Rattle.std.proofs.Common.{sym, ◌∙◌}
use Rattle.std.proofs.lemmas.Result.{err_from_is_err_and}
use Rattle.bits.specs.Bits.{pick}
use Rattle.answers.specs.Refusals.{refuse}
use Rattle.settings.specs.Settings.{settings, number, item_word}
use Rattle.settings.proofs.Items.{number_some}
use Rattle.std.proofs.Common.{ap, ◌≡◌}
use Rattle.answers.proofs.Tried.{had, lacked}
use Rattle.answers.proofs.accepted.Goals as goal

pub returns-in_err-memory : goal.returns-in_err-memory
unfolding refuse pick
returns-in_err-memory g c =
    let p = err_from_is_err_and c.from_residual.result c.from_residual.ensures.1 in
    let none = lacked c.args.memory _ _ (sym c.ok_or.ensures.value ∙ c.in_err-memory.was) in
    rw (p.1, p.2, none.1, none.0)

pub returns-in_err-of_question : goal.returns-in_err-of_question
unfolding refuse pick
returns-in_err-of_question g c =
    let p = err_from_is_err_and c.from_residual-in_err-of_question.result c.from_residual-in_err-of_question.ensures.1 in
    let item : settings c.args.r c.args.g ≡ number c.in_err-of_question.field-0.0 = sym c.of_question.ensures ∙ ap item_word c.in_err-of_question.was in
    rw (p.1, p.2, had c.args.memory _ _ (sym c.ok_or.ensures.value ∙ c.in_ok-memory.was), item, number_some c.in_err-of_question.field-0.0)

pub returns-then-listed : goal.returns-then-listed
unfolding refuse pick
returns-then-listed g c =
    let none : settings c.args.r c.args.g ≡ 0 = sym c.of_question.ensures ∙ ap item_word c.in_ok-of_question.was in
    rw (had c.args.memory _ _ (sym c.ok_or.ensures.value ∙ c.in_ok-memory.was), none, ← c.listed.ensures, c.if-listed.true)

pub returns-else-listed : goal.returns-else-listed
unfolding refuse pick
returns-else-listed g c =
    let none : settings c.args.r c.args.g ≡ 0 = sym c.of_question.ensures ∙ ap item_word c.in_ok-of_question.was in
    rw (had c.args.memory _ _ (sym c.ok_or.ensures.value ∙ c.in_ok-memory.was), none, ← c.listed.ensures, c.if-listed.false)
