-- `over` meets its contract: the verdict, and then the access.
-- Assumes nothing.
use Rattle.std.proofs.Common.{sym, ◌∙◌}
use Rattle.std.proofs.lemmas.Result.{err_from_is_err_and}
use Rattle.answers.proofs.Refusals.{accepted_settings, accepted_size}
use Rattle.answers.proofs.Tried.{tried_ok, tried_err}
use Rattle.question.proofs.Telling.{tells_short, tells_refused, tells_ran}
use Rattle.question.proofs.over.Goals as goal

pub returns-then-log-lt-LOG_WORDS : goal.returns-then-log-lt-LOG_WORDS
returns-then-log-lt-LOG_WORDS g c = λ m finds. tells_short _ _ _ _ _ _ c.if-log-lt-LOG_WORDS.true

pub returns-in_err-memory : goal.returns-in_err-memory
returns-in_err-memory g c =
    let p = err_from_is_err_and c.from_residual.result c.from_residual.ensures.1 in
    let a = c.args.a in
    rw (p.1, p.2)
    (λ m finds. tells_refused _ _ _ _ _ _ c.if-log-lt-LOG_WORDS.false (tried_err c.args.r c.args.g a.kind a.el a.size c.args.memory (sym c.accepted.ensures ∙ c.in_err-memory.was)))

pub invariant_of-sized : goal.invariant_of-sized
invariant_of-sized g c =
    let a = c.args.a in
    let accepted = tried_ok c.args.r c.args.g a.kind a.el a.size c.args.memory (sym c.accepted.ensures ∙ c.in_ok-memory.was) in
    record { sized = accepted_size _ _ _ a.kind a.el a.size accepted.1 }

pub arrival-requires : goal.arrival-requires
arrival-requires g c =
    let a = c.args.a in
    let accepted = tried_ok c.args.r c.args.g a.kind a.el a.size c.args.memory (sym c.accepted.ensures ∙ c.in_ok-memory.was) in
    (accepted_settings _ _ _ a.kind a.el a.size accepted.1, c.if-log-lt-LOG_WORDS.false)

pub returns : goal.returns
returns g c = λ m finds.
    let a = c.args.a in
    let accepted = tried_ok c.args.r c.args.g a.kind a.el a.size c.args.memory (sym c.accepted.ensures ∙ c.in_ok-memory.was) in
    let same = rw accepted.0 at finds in
    rw accepted.0 (tells_ran _ _ _ _ _ _ c.if-log-lt-LOG_WORDS.false accepted.1 (rw same at c.arrival.ensures) c.answer_of.ensures)
