-- `over` meets its contract: its refusals in their order, and then what the tables say.
-- Assumes nothing.
use Rattle.std.proofs.Common.{refl, ◌≡◌, sym, ap, ◌∙◌, false}
use Rattle.std.specs.Prelude.{Ok}
use Rattle.std.proofs.lemmas.Result.{err_from_is_err_and}
use Rattle.lists.specs.Lists.{zip}
use Rattle.answers.proofs.Tried.{had, lacked}
use Rattle.settings.specs.Settings.{audit_settings, number, item_word}
use Rattle.walk.specs.Calls.{Fit, table_of}
use Rattle.walk.proofs.Ends.{starts_usable, starts_unusable}
use Rattle.regime.specs.Roots.{root2}
use Rattle.audit.specs.Audit.{audit_from, audit_over}
use Rattle.audit.proofs.Calls.{carried}
use Rattle.audit.proofs.Telling.{told_high, told_item, told_lists, told_off, told_from}
use Rattle.audit.proofs.over.Goals as goal

pub returns-in_err-memory : goal.returns-in_err-memory
returns-in_err-memory c =
    let p = err_from_is_err_and c.from_residual.result c.from_residual.ensures.1 in
    let none = lacked c.args.memory _ _ (sym c.ok_or.ensures.value ∙ c.in_err-memory.was) in
    rw (p.1, p.2, none.1, none.0) (λ m finds. told_high _ _ _ _ _ _ _ refl)

pub returns-in_err-of_audit : goal.returns-in_err-of_audit
returns-in_err-of_audit c =
    let p = err_from_is_err_and c.from_residual-in_err-of_audit.result c.from_residual-in_err-of_audit.ensures.1 in
    let item : audit_settings c.args.r ≡ number c.in_err-of_audit.field-0.0 = sym c.of_audit.ensures ∙ ap item_word c.in_err-of_audit.was in
    rw (p.1, p.2, had c.args.memory _ _ (sym c.ok_or.ensures.value ∙ c.in_ok-memory.was)) (λ m finds. told_item _ _ _ _ _ _ _ refl _ item)

pub returns-in_err-lists : goal.returns-in_err-lists
returns-in_err-lists c =
    let set : audit_settings c.args.r ≡ 0 = sym c.of_audit.ensures ∙ ap item_word c.in_ok-of_audit.was in
    let malformed = rw (c.table_size-size.ensures.0, c.in_err-lists.ensures.ok_part) at c.new.ensures in
    let none = lacked c.new.result _ _ (sym c.ok_or-2.ensures.value ∙ c.in_err-lists.was) in
    let p = err_from_is_err_and c.from_residual-in_err-lists.result c.from_residual-in_err-lists.ensures.1 in
    rw (p.1, p.2, none.1, had c.args.memory _ _ (sym c.ok_or.ensures.value ∙ c.in_ok-memory.was)) (λ m finds. told_lists _ _ _ _ _ _ _ refl set malformed)

pub returns-then-not-stage2_on : goal.returns-then-not-stage2_on
returns-then-not-stage2_on c =
    let set : audit_settings c.args.r ≡ 0 = sym c.of_audit.ensures ∙ ap item_word c.in_ok-of_audit.was in
    let made = rw (c.table_size-size.ensures.0, c.in_ok-lists.ensures.ok_part) at c.new.ensures in
    rw (had c.args.memory _ _ (sym c.ok_or.ensures.value ∙ c.in_ok-memory.was))
    (λ m finds. told_off _ _ _ _ _ _ _ refl set made.0 (sym c.stage2_on.ensures ∙ c.if-not-stage2_on.true))

pub returns-then-not-passed : goal.returns-then-not-passed
unfolding audit_from
returns-then-not-passed c =
    let set : audit_settings c.args.r ≡ 0 = sym c.of_audit.ensures ∙ ap item_word c.in_ok-of_audit.was in
    let made = rw (c.table_size-size.ensures.0, c.in_ok-lists.ensures.ok_part) at c.new.ensures in
    let u = starts_unusable c.start2-start.result (root2 c.args.r) c.start2-start.ensures (sym c.passed.ensures ∙ c.if-not-passed.true) in
    let z = c.args in
    rw (had z.memory _ _ (sym c.ok_or.ensures.value ∙ c.in_ok-memory.was))
    (λ m finds.
    let told : audit_from m (zip z.grants.now z.counts.now) (zip z.tables.now z.levels.now) (root2 z.r) ≡ audit_over m false false z.r z.grants.now z.counts.now z.tables.now z.levels.now =
    told_from _ _ _ _ _ _ _ refl set made.0 (sym c.stage2_on.ensures ∙ c.if-not-stage2_on.false) in
    rw u.1 at told)

pub from_root-requires : goal.from_root-requires
from_root-requires c =
    let usable : (root2 c.args.r ≡ Ok (table_of c.start2-start.result)) × Fit c.start2-start.result = starts_usable _ _ c.start2-start.ensures (sym c.passed.ensures ∙ c.if-not-passed.false) in
    rw c.table.ensures usable.1.small

pub returns : goal.returns
returns c =
    let set : audit_settings c.args.r ≡ 0 = sym c.of_audit.ensures ∙ ap item_word c.in_ok-of_audit.was in
    let made = rw (c.table_size-size.ensures.0, c.in_ok-lists.ensures.ok_part) at c.new.ensures in
    let usable : (root2 c.args.r ≡ Ok (table_of c.start2-start.result)) × Fit c.start2-start.result = starts_usable _ _ c.start2-start.ensures (sym c.passed.ensures ∙ c.if-not-passed.false) in
    let z = c.args in
    let from = rw (made.1, made.2, made.3, made.4, c.table.ensures) at c.from_root.ensures in
    rw (had z.memory _ _ (sym c.ok_or.ensures.value ∙ c.in_ok-memory.was))
    (λ m finds.
    let told : audit_from m (zip z.grants.now z.counts.now) (zip z.tables.now z.levels.now) (root2 z.r) ≡ audit_over m false false z.r z.grants.now z.counts.now z.tables.now z.levels.now =
    told_from _ _ _ _ _ _ _ refl set made.0 (sym c.stage2_on.ensures ∙ c.if-not-stage2_on.false) in
    rw c.err.ensures.value (carried _ ∙ rw finds at from ∙ rw usable.0 at told))
