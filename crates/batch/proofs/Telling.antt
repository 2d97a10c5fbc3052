-- What a call gives where a batch is refused, and where it is not.
-- Assumes nothing.
use mathlib.Core.Path.{◌≡◌, refl, sym, ap, ◌∙◌}
use mathlib.Core.Bool.{Bool, true, false, not, ◌||◌, true≢false}
use mathlib.Core.List.{List, map}
use Prim.Native.Nat.{ℕ, ◌^◌, ◌≤◌, ◌<◌}
use lib.Dec.{ltb, eqb}
use lib.ListN.{length, get_or}
use borrow.Author.Tests.{eqb-true, ltb-false}
use Rattle.bits.specs.Bits.{pick}
use Rattle.reads.specs.Program.{Request}
use Rattle.std.specs.Prelude.{Option, Result, Ok, Err}
use Rattle.layout.specs.Elf.{is_core}
use Rattle.capture.specs.Capture.{any_high}
use Rattle.layout.specs.Elf.{banks}
use Rattle.layout.specs.Layout.{raw, core, layout, captured}
use Rattle.answers.specs.Refusals.{refuse, verdict, shared, Verdict, accepts}
use Rattle.answers.specs.declared.Refusal.{Refusal}
use Rattle.answers.specs.declared.Refusal.TheVariants.{BatchLists, CoreFile}
use Rattle.answers.proofs.Refusals.{refuse_refused, refuse_accepted}
use Rattle.settings.specs.Settings.{settings}
use Rattle.walk.specs.declared.stage2.Stage2.{Stage2}
use Rattle.stages.specs.declared.stage1.Stage1.{Stage1}
use Rattle.stages.specs.declared.both.Arrival.{Arrival}
use Rattle.regime.specs.Roots.{stage1, stage2}
use Rattle.regime.specs.Calls.{narrowed1, narrowed2}
use Rattle.regime.proofs.Narrowed.{access_narrowed}
use Rattle.answers.specs.Answers.{number}
use Rattle.answers.specs.Entries.{answer_of, output_of}
use Rattle.answers.specs.declared.Answer.{Answer}
use Rattle.accesses.specs.Calls.{Each}
use Rattle.accesses.proofs.Lists.{answers_same}
use Rattle.ledger.specs.Ledger.{ledger}
use Rattle.ledger.specs.declared.Ledger.{Ledger}
use Rattle.batch.specs.Batch.{Shared, access_to, answer_to, unequal, batch_grounds, BatchTold, answered, batch_over, batch}
use Rattle.batch.specs.Promises.{BatchTells}
use Rattle.batch.specs.Calls.{Filled}

-- lists that are not unequal
pub equal_lists : (asked outputs numbers : ℕ) → unequal asked outputs numbers ≡ false → (outputs ≡ asked) × (numbers ≡ asked) × (asked ≤ 4096)
equal_lists asked outputs numbers = by_tests (eqb asked outputs) (eqb asked numbers) (ltb 4096 asked) (eqb-true asked outputs) (eqb-true asked numbers) (ltb-false 4096 asked)
  where
    by_tests : (b c d : Bool) → (b ≡ true → asked ≡ outputs) → (c ≡ true → asked ≡ numbers) → (d ≡ false → asked ≤ 4096) → (not b || not c || d) ≡ false →
        (outputs ≡ asked) × (numbers ≡ asked) × (asked ≤ 4096)
    by_tests false c d p q r e = absurd (true≢false e)
    by_tests true false d p q r e = absurd (true≢false e)
    by_tests true true d p q r e = (sym (p refl), sym (q refl), r e)

module _ (high : Bool) (s : Shared) (addresses outputs numbers : List ℕ) where
  -- whether it is refused, and why
  abbrev pub own : Verdict
  own = verdict (batch_grounds false high s (length addresses) (length outputs) (length numbers))

  -- by its own lists, or by what a question is refused for too
  pub refused_lists : unequal (length addresses) (length outputs) (length numbers) ≡ true → own ≡ Err BatchLists
  unfolding refuse pick
  refused_lists e = rw e

  pub equal_own : unequal (length addresses) (length outputs) (length numbers) ≡ false → own ≡ verdict (shared high s.el2 s.el1 s.kind s.el s.size)
  unfolding refuse pick
  equal_own e = rw e

  module _ (m : Request → Option ℕ) where
    abbrev pub given : BatchTold
    given = batch_over m false high s addresses outputs numbers

    told_as : {t : BatchTold} → given ≡ t → BatchTells given t.answer t.outputs t.numbers
    told_as e = record { answered = sym (ap (λ (z : BatchTold). z.answer) e); placed = sym (ap (λ (z : BatchTold). z.outputs) e); numbered = sym (ap (λ (z : BatchTold). z.numbers) e) }

    pub tells_refused : {why : Refusal} → own ≡ Err why → BatchTells given (Err why) outputs numbers
    unfolding batch_over
    tells_refused e = told_as (refuse_refused _ _ _ _ e)

    pub tells_filled : {l : Ledger} {outputs' numbers' : List ℕ} → own ≡ accepts → Filled (answer_to m s) addresses l outputs' numbers' → BatchTells given (Ok l) outputs' numbers'
    unfolding batch_over answered
    tells_filled accepted f =
        let t : given ≡ answered (map (answer_to m s) addresses) = refuse_accepted _ _ _ accepted in
        record {
          answered = ap Ok f.figures ∙ sym (ap (λ (z : BatchTold). z.answer) t);
          placed = f.placed ∙ sym (ap (λ (z : BatchTold). z.outputs) t);
          numbered = f.numbered ∙ sym (ap (λ (z : BatchTold). z.numbers) t);
        }

-- lists that were filled by the stages as they were prepared
module _ (m : Request → Option ℕ) (s : Shared) (accepted : settings s.el2 s.el1 ≡ 0) (addresses : List ℕ) (fit : (i : ℕ) → i < length addresses → get_or addresses i 0 < 2 ^ 64)
    {s1 : Stage1} {s2 : Stage2} (one : s1 ≡ narrowed1 s.el2 s.el1) (two : s2 ≡ narrowed2 s.el2) where
  alike : (f : Answer → ℕ) → map (λ x. f (answer_of m s1 s2 (access_to s x))) addresses ≡ map f (map (answer_to m s) addresses)
  alike f =
      answers_same m s1 (stage1 s.el2 s.el1) s2 (stage2 s.el2) (access_to s) f addresses
      (λ i less. rw (one, two) (access_narrowed s.el2 s.el1 accepted (access_to s (get_or addresses i 0)) (fit i less)))

  pub filled_by : {l : Ledger} {last : Arrival} {log log' outputs' numbers' : List ℕ} →
      Each m s1 s2 (access_to s) addresses log last outputs' numbers' log' → l ≡ ledger numbers' → Filled (answer_to m s) addresses l outputs' numbers'
  filled_by e figures =
      let n = e.numbered ∙ alike number in
      record { figures = figures ∙ ap ledger n; placed = e.placed ∙ alike output_of; numbered = n }

-- ---- the batch over a file, as code runs it

module _ (s : Shared) (addresses outputs numbers : List ℕ) {answer : Result Ledger Refusal} {outputs' numbers' : List ℕ} {high : Bool} where
  pub raw_tells : (base : ℕ) (file : List ℕ) → high ≡ any_high (layout (raw base) file).banks →
      BatchTells (batch_over (captured (raw base) file) false high s addresses outputs numbers) answer outputs' numbers' →
      BatchTells (batch (raw base) file s addresses outputs numbers) answer outputs' numbers'
  unfolding batch layout
  raw_tells base file h t = rw h at t

  pub core_tells : (file : List ℕ) → is_core file ≡ true → high ≡ any_high (banks file) →
      BatchTells (batch_over (captured core file) false high s addresses outputs numbers) answer outputs' numbers' →
      BatchTells (batch core file s addresses outputs numbers) answer outputs' numbers'
  unfolding batch layout
  core_tells file e h t = rw e (rw h at t)

-- one that is not accepted
pub core_refused : (file : List ℕ) (s : Shared) (addresses outputs numbers : List ℕ) → is_core file ≡ false →
    BatchTells (batch core file s addresses outputs numbers) (Err CoreFile) outputs numbers
unfolding batch batch_over layout refuse pick
core_refused file s addresses outputs numbers e = rw e (record { answered = refl; placed = refl; numbered = refl })
