-- Promises of a batch.
-- Assumes nothing.
use mathlib.Core.Path.{◌≡◌, refl, sym, ap, ◌∙◌}
use mathlib.Core.List.{List, [], ◌∷◌, map}
use Prim.Native.Nat.{ℕ, ◌≤◌}
use lib.ListN.{length}
use Rattle.bits.specs.Bits.{pick}
use Rattle.reads.specs.Program.{Request, Outcome, reached, stopped, run, reads, All, nil, cons}
use Rattle.std.specs.Prelude.{Option, Err, Ok}
use Rattle.access.specs.declared.Access.{Access}
use Rattle.descriptor.specs.declared.entry.FaultKind.{FaultKind}
use Rattle.descriptor.specs.declared.entry.FaultKind.TheVariants as F
use Rattle.capture.specs.Capture.{any_high, SameBytes}
use Rattle.layout.specs.Layout.{Form, layout, parts_of, captured, SameBounds}
use Rattle.walk.specs.declared.stop.Stop.{Stop}
use Rattle.walk.specs.declared.stop.Stop.TheVariants as S
use Rattle.walk.specs.declared.stage2.Stage2.{Stage2}
use Rattle.stages.specs.Stages.{access}
use Rattle.stages.specs.declared.stage1.Stage1.{Stage1}
use Rattle.stages.specs.declared.both.Translation.{Translation}
use Rattle.regime.specs.Roots.{stage1, stage2}
use Rattle.answers.specs.Answers.{answer, fault_number, number}
use Rattle.answers.specs.Refusals.{log_words, verdict, Verdict, accepts}
use Rattle.answers.specs.Question.{common, ask}
use Rattle.answers.specs.declared.Answer.{Answer}
use Rattle.answers.proofs.Refusals.{refuse_refused, refuse_accepted, by_refuse}
use Rattle.answers.proofs.Verdicts.{long_log, common_accepted}
use Rattle.answers.proofs.Counts.{is_access, counts}
use Rattle.answers.proofs.Framing.{framing}
use Rattle.answers.specs.Entries.{answer_of}
use Rattle.batch.specs.Batch.{Shared, access_to, answer_to, batch_grounds, BatchTold, answered, batch_over, batch}
use Rattle.batch.specs.Promises.{Balanced, Promised}
use Rattle.answers.proofs.Entries.{any_log}
use Rattle.answers.proofs.Tried.{same_ok}
use Rattle.ledger.proofs.Figures.{Sorted, adds_up}

-- ---- the figures add up

sorted_fault : (k : FaultKind) → Sorted (fault_number k)
unfolding pick
sorted_fault F.Translation = refl
sorted_fault F.AddressSize = refl
sorted_fault F.AccessFlag = refl
sorted_fault F.Permission = refl

sorted_outcome : (n : ℕ) (o : Outcome Stop Translation) → Sorted (number (answer n o))
unfolding pick number answer
sorted_outcome n (reached t) = refl
sorted_outcome n (stopped (S.Fault f)) = sorted_fault f.kind
sorted_outcome n (stopped (S.Misaligned s)) = refl
sorted_outcome n (stopped (S.Absent m)) = refl
sorted_outcome n (stopped (S.Unsettled o)) = refl

sorted_answer : (m : Request → Option ℕ) (s1 : Stage1) (s2 : Stage2) (a : Access) → Sorted (number (answer_of m s1 s2 a))
unfolding answer_of
sorted_answer m s1 s2 a = sorted_outcome (length (reads m (access s1 s2 a))) (run m (access s1 s2 a))

sorted_all : (f : ℕ → Answer) → ((a : ℕ) → Sorted (number (f a))) → (l : List ℕ) → All Sorted (map number (map f l))
sorted_all f h [] = nil
sorted_all f h (a ∷ l) = cons (h a) (sorted_all f h l)

-- ---- each entry is a question

module _ (form : Form) (file : List ℕ) (s : Shared) where
  asks : verdict (common form file s.el2 s.el1 s.kind s.el s.size) ≡ accepts → (log : List ℕ) → log_words ≤ length log → (a : ℕ) →
      Ok (answer_to (captured form file) s a) ≡ (ask form file s.el2 s.el1 (access_to s a) log).answer
  asks e log long a =
      sym (any_log (captured form file) (stage1 s.el2 s.el1) (stage2 s.el2) (access_to s a) log)
      ∙ sym (ap (λ t. t.answer) (is_access form file s.el2 s.el1 (access_to s a) log (long_log (length log) form file s.el2 s.el1 (access_to s a) long ∙ e)))

-- ---- framing

same_map : (f g : ℕ → Answer) {P : ℕ → Type 0} → ((a : ℕ) → P a → f a ≡ g a) → {l : List ℕ} → All P l → map f l ≡ map g l
same_map f g h nil = refl
same_map f g h (cons p t) = rw (h _ p, same_map f g h t)

module _ (form : Form) (file file' : List ℕ) (s : Shared) (addresses outputs numbers log : List ℕ) (long : log_words ≤ length log) (bounds : SameBounds form file file')
    (same : All (λ a. All (λ q. SameBytes (parts_of form file) file file' q.address 8) (ask form file s.el2 s.el1 (access_to s a) log).reads) addresses) where
  by_verdict : (v : Verdict) → verdict (batch_grounds (layout form file).unreadable (any_high (layout form file).banks) s (length addresses) (length outputs) (length numbers)) ≡ v →
      batch form file' s addresses outputs numbers ≡ batch form file s addresses outputs numbers
  unfolding batch batch_over
  by_verdict (Err why) e = refuse_refused _ _ _ why (rw bounds.layout at e) ∙ sym (refuse_refused _ _ _ why e)
  by_verdict (Ok tt) e =
      let each = common_accepted _ _ _ e in
      refuse_accepted _ _ _ (rw bounds.layout at e)
      ∙ ap answered
      (same_map _ _
      (λ a h. same_ok (asks form file' s (rw bounds.layout at each) log long a ∙ ap (λ t. t.answer) ((framing form file file' s.el2 s.el1 (access_to s a) log).framed bounds h) ∙ sym (asks form file s each log long a)))
      same)
      ∙ sym (refuse_accepted _ _ _ e)

pub promised : (form : Form) (file : List ℕ) (s : Shared) (addresses outputs numbers : List ℕ) → Promised form file s addresses outputs numbers
unfolding batch batch_over answered
promised form file s addresses outputs numbers =
    record {
      balanced = by_refuse (λ (t : BatchTold). Balanced t.answer) _ _ _ (λ why. tt) (adds_up _ (sorted_all _ (λ a. sorted_answer _ _ _ _) addresses));
      asks = asks form file s;
      counted = λ log a. counts form file s.el2 s.el1 (access_to s a) log;
      framed = λ file' log long bounds same. by_verdict form file file' s addresses outputs numbers log long bounds same _ refl;
    }
