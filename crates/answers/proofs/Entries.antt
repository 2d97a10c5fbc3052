-- What a call that ran an access gives: the access's answer, its number and its output; and an answer depends on no log.
-- Assumes nothing.
use mathlib.Core.Path.{◌≡◌, refl, sym, ap, ap₂, ◌∙◌}
use mathlib.Core.List.{List}
use Prim.Native.Nat.{ℕ}
use native.Mathlib.Omega.{arith}
use lib.ListN.{length}
use Rattle.bits.specs.Bits.{pick}
use Rattle.reads.specs.Program.{Request, Outcome, reached, stopped, reads}
use Rattle.reads.specs.Ran.{Ran}
use Rattle.std.specs.Prelude.{Option, Ok}
use Rattle.access.specs.declared.Access.{Access}
use Rattle.walk.specs.Ends.{passed, stop_by, outcome}
use Rattle.walk.specs.declared.stop.Stage.{Stage}
use Rattle.walk.specs.declared.stop.Stop.{Stop}
use Rattle.walk.specs.declared.end.Ending.{Ending}
use Rattle.walk.specs.declared.end.Ending.TheVariants as E
use Rattle.walk.specs.declared.stage2.Stage2.{Stage2}
use Rattle.stages.specs.Stages.{access}
use Rattle.stages.specs.Calls.{arrived}
use Rattle.stages.specs.declared.stage1.Stage1.{Stage1}
use Rattle.stages.specs.declared.both.Translation.{Translation}
use Rattle.stages.specs.declared.both.Arrival.{Arrival}
use Rattle.answers.specs.Answers.{answer, number, ending_number}
use Rattle.answers.specs.Question.{told}
use Rattle.answers.specs.Entries.{answer_of, output_of}
use Rattle.answers.specs.declared.Answer.{Answer}

-- the number of an end's answer, and its output
end_number : (n : ℕ) (s : Stage) (t : Translation) (address level : ℕ) (e : Ending) → number (answer n (pick (passed e) (reached t) (stopped (stop_by s address level e)))) ≡ ending_number e
unfolding pick stop_by answer number
end_number n s t address level E.Passed = refl
end_number n s t address level E.Translation = refl
end_number n s t address level E.AddressSize = refl
end_number n s t address level E.AccessFlag = refl
end_number n s t address level E.Permission = refl
end_number n s t address level E.Misaligned = refl
end_number n s t address level E.Absent = refl
end_number n s t address level E.Unsettled = refl

end_output : (n : ℕ) (s : Stage) (t : Translation) (address level : ℕ) (e : Ending) → output_of (answer n (pick (passed e) (reached t) (stopped (stop_by s address level e)))) ≡ pick (passed e) t.address 0
unfolding pick stop_by answer output_of
end_output n s t address level E.Passed = refl
end_output n s t address level E.Translation = refl
end_output n s t address level E.AddressSize = refl
end_output n s t address level E.AccessFlag = refl
end_output n s t address level E.Permission = refl
end_output n s t address level E.Misaligned = refl
end_output n s t address level E.Absent = refl
end_output n s t address level E.Unsettled = refl

module _ (m : Request → Option ℕ) (s1 : Stage1) (s2 : Stage2) (a : Access) where
  pub ran_answer : {log log' : List ℕ} {end : ℕ} {o : Outcome Stop Translation} {r : Answer} → Ran m (access s1 s2 a) log 0 o end log' → r ≡ answer end o → r ≡ answer_of m s1 s2 a
  unfolding answer_of told
  ran_answer {end} ran e =
      let count : end ≡ length (reads m (access s1 s2 a)) = omega (arith, ran.counted) in
      e ∙ ap₂ answer count ran.outcome

  pub any_log : (log : List ℕ) → (told m log (access s1 s2 a)).answer ≡ Ok (answer_of m s1 s2 a)
  unfolding answer_of told
  any_log log = refl

  module _ (r : Arrival) {log log' : List ℕ} (ran : Ran m (access s1 s2 a) log 0 (arrived s1 s2 a r) r.end.count log') where
    pub ran_number : ending_number r.end.ending ≡ number (answer_of m s1 s2 a)
    unfolding arrived outcome
    ran_number = sym (end_number r.end.count _ _ r.end.address r.end.level r.end.ending) ∙ ap number (ran_answer ran refl)

    pub ran_output : pick (passed r.end.ending) r.end.address 0 ≡ output_of (answer_of m s1 s2 a)
    unfolding arrived outcome
    ran_output = sym (end_output r.end.count _ _ r.end.address r.end.level r.end.ending) ∙ ap output_of (ran_answer ran refl)
