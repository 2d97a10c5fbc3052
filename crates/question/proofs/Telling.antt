-- What a call gives where a question is refused, and where it is not; and so over a raw capture and over a core file.
-- Assumes nothing.
use mathlib.Core.Path.{◌≡◌, refl, sym, ap, ap₂, ◌∙◌}
use mathlib.Core.Bool.{Bool, true, false}
use mathlib.Core.List.{List}
use Prim.Native.Nat.{ℕ, ◌≤◌, ◌<◌}
use native.Mathlib.Omega.{arith}
use lib.ListN.{length}
use borrow.Author.Tests.{lt-ltb, le-ltb}
use Rattle.bits.specs.Bits.{pick}
use Rattle.bits.proofs.Tests.{pick_true, pick_false}
use Rattle.reads.specs.Program.{Request, Outcome, reads}
use Rattle.std.specs.Prelude.{Option, Err, Ok, Result}
use Rattle.reads.specs.Ran.{Ran}
use Rattle.access.specs.declared.Access.{Access}
use Rattle.layout.specs.Elf.{is_core}
use Rattle.capture.specs.Capture.{any_high}
use Rattle.layout.specs.Elf.{banks}
use Rattle.layout.specs.Layout.{raw, core, layout, captured}
use Rattle.walk.specs.declared.stop.Stop.{Stop}
use Rattle.stages.specs.Stages.{access}
use Rattle.stages.specs.declared.both.Translation.{Translation}
use Rattle.registers.specs.declared.El1.{El1}
use Rattle.registers.specs.declared.El2.{El2}
use Rattle.regime.specs.Roots.{stage1, stage2}
use Rattle.answers.specs.Answers as Answers
use Rattle.answers.specs.Refusals.{refuse, verdict, log_words, shared, Verdict, accepts}
use Rattle.answers.specs.Question.{grounds, told, turned_away, ask_over, ask, Told, Tells}
use Rattle.answers.specs.declared.Refusal.{Refusal}
use Rattle.answers.specs.declared.Refusal.TheVariants.{ShortLog, CoreFile}
use Rattle.answers.specs.declared.Answer.{Answer}
use Rattle.answers.proofs.Refusals.{refuse_refused, refuse_accepted}

module _ (m : Request → Option ℕ) (high : Bool) (r : El2) (g : El1) (a : Access) (log : List ℕ) where
  abbrev pub given : Told
  given = ask_over m false high r g a log

  refused : (why : Refusal) → verdict (grounds (length log) false high r g a) ≡ Err why → Tells given (Err why) log
  unfolding ask_over turned_away
  refused why e =
      let t = refuse_refused (turned_away log) (grounds (length log) false high r g a) (told m log (access (stage1 r g) (stage2 r) a)) why e in
      record { answered = sym (ap (λ z. z.answer) t); logged = sym (ap (λ z. z.log) t) }

  pub tells_short : length log < log_words → Tells given (Err ShortLog) log
  unfolding refuse pick
  tells_short short = refused ShortLog (pick_true _ _ _ (lt-ltb _ _ short))

  -- with a log that is long enough the verdict is what a batch is told too
  module _ (long : log_words ≤ length log) where
    abbrev own : Verdict
    own = verdict (shared high r g a.kind a.el a.size)

    is_own : verdict (grounds (length log) false high r g a) ≡ own
    unfolding refuse pick
    is_own = pick_false _ _ _ (le-ltb _ _ long)

    pub tells_refused : {why : Refusal} → own ≡ Err why → Tells given (Err why) log
    tells_refused e = refused _ (is_own ∙ e)

    pub tells_ran : {o : Outcome Stop Translation} {end : ℕ} {answer : Answer} {log' : List ℕ} → own ≡ accepts →
        Ran m (access (stage1 r g) (stage2 r) a) log 0 o end log' → answer ≡ Answers.answer end o → Tells given (Ok answer) log'
    unfolding told ask_over
    tells_ran {end = end} e ran q =
        let count : end ≡ length (reads m (access (stage1 r g) (stage2 r) a)) = omega (arith, ran.counted) in
        rw (refuse_accepted (turned_away log) (grounds (length log) false high r g a) (told m log (access (stage1 r g) (stage2 r) a)) (is_own ∙ e))
        (record { answered = ap Ok (q ∙ ap₂ Answers.answer count ran.outcome); logged = ran.logged })

-- ---- the question over a file, as code runs it

module _ (r : El2) (g : El1) (a : Access) (log : List ℕ) {answer : Result Answer Refusal} {log' : List ℕ} {high : Bool} where
  pub raw_tells : (base : ℕ) (file : List ℕ) → high ≡ any_high (layout (raw base) file).banks →
      Tells (ask_over (captured (raw base) file) false high r g a log) answer log' → Tells (ask (raw base) file r g a log) answer log'
  unfolding ask layout
  raw_tells base file h t = rw h at t

  -- a core file that is accepted
  pub core_tells : (file : List ℕ) → is_core file ≡ true → high ≡ any_high (banks file) →
      Tells (ask_over (captured core file) false high r g a log) answer log' → Tells (ask core file r g a log) answer log'
  unfolding ask layout
  core_tells file e h t = rw e (rw h at t)

-- one that is not
pub core_refused : (file : List ℕ) (r : El2) (g : El1) (a : Access) (log : List ℕ) → is_core file ≡ false → Tells (ask core file r g a log) (Err CoreFile) log
unfolding ask ask_over layout refuse turned_away pick
core_refused file r g a log e = rw e (record { answered = refl; logged = refl })
