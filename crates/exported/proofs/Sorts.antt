-- The words of an answer, by its sort.
-- Assumes nothing.
use Rattle.std.specs.Prelude.{Err}
use mathlib.Core.Path.{◌≡◌, refl}
use mathlib.Core.List.{[], ◌∷◌}
use Prim.Native.Nat.{ℕ}
use Rattle.bits.specs.Bits.{pick}
use Rattle.walk.specs.declared.stop.Stage.{Stage}
use Rattle.walk.specs.declared.stop.Stage.TheVariants.{One, Two}
use Rattle.walk.specs.declared.stop.Fault.{Fault}
use Rattle.walk.specs.declared.stop.Missing.{Missing}
use Rattle.walk.specs.declared.stop.Open.{Open}
use Rattle.answers.specs.Answers.{address, stage, level, on_walk, reads, stage_number, is_on_walk, ipa_of, carries, carries_of}
use Rattle.answers.specs.declared.Refusal.{Refusal}
use Rattle.answers.specs.declared.Refusal.TheVariants.{ShortLog, HighCapture, Settings, Unlisted, BatchLists, AuditLists, NoRoot, CoreFile}
use Rattle.answers.specs.declared.Answer.TheVariants as A
use Rattle.exported.specs.Words.{spelled, listed_at, word_at, worded}
use Rattle.exported.specs.Parts.{on_walk_word, ipa_word, item_word, stopped, refused}

module _ (number n : ℕ) where
  pub fault_words : (f : Fault) → worded number (carries (A.Fault f n)) ≡ stopped number 0 (stage_number f.stage) f.level (on_walk_word f.stage) (ipa_word f.stage) n
  unfolding pick carries spelled listed_at word_at worded
  fault_words f = by_stage f.stage
    where
      by_stage : (s : Stage) → worded number (stage (stage_number s) ∷ level f.level ∷ on_walk (is_on_walk s) ∷ reads n ∷ ipa_of s) ≡ stopped number 0 (stage_number s) f.level (on_walk_word s) (ipa_word s) n
      by_stage One = refl
      by_stage (Two i w) = refl

  pub misaligned_words : (s : Stage) → worded number (carries (A.Misaligned s n)) ≡ stopped number 0 (stage_number s) 0 0 (ipa_word s) n
  unfolding pick carries spelled listed_at word_at worded
  misaligned_words One = refl
  misaligned_words (Two i w) = refl

  pub absent_words : (m : Missing) → worded number (carries (A.Absent m n)) ≡ stopped number m.address (stage_number m.stage) m.level (on_walk_word m.stage) 0 n
  unfolding pick carries spelled listed_at word_at worded
  absent_words m = by_stage m.stage
    where
      by_stage : (s : Stage) → worded number (address m.address ∷ stage (stage_number s) ∷ level m.level ∷ on_walk (is_on_walk s) ∷ reads n ∷ []) ≡ stopped number m.address (stage_number s) m.level (on_walk_word s) 0 n
      by_stage One = refl
      by_stage (Two i w) = refl

  pub unsettled_words : (o : Open) → worded number (carries (A.Unsettled o n)) ≡ stopped number 0 (stage_number o.stage) o.level (on_walk_word o.stage) 0 n
  unfolding pick carries spelled listed_at word_at worded
  unsettled_words o = by_stage o.stage
    where
      by_stage : (s : Stage) → worded number (stage (stage_number s) ∷ level o.level ∷ on_walk (is_on_walk s) ∷ reads n ∷ []) ≡ stopped number 0 (stage_number s) o.level (on_walk_word s) 0 n
      by_stage One = refl
      by_stage (Two i w) = refl

pub refused_words : (number : ℕ) (r : Refusal) → worded number (carries_of (Err r)) ≡ refused number (item_word r)
unfolding pick carries_of spelled listed_at word_at worded
refused_words number ShortLog = refl
refused_words number HighCapture = refl
refused_words number (Settings item) = refl
refused_words number Unlisted = refl
refused_words number BatchLists = refl
refused_words number AuditLists = refl
refused_words number NoRoot = refl
refused_words number CoreFile = refl
