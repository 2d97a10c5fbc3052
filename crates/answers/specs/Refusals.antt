-- Refusals, tested in their order (01, Answer numbers).
-- Assumes nothing.
use Rattle.std.specs.Prelude.{Bool, not, List, [], ◌∷◌, ℕ, ltb, eqb, Ok, Err, Result}
use Rattle.bits.specs.Bits.{pick}
use Rattle.access.specs.Access.{listed}
use Rattle.registers.specs.declared.El1.{El1}
use Rattle.registers.specs.declared.El2.{El2}
use Rattle.settings.specs.Settings.{settings}
use Rattle.answers.specs.declared.Refusal.{Refusal}
use Rattle.answers.specs.declared.Refusal.TheVariants.{ShortLog, HighCapture, Settings, Unlisted, CoreFile}

-- whether a call is refused, and why
abbrev pub Verdict : Type 0
Verdict = Result (Unit {0}) Refusal

abbrev pub accepts : Verdict
accepts = Ok tt

-- a test that refuses where it holds
pub record Ground : Type 0 where
  pub holds : Bool
  pub refusal : Refusal

-- the first ground that holds decides, else x
unfoldable pub refuse : {A : Type 0} → (Refusal → A) → List Ground → A → A
refuse f [] x = x
refuse f (g ∷ l) x = pick g.holds (f g.refusal) (refuse f l x)

abbrev pub verdict : List Ground → Verdict
verdict l = refuse Err l accepts

-- the words that a log must have
abbrev pub log_words : ℕ
log_words = 24

-- 10
abbrev pub short_log : (words : ℕ) → Ground
short_log words = record { holds = ltb words log_words; refusal = ShortLog }

-- 17, before all others (02, §1)
abbrev pub core_file : (unreadable : Bool) → Ground
core_file unreadable = record { holds = unreadable; refusal = CoreFile }

-- 11
abbrev pub high_capture : (high : Bool) → Ground
high_capture high = record { holds = high; refusal = HighCapture }

-- 12, with the first failing item, 0 if none fails
abbrev pub failing : (item : ℕ) → Ground
failing item = record { holds = not (eqb item 0); refusal = Settings item }

-- 13
abbrev pub unlisted : (kind el size : ℕ) → Ground
unlisted kind el size = record { holds = not (listed kind el size); refusal = Unlisted }

-- what a question and a batch are refused for alike: 11, 12, 13
abbrev pub shared : (high : Bool) → El2 → El1 → (kind el size : ℕ) → List Ground
shared high r g kind el size = high_capture high ∷ failing (settings r g) ∷ unlisted kind el size ∷ []
