-- The list of a core file's banks: where each lies, what the file has of it, and whether that is all (02, §1).
-- Assumes nothing.
use Rattle.answers.specs.declared.Refusal.{Refusal}
use Rattle.std.specs.Prelude.{◌≡◌, Bool, not, ◌||◌, List, [], ◌∷◌, map, ℕ, ltb, length, Result, Ok, Err}
use Rattle.std.proofs.lemmas.List.Edits.{sets}
use Rattle.bits.specs.Bits.{pick}
use Rattle.capture.specs.Capture.{part, kept}
use Rattle.capture.specs.declared.Bank.{Bank}
use Rattle.layout.specs.Elf.{banks, most_banks, is_core}
use Rattle.answers.specs.Answers.{refusal_number}
use Rattle.answers.specs.Refusals.{Ground, refuse, core_file}
use Rattle.answers.specs.declared.Refusal.{Refusal}
use Rattle.answers.specs.declared.Refusal.TheVariants.{ShortLog}

-- how many bytes of a bank a file of so many bytes has, and 1 if these are fewer than its header says
abbrev pub kept_of : (total : ℕ) → Bank → ℕ
kept_of total b = kept (part total b)

abbrev pub short_of : (total : ℕ) → Bank → ℕ
short_of total b = pick (ltb (kept_of total b) b.size) 1 0

-- a list is too short for the banks that there may be
abbrev pub too_short : (addresses offsets lengths shorts : ℕ) → Bool
too_short addresses offsets lengths shorts = ltb addresses most_banks || ltb offsets most_banks || ltb lengths most_banks || ltb shorts most_banks

-- 17, and then 10 for lists that are too short
abbrev pub bank_grounds : (file : List ℕ) → (addresses offsets lengths shorts : ℕ) → List Ground
bank_grounds file addresses offsets lengths shorts =
    core_file (not (is_core file)) ∷ record { holds = too_short addresses offsets lengths shorts; refusal = ShortLog } ∷ []

-- what the call gives: its answer, and the four lent lists afterwards
pub record BanksTold : Type 0 where
  pub answer : Result ℕ Refusal
  pub addresses : List ℕ
  pub offsets : List ℕ
  pub lengths : List ℕ
  pub shorts : List ℕ

-- the banks go over the first words of each list; a refused call writes nothing
unfoldable pub bank_list : (file addresses offsets lengths shorts : List ℕ) → BanksTold
bank_list file addresses offsets lengths shorts =
    refuse (λ why. record { answer = Err why; addresses = addresses; offsets = offsets; lengths = lengths; shorts = shorts })
    (bank_grounds file (length addresses) (length offsets) (length lengths) (length shorts))
    (record {
      answer = Ok (length (banks file));
      addresses = sets addresses 0 (map (λ b. b.address) (banks file));
      offsets = sets offsets 0 (map (λ b. b.offset) (banks file));
      lengths = sets lengths 0 (map (kept_of (length file)) (banks file));
      shorts = sets shorts 0 (map (short_of (length file)) (banks file));
    })

-- the number of an answer; 0 for a list is ours
abbrev pub banks_number : Result ℕ Refusal → ℕ
banks_number (Ok n) = 0
banks_number (Err r) = refusal_number r

-- a call that gave what the list gives
pub record BanksTells (t : BanksTold) (answer : Result ℕ Refusal) (addresses offsets lengths shorts : List ℕ) : Type 0 where
  pub answered : answer ≡ t.answer
  pub placed : addresses ≡ t.addresses
  pub standing : offsets ≡ t.offsets
  pub keeping : lengths ≡ t.lengths
  pub marked : shorts ≡ t.shorts
