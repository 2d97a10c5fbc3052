-- Lists of a core file's banks (02, §1), as facts of the definitions over made files.
-- Assumes nothing.
use Rattle.std.specs.Prelude.{◌≡◌, refl, List, [], ◌∷◌, map, ℕ, replicate, Ok, Err}
use Rattle.answers.specs.declared.Refusal.{Refusal}
use Rattle.answers.specs.declared.Refusal.TheVariants.{ShortLog, CoreFile}
use Rattle.banks.specs.Banks.{BanksTold, bank_list, banks_number}
use Rattle.facts.specs.CoreFiles.{making, changed, cut_to}

unfoldable pub listing : Unit {0}
unfolding making bank_list
listing = tt

-- four lent lists of so many words, which hold 1, 2, 3 and 4 in each word before the call
pub record Lent : Type 0 where
  pub addresses : ℕ
  pub offsets : ℕ
  pub lengths : ℕ
  pub shorts : ℕ

abbrev pub lent : (addresses offsets lengths shorts : ℕ) → Lent
lent addresses offsets lengths shorts = record { addresses = addresses; offsets = offsets; lengths = lengths; shorts = shorts }

-- the fewest words that are enough
abbrev pub enough : Lent
enough = lent 64 64 64 64

abbrev pub listed : (file : List ℕ) → Lent → BanksTold
listed file n = bank_list file (replicate n.addresses 1) (replicate n.offsets 2) (replicate n.lengths 3) (replicate n.shorts 4)

-- refused, with all four lists as they were
abbrev pub untouched : Refusal → Lent → BanksTold
untouched why n =
    record {
      answer = Err why;
      addresses = replicate n.addresses 1;
      offsets = replicate n.offsets 2;
      lengths = replicate n.lengths 3;
      shorts = replicate n.shorts 4;
    }

-- the two banks of `cut_to`, by the bytes kept of each and their marks: the words behind them are as they were
abbrev pub both_banks : (keptFirst keptSecond shortFirst shortSecond : ℕ) → BanksTold
both_banks keptFirst keptSecond shortFirst shortSecond =
    record {
      answer = Ok 2;
      addresses = 0x1000 ∷ 0x2000 ∷ replicate 62 1;
      offsets = 176 ∷ 184 ∷ replicate 62 2;
      lengths = keptFirst ∷ keptSecond ∷ replicate 62 3;
      shorts = shortFirst ∷ shortSecond ∷ replicate 62 4;
    }

-- 02, §1: two banks that are wholly there
list_whole : listed (cut_to 16) enough ≡ both_banks 8 8 0 0
unfolding listing
list_whole = refl

-- 02, §1: the file ends inside the second, which alone is marked short, with what is left of it
list_cut : listed (cut_to 13) enough ≡ both_banks 8 5 0 1
unfolding listing
list_cut = refl

-- 02, §1: no byte of the second is in the file: none is kept, and it is short
list_cut_end : listed (cut_to 8) enough ≡ both_banks 8 0 0 1
unfolding listing
list_cut_end = refl

-- the magic's first byte one off
abbrev pub damaged : List ℕ
damaged = changed 0 1 0x7E (cut_to 16)

-- 02, §1: a file that is no core file
list_damaged : listed damaged enough ≡ untouched CoreFile enough
unfolding listing
list_damaged = refl

-- one of the lists has a word too few, each in turn
abbrev pub lacking : List Lent
lacking = lent 63 64 64 64 ∷ lent 64 63 64 64 ∷ lent 64 64 63 64 ∷ lent 64 64 64 63 ∷ []

-- each list is to have 64 words, however many banks there are. Not in 02: docs/DECISIONS.md, The list of banks
list_lacking : map (listed (cut_to 16)) lacking ≡ map (untouched ShortLog) lacking
unfolding listing
list_lacking = refl

-- the numbers: 17 (02, §1), 10 for a list that is too short (not in 02, as above), and 17 where both grounds hold
list_numbers : map (λ t. banks_number t.answer) (listed damaged enough ∷ listed (cut_to 16) (lent 64 64 64 63) ∷ listed damaged (lent 63 64 64 64) ∷ [])
    ≡ 17 ∷ 10 ∷ 17 ∷ []
unfolding listing
list_numbers = refl
