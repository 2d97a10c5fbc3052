-- Answers in numbers.
-- Assumes nothing.
use Rattle.answers.specs.declared.Refusal.{Refusal}
use Rattle.std.specs.Prelude.{Bool, true, false, List, [], ◌∷◌, ℕ, ◌+◌, ◌*◌, eqb, get_or, Result, Ok, Err, Option, Some, Some, None}
use Rattle.bits.specs.Bits.{pick}
use Rattle.attributes.specs.declared.DeviceType.{DeviceType}
use Rattle.attributes.specs.declared.DeviceType.TheVariants.{NGnRnE, NGnRE, NGRE, GRE}
use Rattle.attributes.specs.declared.Cacheability.{Cacheability}
use Rattle.attributes.specs.declared.Cacheability.TheVariants.{NonCacheable, WriteThrough, WriteBack}
use Rattle.attributes.specs.declared.MemoryType.{MemoryType}
use Rattle.attributes.specs.declared.MemoryType.TheVariants.{Device, Normal}
use Rattle.attributes.specs.declared.Shareability.{Shareability}
use Rattle.attributes.specs.declared.Shareability.TheVariants.{NonShareable, OuterShareable, InnerShareable}
use Rattle.answers.specs.Answers.{Value, address, attributes, stage, level, level1, level2, on_walk, ipa, reads, item, item_of, number_of, carries_of}
use Rattle.answers.specs.declared.Answer.{Answer}
use Rattle.ledger.specs.declared.Ledger.{Ledger}
use Rattle.batch.specs.Batch.{batch_number}
use Rattle.audit.specs.declared.Finding.{Finding}
use Rattle.exported.specs.declared.Words.{Words}
use Rattle.exported.specs.declared.BatchWords.{BatchWords}
use Rattle.exported.specs.declared.AuditWords.{AuditWords}
use Rattle.exported.specs.declared.BanksWords.{BanksWords}
use Rattle.banks.specs.Banks.{banks_number}
use Rattle.audit.specs.Audit.{audit_number}

-- ---- codes of this interface

-- Device memory, 0 to 3
abbrev pub device_code : DeviceType → ℕ
device_code NGnRnE = 0
device_code NGnRE = 1
device_code NGRE = 2
device_code GRE = 3

abbrev pub cache_code : Cacheability → ℕ
cache_code NonCacheable = 0
cache_code WriteThrough = 1
cache_code WriteBack = 2

-- Normal memory from 16 on: 4 times the outer code and the inner code
unfoldable pub memory_code : MemoryType → ℕ
memory_code (Device d) = device_code d
memory_code (Normal o i) = 16 + 4 * cache_code o + cache_code i

-- as SH has it (01, Attributes, SH)
abbrev pub shareability_code : Shareability → ℕ
shareability_code NonShareable = 0
shareability_code OuterShareable = 2
shareability_code InnerShareable = 3

abbrev pub flag : Bool → ℕ
flag true = 1
flag false = 0

-- ---- an answer: its number, and the values that it carries, each in its place; a place that nothing is carried to is 0

-- the words of a value, each with its place after the number
unfoldable pub spelled : Value → List (ℕ × ℕ)
spelled (item n) = (1, n) ∷ []
spelled (address a) = (2, a) ∷ []
spelled (attributes t) = (3, memory_code t.memory) ∷ (4, shareability_code t.shareability) ∷ []
spelled (level1 l) = (5, l) ∷ []
spelled (level2 l) = (6, l) ∷ []
spelled (stage s) = (7, s) ∷ []
spelled (level l) = (8, l) ∷ []
spelled (on_walk w) = (9, flag w) ∷ []
spelled (ipa i) = (10, i) ∷ []
spelled (reads n) = (11, n) ∷ []

-- the word listed for a place, else x
unfoldable pub listed_at : (place : ℕ) → List (ℕ × ℕ) → (x : ℕ) → ℕ
listed_at k [] x = x
listed_at k (w ∷ l) x = pick (eqb w.0 k) w.1 (listed_at k l x)

unfoldable pub word_at : (place : ℕ) → List Value → ℕ
word_at k [] = 0
word_at k (v ∷ l) = listed_at k (spelled v) (word_at k l)

unfoldable pub worded : (number : ℕ) → List Value → Words
worded n l =
    record {
      number = n;
      item = word_at 1 l;
      address = word_at 2 l;
      memory = word_at 3 l;
      shareability = word_at 4 l;
      level1 = word_at 5 l;
      level2 = word_at 6 l;
      stage = word_at 7 l;
      level = word_at 8 l;
      onwalk = word_at 9 l;
      ipa = word_at 10 l;
      reads = word_at 11 l;
    }

abbrev pub words : Result Answer Refusal → Words
words told = worded (number_of told) (carries_of told)

-- ---- a batch's answer: its number, and its ledger or a settings refusal's item

abbrev pub no_ledger : Ledger
no_ledger = record { asked = 0; translated = 0; faulted = 0; absent = 0; unsettled = 0 }

unfoldable pub batch_words : Result Ledger Refusal → BatchWords
batch_words (Ok l) = record { number = batch_number (Ok l); item = 0; ledger = l }
batch_words (Err r) = record { number = batch_number (Err r); item = get_or (item_of r) 0 0; ledger = no_ledger }

-- ---- an audit's answer: its number, and a finding's address or a settings refusal's item

unfoldable pub audit_words : Result (Option Finding) Refusal → AuditWords
audit_words (Ok None) = record { number = audit_number (Ok None); item = 0; address = 0 }
audit_words (Ok (Some f)) = record { number = audit_number (Ok (Some f)); item = 0; address = f.address }
audit_words (Err r) = record { number = audit_number (Err r); item = get_or (item_of r) 0 0; address = 0 }

-- ---- a bank list's answer: its number, and how many banks there are

unfoldable pub banks_words : Result ℕ Refusal → BanksWords
banks_words (Ok n) = record { number = banks_number (Ok n); count = n }
banks_words (Err r) = record { number = banks_number (Err r); count = 0 }

-- the bytes that a line took, or 0 where the buffer was too short for it
abbrev pub line_word : Option ℕ → ℕ
line_word (Some n) = n
line_word None = 0
