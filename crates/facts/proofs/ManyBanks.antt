-- A core file of 64 banks and one of 65: too many headers to compute with one by one, so the banks are found by an induction.
-- Assumes nothing.
use mathlib.Core.Path.{◌≡◌, refl, sym, ap, ap₂, ◌∙◌}
use mathlib.Core.Bool.{true, false, ◌&&◌}
use mathlib.Core.List.{List, [], ◌∷◌, ◌++◌, append_assoc}
use Prim.Native.Nat.{ℕ, zero, suc, ◌+◌}
use lib.Dec.{leb, eqb}
use lib.ListN.{length, take, replicate, length-append}
use lib.Seq.{drop-append_seam, drop-append-add}
use Rattle.bits.specs.Bits.{pick}
use Rattle.capture.specs.Capture.{little}
use Rattle.capture.specs.declared.Bank.{Bank}
use Rattle.layout.specs.Elf.{number, headed, is_bank, headers_at, headers_end, banks_from, banks, most_banks, well_laid, is_core}
use Rattle.facts.specs.CoreFiles.{bytes, bank, load, loads, made, elf, making, changed}

-- a bank of size 0
abbrev pub nothing : Bank
nothing = bank 0 0 0

abbrev pub many : (n : ℕ) → List ℕ
many n = made (replicate n nothing) []

-- the bank of a header behind some bytes
by_fields : (t x y z : ℕ) (l : List Bank) → t ≡ 1 → x ≡ 0 → y ≡ 0 → z ≡ 0 → pick (eqb t 1) (bank x y z ∷ l) l ≡ nothing ∷ l
unfolding pick
by_fields t x y z l typed addressed placed sized = rw (typed, addressed, placed, sized)

step : (pre l : List ℕ) (n : ℕ) →
    banks_from (suc n) (length pre) (pre ++ (load nothing ++ l)) ≡ nothing ∷ banks_from n (length pre + 56) (pre ++ (load nothing ++ l))
unfolding banks_from little load bytes
step pre l n =
    let h = load nothing ++ l in
    let field : (k : ℕ) → number 8 (length pre + k) (pre ++ h) ≡ number 8 k h = λ k. ap (λ z. little (take 8 z)) (drop-append-add pre h k) in
    let f = pre ++ h in
    let at = length pre in
    by_fields (number 4 at f) (number 8 (at + 24) f) (number 8 (at + 8) f) (number 8 (at + 32) f) (banks_from n (at + 56) f)
    (ap (λ z. little (take 4 z)) (drop-append_seam pre h)) (field 24) (field 8) (field 32)

all_banks : (n : ℕ) (pre rest : List ℕ) → banks_from n (length pre) (pre ++ (loads (replicate n nothing) ++ rest)) ≡ replicate n nothing
unfolding banks_from loads load bytes
all_banks zero pre rest = refl
all_banks (suc n) pre rest =
    let t = loads (replicate n nothing) ++ rest in
    ap (λ l. banks_from (suc n) (length pre) (pre ++ l)) (append_assoc (load nothing) (loads (replicate n nothing)) rest)
    ∙ step pre t n
    ∙ ap (nothing ∷◌) (ap₂ (banks_from n) (sym (length-append pre (load nothing))) (sym (append_assoc pre (load nothing) t)) ∙ all_banks n (pre ++ load nothing) rest)

-- with the banks and the length known
accepted_by : (file : List ℕ) (l : List Bank) (total : ℕ) → banks file ≡ l → length file ≡ total →
    is_core file ≡ (headed file && leb (length l) most_banks && well_laid total l (headers_at file) (headers_end file))
unfolding is_core
accepted_by file l total e long = ap₂ (λ l n. headed file && leb (length l) most_banks && well_laid n l (headers_at file) (headers_end file)) e long

banks_64 : banks (many 64) ≡ replicate 64 nothing
unfolding made elf bytes little
banks_64 = all_banks 64 (elf 64 64) []

banks_65 : banks (many 65) ≡ replicate 65 nothing
unfolding made elf bytes little
banks_65 = all_banks 65 (elf 64 65) []

length_64 : length (many 64) ≡ 3648
unfolding making
length_64 = refl

length_65 : length (many 65) ≡ 3704
unfolding making
length_65 = refl

-- 02, §1: 64 banks; those of size 0 count
pub core_64 : is_core (many 64) ≡ true
unfolding making
core_64 = accepted_by (many 64) (replicate 64 nothing) 3648 banks_64 length_64 ∙ refl

-- 02, §1: one more
pub core_65 : is_core (many 65) ≡ false
unfolding making
core_65 = accepted_by (many 65) (replicate 65 nothing) 3704 banks_65 length_65 ∙ refl

-- of 65 headers the first is of type 4
abbrev pub first : List ℕ
first = elf 64 65 ++ changed 0 4 4 (load nothing)

abbrev pub besides : List ℕ
besides = first ++ (loads (replicate 64 nothing) ++ [])

skip : (n at : ℕ) (file : List ℕ) → is_bank at file ≡ false → banks_from (suc n) at file ≡ banks_from n (at + 56) file
unfolding banks_from pick
skip n at file e = rw e

banks_besides : banks besides ≡ replicate 64 nothing
unfolding elf bytes load loads little
banks_besides = skip 64 64 besides refl ∙ all_banks 64 first []

length_besides : length besides ≡ 3704
unfolding making
length_besides = refl

-- 02, §1: banks count, not headers
pub core_besides : is_core besides ≡ true
unfolding making
core_besides = accepted_by besides (replicate 64 nothing) 3704 banks_besides length_besides ∙ refl
