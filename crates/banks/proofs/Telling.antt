-- What the list gives where it is refused and where it is not.
-- Assumes nothing.
use mathlib.Core.Path.{◌≡◌, refl, ap}
use mathlib.Core.Bool.{true, false}
use mathlib.Core.List.{List, map}
use Prim.Native.Nat.{ℕ}
use lib.ListN.{length}
use lib.Seq.{sets}
use Rattle.std.specs.Prelude.{Ok, Err}
use Rattle.bits.specs.Bits.{pick}
use Rattle.layout.specs.Elf.{banks, is_core}
use Rattle.answers.specs.Refusals.{refuse}
use Rattle.answers.specs.declared.Refusal.TheVariants.{ShortLog, CoreFile}
use Rattle.banks.specs.Banks.{kept_of, short_of, too_short, bank_list, BanksTells}

module _ (file addresses offsets lengths shorts : List ℕ) where
  pub tells_core : is_core file ≡ false → BanksTells (bank_list file addresses offsets lengths shorts) (Err CoreFile) addresses offsets lengths shorts
  unfolding bank_list refuse pick
  tells_core e = rw e (record { answered = refl; placed = refl; standing = refl; keeping = refl; marked = refl })

  module _ (accepted : is_core file ≡ true) where
    pub tells_short : too_short (length addresses) (length offsets) (length lengths) (length shorts) ≡ true →
        BanksTells (bank_list file addresses offsets lengths shorts) (Err ShortLog) addresses offsets lengths shorts
    unfolding bank_list refuse pick
    tells_short e = rw (accepted, e) (record { answered = refl; placed = refl; standing = refl; keeping = refl; marked = refl })

    pub tells_listed : too_short (length addresses) (length offsets) (length lengths) (length shorts) ≡ false → (n : ℕ) → n ≡ length (banks file) →
        {addresses' offsets' lengths' shorts' : List ℕ} → addresses' ≡ sets addresses 0 (map (λ b. b.address) (banks file)) →
        offsets' ≡ sets offsets 0 (map (λ b. b.offset) (banks file)) → lengths' ≡ sets lengths 0 (map (kept_of (length file)) (banks file)) →
        shorts' ≡ sets shorts 0 (map (short_of (length file)) (banks file)) →
        BanksTells (bank_list file addresses offsets lengths shorts) (Ok n) addresses' offsets' lengths' shorts'
    unfolding bank_list refuse pick
    tells_listed e n count a o l s = rw (accepted, e) (record { answered = ap Ok count; placed = a; standing = o; keeping = l; marked = s })
