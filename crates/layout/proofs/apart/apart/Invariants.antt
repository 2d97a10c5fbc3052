-- `apart` meets its contract: banks in order share no byte, and else one that shares none with those after it leaves the verdict to them.
-- Assumes nothing.
use mathlib.Core.Path.{◌≡◌}
use mathlib.Core.Bool.{Bool, ◌&&◌}
use mathlib.Core.List.{List, map}
use Prim.Native.Nat.{ℕ, ◌+◌, ◌<◌}
use native.Mathlib.Numerals.{add-one}
use lib.ListN.{length, get_or, drop}
use lib.Seq.{drop-cons}
use Rattle.capture.specs.Capture.{part}
use Rattle.capture.specs.declared.Bank.{Bank}
use Rattle.capture.specs.declared.Part.{Part}
use Rattle.layout.specs.Elf as Elf
use Rattle.layout.proofs.apart.apart.Given as goal

module _ (total : ℕ) (banks : List Bank) where
  -- the banks from i on decide
  abbrev pub Deciding : ℕ → Type 0
  Deciding i = Elf.apart (map (part total) (drop i banks)) ≡ Elf.apart (map (part total) banks)

  -- what the bank at i leaves, where a call answered v for it
  pub step : (i : ℕ) (d : Bank) → i < length banks → Deciding i → {p : Part} {r v : Bool} → p ≡ part total (get_or banks i d) →
      r ≡ Elf.clear p.from p.to (map (part total) (drop (i + 1) banks)) → r ≡ v →
      (v && Elf.apart (map (part total) (drop (i + 1) banks))) ≡ Elf.apart (map (part total) banks)
  unfolding Elf.apart
  step i d less here at answer e = rw add-one (rw (drop-cons banks i d less, ← at, ← (rw add-one at answer), e) at here)

abbrev pub invariant-loop-i : goal.invariant-loop-i
invariant-loop-i l = Deciding l.total l.banks l.i
