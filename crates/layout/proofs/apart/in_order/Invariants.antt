-- `in_order` meets its contract: a bank that stands past the one before it leaves the verdict to those after it.
-- Assumes nothing.
use mathlib.Core.Path.{◌≡◌}
use mathlib.Core.Bool.{Bool, ◌&&◌}
use mathlib.Core.List.{List, map}
use Prim.Native.Nat.{ℕ, ◌+◌, ◌<◌}
use native.Mathlib.Numerals.{add-one}
use lib.Dec.{leb}
use lib.ListN.{length, get_or, drop}
use lib.Seq.{drop-cons}
use Rattle.capture.specs.Capture.{part}
use Rattle.capture.specs.declared.Bank.{Bank}
use Rattle.capture.specs.declared.Part.{Part}
use Rattle.layout.specs.Calls.{in_order}
use Rattle.layout.proofs.apart.in_order.Given as goal

-- the banks from i on decide, where the one before them ends at a place
abbrev pub Deciding : (total : ℕ) (banks : List Bank) (end i : ℕ) → Type 0
Deciding total banks end i = in_order end (map (part total) (drop i banks)) ≡ in_order 0 (map (part total) banks)

-- what the bank at i leaves, where v is whether it stands past that place
pub step : (total : ℕ) (banks : List Bank) (end i : ℕ) (d : Bank) → i < length banks → Deciding total banks end i → {p : Part} {v : Bool} →
    p ≡ part total (get_or banks i d) → leb end p.from ≡ v → (v && in_order p.to (map (part total) (drop (i + 1) banks))) ≡ in_order 0 (map (part total) banks)
unfolding in_order
step total banks end i d less here at e = rw add-one (rw (drop-cons banks i d less, ← at, e) at here)

abbrev pub invariant-loop-bank : goal.invariant-loop-bank
invariant-loop-bank l = Deciding l.total l.banks l.end l.bank-index
