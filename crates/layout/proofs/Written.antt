-- What a call that read the headers of a file found, and the banks and parts that were written over the first of those lent.
-- Assumes nothing.
use borrow.Author.Tests.{le-leb, lt-leb, leb-true}
use mathlib.Core.Path.{◌≡◌, refl, sym, ◌∙◌}
use mathlib.Core.Bool.{Bool, true, false, ◌&&◌}
use mathlib.Core.List.{List, ◌++◌}
use Prim.Native.Nat.{ℕ, ◌≤◌, ◌<◌}
use native.Mathlib.Nat.{zero-add}
use native.Mathlib.Omega.{arith}
use lib.Dec.{leb}
use lib.ListN.{length, take, drop}
use lib.Seq.{sets, sets-eq, take-append_seam}
use Rattle.std.specs.Prelude.{Option, Some, None}
use Rattle.std.specs.Bool.{then_some}
use Rattle.bits.specs.Bits.{pick}
use Rattle.bits.proofs.Tests.{and_left, and_right, pick_true}
use Rattle.capture.specs.declared.Bank.{Bank}
use Rattle.layout.specs.Elf.{headed, headers_at, headers_end, banks, most_banks, well_laid, is_core}
use Rattle.layout.specs.Calls.{Reads}

module _ {A : Type 0} where
  -- the first of some that others were written over are those
  pub first : (written lent : List A) (n : ℕ) → n ≡ length written → length written ≤ length lent → take n (sets lent 0 written) ≡ written
  first written lent n e room =
      let over : sets lent 0 written ≡ written ++ drop (length written) lent = rw (zero-add (length written)) at (sets-eq written lent 0 (omega arith)) in
      rw (over, e) (take-append_seam written _)

module _ (file : List ℕ) where
  -- the headers are there and say no more banks than there may be
  abbrev pub Few : Bool → Type 0
  Few v = (headed file && leb (length (banks file)) most_banks) ≡ v

  pub unheaded : headed file ≡ false → Few false
  unheaded e = rw e

  module _ (e : headed file ≡ true) {count : ℕ} (many : count ≡ length (banks file)) where
    pub crowded : 64 < count → Few false
    crowded h = rw (e, ← many) (lt-leb count 64 h)

    pub spare : count ≤ 64 → Few true
    spare h = rw (e, ← many) (le-leb count 64 h)

  module _ {lent : List Bank} where
    pub unread : Few false → {r : Option ℕ} → r ≡ None → Reads file lent r lent
    unfolding is_core pick
    unread f e = record { count = rw (f, e); written = rw f }

    pub read : {lent' : List Bank} → Few true → lent' ≡ sets lent 0 (banks file) → {v : Bool} → v ≡ well_laid (length file) (banks file) (headers_at file) (headers_end file) →
        {count : ℕ} → count ≡ length (banks file) → {r : Option ℕ} → r ≡ then_some v count → Reads file lent r lent'
    unfolding is_core pick
    read f w {v} l many e = record { count = rw (f, ← l, ← many, e) (by_test _ v); written = rw f w }
      where
        by_test : (count : ℕ) (v : Bool) → then_some v count ≡ pick v (Some count) None
        by_test count true = refl
        by_test count false = refl

-- a call that found the banks of a file that is accepted
module _ {file : List ℕ} {lent lent' : List Bank} {r : Option ℕ} (s : Reads file lent r lent') where
  refused_by : (b : Bool) (n : ℕ) → None ≡ pick b (Some n) None → b ≡ false
  unfolding pick
  refused_by true n e = cc
  refused_by false n e = refl

  pub refused : r ≡ None → is_core file ≡ false
  refused e = refused_by (is_core file) _ (sym e ∙ s.count)

  module _ {count : ℕ} (found : r ≡ Some count) where
    found_by : (b : Bool) (n : ℕ) → Some count ≡ pick b (Some n) None → (b ≡ true) × (count ≡ n)
    unfolding pick
    found_by true n e = (refl, cc)
    found_by false n e = cc

    pub accepted : is_core file ≡ true
    accepted = (found_by (is_core file) _ (sym found ∙ s.count)).0

    pub counted : count ≡ length (banks file)
    counted = (found_by (is_core file) _ (sym found ∙ s.count)).1

    fits : Few file true
    unfolding is_core
    fits = and_left _ _ accepted

    pub few : count ≤ 64
    few = omega (arith, counted, leb-true (length (banks file)) 64 (and_right (headed file) _ fits))

    -- the banks that are used
    pub used : 64 ≤ length lent → take count lent' ≡ banks file
    used room = rw (s.written ∙ pick_true _ _ _ fits) (first (banks file) lent count counted (omega (arith, few, counted, room)))
