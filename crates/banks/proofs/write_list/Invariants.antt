-- `write_list` meets its contract: with the other banks' words written too, each list is as it is wanted.
-- Assumes nothing.
use mathlib.Core.Path.{◌≡◌, refl, ◌∙◌}
use mathlib.Core.Bool.{Bool, true, false}
use mathlib.Core.List.{List, map}
use Prim.Native.Nat.{ℕ, ◌+◌, ◌<◌}
use native.Mathlib.Numerals.{add-one}
use lib.ListN.{length, get_or, set, drop, length-set}
use lib.Seq.{sets, drop-cons}
use mir.Val.{bool_byte}
use lib.Dec.{ltb}
use Rattle.bits.specs.Bits.{pick}
use Rattle.capture.specs.declared.Bank.{Bank}
use Rattle.banks.specs.Banks.{kept_of, short_of}
use Rattle.banks.proofs.write_list.Given as goal

-- the words before the i-th are written: with the others written too, the list is as it is wanted
pub record Writing (f : Bank → ℕ) (banks : List Bank) (i : ℕ) (lent list : List ℕ) : Type 0 where
  pub same : length list ≡ length lent
  pub rest : sets list i (map f (drop i banks)) ≡ sets lent 0 (map f banks)

pub next : {f : Bank → ℕ} {banks : List Bank} {i : ℕ} {lent list : List ℕ} (d : Bank) → i < length banks → Writing f banks i lent list →
    {v : ℕ} → v ≡ f (get_or banks i d) → Writing f banks (i + 1) lent (set list i v)
next {banks = banks} {i = i} {list = list} d less w e =
    record { same = length-set list i _ ∙ w.same; rest = rw (add-one, e) (rw (drop-cons banks i d less) at w.rest) }

-- 1 where a test holds
pub mark : {n m : ℕ} (size : ℕ) → n ≡ m → bool_byte (ltb n size) ≡ pick (ltb m size) 1 0
unfolding pick
mark {m = m} size e = rw e (by_test (ltb m size))
  where
    by_test : (b : Bool) → bool_byte b ≡ pick b 1 0
    by_test true = refl
    by_test false = refl

abbrev pub invariant-loop-i : goal.invariant-loop-i
invariant-loop-i l =
    Writing (λ b. b.address) l.banks l.i l.initial.addresses l.addresses
    × Writing (λ b. b.offset) l.banks l.i l.initial.offsets l.offsets
    × Writing (kept_of l.total) l.banks l.i l.initial.lengths l.lengths
    × Writing (short_of l.total) l.banks l.i l.initial.shorts l.shorts
