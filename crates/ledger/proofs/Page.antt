-- A page that is written from its end: what is written so far is what stands from a place on.
-- Assumes nothing.
use mathlib.Core.Path.{◌≡◌, refl, ap, ◌∙◌}
use mathlib.Core.List.{List, [], ◌∷◌, ◌++◌, append_assoc}
use Prim.Native.Nat.{ℕ, zero, suc, ◌-◌, ◌≤◌, ◌<◌}
use native.Mathlib.Nat.{not-suc-le-zero, le_of_suc-le-suc}
use native.Mathlib.Omega.{arith}
use lib.ListN.{length, set, drop, length-append}
use Rattle.ledger.specs.Line.{Put}

drop_set : (l : List ℕ) (k v : ℕ) → k < length l → drop k (set l k v) ≡ v ∷ drop (suc k) l
drop_set [] k v h = absurd (not-suc-le-zero h)
drop_set (x ∷ l) zero v h = refl
drop_set (x ∷ l) (suc k) v h = drop_set l k v (le_of_suc-le-suc h)

-- a byte before what stands
pub set_before : (page : List ℕ) (here v : ℕ) → 1 ≤ here → here ≤ length page → drop (here - 1) (set page (here - 1) v) ≡ v ∷ drop here page
set_before page here v some inside =
    let next : suc (here - 1) ≡ here = omega arith in
    drop_set page (here - 1) v (omega arith) ∙ rw next refl

-- ---- what a page holds

-- bytes before bytes
pub put_before : {xs ys p q s : List ℕ} {at m r : ℕ} → Put ys p at q m → Put xs q m s r → Put (xs ++ ys) p at s r
put_before {xs} {ys} {p} {q} {s} {at} {m} {r} h g =
    record {
      stands = rw append_assoc (g.stands ∙ ap (λ (l : List ℕ). xs ++ l) h.stands);
      placed = omega (arith, g.placed, h.placed, length-append xs ys);
    }
