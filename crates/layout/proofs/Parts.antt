-- What is known of the parts of an accepted core file.
-- Assumes nothing.
use mathlib.Core.Path.{◌≡◌, refl}
use mathlib.Core.Bool.{Bool, true, false, ◌&&◌, ◌||◌, or-false, true≢false}
use mathlib.Core.List.{List, [], ◌∷◌, map}
use Prim.Native.Nat.{ℕ, zero, suc, ◌+◌, ◌^◌, ◌≤◌}
use native.Mathlib.Omega.{arith}
use lib.Dec.{leb}
use lib.ListN.{length}
use borrow.Author.Tests.{leb-true, ltb-false}
use Rattle.std.specs.Prelude.{All as Each, AllPairs}
use Rattle.bits.proofs.Tests.{and_left, and_right}
use Rattle.reads.specs.Program.{Request, All, nil, cons}
use Rattle.capture.specs.Capture.{part, kept, ends_high, any_high, memory}
use Rattle.capture.specs.Calls.{ahead, Lies, Before, Held}
use Rattle.capture.specs.declared.Bank.{Bank}
use Rattle.capture.specs.declared.Part.{Part}
use Rattle.capture.proofs.Lesser.{part_lies}
use Rattle.layout.specs.Elf.{headed, banks, most_banks, follows, ascend, parts, well_laid, is_core}
use Rattle.layout.specs.Calls.{front_of}
use Rattle.layout.proofs.Front.{Rows, front_lies, front_sole, front_spare}

-- ---- an accepted core file whose banks end by 2^48

both_false : (a b : Bool) → (a || b) ≡ false → (a ≡ false) × (b ≡ false)
both_false true b e = absurd (true≢false e)
both_false false b e = (refl, e)

part_inside : (total : ℕ) (b : Bank) → ends_high b.address b.size ≡ false → Lies total (part total b)
unfolding part
part_inside total b low =
    let l = part_lies total b in
    let top : b.address + b.size ≤ 2 ^ 48 = ltb-false _ _ low in
    record { order = l.0; inside = l.1; fits = omega (arith, l.2) }

pub all_inside : (total : ℕ) (l : List Bank) → any_high l ≡ false → All (Lies total) (map (part total) l)
unfolding any_high
all_inside total [] low = nil
all_inside total (b ∷ l) low =
    let both = both_false (ends_high b.address b.size) (any_high l) low in
    cons (part_inside total b both.0) (all_inside total l both.1)

-- what holds of each part holds of the part at each place
each : {P : Part → Type 0} (l : List Part) → All P l → Each P l
each [] a i d h = absurd (omega (arith, h))
each (p ∷ l) (cons x a) zero d h = x
each (p ∷ l) (cons x a) (suc i) d h = each l a i d (omega (arith, h))

rows_order : (l : List Part) → Rows l → AllPairs Before l
unfolding Rows
rows_order [] r i j d less h = absurd (omega (arith, h))
rows_order (p ∷ l) r i zero d less h = absurd (omega (arith, less))
rows_order (p ∷ l) r zero (suc j) d less h = each l r.0 j d (omega (arith, h))
rows_order (p ∷ l) r (suc i) (suc j) d less h = rows_order l r.1 i j d (omega (arith, less)) (omega (arith, h))

-- the parts of banks in order: a part that ends by a bank's end ends by the start of every bank after it
module _ (total : ℕ) where
  past : (p : Part) (b : Bank) (l : List Bank) → p.address + kept p ≤ b.address + b.size → follows b l ≡ true → ascend l ≡ true → All (Before p) (map (part total) l)
  unfolding follows ascend part
  past p b [] h f a = nil
  past p b (c ∷ l) h f a =
      let k : b.address + b.size ≤ c.address = leb-true _ _ f in
      let here : Before p (part total c) = omega (arith, h, k) in
      cons here (past p c l (omega (arith, h, k)) (and_left _ _ a) (and_right (follows c l) _ a))

  rows : (l : List Bank) → ascend l ≡ true → Rows (map (part total) l)
  unfolding ascend Rows part
  rows [] a = tt
  rows (b ∷ l) a =
      let size = (part_lies total b).2 in
      let rest = and_right (follows b l) _ a in
      (past (part total b) b l (omega (arith, size)) (and_left _ _ a) rest, rows l rest)

core_ascends : (file : List ℕ) → is_core file ≡ true → ascend (banks file) ≡ true
unfolding is_core well_laid
core_ascends file e = and_left _ _ (and_left _ _ (and_left _ _ (and_right (headed file && leb (length (banks file)) most_banks) _ e)))

core_rows : (file : List ℕ) → is_core file ≡ true → Rows (parts file)
core_rows file e = rows (length file) (banks file) (core_ascends file e)

pub laid_held : (file : List ℕ) → is_core file ≡ true → any_high (banks file) ≡ false → Held (ahead (front_of (parts file))) (parts file) file
laid_held file e low =
    let lie = all_inside (length file) (banks file) low in
    record {
      leads = record { lies = front_lies (length file) (parts file) lie; back = refl };
      ascending = record { lie = each (parts file) lie; order = rows_order (parts file) (core_rows file e) };
    }

-- ---- trying the largest part first

pub core_spare : (file : List ℕ) → is_core file ≡ true → (q : Request) → memory (front_of (parts file) ∷ parts file) file q ≡ memory (parts file) file q
core_spare file e q = front_spare (parts file) file q (core_rows file e)

-- ---- one bank alone

pub one_high : (b : Bank) → any_high (b ∷ []) ≡ ends_high b.address b.size
unfolding any_high
one_high b = or-false (ends_high b.address b.size)

pub sole_captured : (l : List Part) (file : List ℕ) → length l ≡ 1 → memory (front_of l ∷ []) file ≡ memory l file
sole_captured [] file n = absurd (omega (arith, n))
sole_captured (p ∷ []) file n = rw (front_sole p)
sole_captured (p ∷ q ∷ l) file n = absurd (omega (arith, n))
