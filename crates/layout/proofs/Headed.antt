-- Headers that are there lie in the file.
-- Assumes nothing.
use mathlib.Core.Path.{◌≡◌, refl, ◌∙◌}
use mathlib.Core.Bool.{Bool, true, false, ◌&&◌, ◌||◌}
use mathlib.Core.List.{List}
use Prim.Native.Nat.{ℕ, ◌+◌, ◌*◌, ◌^◌, ◌≤◌, ◌<◌}
use native.Mathlib.Omega.{arith}
use lib.Dec.{leb, eqb}
use lib.ListN.{length}
use borrow.Author.Tests.{leb-true, eqb-true, eqb-false}
use Rattle.bits.proofs.Tests.{and_right}
use Rattle.layout.specs.Elf.{of_kind, headed, header_count, headers_end, banks_from, banks}
use Rattle.layout.specs.Calls.{Heads, There}
use Rattle.layout.specs.declared.elf.Headers.{Headers}

module _ (file : List ℕ) (e : headed file ≡ true) where
  ends : (header_count file ≡ 0 → ⊥) → headers_end file ≤ length file
  unfolding headed
  ends some = by_test (eqb (header_count file) 0) refl (and_right (leb 64 (length file) && of_kind file) _ e)
    where
      by_test : (b : Bool) → eqb (header_count file) 0 ≡ b → (b || leb (headers_end file) (length file)) ≡ true → headers_end file ≤ length file
      by_test true t h = absurd (some (eqb-true _ _ t))
      by_test false t h = leb-true _ _ h

module _ {file : List ℕ} {h : Headers} (heads : Heads file h) where
  pub there : There h (length file)
  there i less = let x = ends file heads.whole (λ z. omega (arith, heads.count, less)) in omega (arith, x, heads.at, heads.count, less)

  pub fits : length file < 2 ^ 64 → h.at < 2 ^ 64 → h.at + 56 * h.count < 2 ^ 64
  fits long k = by_test (eqb h.count 0) refl
    where
      by_test : (b : Bool) → eqb h.count 0 ≡ b → h.at + 56 * h.count < 2 ^ 64
      by_test true t = let z : h.count ≡ 0 = eqb-true _ _ t in omega arith
      by_test false t = let x = ends file heads.whole (λ z. eqb-false _ _ t (heads.count ∙ z)) in omega (arith, x, heads.at, heads.count)

  pub banks_are : banks_from h.count h.at file ≡ banks file
  banks_are = rw (heads.count, heads.at)
