-- A granted leaf's range is made of granted frames.
-- Assumes nothing.
use mathlib.Core.Path.{◌≡◌, refl, sym, ap, ◌∙◌}
use mathlib.Core.Bool.{Bool, true, false, ◌&&◌, ◌||◌}
use mathlib.Core.List.{List, [], ◌∷◌}
use Prim.Native.Nat.{ℕ, ◌+◌, ◌-◌, ◌*◌, ◌/◌, ◌^◌, ◌%◌, ◌≤◌, ◌<◌}
use native.Mathlib.Nat.{mod-lt, div-add-mod', add-sub_of_le}
use native.Mathlib.Omega.{arith}
use lib.Dec.{leb}
use lib.Pow.{pow_pos, pow-add}
use borrow.Author.Tests.{leb-true, le-leb}
use Rattle.bits.specs.Bits.{upper}
use Rattle.descriptor.specs.Entry.{output_address}
use Rattle.lists.specs.Search.{granted}
use Rattle.audit.specs.Confinement.{InFrame}

-- a part of a granted range is granted
granted_part : (gs : List (ℕ × ℕ)) (b n f k : ℕ) → b ≤ f → f + k ≤ b + n → granted gs b n ≡ true → granted gs f k ≡ true
unfolding granted
granted_part [] b n f k lo hi h = h
granted_part (e ∷ l) b n f k lo hi h = by_tests (leb e.0 b) refl (leb (b + n) (e.0 + e.1)) refl h (granted_part l b n f k lo hi)
  where
    or_else : (x : Bool) → granted l f k ≡ true → (x || granted l f k) ≡ true
    or_else true q = refl
    or_else false q = q

    by_tests : (x : Bool) → leb e.0 b ≡ x → (y : Bool) → leb (b + n) (e.0 + e.1) ≡ y → ((x && y) || granted l b n) ≡ true →
        (granted l b n ≡ true → granted l f k ≡ true) → ((leb e.0 f && leb (f + k) (e.0 + e.1)) || granted l f k) ≡ true
    by_tests true p true q h' rest =
        let u : e.0 ≤ b = leb-true _ _ p in
        let v : b + n ≤ e.0 + e.1 = leb-true _ _ q in
        rw (le-leb e.0 f (omega arith), le-leb (f + k) (e.0 + e.1) (omega arith))
    by_tests true p false q h' rest = or_else (leb e.0 f && leb (f + k) (e.0 + e.1)) (rest h')
    by_tests false p y q h' rest = or_else (leb e.0 f && leb (f + k) (e.0 + e.1)) (rest h')

-- a leaf of at least a frame, whose range is granted
pub record GrantedLeaf (grants : List (ℕ × ℕ)) (x t : ℕ) : Type 0 where
  pub frames : 12 ≤ t
  pub range : granted grants (upper x t) (2 ^ t) ≡ true

module _ (grants : List (ℕ × ℕ)) (x t input : ℕ) (leaf : GrantedLeaf grants x t) where
  abbrev o : ℕ
  o = output_address x t input

  -- 2 ^ t is a number of frames
  frames_in : 2 ^ t ≡ 4096 * 2 ^ (t - 12)
  frames_in = ap (2 ^◌) (sym (add-sub_of_le leaf.frames)) ∙ pow-add 2 12 (t - 12)

  -- n bytes that do not cross a frame's end
  in_frame : (n : ℕ) → o % 4096 + n ≤ 4096 → InFrame grants n o
  in_frame n h =
      let low : input % 2 ^ t < 2 ^ t = mod-lt input (pow_pos t) in
      let e = frames_in in
      let q : x % 2 ^ 48 / 2 ^ t * 2 ^ t ≡ 4096 * (x % 2 ^ 48 / 2 ^ t * 2 ^ (t - 12)) = ap (x % 2 ^ 48 / 2 ^ t *◌) e ∙ omega arith in
      record {
        frame = o / 4096 * 4096;
        aligned = omega arith;
        inside = granted_part grants (upper x t) (2 ^ t) (o / 4096 * 4096) 4096 (omega arith) (omega arith) leaf.range;
        from = omega arith;
        to = omega arith;
      }

  -- an address
  pub address_in_frame : InFrame grants 1 o
  address_in_frame = in_frame 1 (omega arith)

  -- a descriptor
  pub descriptor_in_frame : input % 8 ≡ 0 → InFrame grants 8 o
  descriptor_in_frame even =
      let e = frames_in in
      let d = div-add-mod' input (2 ^ t) in
      let q : x % 2 ^ 48 / 2 ^ t * 2 ^ t ≡ 4096 * (x % 2 ^ 48 / 2 ^ t * 2 ^ (t - 12)) = ap (x % 2 ^ 48 / 2 ^ t *◌) e ∙ omega arith in
      let i : input / 2 ^ t * 2 ^ t ≡ 4096 * (input / 2 ^ t * 2 ^ (t - 12)) = ap (input / 2 ^ t *◌) e ∙ omega arith in
      in_frame 8 (omega arith)
