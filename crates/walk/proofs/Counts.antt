-- How many reads a walk makes, of which each descriptor takes c reads to place: at most (c + 1) a level, met exactly when each walk ends at level 3.
-- And stage 2's translation: at most one a level.
-- Assumes nothing.
use mathlib.Core.Path.{◌≡◌, refl, sym, subst}
use mathlib.Core.Bool.{Bool}
use mathlib.Core.List.{[], ◌∷◌}
use Prim.Native.Nat.{ℕ, zero, suc, ◌+◌, ◌-◌, ◌*◌, zero-le}
use native.Mathlib.Nat.{mul-one, zero-mul, add-zero}
use native.Mathlib.Omega.{arith}
use Rattle.bits.specs.Bits.{pick}
use Rattle.reads.specs.Program.{Request, done, note, bind, run, reads, ends, nil, cons}
use Rattle.descriptor.specs.Entry.{decode}
use Rattle.access.specs.declared.Access.{Access}
use Rattle.std.specs.Prelude.{Option, Ok, Err}
use Rattle.descriptor.specs.declared.entry.Geometry.{Geometry}
use Rattle.descriptor.specs.declared.entry.Entry.{Entry}
use Rattle.descriptor.specs.declared.entry.Entry.TheVariants as E
use Rattle.descriptor.specs.declared.entry.Inherited.{Inherited}
use Rattle.bits.proofs.Tests.{by_pick}
use Rattle.reads.proofs.Tally.{AllThree, Tight, tight_stop, tight_done, tight_bind, tight_ask}
use Rattle.walk.specs.declared.stop.Stage.{Stage}
use Rattle.walk.specs.declared.stop.Stage.TheVariants.{Two}
use Rattle.walk.specs.declared.stop.Stop.{Stop}
use Rattle.walk.specs.declared.table.Leaf.{Leaf}
use Rattle.walk.specs.Root.{Root, unusable}
use Rattle.walk.specs.Checked.{Checked}
use Rattle.walk.specs.declared.stage2.Stage2.{Stage2}
use Rattle.walk.specs.Walk.{Reading, if_present, follow, walk, walk_from}
use Rattle.walk.specs.Checks.{give}
use Rattle.walk.specs.Stage2.{root2_at, check2, translate2}

-- a usable root has n levels
abbrev pub HasLevels : ℕ → Root → Type 0
HasLevels n (Err u) = Unit {0}
HasLevels n (Ok t) = t.levels ≡ n

-- a level above 3 - 0 is not 3
above_three : (n : ℕ) → AllThree ((3 - suc n) ∷ []) → ⊥
above_three n (cons e h) = omega arith

-- what both choices of a root have, the choice has
pub pick_levels : (n : ℕ) (b : Bool) (p q : Root) → HasLevels n p → HasLevels n q → HasLevels n (pick b p q)
pick_levels n b p q hp hq = by_pick (HasLevels n) b p q (λ e. hp) (λ e. hq)

module _ (m : Request → Option ℕ) where
  -- ---- one walk, of which each descriptor takes c reads to place

  tight_leaf : (n c : ℕ) (l : Leaf) → Tight {E = Stop} m (n * suc c) (note (3 - n) (done l))
  unfolding run reads ends
  tight_leaf zero c l = record { tally = record { most = zero-le; exact = (λ e. cons refl nil, λ t. sym (zero-mul (suc c))) } }
  tight_leaf (suc n) c l = record { tally = record { most = zero-le; exact = (λ e. absurd (omega arith), λ t. absurd (above_three n t)) } }

  tight_follow : (g : Geometry) (s : Stage) (n x : ℕ) (h : Inherited) (deeper : ℕ → Inherited → Reading Leaf) (c : ℕ) →
      ((t : ℕ) (i : Inherited) → Tight m (n * suc c) (deeper t i)) → (e : Entry) → Tight m (n * suc c) (follow g s n x h deeper e)
  unfolding follow
  tight_follow g s n x h deeper c k (E.Next t) = k _ _
  tight_follow g s n x h deeper c k E.Final = tight_leaf n c _
  tight_follow g s n x h deeper c k (E.Fault f) = tight_stop m _ _
  tight_follow g s n x h deeper c k E.Unsettled = tight_stop m _ _

  module _ (place : ℕ → Reading ℕ) (c : ℕ) (placed : (a : ℕ) → Tight m c (place a)) where
    tight_walk : (g : Geometry) (s : Stage) (input k j table : ℕ) (h : Inherited) → Tight m (k * suc c) (walk place g s input k j table h)
    unfolding walk if_present
    tight_walk g s input zero j table h = tight_stop m (zero * suc c) _
    tight_walk g s input (suc n) j table h =
        let e : c + suc (n * suc c) ≡ suc n * suc c = omega arith in
        subst (λ z. Tight m z (walk place g s input (suc n) j table h)) e
        (tight_bind m c (suc (n * suc c)) _ _ (placed _)
        (λ at. tight_ask m (n * suc c) _ _ _ refl (λ x. tight_follow g s n x h _ c (λ t i. tight_walk g s input n g.stride t i) (decode g n x))))

    pub tight_from : (s : Stage) (input n : ℕ) (root : Root) → HasLevels n root → Tight m (n * suc c) (walk_from place s input root)
    unfolding walk_from
    tight_from s input n (Err u) h = tight_stop m _ _
    tight_from s input n (Ok t) h = subst (λ z. Tight m (z * suc c) (walk_from place s input (Ok t))) h (tight_walk _ _ _ _ _ _ _)

  -- ---- steps that read nothing

  pub tight_then : {A B : Type 0} (c : ℕ) (p : Reading A) (f : A → Reading B) → Tight m c p → ((a : A) → Tight m 0 (f a)) → Tight m c (bind p f)
  tight_then c p f hp hf = subst (λ z. Tight m z (bind p f)) (add-zero c) (tight_bind m c 0 p f hp hf)

  pub tight_give : (c : Checked) → Tight m 0 (give c)
  unfolding give
  tight_give (Ok o) = tight_done m o
  tight_give (Err e) = tight_stop m 0 e

  -- ---- the stages, stage 2 with n2 levels

  module _ (s : Stage2) (a : Access) (n2 : ℕ) (levels : HasLevels n2 s.root) where
    pub tight_translate2 : (w : Bool) (ipa : ℕ) → Tight m n2 (translate2 s a w ipa)
    unfolding translate2
    tight_translate2 w ipa =
        tight_then n2 _ _
        (subst (λ z. Tight m z (walk_from done (Two ipa w) ipa (root2_at s ipa))) (mul-one n2)
        (tight_from done 0 (tight_done m) (Two ipa w) ipa n2 (root2_at s ipa) (pick_levels n2 _ (unusable _ _) s.root tt levels)))
        (λ l. tight_give (check2 s a w ipa l))
