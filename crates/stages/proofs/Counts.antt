-- How many reads an access makes: with n1 and n2 levels at most n1 x (n2 + 1) + n2, met by a translated access exactly when each walk ends at level 3.
-- Assumes nothing.
use mathlib.Core.Path.{sym, subst}
use mathlib.Core.Bool.{true, false}
use Prim.Native.Nat.{ℕ, suc, ◌+◌, ◌*◌}
use native.Mathlib.Nat.{zero-mul}
use Rattle.bits.specs.Bits.{pick}
use Rattle.reads.specs.Program.{Request}
use Rattle.std.specs.Prelude.{Option}
use Rattle.reads.proofs.Tally.{Tight, tight_done, tight_bind, tight_choice}
use Rattle.access.specs.declared.Access.{Access}
use Rattle.walk.specs.Checks.{give}
use Rattle.walk.specs.declared.stop.Stage.TheVariants.{One}
use Rattle.walk.specs.Root.{Root}
use Rattle.walk.specs.declared.check.Output.{Output}
use Rattle.walk.specs.declared.stage2.Stage2.{Stage2}
use Rattle.walk.proofs.Counts.{HasLevels, tight_then, tight_give, tight_from, tight_translate2}
use Rattle.stages.specs.declared.stage1.Stage1.{Stage1}
use Rattle.stages.specs.Stage1.{place1, root1_at, check1, stage1_off, translate1}
use Rattle.stages.specs.Stages.{finish, access}

-- stage 2 with n2 levels
module _ (m : Request → Option ℕ) (s : Stage2) (a : Access) (n2 : ℕ) (levels : HasLevels n2 s.root) where
  -- the reads of one stage 2 translation: none with stage 2 off
  abbrev each : ℕ
  each = pick s.on n2 0

  tight_place : (at : ℕ) → Tight m each (place1 s a at)
  unfolding place1
  tight_place at =
      tight_choice m (λ z. z) s.on n2 0 (tight_then m n2 _ _ (tight_translate2 m s a n2 levels true at) (λ o. tight_done m _)) (tight_done m at)

  tight_finish : (o : Output) → Tight m each (finish s a o)
  unfolding finish
  tight_finish o =
      tight_choice m (λ z. z) s.on n2 0 (tight_then m n2 _ _ (tight_translate2 m s a n2 levels false o.address) (λ p. tight_done m _)) (tight_done m _)

  tight_translate1 : (s1 : Stage1) (root : Root) (n1 : ℕ) → HasLevels n1 root → Tight m (pick s1.on n1 0 * suc each) (translate1 s1 root s a)
  unfolding translate1
  tight_translate1 s1 root n1 h =
      tight_choice m (λ z. z * suc each) s1.on n1 0
      (tight_then m _ _ _ (tight_from m (place1 s a) each tight_place One a.address n1 root h) (λ l. tight_give m (check1 s1 a l)))
      (subst (λ z. Tight m z (give (stage1_off s1 a))) (sym (zero-mul (suc each))) (tight_give m (stage1_off s1 a)))

  -- with n1 levels in stage 1's root for the address
  pub tight_access : (s1 : Stage1) (n1 : ℕ) → HasLevels n1 (root1_at s1 a.address) →
      Tight m (pick s1.on n1 0 * suc (pick s.on n2 0) + pick s.on n2 0) (access s1 s a)
  unfolding access
  tight_access s1 n1 h = tight_bind m _ _ _ _ (tight_translate1 s1 (root1_at s1 a.address) n1 h) tight_finish
