-- What holds of a whole access with stage 2 on, from what holds of stage 2's tables.
-- Assumes nothing.
use mathlib.Core.Path.{◌≡◌, refl, ap, sym, ◌∙◌, subst}
use mathlib.Core.Bool.{Bool, true, false, false≢true}
use Prim.Native.Nat.{ℕ, suc, ◌+◌, ◌*◌, ◌/◌, ◌%◌, ◌^◌, ◌<◌}
use native.Mathlib.Omega.{arith}
use lib.Pow.{pow-add}
use Rattle.bits.specs.Bits.{upper, beyond}
use Rattle.reads.specs.Program.{stage_1, stage_2, Request, done}
use Rattle.descriptor.specs.Entry.{descriptor_type, output_address, nothing}
use Rattle.access.specs.declared.Access.{Access}
use Rattle.std.specs.Prelude.{Option, Some, Ok, Err, None}
use Rattle.descriptor.specs.declared.entry.Geometry.{Geometry}
use Rattle.descriptor.specs.declared.entry.DescriptorType.{DescriptorType}
use Rattle.descriptor.specs.declared.entry.FaultKind.{FaultKind}
use Rattle.descriptor.specs.declared.entry.FaultKind.TheVariants.{Permission}
use Rattle.attributes.specs.declared.Attributes.{Attributes}
use Rattle.bits.proofs.Tests.{by_pick}
use Rattle.reads.proofs.Holds.{Holds, on_done, on_stop, holds_bind, holds_pick}
use Rattle.walk.specs.declared.stop.Stage.{Stage}
use Rattle.walk.specs.declared.stop.Stage.TheVariants.{One, Two}
use Rattle.walk.specs.declared.stop.Stop.{Stop}
use Rattle.walk.specs.declared.stop.Stop.TheVariants.{Misaligned}
use Rattle.walk.specs.declared.table.Leaf.{Leaf}
use Rattle.walk.specs.declared.table.Table.{Table}
use Rattle.walk.specs.Root.{Root, unusable}
use Rattle.walk.specs.declared.check.Output.{Output}
use Rattle.walk.specs.Checked.{Checked}
use Rattle.stages.specs.declared.stage1.Stage1.{Stage1}
use Rattle.walk.specs.declared.stage2.Stage2.{Stage2}
use Rattle.walk.specs.Walk.{Reading, fault, absent, unsettled, walk_from}
use Rattle.walk.specs.Checks.{unless, settled, permitted, give}
use Rattle.walk.specs.Stage2.{check2, translate2}
use Rattle.stages.specs.Stage1.{place1, root1_at, check1, stage1_off, translate1}
use Rattle.stages.specs.Stages.{finish, access}
use Rattle.walk.proofs.Walks.{Says, holds_walk}

-- ---- descriptors are eight bytes: tables lie at multiples of eight, and so does each of their entries

-- of a usable root: its base, and each table that an entry leads to
abbrev pub Aligned : Root → Type 0
Aligned (Err u) = Unit {0}
Aligned (Ok t) = (t.base % 8 ≡ 0) × ((x : ℕ) → upper x t.geometry.grainsize % 8 ≡ 0)

pub upper_aligned : (x low : ℕ) → upper x (3 + low) % 8 ≡ 0
upper_aligned x low =
    let e : x % 2 ^ 48 / 2 ^ (3 + low) * 2 ^ (3 + low) ≡ 8 * (x % 2 ^ 48 / 2 ^ (3 + low) * 2 ^ low) =
    ap (x % 2 ^ 48 / 2 ^ (3 + low) *◌) (pow-add 2 3 low) ∙ omega arith in
    omega arith

-- ---- stage 2's tables

-- an entry with n levels below it lies at an address, in a table of T
pub record Spot (T : ℕ → ℕ → ℕ → Type 0) (n at : ℕ) : Type 0 where
  pub bits : ℕ
  pub table : ℕ
  pub index : ℕ
  pub of : T (suc n) bits table
  pub less : index < 2 ^ bits
  pub is : at ≡ table + 8 * index

-- stage 2 puts the input ipa at o by a leaf of L
pub record Hit (L : ℕ → ℕ → Type 0) (ipa o : ℕ) : Type 0 where
  pub word : ℕ
  pub shift : ℕ
  pub leaf : L word shift
  pub is : o ≡ output_address word shift ipa

-- P of each read and S of each stop over the memory m. F: where stage 1's descriptors may lie.
-- T and L: stage 2's tables and leaves, from its root down, as `says` has it of each entry.
pub record Around (m : Request → Option ℕ) (P : Request → Type 0) (S : Stop → Type 0)
    (F : ℕ → Type 0) (T : ℕ → ℕ → ℕ → Type 0) (L : ℕ → ℕ → Type 0) (root : Table) : Type 0 where
  pub faults : (s : Stage) (kind : FaultKind) (level : ℕ) → S (fault kind s level)
  pub opens : (s : Stage) (level : ℕ) → S (unsettled s level)
  pub misaligned : (s : Stage) → S (Misaligned s)
  pub gap1 : (at level : ℕ) → F at → S (absent at One level)
  pub gap2 : (at ipa : ℕ) (w : Bool) (level : ℕ) → S (absent at (Two ipa w) level)
  pub read1 : (at : ℕ) → F at → P (record { reader = stage_1; address = at })
  pub read2 : (n at : ℕ) → Spot T n at → P (record { reader = stage_2; address = at })
  pub top : T root.levels root.bits root.base
  pub says : (n bits table index x : ℕ) → T (suc n) bits table → index < 2 ^ bits →
      m (record { reader = stage_2; address = table + 8 * index }) ≡ Some x → Says T L root.geometry n x (descriptor_type root.geometry n x)
  pub lies : (ipa o : ℕ) → ipa % 8 ≡ 0 → Hit L ipa o → F o

module _ (m : Request → Option ℕ) (P : Request → Type 0) (S : Stop → Type 0)
    (F : ℕ → Type 0) (T : ℕ → ℕ → ℕ → Type 0) (L : ℕ → ℕ → Type 0) (root : Table) (w : Around m P S F T L root) where
  abbrev H : {A : Type 0} → (A → Type 0) → Reading A → Type 0
  H = Holds m P S

  -- no more is known
  abbrev Any : {A : Type 0} → A → Type 0
  Any a = Unit {0}

  -- ---- steps that read nothing

  -- what holds of a check's outcome
  data Checks (R : Output → Type 0) : Checked → Type 0 where
    passes : {o : Output} → R o → Checks R (Ok o)
    stops : {e : Stop} → S e → Checks R (Err e)

  holds_give : {R : Output → Type 0} {c : Checked} → Checks R c → H R (give c)
  unfolding give
  holds_give (passes h) = on_done h
  holds_give (stops h) = on_stop h

  checks_unless : {R : Output → Type 0} {c : Checked} (b : Bool) (e : Stop) → S e → Checks R c → Checks R (unless b e c)
  unfolding unless
  checks_unless {R} {c} b e s h = by_pick (Checks R) b (Err e) c (λ _. stops s) (λ _. h)

  checks_permitted : {R : Output → Type 0} (s : Stage) (input : ℕ) (l : Leaf) (misaligned denied : Bool) (t : Attributes) → S (Misaligned s) → S (fault Permission s l.level) →
      R (record { address = output_address l.word l.shift input; attributes = t; level = l.level }) → Checks R (permitted s input l misaligned denied t)
  unfolding permitted
  checks_permitted s input l misaligned denied t m f r = checks_unless _ _ m (checks_unless _ _ f (passes r))

  checks_settled : {R : Output → Type 0} (e : Stop) (k : Attributes → Checked) → S e → ((a : Attributes) → Checks R (k a)) → (d : Option Attributes) → Checks R (settled e k d)
  unfolding settled
  checks_settled e k s h (Some a) = h a
  checks_settled e k s h None = stops s

  -- ---- stage 2

  spot_says : (n at x : ℕ) → Spot T n at → m (record { reader = stage_2; address = at }) ≡ Some x → Says T L root.geometry n x (descriptor_type root.geometry n x)
  spot_says n at x p e =
      w.says n p.bits p.table p.index x p.of p.less (subst (λ z. m (record { reader = stage_2; address = z }) ≡ Some x) p.is e)

  holds_walk2 : (ipa : ℕ) (is_on_walk : Bool) (r : Root) → r ≡ Ok root → H (λ l. L l.word l.shift) (walk_from done (Two ipa is_on_walk) ipa r)
  unfolding walk_from
  holds_walk2 ipa is_on_walk r e =
      subst (λ z. H (λ (l : Leaf). L l.word l.shift) (walk_from done (Two ipa is_on_walk) ipa z)) (sym e)
      (holds_walk m P S T (Spot T) L (Two ipa is_on_walk) (w.faults _) (w.opens _) root.geometry done
      (λ n j table i t less. on_done (record { bits = j; table = table; index = i; of = t; less = less; is = refl }))
      (λ n at p. w.read2 n at p) (λ n at level p. w.gap2 at ipa is_on_walk level) spot_says
      ipa root.levels root.bits root.base nothing w.top)

  module _ (s2 : Stage2) (rooted : s2.root ≡ Ok root) (a : Access) where
    checks2 : (is_on_walk : Bool) (ipa : ℕ) (l : Leaf) → L l.word l.shift → Checks (λ o. Hit L ipa o.address) (check2 s2 a is_on_walk ipa l)
    unfolding check2
    checks2 is_on_walk ipa l h =
        checks_settled _ _ (w.opens _ _)
        (λ t. checks_permitted _ _ _ _ _ _ (w.misaligned _) (w.faults _ _ _) (record { word = l.word; shift = l.shift; leaf = h; is = refl })) _

    pub holds_translate2 : (is_on_walk : Bool) (ipa : ℕ) → H (λ o. Hit L ipa o.address) (translate2 s2 a is_on_walk ipa)
    unfolding translate2 walk_from
    holds_translate2 is_on_walk ipa =
        holds_bind m _ _ _
        (by_pick (λ r. H (λ (l : Leaf). L l.word l.shift) (walk_from done (Two ipa is_on_walk) ipa r)) (beyond ipa s2.inputsize) (unusable _ _) s2.root
        (λ _. on_stop (w.faults _ _ _)) (λ _. holds_walk2 ipa is_on_walk s2.root rooted))
        (λ l h. holds_give (checks2 is_on_walk ipa l h))

    -- ---- stage 1, over stage 2

    module _ (on : s2.on ≡ true) where
      holds_place : (at : ℕ) → at % 8 ≡ 0 → H F (place1 s2 a at)
      unfolding place1
      holds_place at e =
          holds_pick m _ _ s2.on
          (λ _. holds_bind m _ _ _ (holds_translate2 true at) (λ o h. on_done (w.lies at o.address e h)))
          (λ off. absurd (false≢true (sym off ∙ on)))

      one_says : (g : Geometry) → ((x : ℕ) → upper x g.grainsize % 8 ≡ 0) → (n x : ℕ) (d : DescriptorType) → Says (λ k j table. table % 8 ≡ 0) (λ x t. Unit {0}) g n x d
      one_says g even n x DescriptorType.Invalid = tt
      one_says g even n x DescriptorType.Table = even x
      one_says g even n x DescriptorType.Leaf = tt

      holds_walk1 : (r : Root) → Aligned r → H Any (walk_from (place1 s2 a) One a.address r)
      unfolding walk_from
      holds_walk1 (Err u) h = on_stop (w.faults _ _ _)
      holds_walk1 (Ok t) h =
          holds_walk m P S (λ k j table. table % 8 ≡ 0) (λ n at. F at) (λ x k. Unit {0}) One (w.faults _) (w.opens _) t.geometry (place1 s2 a)
          (λ n j table i e less. holds_place (table + 8 * i) (omega arith))
          (λ n at f. w.read1 at f) (λ n at level f. w.gap1 at level f) (λ n at x f e. one_says t.geometry h.1 n x (descriptor_type t.geometry n x))
          a.address t.levels t.bits t.base nothing h.0

      checks1 : (s1 : Stage1) (l : Leaf) → Checks Any (check1 s1 a l)
      unfolding check1
      checks1 s1 l = checks_settled _ _ (w.opens _ _) (λ t. checks_permitted _ _ _ _ _ _ (w.misaligned _) (w.faults _ _ _) tt) _

      checks_off : (s1 : Stage1) → Checks Any (stage1_off s1 a)
      unfolding stage1_off
      checks_off s1 = checks_unless _ _ (w.faults _ _ _) (checks_unless _ _ (w.misaligned _) (passes tt))

      holds_translate1 : (s1 : Stage1) (r : Root) → Aligned r → H Any (translate1 s1 r s2 a)
      unfolding translate1
      holds_translate1 s1 r h = holds_pick m _ _ s1.on (λ _. holds_bind m _ _ _ (holds_walk1 r h) (λ l _. holds_give (checks1 s1 l))) (λ _. holds_give (checks_off s1))

      holds_finish : (o : Output) → H (λ t. (ipa : ℕ) × Hit L ipa t.address) (finish s2 a o)
      unfolding finish
      holds_finish o =
          holds_pick m _ _ s2.on
          (λ _. holds_bind m _ _ _ (holds_translate2 false o.address) (λ p h. on_done (o.address, h)))
          (λ off. absurd (false≢true (sym off ∙ on)))

      -- every translated address is one where stage 2 puts some input
      pub holds_access : (s1 : Stage1) → Aligned (root1_at s1 a.address) → H (λ t. (ipa : ℕ) × Hit L ipa t.address) (access s1 s2 a)
      unfolding access
      holds_access s1 h = holds_bind m _ _ _ (holds_translate1 s1 (root1_at s1 a.address) h) (λ o _. holds_finish o)
