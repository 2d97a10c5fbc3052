-- What holds of a walk, of either stage: from what holds of its tables, of where its descriptors lie, and of what they say.
-- Assumes nothing.
use mathlib.Core.Path.{◌≡◌, refl}
use Prim.Native.Nat.{ℕ, zero, suc, ◌+◌, ◌*◌, ◌^◌, ◌<◌}
use native.Mathlib.Nat.{mod-lt}
use lib.Pow.{pow_pos}
use Rattle.bits.specs.Bits.{field, upper}
use Rattle.reads.specs.Program.{Request}
use Rattle.descriptor.specs.Entry.{shift, descriptor_type, decode_as}
use Rattle.std.specs.Prelude.{Option, Some, None}
use Rattle.descriptor.specs.declared.entry.Geometry.{Geometry}
use Rattle.descriptor.specs.declared.entry.DescriptorType.{DescriptorType}
use Rattle.descriptor.specs.declared.entry.FaultKind.{FaultKind}
use Rattle.descriptor.specs.declared.entry.Inherited.{Inherited}
use Rattle.bits.proofs.Tests.{by_pick}
use Rattle.reads.proofs.Holds.{Holds, on_done, on_stop, on_note, on_ask, holds_bind}
use Rattle.walk.specs.declared.stop.Stage.{Stage}
use Rattle.walk.specs.declared.stop.Stop.{Stop}
use Rattle.walk.specs.declared.table.Leaf.{Leaf}
use Rattle.walk.specs.Walk.{Reading, reader_of, fault, absent, unsettled, if_present, follow, walk}

-- what an entry x with n levels below it says, by its type: the table it leads to is one of T, the leaf it is, with its shift, one of L
abbrev pub Says : (T : ℕ → ℕ → ℕ → Type 0) (L : ℕ → ℕ → Type 0) → Geometry → (n x : ℕ) → DescriptorType → Type 0
Says T L g n x DescriptorType.Invalid = Unit {0}
Says T L g n x DescriptorType.Table = T n g.stride (upper x g.grainsize)
Says T L g n x DescriptorType.Leaf = L x (shift g n)

-- P of each read and S of each stop, over the memory m.
-- T k j table: a table of 2 ^ j entries with k levels, itself included. At n at: an entry with n levels below it lies at an address. L x t: a leaf.
module _ (m : Request → Option ℕ) (P : Request → Type 0) (S : Stop → Type 0)
    (T : ℕ → ℕ → ℕ → Type 0) (At : ℕ → ℕ → Type 0) (L : ℕ → ℕ → Type 0) (s : Stage)
    (faults : (kind : FaultKind) (level : ℕ) → S (fault kind s level)) (opens : (level : ℕ) → S (unsettled s level)) where
  abbrev pub IsLeaf : Leaf → Type 0
  IsLeaf l = L l.word l.shift

  abbrev H : Reading Leaf → Type 0
  H = Holds m P S IsLeaf

  holds_follow : (g : Geometry) (n x : ℕ) (h : Inherited) (deeper : ℕ → Inherited → Reading Leaf) →
      ((t : ℕ) (i : Inherited) → T n g.stride t → H (deeper t i)) → (d : DescriptorType) → Says T L g n x d → H (follow g s n x h deeper (decode_as g n x d))
  unfolding follow decode_as
  holds_follow g n x h deeper k DescriptorType.Invalid says = on_stop (faults _ _)
  holds_follow g n x h deeper k DescriptorType.Table says =
      by_pick (λ e. H (follow g s n x h deeper e)) _ _ _ (λ _. on_stop (faults _ _)) (λ _. k _ _ says)
  holds_follow g n x h deeper k DescriptorType.Leaf says =
      by_pick (λ e. H (follow g s n x h deeper e)) _ _ _ (λ _. on_stop (opens _))
      (λ _. by_pick (λ e. H (follow g s n x h deeper e)) _ _ _ (λ _. on_stop (faults _ _))
      (λ _. by_pick (λ e. H (follow g s n x h deeper e)) _ _ _ (λ _. on_note (on_done says)) (λ _. on_stop (faults _ _))))

  holds_present : (e : Stop) (k : ℕ → Reading Leaf) → S e → (f : Option ℕ) → ((x : ℕ) → f ≡ Some x → H (k x)) → H (if_present e k f)
  unfolding if_present
  holds_present e k stops None h = on_stop stops
  holds_present e k stops (Some x) h = h x refl

  module _ (g : Geometry) (place : ℕ → Reading ℕ)
      (placed : (n j table i : ℕ) → T (suc n) j table → i < 2 ^ j → Holds m P S (At n) (place (table + 8 * i)))
      (reads : (n at : ℕ) → At n at → P (record { reader = reader_of s; address = at }))
      (gaps : (n at level : ℕ) → At n at → S (absent at s level))
      (says : (n at x : ℕ) → At n at → m (record { reader = reader_of s; address = at }) ≡ Some x → Says T L g n x (descriptor_type g n x)) where
    pub holds_walk : (input k j table : ℕ) (h : Inherited) → T k j table → H (walk place g s input k j table h)
    unfolding walk
    holds_walk input zero j table h t = on_stop (faults _ _)
    holds_walk input (suc n) j table h t =
        holds_bind m _ _ _ (placed n j table (field input (shift g n) j) t (mod-lt _ (pow_pos j)))
        (λ at here. on_ask (reads n at here)
        (holds_present _ _ (gaps n at _ here) (m _)
        (λ x e. holds_follow g n x h _ (λ t' i r. holds_walk input n g.stride t' i r) (descriptor_type g n x) (says n at x here e))))
