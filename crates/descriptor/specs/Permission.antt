-- Permissions of a leaf's descriptor x, for each stage (01, Checks).
-- Assumes nothing.
use Rattle.std.specs.Prelude.{Bool, true, not, ◌&&◌, ◌||◌, ℕ}
use Rattle.bits.specs.Bits.{pick, bit}
use Rattle.access.specs.Access.{is_read, is_write, at_el0}
use Rattle.access.specs.declared.Access.{Access}
use Rattle.descriptor.specs.declared.entry.Inherited.{Inherited}

-- ---- stage 1, with what the tables impose. AP is bits 7:6. AArch64.CheckPermission.

-- EL1 may write: bit 7 clear
abbrev pub el1_writes : Inherited → ℕ → Bool
el1_writes h x = not (bit x 7 || h.readonly)

-- EL0 may read: bit 6 set
abbrev pub el0_reads : Inherited → ℕ → Bool
el0_reads h x = bit x 6 && not h.el1only

abbrev pub el0_writes : Inherited → ℕ → Bool
el0_writes h x = el0_reads h x && el1_writes h x

-- an EL0 fetch asks for no AP bit
abbrev pub el0_fetches : (wxn : Bool) → Inherited → ℕ → Bool
el0_fetches wxn h x = not (bit x 54 || h.xn || (wxn && el0_writes h x))

abbrev pub el1_fetches : (wxn : Bool) → Inherited → ℕ → Bool
el1_fetches wxn h x = not (bit x 53 || h.pxn || (wxn && el1_writes h x) || el0_writes h x)

unfoldable pub stage1_permits : (wxn : Bool) → Access → Inherited → ℕ → Bool
stage1_permits wxn a h x =
    pick (at_el0 a)
    (pick (is_read a) (el0_reads h x) (pick (is_write a) (el0_writes h x) (el0_fetches wxn h x)))
    (pick (is_read a) true (pick (is_write a) (el1_writes h x) (el1_fetches wxn h x)))

-- ---- stage 2: bit 6 reads, bit 7 writes, a fetch needs bit 6 and XN clear. An on-walk access is a read. AArch64.CheckS2Permission.
unfoldable pub stage2_permits : (is_on_walk : Bool) → Access → ℕ → Bool
stage2_permits is_on_walk a x =
    pick (is_on_walk || is_read a) (bit x 6)
    (pick (is_write a) (bit x 7) (bit x 6 && not (bit x 54)))
