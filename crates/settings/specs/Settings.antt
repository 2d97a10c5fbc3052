-- Which registers are accepted (01, Settings).
-- Assumes nothing.
use Rattle.std.specs.Prelude.{Bool, not, ◌&&◌, ◌||◌, List, [], ◌∷◌, ℕ, ◌-◌, leb, eqb, Result, Ok, Err}
use Rattle.bits.specs.Bits.{pick}
use Rattle.registers.specs.Tcr
use Rattle.registers.specs.Vtcr
use Rattle.registers.specs.Hcr
use Rattle.registers.specs.Sctlr
use Rattle.registers.specs.declared.El1.{El1}
use Rattle.registers.specs.declared.El2.{El2}
use Rattle.settings.specs.declared.Item.{Item}
use Rattle.settings.specs.declared.Item.TheVariants.{Pamax, Tge, Rw, BigEndian, Ips, LowerRange, UpperRange, Ps, Stage2Size}

abbrev pub stage1_on : El2 → El1 → Bool
stage1_on r g = Sctlr.m g.sctlr && not (Hcr.dc r.hcr)

abbrev pub stage2_on : El2 → Bool
stage2_on r = Hcr.vm r.hcr || Hcr.dc r.hcr

abbrev pub listed_pamax : ℕ → Bool
listed_pamax n = eqb n 32 || eqb n 36 || eqb n 40 || eqb n 42 || eqb n 44 || eqb n 48

abbrev pub listed_size_field : ℕ → Bool
listed_size_field n = leb 16 n && leb n 39

-- codes of two bits that name a granule (02, §3): 3 is reserved in TG0, 0 in TG1
abbrev pub listed_tg0 : ℕ → Bool
listed_tg0 code = leb code 2

abbrev pub listed_tg1 : ℕ → Bool
listed_tg1 code = leb 1 code

-- what is asked only where a test holds
abbrev pub implies : Bool → Bool → Bool
implies test asked = not test || asked

abbrev pub item4_el1 : El2 → El1 → Bool
item4_el1 r g = implies (stage1_on r g) (not (Sctlr.ee g.sctlr))

abbrev pub item4_el2 : El2 → Bool
item4_el2 r = implies (stage2_on r) (not (Sctlr.ee r.sctlr))

abbrev pub item5 : El2 → El1 → Bool
item5 r g = implies (stage1_on r g) (leb (Tcr.ips g.tcr) 5)

abbrev pub item6 : El2 → El1 → Bool
item6 r g =
    implies (stage1_on r g && not (Tcr.epd0 g.tcr))
    (listed_size_field (Tcr.t0sz g.tcr) && listed_tg0 (Tcr.tg0 g.tcr))

abbrev pub item7 : El2 → El1 → Bool
item7 r g =
    implies (stage1_on r g && not (Tcr.epd1 g.tcr))
    (listed_size_field (Tcr.t1sz g.tcr) && listed_tg1 (Tcr.tg1 g.tcr))

abbrev pub item8 : El2 → Bool
item8 r = implies (stage2_on r) (leb (Vtcr.ps r.vtcr) 5)

abbrev pub item9 : El2 → Bool
item9 r =
    implies (stage2_on r)
    (listed_size_field (Vtcr.t0sz r.vtcr) && listed_tg0 (Vtcr.tg0 r.vtcr) && leb (64 - Vtcr.t0sz r.vtcr) r.pamax)

-- the number of the first item that does not hold, or 0
unfoldable pub first_failing : List (ℕ × Bool) → ℕ
first_failing [] = 0
first_failing (i ∷ l) = pick i.1 (first_failing l) i.0

-- ---- the items in their order, each with its number

-- items 1 to 3, and then others
abbrev pub first_items : El2 → List (ℕ × Bool) → List (ℕ × Bool)
first_items r others = (1, listed_pamax r.pamax) ∷ (2, not (Hcr.tge r.hcr)) ∷ (3, Hcr.rw r.hcr) ∷ others

-- items 8 and 9, which are stage 2's
abbrev pub last_items : El2 → List (ℕ × Bool)
last_items r = (8, item8 r) ∷ (9, item9 r) ∷ []

abbrev pub items : El2 → El1 → List (ℕ × Bool)
items r g = first_items r ((4, item4_el1 r g && item4_el2 r) ∷ (5, item5 r g) ∷ (6, item6 r g) ∷ (7, item7 r g) ∷ last_items r)

-- the audit goes by no register of the guest
abbrev pub audit_items : El2 → List (ℕ × Bool)
audit_items r = first_items r ((4, item4_el2 r) ∷ last_items r)

-- a question's and a batch's
unfoldable pub settings : El2 → El1 → ℕ
settings r g = first_failing (items r g)

-- the audit's
unfoldable pub audit_settings : El2 → ℕ
audit_settings r = first_failing (audit_items r)

-- ---- what code returns: nothing, or the item that fails

abbrev pub number : Item → ℕ
number Pamax = 1
number Tge = 2
number Rw = 3
number BigEndian = 4
number Ips = 5
number LowerRange = 6
number UpperRange = 7
number Ps = 8
number Stage2Size = 9

-- as the definitions say it
abbrev pub item_word : Result (Unit {0}) Item → ℕ
item_word (Ok u) = 0
item_word (Err i) = number i
