-- The output size on both sides of 2^40 (02, §2): of each stage at the base register, at table entries and at a leaf, and of the audit at
-- the base register alone.
-- Assumes nothing.
use Rattle.std.specs.Prelude.{◌≡◌, refl, true, false, List, [], ◌∷◌, map, ℕ, ◌+◌, ◌-◌, ◌*◌, take, Ok, None, Err}
use Rattle.answers.specs.Answers.{address, stage, level, level1, level2, on_walk, ipa, reads}
use Rattle.answers.specs.declared.Refusal.TheVariants.{NoRoot}
use Rattle.audit.specs.Audit.{AuditAnswer}
use Rattle.level.specs.Level.{output_size}
use Rattle.registers.specs.declared.El1.{El1}
use Rattle.registers.specs.declared.El2.{El2}
use Rattle.facts.specs.Open.{opened}
use Rattle.facts.specs.Asked.{Image, Row, asked, audited_pairs, audited}
use Rattle.facts.specs.Cases.{image, registers, el1, el2, host, guest, access, logged, one, stage1_reads, write_back, strict_device}

-- each PAMax with each code of IPS or PS: the smaller of the two sizes
sizes : map (λ pamax. map (output_size pamax) (0 ∷ 1 ∷ 2 ∷ 3 ∷ 4 ∷ 5 ∷ [])) (32 ∷ 36 ∷ 40 ∷ 42 ∷ 44 ∷ 48 ∷ [])
    ≡ (32 ∷ 32 ∷ 32 ∷ 32 ∷ 32 ∷ 32 ∷ [])
    ∷ (32 ∷ 36 ∷ 36 ∷ 36 ∷ 36 ∷ 36 ∷ [])
    ∷ (32 ∷ 36 ∷ 40 ∷ 40 ∷ 40 ∷ 40 ∷ [])
    ∷ (32 ∷ 36 ∷ 40 ∷ 42 ∷ 42 ∷ 42 ∷ [])
    ∷ (32 ∷ 36 ∷ 40 ∷ 42 ∷ 44 ∷ 44 ∷ [])
    ∷ (32 ∷ 36 ∷ 40 ∷ 42 ∷ 44 ∷ 48 ∷ [])
    ∷ []
unfolding opened
sizes = refl

-- ---- each stage alone, over three tables that lie one after the other and map 0x1008

-- 2^40
abbrev pub edge : ℕ
edge = 0x10000000000

-- the tables at an address, all captured, and the leaf of frame 0x1000
abbrev pub tables_at : (at leaf : ℕ) → Image
tables_at at leaf = record { base = at; length = 0x3000; words = (at, at + 0x1003) ∷ (at + 0x1000, at + 0x2003) ∷ (at + 0x2008, leaf) ∷ [] }

-- the entries that map 0x1008
abbrev pub entries : (at : ℕ) → List ℕ
entries at = at ∷ (at + 0x1000) ∷ (at + 0x2008) ∷ []

-- an input size of 39 bits, from level 1
abbrev pub guest_at : (ips at : ℕ) → El1
guest_at ips at = record { sctlr = record { 0 = 5 }; tcr = record { 0 = ips * 0x100000000 + 0x800019 }; ttbr0 = at; ttbr1 = 0; mair = 0xFF }

abbrev pub host_at : (pamax ps at : ℕ) → El2
host_at pamax ps at = registers pamax 0x80000001 (ps * 0x10000 + 0x59) at 0

-- of a page of this output address: stage 1 with stage 2 off and IPS as the code, stage 2 with stage 1 off and PS as the code
abbrev pub alone : (pamax code at output : ℕ) → Row × Row
alone pamax code at output = (
  asked (tables_at at (output + 0x743)) (registers pamax 0x80000000 0 0 0) (guest_at code at) (access 0x1008 0 0) 24,
  asked (tables_at at (output + 0x7FF)) (host_at pamax code at) (el1 0 0) (access 0x1008 0 0) 24,
)

-- both translate
abbrev pub to : (at output : ℕ) → Row × Row
to at output = (
  record { number = 0; values = address (output + 8) ∷ write_back ∷ level1 3 ∷ level2 0 ∷ reads 3 ∷ []; log = logged (entries at) },
  record { number = 0; values = address (output + 8) ∷ strict_device ∷ level1 0 ∷ level2 3 ∷ reads 3 ∷ []; log = logged (entries at) },
)

-- both fault at a level, after n reads
abbrev pub fault : (at level n : ℕ) → Row × Row
fault at l n = (
  record { number = 2; values = stage 1 ∷ level l ∷ on_walk false ∷ reads n ∷ []; log = logged (take n (entries at)) },
  record { number = 2; values = stage 2 ∷ level l ∷ on_walk false ∷ reads n ∷ ipa 0x1008 ∷ []; log = logged (take n (entries at)) },
)

-- PAMax 40 and code 5. The last table and the page, which is its own frame, end at 2^40
size_below : alone 40 5 (edge - 0x3000) (edge - 0x1000) ≡ to (edge - 0x3000) (edge - 0x1000)
unfolding opened asked
size_below = refl

-- the page at 2^40
size_leaf : alone 40 5 (edge - 0x3000) edge ≡ fault (edge - 0x3000) 3 3
unfolding opened asked
size_leaf = refl

-- the level 3 table at 2^40
size_table_3 : alone 40 5 (edge - 0x2000) 0x90000 ≡ fault (edge - 0x2000) 2 2
unfolding opened asked
size_table_3 = refl

-- the level 2 table at 2^40
size_table_2 : alone 40 5 (edge - 0x1000) 0x90000 ≡ fault (edge - 0x1000) 1 1
unfolding opened asked
size_table_2 = refl

-- the root at 2^40
size_base : alone 40 5 edge 0x90000 ≡ fault edge 0 0
unfolding opened asked
size_base = refl

-- PAMax 48 and code 2: the same size
size_coded : alone 48 2 (edge - 0x3000) edge ≡ fault (edge - 0x3000) 3 3
unfolding opened asked
size_coded = refl

-- PAMax 48 and code 5: tables and page from 2^40 on
size_wide : alone 48 5 edge edge ≡ to edge edge
unfolding opened asked
size_wide = refl

-- ---- both stages: case A

-- IPS 5, the page of stage 1 at 2^40 + 0x50000: stage 2, to which that IPA is too wide, is not asked
case_a_ips : asked (image ((0x40005008, 0x10000050743) ∷ [])) host (el1 5 0x500800019) (access 0x1008 0 0) 24
    ≡ record { number = 2; values = stage 1 ∷ level 3 ∷ on_walk false ∷ reads 12 ∷ []; log = logged stage1_reads }
unfolding opened asked
case_a_ips = refl

-- PS 5, the page that holds stage 1's root at 2^40 + 0x40003000
case_a_ps : asked (image ((0x40002008, 0x100400037FF) ∷ [])) (el2 0x50059) guest (access 0x1008 0 0) 24
    ≡ record { number = 2; values = stage 2 ∷ level 3 ∷ on_walk true ∷ reads 3 ∷ ipa 0x1000 ∷ []; log = logged one }
unfolding opened asked
case_a_ps = refl

-- ---- the audit, PS 5: of it only answer 16 follows

-- the root's two tables are listed, the page is granted
abbrev pub audit : (pamax at output : ℕ) → AuditAnswer
audit pamax at output = audited_pairs (tables_at at (output + 0x7FF)) (host_at pamax 5 at) ((output, 0x1000) ∷ []) ((at + 0x1000, 2) ∷ (at + 0x2000, 3) ∷ [])

audit_below : audit 40 (edge - 0x3000) 0x90000 ≡ Ok None
unfolding opened audited
audit_below = refl

audit_base : audit 40 edge 0x90000 ≡ Err NoRoot
unfolding opened audited
audit_base = refl

-- PAMax 48
audit_wide : audit 48 edge 0x90000 ≡ Ok None
unfolding opened audited
audit_wide = refl

-- both listed tables from 2^40 on; then the page
audit_table_case : audit 40 (edge - 0x1000) 0x90000 ≡ Ok None
unfolding opened audited
audit_table_case = refl

audit_leaf : audit 40 (edge - 0x3000) edge ≡ Ok None
unfolding opened audited
audit_leaf = refl
