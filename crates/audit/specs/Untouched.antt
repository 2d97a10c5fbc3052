-- What finding 2 is for (01, The audit). Proved in proofs/Untouched.antt.
-- Assumes nothing.
use Rattle.std.specs.Prelude.{◌≡◌, false, List, ℕ, None, Ok}
use Rattle.layout.specs.Layout.{Form}
use Rattle.regime.specs.Roots.{root2}
use Rattle.registers.specs.declared.El2.{El2}
use Rattle.lists.specs.Lists.{zip}
use Rattle.lists.specs.Search.{touches}
use Rattle.audit.specs.Audit.{audit}
use Rattle.audit.specs.Confinement.{Audited}

-- After a clean audit, no byte of an audited table lies in a grant: a guest that writes only its grants writes none of its stage 2 tables.
pub record Untouched (form : Form) (file : List ℕ) (r : El2) (grants counts tables levels : List ℕ) : Type 0 where
  pub untouched : audit form file r grants counts tables levels ≡ Ok None →
      (table size : ℕ) → Audited (root2 r) (zip tables levels) table size → touches (zip grants counts) table size ≡ false
