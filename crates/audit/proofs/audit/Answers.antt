-- `audit` meets its contract, by the memory of a raw capture; and demand 3 holds of every audit.
-- Assumes nothing.
use Rattle.std.proofs.Common.{◌≡◌, refl, ◌∙◌, ℕ, [], ◌∷◌, rules, of_calls}
use Rattle.std.specs.Prelude.{Option, Some, None, IfSome, MatchOption, IsSomeAnd}
use Rattle.std.specs.Option.{is_none}
use Rattle.reads.specs.Program.{Request}
use Rattle.capture.specs.Capture.{memory}
use Rattle.capture.specs.declared.view.OnePart.{OnePart}
use Rattle.capture.specs.declared.view.Parts.{Parts}
use Rattle.audit.specs.Calls.{found_in}
use Rattle.audit.proofs.Confinement.{confinement}
use Rattle.audit.proofs.Telling.{raw_told}
use Rattle.audit.proofs.audit.Goals as goal

-- one part as many finds the same
module _ {P : OnePart → Parts → Type 0} (same : (v : OnePart) (p : Parts) → P v p → (p.file.now ≡ v.file.now) × (p.front ≡ v.front) × (p.parts.now ≡ [])) (m : Request → Option ℕ) where
  alike : (o : Option OnePart) (q : Option Parts) → MatchOption o (q ≡ None) (λ v. IsSomeAnd q (P v)) → IfSome o (λ v. memory (v.front.part ∷ []) v.file.now ≡ m) →
      (is_none q ≡ is_none o) × IfSome q (λ p. found_in p ≡ m)
  alike None q e h = rw e (refl, h)
  alike (Some v) None e h = absurd e
  alike (Some v) (Some p) e h = let z = same v p e in (refl, rw (z.0, z.1, z.2) h)

pub returns-clause-told : goal.returns-clause-told
returns-clause-told c =
    let a = alike (λ v p e. search (rules, of_calls)) _ c.raw.result c.map.result c.map.ensures.cases c.raw.ensures.finds in
    raw_told _ _ _ _ _ c.args.base c.args.bytes.now (a.0 ∙ c.raw.ensures.high) (c.over.ensures _ a.1)

pub returns-clause-confined : goal.returns-clause-confined
returns-clause-confined c = λ other. confinement _ _ _ _ _ _ _ _
