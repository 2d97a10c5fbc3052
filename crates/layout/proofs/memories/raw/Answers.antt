-- `raw` meets its contract: a raw capture is one part, the whole of it.
-- Assumes nothing.
use Rattle.std.proofs.Common.{◌≡◌, Bool, true, false, sym, ◌∙◌, List, ℕ, [], ◌∷◌, length}
use Rattle.std.specs.Prelude.{Option, Some, None, IfSome, MatchOption}
use Rattle.std.specs.Option.{is_none}
use Rattle.capture.specs.Capture.{memory, ends_high}
use Rattle.capture.specs.Calls.{Held}
use Rattle.capture.specs.declared.view.OnePart.{OnePart}
use Rattle.layout.specs.Layout.{raw, captured}
use Rattle.layout.proofs.Raw.{whole, raw_captured, raw_high, raw_held}
use Rattle.layout.proofs.memories.raw.Goals as goal

none_where : {A : Type 0} (o : Option A) (b : Bool) → MatchOption o (b ≡ true) (λ _. b ≡ false) → is_none o ≡ b
none_where None b e = sym e
none_where (Some v) b e = sym e

-- the part in front is the whole capture
finds : (base : ℕ) (file : List ℕ) (o : Option OnePart) → IfSome o (λ v. v.file.now ≡ file) → IfSome o (λ v. v.front ≡ whole base file) →
    IfSome o (λ v. memory (v.front.part ∷ []) v.file.now ≡ captured (raw base) file)
finds base file None e f = e
finds base file (Some v) e f = rw (e, f) (sym (raw_captured base file))

-- what may be read of it
held : (base : ℕ) (file : List ℕ) (o : Option OnePart) → MatchOption o (ends_high base (length file) ≡ true) (λ _. ends_high base (length file) ≡ false) →
    IfSome o (λ v. v.file.now ≡ file) → IfSome o (λ v. v.front ≡ whole base file) → IfSome o (λ v. Held v.front [] v.file.now)
held base file None low e f = e
held base file (Some v) low e f = rw (e, f) (raw_held base file low)

pub returns-clause-high : goal.returns-clause-high
returns-clause-high c = none_where c.raw.result _ c.raw.ensures.high ∙ sym (raw_high c.args.base c.args.bytes.now)

pub returns-clause-finds : goal.returns-clause-finds
returns-clause-finds c = finds _ _ _ c.raw.ensures.bytes c.raw.ensures.front

pub returns-clause-held : goal.returns-clause-held
returns-clause-held c = held _ _ _ c.raw.ensures.high c.raw.ensures.bytes c.raw.ensures.front
