-- `part` meets its contract: a sum that would wrap is past the file's end, as the sum itself is.
-- Assumes nothing.
use Rattle.std.proofs.Common.{◌≡◌, ◌+◌, ap₂, arith}
use Rattle.capture.specs.Capture.{least, part}
use Rattle.capture.proofs.Lesser.{least_min}
use Rattle.capture.proofs.Bank.part.Goals as goal

pub returns : goal.returns
unfolding part
returns c =
    let b = c.args.self in
    let n = c.args.length in
    let from : c.min-from.result ≡ least b.offset n = omega (arith, least_min b.offset n) in
    let to : c.min-to.result ≡ least (b.offset + b.size) n = omega (arith, least_min (b.offset + b.size) n) in
    ap₂ (λ x y. record { address = b.address; from = x; to = y }) from to
