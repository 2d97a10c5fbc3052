-- `number` meets its contract: zeros past the bytes add nothing.
-- Assumes nothing.
use Rattle.std.proofs.Common.{◌≡◌, ℕ, List, ◌+◌, ◌-◌, ◌≤◌, ◌∙◌, length, take, drop, arith, ap, length-take-le, length-drop}
use Rattle.capture.specs.Capture.{little}
use Rattle.layout.proofs.Numbers.{padded, small_part, bounded}
use Rattle.layout.proofs.elf.number.Goals as goal

-- so many bytes from a place on
between : (file : List ℕ) (at n : ℕ) → take (at + n - at) (drop at file) ≡ take n (drop at file)
between file at n = ap (λ k. take k (drop at file)) (omega arith)

long : (file : List ℕ) (at n : ℕ) → at + n ≤ length file → length (take n (drop at file)) ≡ n
long file at n room = length-take-le n (drop at file) (omega (arith, length-drop at file))

pub returns-clause-value : goal.returns-clause-value
returns-clause-value g c =
    let file = c.args.file.now in
    let at = c.args.at in
    let n = g.row.N in
    let bytes : c.copy_from_slice.new.self ≡ take n (drop at file) = c.copy_from_slice.ensures.after ∙ between file at n in
    c.from_le_bytes.ensures ∙ padded c.copy_from_slice.new.self n (ap length bytes ∙ long file at n c.requires.room) c.requires.small ∙ ap little bytes

pub returns-clause-bound : goal.returns-clause-bound
returns-clause-bound g c =
    let file = c.args.file.now in
    let at = c.args.at in
    let n = g.row.N in
    let bytes : c.copy_from_slice.new.self ≡ take n (drop at file) = c.copy_from_slice.ensures.after ∙ between file at n in
    let value = c.from_le_bytes.ensures ∙ padded c.copy_from_slice.new.self n (ap length bytes ∙ long file at n c.requires.room) c.requires.small ∙ ap little bytes in
    let most = bounded (take n (drop at file)) (small_part at n file (λ i. omega (arith, c.type_inv.file i))) in
    rw (long file at n c.requires.room) at (rw (← value) at most)
