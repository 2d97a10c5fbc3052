-- `read_headers` meets its contract: its tests are those of `is_core`, in their order, and the banks that it writes are those that it lays.
-- Assumes nothing.
use Rattle.std.proofs.Common.{◌≡◌, length, take, refl, ap, ◌∙◌, arith}
use Rattle.layout.specs.Elf.{banks}
use Rattle.layout.proofs.Headed.{there, fits, banks_are}
use Rattle.layout.proofs.Written.{first, unheaded, crowded, spare, unread, read}
use Rattle.layout.proofs.read_headers.Goals as goal

pub returns-in_err-headers : goal.returns-in_err-headers
returns-in_err-headers c = unread _ (unheaded _ c.in_err-headers.ensures) c.from_residual.ensures

pub count_banks-count-requires : goal.count_banks-count-requires
count_banks-count-requires c = there c.in_ok-headers.ensures

pub returns-then-count-gt-MOST_BANKS : goal.returns-then-count-gt-MOST_BANKS
returns-then-count-gt-MOST_BANKS c =
    let h = c.in_ok-headers.ensures in
    unread _ (crowded _ h.whole (c.count_banks-count.ensures.count ∙ ap length (banks_are h)) (omega (arith, c.if-count-gt-MOST_BANKS.true))) refl

pub write_banks-requires : goal.write_banks-requires
write_banks-requires c = (there c.in_ok-headers.ensures, omega (arith, c.count_banks-count.ensures.count, c.if-count-gt-MOST_BANKS.false))

pub end-requires : goal.end-requires
end-requires c = fits c.in_ok-headers.ensures (omega arith) (omega arith)

pub returns : goal.returns
returns c =
    let h = c.in_ok-headers.ensures in
    let count = c.count_banks-count.ensures.count ∙ ap length (banks_are h) in
    let written = rw (banks_are h) at c.write_banks.ensures in
    let laid : take c.count_banks-count.result.count c.write_banks.new.banks ≡ banks c.args.file.now =
    rw written (first (banks c.args.file.now) c.args.banks.now _ count (omega (arith, count, c.if-count-gt-MOST_BANKS.false))) in
    read _ (spare _ h.whole count c.if-count-gt-MOST_BANKS.false) written (rw (laid, c.end.ensures, h.at, h.count) at c.well_laid.ensures) count c.then_some.ensures
