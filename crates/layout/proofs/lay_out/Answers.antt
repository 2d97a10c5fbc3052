-- `lay_out` meets its contract: the parts that it writes are those of the banks that it read.
-- Assumes nothing.
use Rattle.std.proofs.Common.{◌≡◌, length, take, refl, sym, ap, ◌∙◌, arith, rules, true≢false, length-take-le}
use Rattle.std.proofs.lemmas.List.{length-map}
use Rattle.capture.specs.Capture.{part, any_high}
use Rattle.capture.specs.Calls.{ahead}
use Rattle.layout.specs.Elf.{banks, parts}
use Rattle.layout.specs.Calls.{front_of}
use Rattle.layout.proofs.Written.{first, refused, accepted, counted, few, used}
use Rattle.layout.proofs.lay_out.Goals as goal

pub returns-in_err-count : goal.returns-in_err-count
returns-in_err-count c =
    let no = refused c.read_headers.ensures c.in_err-count.was in
    rw c.from_residual.ensures (record { readable = sym no; high = tt; front = tt; count = tt; written = λ e. absurd (true≢false (sym e ∙ no)); refused = λ e. refl })

pub slice_bounds-banks-end : goal.slice_bounds-banks-end
slice_bounds-banks-end c = let h = few c.read_headers.ensures c.in_ok-count.was in omega (arith, c.read_headers.auto.banks)

pub slice_bounds-banks-end-2 : goal.slice_bounds-banks-end-2
slice_bounds-banks-end-2 c =
    let h = few c.read_headers.ensures c.in_ok-count.was in
    sym (length-take-le _ c.read_headers.new.banks (omega (arith, c.read_headers.auto.banks)))

pub slice_bounds-front_of-end : goal.slice_bounds-front_of-end
slice_bounds-front_of-end c = let h = few c.read_headers.ensures c.in_ok-count.was in omega (arith, c.keep.auto.parts)

pub slice_bounds-front_of-end-2 : goal.slice_bounds-front_of-end-2
slice_bounds-front_of-end-2 c =
    let h = few c.read_headers.ensures c.in_ok-count.was in
    sym (length-take-le _ c.keep.new.parts (omega (arith, c.keep.auto.parts)))

pub returns : goal.returns
returns c =
    let file = c.args.file.now in
    let read = c.read_headers.ensures in
    let yes = accepted read c.in_ok-count.was in
    let count = counted read c.in_ok-count.was in
    let few = few read c.in_ok-count.was in
    let said = used read c.in_ok-count.was (search rules) in
    let n : length (parts file) ≡ length (banks file) = length-map (banks file) (part (length file)) in
    let kept : take c.in_ok-count.count c.keep.new.parts ≡ parts file =
    rw (c.keep.ensures, said) (first (parts file) c.args.parts.now c.in_ok-count.count (count ∙ sym n) (omega (arith, n, count, few))) in
    record {
      readable = sym yes;
      high = c.any_high.ensures ∙ ap any_high said;
      front = c.new.ensures ∙ ap ahead (c.front_of.ensures ∙ ap front_of kept);
      count = count;
      written = λ e. rw count at kept;
      refused = λ e. absurd (true≢false (sym yes ∙ e));
    }
