-- For the contracts of code: the stage that its words stand for, and where an access begins.
-- Assumes nothing.
use Rattle.std.specs.Prelude.{◌≡◌, true, false, ◌+◌, ◌*◌, ◌%◌, ◌^◌}
use Rattle.bits.specs.Bits.{field}
use Rattle.access.specs.declared.Access.{Access}
use Rattle.walk.specs.Calls.{Within, Starts, root_of}
use Rattle.stages.specs.Stage1.{root1_at}
use Rattle.stages.specs.Calls.{off_ending}
use Rattle.stages.specs.declared.stage1.VaRange.{VaRange}
use Rattle.stages.specs.declared.stage1.Stage1.{Stage1}
use Rattle.stages.specs.declared.stage1.Opening.{Opening}
use Rattle.stages.specs.declared.prepared.StartedRange.{StartedRange}
use Rattle.stages.specs.declared.prepared.Prepared1.{Prepared1}

abbrev pub range_of : StartedRange → VaRange
range_of r = record { inputsize = r.inputsize; root = root_of r.start }

abbrev pub stage1_of : Prepared1 → Stage1
stage1_of p =
    record {
      on = p.on;
      pamax = p.pamax;
      dc = p.dc;
      tbi0 = p.bounds.tbi0;
      tbi1 = p.bounds.tbi1;
      lower = range_of p.lower;
      upper = range_of p.upper;
      mair = p.mair;
      c = p.c;
      i = p.i;
      wxn = p.wxn;
    }

-- where an access begins
pub data Opens (p : Prepared1) (a : Access) (o : Opening) : Type 0 where
  walks : p.on ≡ true → o.walking ≡ true → o.ending ≡ o.start.ending → o.level ≡ o.start.level → Starts o.start (root1_at (stage1_of p) a.address) →
      o.ipa ≡ o.start.base + 8 * field a.address o.start.shift o.start.bits → Opens p a o
  passes : p.on ≡ false → o.walking ≡ false → o.ending ≡ off_ending (stage1_of p) a → o.level ≡ 0 → Within o.start → o.ipa ≡ a.address % 2 ^ 48 → Opens p a o
