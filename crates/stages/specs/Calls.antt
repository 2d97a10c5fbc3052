-- For the contracts of code: what its words stand for, and the stages that an access may be called with.
-- Assumes nothing.
use Rattle.std.specs.Prelude.{◌≡◌, Bool, true, false, not, ◌&&◌, ◌||◌, ℕ, suc, ◌-◌, ◌/◌, ◌%◌, ◌^◌, eqb, Ok, Err, Result, Option, List}
use Rattle.bits.specs.Bits.{pick}
use Rattle.reads.specs.Program.{Request, Outcome, reached, stopped}
use Rattle.reads.specs.Ran.{Ran}
use Rattle.access.specs.Access.{is_fetch, unaligned}
use Rattle.access.specs.declared.Access.{Access}
use Rattle.attributes.specs.Attributes.{class_of, settled_part, stage1_attributes, stage2_attributes, stage1_off_attributes, combine}
use Rattle.attributes.specs.declared.Attributes.{Attributes}
use Rattle.descriptor.specs.Permission.{stage1_permits}
use Rattle.descriptor.specs.Turn.{imposed}
use Rattle.walk.specs.Checks.{misaligned}
use Rattle.walk.specs.Stage2.{uncached2}
use Rattle.walk.specs.Ends.{outcome, verdict}
use Rattle.descriptor.specs.declared.entry.FaultKind.TheVariants as F
use Rattle.walk.specs.Root.{Root, unusable}
use Rattle.walk.specs.declared.stop.Stage.{Stage}
use Rattle.walk.specs.declared.stop.Stage.TheVariants.{One, Two}
use Rattle.walk.specs.declared.stop.Stop.{Stop}
use Rattle.walk.specs.declared.check.Output.{Output}
use Rattle.walk.specs.declared.end.Ending.{Ending}
use Rattle.walk.specs.declared.end.Ending.TheVariants as E
use Rattle.walk.specs.declared.end.End.{End}
use Rattle.walk.specs.declared.stage2.Stage2.{Stage2}
use Rattle.stages.specs.Stage1.{top, place1, uncached1}
use Rattle.stages.specs.Stages.{finish}
use Rattle.stages.specs.declared.stage1.Stage1.{Stage1}
use Rattle.stages.specs.declared.both.Translation.{Translation}
use Rattle.stages.specs.declared.both.By.{By}
use Rattle.stages.specs.declared.both.By.TheVariants.{First, OnWalk, Second}
use Rattle.stages.specs.declared.both.Arrival.{Arrival}
use Rattle.stages.specs.declared.both.AttributeControls.{AttributeControls}

unfoldable pub outcome_of : Result Translation Stop → Outcome Stop Translation
outcome_of (Ok t) = reached t
outcome_of (Err e) = stopped e

-- ---- an access in plain words

-- stage 1's attributes, by its leaf's descriptor
abbrev pub attributes1 : Stage1 → Access → (word : ℕ) → Attributes
attributes1 s a word = pick s.on (settled_part (stage1_attributes s.mair (uncached1 s a) word)) (stage1_off_attributes s.dc (is_fetch a) s.i)

-- with stage 2's, by its leaf's descriptor
abbrev pub combined : Stage2 → Access → Attributes → (word : ℕ) → Attributes
combined s a one word = pick s.on (combine one (settled_part (stage2_attributes (uncached2 s a false) word))) one

-- stage 1's output, translated to stage 2's end
abbrev pub finished_at : Stage2 → Access → Output → End → Translation
finished_at s a o e = record { address = e.address; attributes = combined s a o.attributes e.word; level1 = o.level; level2 = e.level }

-- stage 1's output, of which stage 2 was asked for this IPA
abbrev pub output_of : Stage1 → Access → (ipa level word : ℕ) → Output
output_of s a ipa level word = record { address = ipa; attributes = attributes1 s a word; level = level }

-- the level of stage 1's leaf, with so many levels below it
abbrev pub leaf_level : Stage1 → (left : ℕ) → ℕ
leaf_level s left = pick s.on (3 - left) 0

unfoldable pub stage_by : By → (ipa : ℕ) → Stage
stage_by First ipa = One
stage_by OnWalk ipa = Two ipa true
stage_by Second ipa = Two ipa false

unfoldable pub arrived : Stage1 → Stage2 → Access → Arrival → Outcome Stop Translation
arrived s1 s2 a r = outcome (stage_by r.by r.ipa) (finished_at s2 a (output_of s1 a r.ipa (leaf_level s1 r.left1) r.word1) r.end) r.end

abbrev pub at_first : End → Arrival
at_first e = record { by = First; end = e; ipa = 0; left1 = 0; word1 = 0 }

-- an IPA as it is, where stage 2 is off
abbrev pub as_it_is : (ipa count : ℕ) → End
as_it_is ipa count = record { ending = E.Passed; address = ipa; word = 0; level = 0; count = count }

abbrev pub at_output : (ipa left1 word1 count : ℕ) → Arrival
at_output ipa left1 word1 count = record { by = Second; end = as_it_is ipa count; ipa = ipa; left1 = left1; word1 = word1 }

-- stages of which only what attributes go by is told
abbrev nowhere : Root
nowhere = unusable F.Translation 0

abbrev pub memory1 : AttributeControls → Stage1
memory1 m =
    record {
      on = m.on1;
      pamax = 0;
      dc = m.dc;
      tbi0 = false;
      tbi1 = false;
      lower = record { inputsize = 0; root = nowhere };
      upper = record { inputsize = 0; root = nowhere };
      mair = m.mair;
      c = m.c;
      i = m.i;
      wxn = false;
    }

abbrev pub memory2 : AttributeControls → Stage2
memory2 m = record { on = m.on2; inputsize = 0; root = nowhere; cd = m.cd; id = m.id; ptw = false }

-- what attributes go by in two stages
abbrev pub memory_of : Stage1 → Stage2 → AttributeControls
memory_of s1 s2 = record { on1 = s1.on; dc = s1.dc; mair = s1.mair; c = s1.c; i = s1.i; on2 = s2.on; cd = s2.cd; id = s2.id }

-- ---- stage 2

-- what it gives of a stage 1 descriptor's address, and of stage 1's output
pub record Seconded (m : Request → Option ℕ) (s : Stage2) (a : Access) (w : Bool) (ipa : ℕ) (log : List ℕ) (count : ℕ) (r : End) (log' : List ℕ) : Type 0 where
  pub placed : w ≡ true → Ran m (place1 s a ipa) log count (outcome (Two ipa true) r.address r) r.count log'
  pub finished : w ≡ false → (o : Output) → o.address ≡ ipa → Ran m (finish s a o) log count (outcome (Two ipa false) (finished_at s a o r) r) r.count log'

-- ---- stage 1

-- what the checks after its walk leave, by the leaf's descriptor and the words of its tables
abbrev pub ending1 : Stage1 → Access → (tables x : ℕ) → Ending
ending1 s a tables x =
    verdict (λ d. misaligned a d) (λ d. not (stage1_permits s.wxn a (imposed tables) x) || (d && is_fetch a)) (class_of (stage1_attributes s.mair (uncached1 s a) x))

-- stage 1 off
abbrev pub off_device : Stage1 → Access → Bool
off_device s a = not s.dc && not (is_fetch a)

abbrev pub off_ending : Stage1 → Access → Ending
off_ending s a =
    pick (eqb (a.address % 2 ^ suc (top s a.address) / 2 ^ s.pamax) 0) (pick (off_device s a && unaligned a) E.Misaligned E.Passed) E.AddressSize
