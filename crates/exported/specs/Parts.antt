-- For the contracts of code: the words of answers of one sort. proofs/Sorts.antt ties them to the values that those answers carry.
-- Assumes nothing.
use Rattle.std.specs.Prelude.{ℕ, get_or}
use Rattle.answers.specs.Answers.{item_of}
use Rattle.walk.specs.declared.stop.Stage.{Stage}
use Rattle.walk.specs.declared.stop.Stage.TheVariants.{One, Two}
use Rattle.answers.specs.declared.Refusal.{Refusal}
use Rattle.exported.specs.declared.Words.{Words}
use Rattle.exported.specs.Words.{flag}

abbrev pub on_walk_word : Stage → ℕ
on_walk_word One = 0
on_walk_word (Two i w) = flag w

abbrev pub ipa_word : Stage → ℕ
ipa_word One = 0
ipa_word (Two i w) = i

abbrev pub item_word : Refusal → ℕ
item_word r = get_or (item_of r) 0 0

abbrev pub stopped : (number address stage level onwalk ipa reads : ℕ) → Words
stopped number address stage level onwalk ipa reads =
    record {
      number = number;
      item = 0;
      address = address;
      memory = 0;
      shareability = 0;
      level1 = 0;
      level2 = 0;
      stage = stage;
      level = level;
      onwalk = onwalk;
      ipa = ipa;
      reads = reads;
    }

abbrev pub refused : (number item : ℕ) → Words
refused number item =
    record {
      number = number;
      item = item;
      address = 0;
      memory = 0;
      shareability = 0;
      level1 = 0;
      level2 = 0;
      stage = 0;
      level = 0;
      onwalk = 0;
      ipa = 0;
      reads = 0;
    }
