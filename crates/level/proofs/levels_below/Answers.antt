-- `levels_below` meets its contract, by the level's sign. Assumes nothing.
use mathlib.Core.Path.{◌∙◌}
use mir.Syntax.{w64}
use mir.Facts.{to_z_pos, to_z-of_z}
use Rattle.level.specs.Level.{levels_below}
use Rattle.level.proofs.Signed.{negative, natural, mirror}
use Rattle.level.proofs.levels_below.Goals as goal

pub returns-then-start-lt0 : goal.returns-then-start-lt0
unfolding levels_below
returns-then-start-lt0 c =
    let n = negative _ c.ranges.start c.if-start-lt0.true in
    rw (to_z-of_z c.ranges.start, n.2, mirror, to_z_pos w64 n.1)

pub returns-else-start-lt0 : goal.returns-else-start-lt0
unfolding levels_below
returns-else-start-lt0 c =
    let n = natural _ c.ranges.start c.if-start-lt0.false in
    c.saturating_sub.ensures ∙ rw (to_z-of_z c.ranges.start, n.2)
