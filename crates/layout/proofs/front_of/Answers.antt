-- `front_of` meets its contract: of three parts the larger is the same whichever two are taken first.
-- Assumes nothing.
use Rattle.std.proofs.Common.{◌≡◌, rules, ◌∙◌}
use Rattle.std.specs.List.{reduce}
use Rattle.std.proofs.iter.runs.Made.{chains}
use Rattle.layout.specs.Calls.{larger}
use Rattle.layout.proofs.Front.{reduced}
use Rattle.layout.proofs.front_of.Goals as goal

pub returns : goal.returns
returns c =
    let e : c.reduce.result ≡ reduce larger c.args.parts.now = search (rules, chains) in
    c.unwrap_or.ensures ∙ rw e (reduced c.args.parts.now)
