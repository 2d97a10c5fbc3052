-- `starting_by` meets its contract: parts that rise are divided by where they start.
-- Assumes nothing.
use Rattle.std.proofs.Common.{rules, leb, leb-true, leb-false}
use Rattle.std.proofs.lemmas.List.Sorted.{IsPartitionPoint-from_clause, IsPartitionedBy-leb}
use Rattle.capture.specs.declared.Part.{Part}
use Rattle.capture.proofs.starting_by.Goals as goal

pub returns : goal.returns
returns c =
    let parts = c.args.parts.now in
    let p = IsPartitionPoint-from_clause (λ (p : Part). leb p.address c.args.address) parts c.partition_point.result c.partition_point.ensures.partitioned
    (IsPartitionedBy-leb (λ (p : Part). p.address) parts c.args.address c.requires) (λ a r f' k. search rules) in
    record { within = c.partition_point.ensures.bound; split = (λ k d u v. leb-true _ _ (p.0 k d u v), λ k d u v. leb-false _ _ (p.1 k d u v)) }
