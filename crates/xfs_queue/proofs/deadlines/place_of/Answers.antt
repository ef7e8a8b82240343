use Rattle.std.proofs.Common.{leb, arith, rules}
use Rattle.std.proofs.lemmas.Bool.Decides.{nat_tests}
use Rattle.std.proofs.lemmas.List.Sorted.{IsPartitionPoint-from_clause, IsPartitionedBy-leb}
use Rattle.xfs_queue.specs.declared.deadlines.Entry.{Entry}
use Rattle.xfs_queue.proofs.deadlines.place_of.Goals as goal

pub returns : goal.returns
returns c =
    let xs = c.args.entries.now in
    let point = IsPartitionPoint-from_clause (λ (e : Entry). leb e.deadline c.args.deadline) xs _ c.partition_point.ensures.partitioned
    (IsPartitionedBy-leb (λ (e : Entry). e.deadline) xs c.args.deadline c.requires) (λ x r q k. search rules) in
    record {
      within = c.partition_point.ensures.bound;
      before = λ k d below. grind (arith, nat_tests, point.0 k d (omega arith) below);
      after = λ k d from within. grind (arith, nat_tests, point.1 k d from within);
    }
