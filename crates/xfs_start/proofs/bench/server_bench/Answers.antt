use Rattle.xfs_start.proofs.bench.server_bench.Goals as goal

pub returns-clause-resumed : goal.returns-clause-resumed
returns-clause-resumed g c = rw c.over_file.ensures c.in_ok-core.ensures.resumed

-- what a disk in memory is started from holds of it under its kind
pub returns-clause-second : goal.returns-clause-second
returns-clause-second g c =
    let s = rw c.in_ok-second.ensures.ok_part at c.second_core.ensures.starts in
    rw c.over_memory.ensures (record { units = s.units; recorded = s.recorded; at_rest = s.at_rest })
