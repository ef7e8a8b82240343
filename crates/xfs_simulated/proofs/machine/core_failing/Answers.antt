use Rattle.xfs_simulated.proofs.machine.core_failing.Goals as goal

-- what a core over a disk in memory starts from holds of it over that disk with failing calls
pub returns-clause-starts : goal.returns-clause-starts
returns-clause-starts g c =
    let s = c.core_under-mech.ensures.starts in
    record { units = s.units; recorded = rw c.new.ensures.inner s.recorded; at_rest = rw c.new.ensures.inner s.at_rest }
