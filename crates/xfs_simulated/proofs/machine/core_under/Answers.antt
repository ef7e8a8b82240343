use Rattle.xfs_guard.proofs.StartLaws.{at_rest-memory, starts-memory}
use Rattle.xfs_simulated.proofs.machine.core_under.Goals as goal

pub returns-clause-starts : goal.returns-clause-starts
returns-clause-starts g c = record {
  units = c.requires.units_are;
  recorded = starts-memory c.args.disk _ _ _ c.requires.settled c.requires.none c.requires.fresh;
  at_rest = at_rest-memory c.args.disk c.requires.settled;
}
