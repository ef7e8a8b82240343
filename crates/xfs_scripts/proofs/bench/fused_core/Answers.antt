use Rattle.xfs_guard.proofs.StartLaws.{at_rest-memory, starts-memory}
use Rattle.xfs_scripts.proofs.bench.fused_core.Goals as goal

pub returns-clause-starts : goal.returns-clause-starts
returns-clause-starts c = record {
  units = c.requires.units;
  recorded = rw c.new.ensures.inner (starts-memory c.args.disk _ _ _ c.requires.settled c.requires.none c.requires.fresh);
  at_rest = rw c.new.ensures.inner (at_rest-memory c.args.disk c.requires.settled);
}
