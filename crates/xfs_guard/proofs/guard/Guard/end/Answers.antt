use Rattle.std.proofs.Common.{◌≡◌, true, rules}
use Rattle.std.specs.Prelude.{is_some}
use Rattle.xfs_guard.proofs.StoredLaws.{left-possible}
use Rattle.xfs_guard.proofs.guard.Guard.end.Goals as goal

pub returns : goal.returns
returns g c = record {
  stored = search rules;
  left = rw (← c.self.view_is) (left-possible g.D.Disk c.end.result c.self.inside.ledger.records c.self.inside.ledger.in_doubt c.end.ensures.stored);
  recorded = rw (← c.self.view_is) (λ records may.
      let told : is_some (g.D.Disk.held c.self.inside.ledger.disk) ≡ true = rw (← c.end.ensures.disk) may.told in
      c.self.invariant.0.recorded told records (left-possible g.D.Disk c.end.result c.self.inside.ledger.records c.self.inside.ledger.in_doubt c.end.ensures.stored records may));
  clean = search rules;
  told = search rules;
  disk = search rules;
  motions = search rules;
  places = search rules;
  units = search rules;
  faults = search rules;
}
