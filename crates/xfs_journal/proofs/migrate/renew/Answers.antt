use Rattle.xfs_journal.specs.Image.{StandsFor}
use Rattle.xfs_journal.specs.JournalView.{IsButForEighth}
use Rattle.xfs_journal.proofs.Appended.{stands_at_rest}
use Rattle.xfs_journal.proofs.Doubt.{no_doubt}
use Rattle.xfs_journal.proofs.Migrating.{kept_still, spares, stands_still}
use Rattle.xfs_journal.proofs.Moments.{weaken}
use Rattle.xfs_journal.proofs.Told.{on_told}
use Rattle.xfs_journal.proofs.migrate.renew.Goals as goal

pub returns-clause-kept : goal.returns-clause-kept
returns-clause-kept g c =
    let d = c.write_synced.new.disk in
    kept_still _ _ c.args.recent.now.all c.args.gate c.requires.kept _ (g.D.Disk.images d) c.write_synced.ensures.tries.goes_on.told c.write_synced.ensures.crash (g.met.D.Disk.as_read d)

pub returns-clause-settled : goal.returns-clause-settled
returns-clause-settled g c =
    let d = c.write_synced.new.disk in
    no_doubt _ _ c.args.recent.now.all c.args.gate
    (kept_still _ _ c.args.recent.now.all c.args.gate c.requires.kept _ (g.D.Disk.images d) c.write_synced.ensures.tries.goes_on.told c.write_synced.ensures.crash (g.met.D.Disk.as_read d))

pub returns-clause-list : goal.returns-clause-list
returns-clause-list g c =
    let d = c.write_synced.new.disk in
    stands_at_rest _ _ c.args.recent.now.all c.args.gate
    (kept_still _ _ c.args.recent.now.all c.args.gate c.requires.kept _ (g.D.Disk.images d) c.write_synced.ensures.tries.goes_on.told c.write_synced.ensures.crash (g.met.D.Disk.as_read d))

pub returns-clause-crashes : goal.returns-clause-crashes
returns-clause-crashes g c =
    let old = c.args.disk.now in
    let J = c.args.recent.now.all in
    record {
      any_moment = on_told (g.D.Disk.held old) _ (λ b known. weaken g.D.Disk _ _ _ (λ f. StandsFor f J) (stands_still _ _ J c.args.gate c.requires.kept b known) c.write_synced.ensures.any_moment);
      spares = on_told (g.D.Disk.held old) _ (λ b known. weaken g.D.Disk _ _ _ (IsButForEighth b) (spares _ _ J c.args.gate c.requires.kept b known) c.write_synced.ensures.any_moment);
    }
