use Rattle.std.proofs.Common.{refl}
use Rattle.xfs_journal.specs.JournalView.{StandsForEither}
use Rattle.xfs_journal.proofs.Appended.{asks, asks_images, version_after, stands_after, in_doubt_after, kept_after, stands_at_rest, on_ok}
use Rattle.xfs_journal.proofs.Doubt.{no_doubt}
use Rattle.xfs_journal.proofs.Moments.{weaken}
use Rattle.xfs_journal.proofs.Told.{on_told, from_told, goes}
use Rattle.xfs_journal.proofs.gate.write_record.Goals as goal

pub write_behind-requires-clause-closed : goal.write_behind-requires-clause-closed
write_behind-requires-clause-closed g c =
    asks _ _ _ (g.D.Disk.images c.args.disk.now) c.args.recent.now.all c.args.rec.now c.args.gate c.args.bytes.now c.requires.kept c.requires.of_table c.requires.bytes refl

pub write_behind-requires-clause-images : goal.write_behind-requires-clause-images
write_behind-requires-clause-images g c =
    asks_images _ _ _ (g.D.Disk.images c.args.disk.now) c.args.recent.now.all c.args.rec.now c.args.gate c.args.bytes.now c.requires.kept c.requires.of_table c.requires.bytes refl

pub returns-clause-version : goal.returns-clause-version
returns-clause-version g c =
    on_ok c.write_behind.result _ _ (version_after _ _ _ _ c.args.recent.now.all c.args.rec.now c.args.gate c.args.bytes.now c.requires.kept c.requires.of_table c.requires.bytes c.write_behind.ensures.tries.goes_on.told) c.write_behind.ensures.ok

pub returns-clause-ok : goal.returns-clause-ok
returns-clause-ok g c =
    on_ok c.write_behind.result _ _ (kept_after _ _ _ _ c.args.recent.now.all c.args.rec.now c.args.gate c.args.bytes.now c.requires.kept c.requires.of_table c.requires.bytes c.write_behind.ensures.tries.goes_on.told c.args.next c.requires.fits c.requires.next c.requires.small) c.write_behind.ensures.ok

pub returns-clause-crashes : goal.returns-clause-crashes
returns-clause-crashes g c =
    let stands = stands_after _ _ _ (g.D.Disk.images c.args.disk.now) c.args.recent.now.all c.args.rec.now c.args.gate c.args.bytes.now c.requires.kept c.requires.of_table c.requires.bytes c.write_behind.ensures.tries.goes_on.told in
    record {
      any_moment = on_told _ _ (λ b known. weaken g.D.Disk _ _ _ (StandsForEither c.args.recent.now.all c.args.rec.now) (stands b known) (from_told _ _ c.write_behind.ensures.any_moment b known));
      images = on_told _ _ (λ b known. goes _ _ (StandsForEither c.args.recent.now.all c.args.rec.now) (from_told _ _ c.write_behind.ensures.images b known) (stands b known));
    }

pub returns-clause-acknowledged : goal.returns-clause-acknowledged
returns-clause-acknowledged g c =
    on_ok c.write_behind.result _ _ (λ o. stands_at_rest _ _ _ _ (kept_after _ _ _ _ c.args.recent.now.all c.args.rec.now c.args.gate c.args.bytes.now c.requires.kept c.requires.of_table c.requires.bytes c.write_behind.ensures.tries.goes_on.told c.args.next c.requires.fits c.requires.next c.requires.small o)) c.write_behind.ensures.ok

pub returns-clause-in_doubt : goal.returns-clause-in_doubt
returns-clause-in_doubt g c =
    in_doubt_after _ _ _ _ c.args.recent.now.all c.args.rec.now c.args.gate c.args.bytes.now c.requires.kept c.requires.of_table c.requires.bytes c.write_behind.ensures.tries.goes_on.told c.write_behind.ensures.images

pub returns-clause-none_in_doubt : goal.returns-clause-none_in_doubt
returns-clause-none_in_doubt g c =
    on_ok c.write_behind.result _ _ (λ o. no_doubt _ _ _ _ (kept_after _ _ _ _ c.args.recent.now.all c.args.rec.now c.args.gate c.args.bytes.now c.requires.kept c.requires.of_table c.requires.bytes c.write_behind.ensures.tries.goes_on.told c.args.next c.requires.fits c.requires.next c.requires.small o)) c.write_behind.ensures.ok
