use Rattle.std.proofs.Common.{◌+◌, ⊎_elim, option_map, ◌∙◌, ap}
use Rattle.xfs_disk.specs.Disk.{overlaid}
use Rattle.xfs_journal.specs.Gate.{IsEitherOf}
use Rattle.xfs_journal.proofs.Moments.{weaken, joins}
use Rattle.xfs_journal.proofs.Opening.{first_image, second_image}
use Rattle.xfs_journal.proofs.Told.{on_told, from_told, goes}
use Rattle.xfs_journal.proofs.gate.write_behind.Goals as goal

pub returns-in_err-write_synced-clause-any_moment : goal.returns-in_err-write_synced-clause-any_moment
returns-in_err-write_synced-clause-any_moment g c = on_told _ _ (λ old told.
    let start = from_told _ _ c.requires.closed old told in
    let each = from_told _ _ c.requires.images old told in
    weaken g.D.Disk _ _ _ (IsEitherOf (g.D.Disk.images c.args.disk.now) c.args.gate c.args.bytes.now) (first_image _ old c.args.bytes.now c.args.gate start each) c.write_synced.ensures.any_moment)

pub returns-in_err-write_synced-clause-images : goal.returns-in_err-write_synced-clause-images
returns-in_err-write_synced-clause-images g c = on_told _ _ (λ old told.
    let start = from_told _ _ c.requires.closed old told in
    let each = from_told _ _ c.requires.images old told in
    goes _ _ (IsEitherOf (g.D.Disk.images c.args.disk.now) c.args.gate c.args.bytes.now) c.write_synced.ensures.crash (first_image _ old c.args.bytes.now c.args.gate start each))

pub returns-clause-any_moment : goal.returns-clause-any_moment
returns-clause-any_moment g c = on_told _ _ (λ old told.
    let start = from_told _ _ c.requires.closed old told in
    let each = from_told _ _ c.requires.images old told in
    let here = g.met.D.Disk.as_read c.args.disk.now old told in
    let x = c.args.bytes.now in
    let mid = c.in_ok-write_synced.ensures.written ∙ ap (option_map (λ all. overlaid all (c.args.gate + 1) x)) told in
    let only = from_told _ _ c.in_ok-write_synced.ensures.durable _ mid in
    weaken g.D.Disk _ _ _ (IsEitherOf (g.D.Disk.images c.args.disk.now) c.args.gate x)
    (λ f p. ⊎_elim (first_image _ old x c.args.gate start each f) (second_image _ old x c.args.gate start here _ only f) p)
    (joins g.D.Disk _ _ _ _ _ c.write_synced.ensures.any_moment c.write_synced-2.ensures.any_moment))

pub returns-clause-images : goal.returns-clause-images
returns-clause-images g c = on_told _ _ (λ old told.
    let start = from_told _ _ c.requires.closed old told in
    let here = g.met.D.Disk.as_read c.args.disk.now old told in
    let x = c.args.bytes.now in
    let mid = c.in_ok-write_synced.ensures.written ∙ ap (option_map (λ all. overlaid all (c.args.gate + 1) x)) told in
    let only = from_told _ _ c.in_ok-write_synced.ensures.durable _ mid in
    goes _ _ (IsEitherOf (g.D.Disk.images c.args.disk.now) c.args.gate x) c.write_synced-2.ensures.crash (second_image _ old x c.args.gate start here _ only))
