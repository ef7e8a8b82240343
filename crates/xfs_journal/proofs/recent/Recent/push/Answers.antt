use Rattle.std.proofs.Common.{◌<◌, ◌+◌, ◌^◌, ◌++◌, ap, length}
use Rattle.xfs_journal.specs.Recents.{front_of}
use Rattle.xfs_journal.proofs.RecentLaws.{kept-push}
use Rattle.xfs_journal.proofs.recent.Recent.push.Goals as goal

pub invariant_of-self : goal.invariant_of-self
invariant_of-self c =
    let all : length (front_of c.self.inside.base c.self.inside.before ++ c.self.inside.records.items) + 1 < 2 ^ 64 = rw (ap (λ v. length v.all + 1) c.self.view_is) c.requires.fits.few in
    rw c.push_reserved.ensures.items (kept-push _ _ _ _ c.self.invariant c.args.rec all)
