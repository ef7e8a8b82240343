use Rattle.std.proofs.Common.{ap}
use Rattle.xfs_disk.specs.Disk.{Gives}
use Rattle.xfs_journal.specs.Paging.{PageView}
use Rattle.xfs_journal.proofs.Paged.{shown}
use Rattle.xfs_journal.proofs.Told.{on_told, from_told}
use Rattle.xfs_journal.proofs.page.Page.refill.Goals as goal

pub returns-clause-shows : goal.returns-clause-shows
returns-clause-shows g c = on_told _ _ (λ all known.
    let at = c.self.inside.at in
    let n = c.in_ok-count.count in
    let into = c.read.new.into in
    shown all into c.args.self.now at c.self.inside.len n c.at_most-self-inside.result (from_told _ _ c.requires.shows all known)
    (ap (λ (v : PageView). v.at) c.self.view_is) (ap (λ (v : PageView). v.len) c.self.view_is)
    (from_told _ (λ b. Gives b at n into) c.in_ok-count.ensures.bytes all known) c.in_ok-count.ensures.bound.0 c.at_most-self-inside.ensures)
