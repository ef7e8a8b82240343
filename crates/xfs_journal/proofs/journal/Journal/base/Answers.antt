use Rattle.std.proofs.Common.{◌≡◌, ◌<◌, ◌^◌, ap, length, arith, rules}
use Rattle.xfs_journal.specs.JournalView.{JournalView}
use Rattle.xfs_journal.proofs.Listing.{records-few}
use Rattle.xfs_journal.proofs.journal.Journal.base.Goals as goal

pub returns-clause-few : goal.returns-clause-few
returns-clause-few g c =
    let j = c.self.inside in
    let same : length j.recent.all ≡ length c.args.self.now.records = ap (λ (v : JournalView g.row.D.Denot). length v.records) c.self.view_is in
    let small : j.end < 2 ^ 64 = search rules in
    omega (arith, same, records-few j.recent.all, c.self.invariant.3.end_is, small)
