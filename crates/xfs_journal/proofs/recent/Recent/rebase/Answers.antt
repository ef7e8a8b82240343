use Rattle.std.proofs.Common.{◌≡◌, ◌≤◌, ◌∙◌, ◌++◌, ap, arith}
use Rattle.xfs_journal.specs.Journal.{base_of}
use Rattle.xfs_journal.specs.RecentView.{RecentView}
use Rattle.xfs_journal.specs.Recents.{front_of}
use Rattle.xfs_journal.proofs.RecentLaws.{base_at}
use Rattle.xfs_journal.proofs.recent.Recent.rebase.Goals as goal

pub returns-clause-base : goal.returns-clause-base
returns-clause-base c =
    let j = c.self.inside in
    let same : base_of (front_of j.base j.before ++ j.records.items) ≡ base_of c.args.self.now.all = ap (λ (v : RecentView). base_of v.all) c.self.view_is in
    let at : j.base ≡ c.args.self.now.base = ap (λ (v : RecentView). v.base) c.self.view_is in
    let led : j.base ≤ base_of (front_of j.base j.before ++ j.records.items) = omega (arith, same, at, c.requires.led) in
    let last : c.last_boot-at.result ≡ base_of j.records.items = c.last_boot-at.ensures.at ∙ ap base_of c.deref.ensures.value in
    omega (arith, c.let_go.ensures.base, at, same, last, base_at _ _ _ _ c.self.invariant led)
