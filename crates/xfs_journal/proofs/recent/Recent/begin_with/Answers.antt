use Rattle.std.proofs.Common.{◌≡◌, ◌++◌, ap, length, arith, rules, true, false}
use Rattle.xfs_journal.specs.Journal.{is_boot}
use Rattle.xfs_journal.specs.RecentView.{RecentView}
use Rattle.xfs_journal.specs.Recents.{front_of}
use Rattle.xfs_journal.proofs.BaseLaws.{base_of-push}
use Rattle.xfs_journal.proofs.RecentLaws.{all_long}
use Rattle.xfs_journal.proofs.recent.Recent.begin_with.Goals as goal

pub returns-then-begins-clause-held : goal.returns-then-begins-clause-held
returns-then-begins-clause-held c =
    let j = c.self.inside in
    let first : is_boot c.args.rec ≡ true = search rules in
    let long : length (front_of j.base j.before ++ j.records.items) ≡ length c.args.self.now.all = ap (λ (v : RecentView). length v.all) c.self.view_is in
    let at : j.base ≡ c.args.self.now.base = ap (λ (v : RecentView). v.base) c.self.view_is in
    let count : c.len-before.result ≡ length j.records.items = search rules in
    rw (c.let_go.ensures.all, c.push.ensures.all, base_of-push c.args.self.now.all c.args.rec, first)
    (omega (arith, c.let_go.ensures.base, c.push.ensures.base, long, at, count, all_long _ _ _ _ c.self.invariant))

pub returns-else-begins-clause-held : goal.returns-else-begins-clause-held
returns-else-begins-clause-held c =
    let other : is_boot c.args.rec ≡ false = search rules in
    rw (c.push.ensures.base, c.push.ensures.all, base_of-push c.args.self.now.all c.args.rec, other) c.requires.held
