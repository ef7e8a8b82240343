use Rattle.std.proofs.Common.{◌≡◌, ◌≤◌, ◌<◌, ◌+◌, ◌^◌, ◌∙◌, ◌++◌, List, take, sym, ap, ap₂, length, arith}
use Rattle.xfs_journal.specs.declared.record.Rec.{Rec}
use Rattle.xfs_journal.specs.Journal.{issues_in}
use Rattle.xfs_journal.specs.RecentView.{RecentView}
use Rattle.xfs_journal.specs.Recents.{front_of}
use Rattle.xfs_journal.proofs.RecentLaws.{all_long, few-issues, kept-cut, rejoined}
use Rattle.xfs_journal.proofs.recent.Recent.let_go.Goals as goal

pub split_at-requires : goal.split_at-requires
split_at-requires c =
    let j = c.self.inside in
    let long : length (front_of j.base j.before ++ j.records.items) ≡ length c.args.self.now.all = ap (λ (v : RecentView). length v.all) c.self.view_is in
    let at : j.base ≡ c.args.self.now.base = ap (λ (v : RecentView). v.base) c.self.view_is in
    let le : c.args.count ≤ length j.records.items = omega (arith, long, at, c.requires.within, all_long _ _ _ _ c.self.invariant) in
    rw c.deref.ensures.value le

pub overflow_add-self : goal.overflow_add-self
overflow_add-self c =
    let j = c.self.inside in
    let long : length (front_of j.base j.before ++ j.records.items) ≡ length c.args.self.now.all = ap (λ (v : RecentView). length v.all) c.self.view_is in
    let at : j.base ≡ c.args.self.now.base = ap (λ (v : RecentView). v.base) c.self.view_is in
    let le : c.args.count ≤ length j.records.items = omega (arith, long, at, c.requires.within, all_long _ _ _ _ c.self.invariant) in
    let few : j.issues + c.count_issues.result < 2 ^ 64 = few-issues _ _ _ _ c.self.invariant c.count_issues.result (omega (arith, le, c.count_issues.ensures.few, c.split_at.ensures.front_len)) in
    omega (arith, few)

pub invariant_of-self : goal.invariant_of-self
invariant_of-self c =
    let j = c.self.inside in
    let long : length (front_of j.base j.before ++ j.records.items) ≡ length c.args.self.now.all = ap (λ (v : RecentView). length v.all) c.self.view_is in
    let at : j.base ≡ c.args.self.now.base = ap (λ (v : RecentView). v.base) c.self.view_is in
    let le : c.args.count ≤ length j.records.items = omega (arith, long, at, c.requires.within, all_long _ _ _ _ c.self.invariant) in
    let was = c.of-was.ensures ∙ sym c.self.view_is in
    let front : c.split_at.result.0.now ≡ take c.args.count j.records.items = c.split_at.ensures.front ∙ ap (λ (l : List Rec). take c.args.count l) c.deref.ensures.value in
    rw c.take_away.ensures.records
    (kept-cut _ _ _ _ c.self.invariant c.of-was.result (ap (λ (v : RecentView). v.all) was) (ap (λ (v : RecentView). v.base) was) c.args.count c.if-count-gt0.true le
    c.count_issues.result (c.count_issues.ensures.counted ∙ ap issues_in front))

pub returns-then-count-gt0-clause-all : goal.returns-then-count-gt0-clause-all
returns-then-count-gt0-clause-all c =
    let was = c.of-was.ensures ∙ sym c.self.view_is in
    ap₂ (λ (l r : List Rec). take (c.self.inside.base + c.args.count) l ++ r) (ap (λ (v : RecentView). v.all) was) c.take_away.ensures.records
    ∙ rejoined (front_of c.self.inside.base c.self.inside.before) c.self.inside.records.items c.self.inside.base c.args.count c.self.invariant.place
    ∙ ap (λ (v : RecentView). v.all) c.self.view_is
