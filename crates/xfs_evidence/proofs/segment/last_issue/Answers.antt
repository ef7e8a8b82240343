use Rattle.std.proofs.Common.{◌≡◌, ◌∙◌, false, drop, sym, subst, ap, arith}
use Rattle.xfs_journal.specs.Journal.{is_issue}
use Rattle.xfs_guard.specs.Segment.{has_issue}
use Rattle.xfs_guard.proofs.SegmentLaws.{last_issue-none}
use Rattle.xfs_evidence.proofs.Places.{last-back, none-back}
use Rattle.xfs_evidence.proofs.segment.last_issue.Goals as goal

pub back-preserved : goal.back-preserved
back-preserved c = record {
  within = omega (arith, c.back.invariant.within);
  none = none-back c.args.records.now c.back.n c.index-records-n.result c.back-test.true c.back.invariant.within (ap is_issue (sym c.index-records-n.is) ∙ sym c.is_issue.ensures ∙ c.if-is_issue.false) c.back.invariant.none;
}

pub returns-then-is_issue-clause-place : goal.returns-then-is_issue-clause-place
returns-then-is_issue-clause-place c = sym (last-back c.args.records.now c.back.n c.index-records-n.result c.back-test.true c.back.invariant.within (ap is_issue (sym c.index-records-n.is) ∙ sym c.is_issue.ensures ∙ c.if-is_issue.true) c.back.invariant.none)

pub returns-clause-place : goal.returns-clause-place
returns-clause-place c =
    let zero : c.back.n ≡ 0 = omega (arith, c.back-test.false) in
    let none : has_issue c.args.records.now ≡ false = subst (λ n. has_issue (drop n c.args.records.now) ≡ false) zero c.back.invariant.none in
    sym (last_issue-none c.args.records.now none)
