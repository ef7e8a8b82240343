use Rattle.std.proofs.Common.{◌∙◌, ◌+◌, ap, arith}
use Rattle.std.proofs.lemmas.List.{take_all}
use Rattle.xfs_token.proofs.AmountReading.{is_currency_to}
use Rattle.xfs_guard.specs.Presented.{presented_in}
use Rattle.xfs_evidence.proofs.Valued.{step-worth, step-last, within-all}
use Rattle.xfs_evidence.proofs.sums.worth_presented.Goals as goal

pub overflow_cast-worth : goal.overflow_cast-worth
overflow_cast-worth c =
    let next = step-worth c.args.units.now c.args.currency c.args.segment.now c.loop-i.i c.index-segment-i.result _ _ _ c.loop-i-test.true c.requires.unmarked c.index-segment-i.is c.loop-i.invariant.worth c.loop-i.invariant.last c.worth_added.ensures.worth in
    let all = within-all c.args.units.now c.args.currency c.args.segment.now (c.loop-i.i + 1) c.requires.unmarked in
    omega (arith, next, all, c.requires.small)

pub overflow_add-worth : goal.overflow_add-worth
overflow_add-worth c =
    let next = step-worth c.args.units.now c.args.currency c.args.segment.now c.loop-i.i c.index-segment-i.result _ _ _ c.loop-i-test.true c.requires.unmarked c.index-segment-i.is c.loop-i.invariant.worth c.loop-i.invariant.last c.worth_added.ensures.worth in
    let all = within-all c.args.units.now c.args.currency c.args.segment.now (c.loop-i.i + 1) c.requires.unmarked in
    omega (arith, next, all, c.requires.small)

pub loop-i-preserved : goal.loop-i-preserved
loop-i-preserved c = record {
  worth = step-worth c.args.units.now c.args.currency c.args.segment.now c.loop-i.i c.index-segment-i.result _ _ _ c.loop-i-test.true c.requires.unmarked c.index-segment-i.is c.loop-i.invariant.worth c.loop-i.invariant.last c.worth_added.ensures.worth;
  last = c.is_present-ordered.ensures ∙ step-last c.args.units.now c.args.currency c.args.segment.now c.loop-i.i c.index-segment-i.result c.loop-i-test.true c.index-segment-i.is;
}

pub returns-clause-worth : goal.returns-clause-worth
returns-clause-worth c = c.loop-i.invariant.worth ∙ ap (λ l. presented_in c.args.units.now l c.args.currency) (take_all c.loop-i.i c.args.segment.now (omega (arith, c.loop-i-test.false)))

pub returns-clause-letters : goal.returns-clause-letters
returns-clause-letters c = is_currency_to c.args.currency (rw c.letters-letters.ensures.now at c.letters-letters.ensures.valid)
