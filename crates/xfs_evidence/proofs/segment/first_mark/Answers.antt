use Rattle.std.proofs.Common.{◌∙◌, sym, ap, arith}
use Rattle.xfs_journal.specs.Journal.{is_mark}
use Rattle.xfs_journal.specs.declared.record.Rec.TheVariants.{Clear}
use Rattle.std.proofs.lemmas.List.Sums.{position_or_len_is}
use Rattle.xfs_evidence.proofs.Places.{unmarked-more}
use Rattle.xfs_evidence.proofs.segment.first_mark.Goals as goal

pub loop-i-preserved : goal.loop-i-preserved
loop-i-preserved c = unmarked-more c.args.records.now c.loop-i.i c.index-records-i.result (ap is_mark (sym c.index-records-i.is) ∙ sym c.is_mark.ensures ∙ c.if-is_mark.false) c.loop-i-test.true c.loop-i.invariant

pub returns-then-is_mark : goal.returns-then-is_mark
returns-then-is_mark c =
    sym (position_or_len_is is_mark c.args.records.now c.loop-i.i c.index-records-i.result (omega (arith, c.loop-i-test.true)) (λ k below. c.loop-i.invariant k c.index-records-i.result below)
    (λ lt. ap is_mark (sym c.index-records-i.is) ∙ sym c.is_mark.ensures ∙ c.if-is_mark.true))

pub returns : goal.returns
returns c =
    sym (position_or_len_is is_mark c.args.records.now _ Clear (omega arith) (λ k below. c.loop-i.invariant k Clear (omega (arith, below, c.loop-i-test.false))) (λ lt. absurd (omega (arith, lt))))
