use Rattle.std.proofs.Common.{◌≡◌, ◌∙◌, sym, ap, arith}
use Rattle.std.proofs.lemmas.List.{take_all}
use Rattle.xfs_journal.specs.Journal.{is_boot, base_of}
use Rattle.xfs_journal.proofs.BaseLaws.{step-boot, step-other, base_of-le}
use Rattle.xfs_journal.proofs.recent.last_boot.Goals as goal
use Rattle.xfs_journal.proofs.recent.last_boot.Goals.{then-is_boot, else-is_boot}

pub loop-i-preserved : goal.loop-i-preserved
loop-i-preserved c =
    let is = ap is_boot (sym c.index-records-i.is) ∙ sym c.is_boot.ensures in
    elim c.if-is_boot.branch [
      | then-is_boot w ↦ w.at-is ∙ step-boot c.args.records.now c.loop-i.i c.index-records-i.result c.loop-i-test.true (is ∙ w.if-is_boot.true)
      | else-is_boot w ↦ w.at-is ∙ c.loop-i.invariant ∙ step-other c.args.records.now c.loop-i.i c.index-records-i.result c.loop-i-test.true (is ∙ w.if-is_boot.false)
    ]

pub returns-clause-within : goal.returns-clause-within
returns-clause-within c =
    let at : c.loop-i.at ≡ base_of c.args.records.now = c.loop-i.invariant ∙ ap base_of (take_all c.loop-i.i c.args.records.now (omega (arith, c.loop-i-test.false))) in
    rw at (base_of-le c.args.records.now)
