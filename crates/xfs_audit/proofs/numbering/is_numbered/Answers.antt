use Rattle.std.proofs.Common.{◌≡◌, ◌∙◌, ap, sym, take, arith}
use Rattle.std.specs.Prelude.{fold}
use Rattle.xfs_journal.specs.Journal.{next_number, CarriesNumber}
use Rattle.xfs_audit.proofs.Walks.{walk-more, walk-at, fold-at, number-le}
use Rattle.xfs_audit.proofs.numbering.is_numbered.Goals as goal

pub returns-then-not-carries : goal.returns-then-not-carries
returns-then-not-carries c =
    let owed = walk-at next_number CarriesNumber 1 c.args.records.now c.loop-entry.entry-index c.entry-item.result c.loop-entry-test.true c.entry-item.is in
    (λ e. absurd (cc), λ w. (c.if-not-carries.ensures).1 (rw (c.loop-entry.invariant.next) (owed w)))

pub loop-entry-preserved : goal.loop-entry-preserved
loop-entry-preserved c =
    let carried : CarriesNumber c.loop-entry.next c.entry-item.result = (c.if-not-carries.ensures).0 (cc) in
    let due : CarriesNumber (fold next_number 1 (take c.loop-entry.entry-index c.args.records.now)) c.entry-item.result = rw (c.loop-entry.invariant.next) at carried in
    let more : c.number_after-next.result ≡ next_number c.loop-entry.next c.entry-item.result = c.number_after-next.ensures in
    record {
      kept = walk-more next_number CarriesNumber 1 c.args.records.now c.loop-entry.entry-index c.entry-item.result c.loop-entry-test.true c.entry-item.is c.loop-entry.invariant.kept due;
      next = more ∙ ap (λ n. next_number n c.entry-item.result) c.loop-entry.invariant.next ∙ sym (fold-at next_number 1 c.args.records.now c.loop-entry.entry-index c.entry-item.result c.loop-entry-test.true c.entry-item.is);
      small = omega (arith, number-le c.loop-entry.next c.entry-item.result, c.loop-entry.invariant.small, more);
    }
