use Rattle.std.proofs.Common.{◌≡◌, ◌+◌, Some, ap, ◌∙◌, arith}
use Rattle.xfs_journal.specs.declared.record.Rec.TheVariants.{Order, Done}
use Rattle.xfs_journal.specs.Journal.{record_at}
use Rattle.xfs_audit.proofs.Ends.{told-more, end-later, end-onto, record-there, record-before}
use Rattle.xfs_audit.proofs.told.are_told.Goals.{in-Order+else-not-is_told, in_default}
use Rattle.xfs_audit.proofs.told.are_told.Goals as goal

pub returns-then-not-is_told : goal.returns-then-not-is_told
returns-then-not-is_told c =
    let records = c.args.records.now in
    let place = c.loop-place.place in
    let kind = c.in-Order.kind in
    let order : record_at records place ≡ Some (Order kind c.in-Order.counts) = record-before records place c.index-records-place.result c.loop-place.auto.place (omega arith) c.index-records-place.is ∙ ap Some c.in-Order.is in (
      λ e. absurd (cc),
      λ told. (c.if-not-is_told.ensures).1 (λ m d done. c.from_number-rest.ensures.end.kept place kind m d (omega arith) (c.loop-place.invariant.end.kept place kind m d (omega arith)
          (told place kind c.in-Order.counts m d (omega arith) order (record-there records place _ c.loop-place-test.true c.index-records-place-in-Order.is ∙ ap Some done)))),
    )

pub loop-place-preserved : goal.loop-place-preserved
loop-place-preserved c =
    let records = c.args.records.now in
    let motions = c.args.motions.now in
    let place = c.loop-place.place in
    let inv = c.loop-place.invariant in
    let there : record_at records place ≡ Some c.index-records-place.result = record-before records place c.index-records-place.result c.loop-place.auto.place (omega arith) c.index-records-place.is in
    elim c.match-records-place.branch [
      | in-Order+else-not-is_told w ↦ record {
        told = told-more records motions place inv.told (λ kind counts m d order done.
            let same : w.in-Order.kind ≡ kind = cc in
            let behind : record_at records (place + 1) ≡ Some w.index-records-place-in-Order.result = record-there records place _ c.loop-place-test.true w.index-records-place-in-Order.is in
            let is : w.index-records-place-in-Order.result ≡ Done m d = cc in
            rw (← same) (inv.end.had _ (w.from_number-rest.ensures.end.had _ ((w.is_told.ensures).0 (cc) m d is))));
        end = rw w.rest-is (end-later place (place + 1) motions _ (omega arith) (end-onto place motions c.loop-place.rest.now w.from_number-rest.result.now inv.end w.from_number-rest.ensures.end));
        rises = rw w.rest-is w.from_number-rest.ensures.rises;
      }
      | in_default w ↦ record {
        told = told-more records motions place inv.told (λ kind counts m d order done. absurd (w.in_default.not-Order kind counts (cc)));
        end = rw w.rest-is (end-later place (place + 1) motions _ (omega arith) inv.end);
        rises = rw w.rest-is inv.rises;
      }
    ]
