use Rattle.xfs_base.specs.declared.counts.Places.{Places}
use Rattle.xfs_script.specs.AuditLines.{ArePlaces}
use Rattle.xfs_token.proofs.AmountReading.{IfNone_from}
use Rattle.xfs_script.proofs.AuditFields.{no_outlet, no_rejected, no_retracted, no_taken_out, no_transport, no_units}
use Rattle.xfs_script.proofs.audit_fields.read_places.Goals as goal

pub returns-in_err-counts_or_none-clause-none : goal.returns-in_err-counts_or_none-clause-none
returns-in_err-counts_or_none-clause-none c =
    let six = c.in_ok-units in
    IfNone_from _ ((places : Places) → ArePlaces c.args.verb.now c.args.text.now places → ⊥)
    (no_units c.args.verb.now c.args.text.now six.units.now six.transport.now six.outlet.now six.taken.now six.retracted.now six.rejected.now six.ensures.found c.in_err-counts_or_none.ensures.none)

pub returns-in_err-counts_or_none-2-clause-none : goal.returns-in_err-counts_or_none-2-clause-none
returns-in_err-counts_or_none-2-clause-none c =
    let six = c.in_ok-units in
    IfNone_from _ ((places : Places) → ArePlaces c.args.verb.now c.args.text.now places → ⊥)
    (no_transport c.args.verb.now c.args.text.now six.units.now six.transport.now six.outlet.now six.taken.now six.retracted.now six.rejected.now six.ensures.found c.in_err-counts_or_none-2.ensures.none)

pub returns-in_err-counts_or_none-3-clause-none : goal.returns-in_err-counts_or_none-3-clause-none
returns-in_err-counts_or_none-3-clause-none c =
    let six = c.in_ok-units in
    IfNone_from _ ((places : Places) → ArePlaces c.args.verb.now c.args.text.now places → ⊥)
    (no_outlet c.args.verb.now c.args.text.now six.units.now six.transport.now six.outlet.now six.taken.now six.retracted.now six.rejected.now six.ensures.found c.in_err-counts_or_none-3.ensures.none)

pub returns-in_err-counts_or_none-4-clause-none : goal.returns-in_err-counts_or_none-4-clause-none
returns-in_err-counts_or_none-4-clause-none c =
    let six = c.in_ok-units in
    IfNone_from _ ((places : Places) → ArePlaces c.args.verb.now c.args.text.now places → ⊥)
    (no_taken_out c.args.verb.now c.args.text.now six.units.now six.transport.now six.outlet.now six.taken.now six.retracted.now six.rejected.now six.ensures.found c.in_err-counts_or_none-4.ensures.none)

pub returns-in_err-counts_or_none-5-clause-none : goal.returns-in_err-counts_or_none-5-clause-none
returns-in_err-counts_or_none-5-clause-none c =
    let six = c.in_ok-units in
    IfNone_from _ ((places : Places) → ArePlaces c.args.verb.now c.args.text.now places → ⊥)
    (no_retracted c.args.verb.now c.args.text.now six.units.now six.transport.now six.outlet.now six.taken.now six.retracted.now six.rejected.now six.ensures.found c.in_err-counts_or_none-5.ensures.none)

pub returns-in_err-counts_or_none-6-clause-none : goal.returns-in_err-counts_or_none-6-clause-none
returns-in_err-counts_or_none-6-clause-none c =
    let six = c.in_ok-units in
    IfNone_from _ ((places : Places) → ArePlaces c.args.verb.now c.args.text.now places → ⊥)
    (no_rejected c.args.verb.now c.args.text.now six.units.now six.transport.now six.outlet.now six.taken.now six.retracted.now six.rejected.now six.ensures.found c.in_err-counts_or_none-6.ensures.none)
