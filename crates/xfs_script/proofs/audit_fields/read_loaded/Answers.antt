use Rattle.std.proofs.Common.{ℕ}
use Rattle.xfs_script.specs.AuditLines.{IsLoaded}
use Rattle.xfs_token.proofs.AmountReading.{IfNone_from}
use Rattle.xfs_script.proofs.AuditFields.{load_is, no_load_digits, no_load_prefix, no_load_head}
use Rattle.xfs_script.proofs.audit_fields.read_loaded.Goals as goal

pub returns-in_err-field_of-clause-none : goal.returns-in_err-field_of-clause-none
returns-in_err-field_of-clause-none c =
    IfNone_from _ ((unit count : ℕ) → IsLoaded c.args.text.now unit count → ⊥) (no_load_prefix c.args.text.now c.in_err-field_of.ensures.none)

pub returns-in_err-unit-clause-none : goal.returns-in_err-unit-clause-none
returns-in_err-unit-clause-none c =
    IfNone_from _ ((unit count : ℕ) → IsLoaded c.args.text.now unit count → ⊥)
    (no_load_head c.args.text.now c.in_ok-field_of.field-0.now c.in_ok-field_of.ensures.found c.in_err-unit.ensures.none)

pub returns-in_err-count-clause-none : goal.returns-in_err-count-clause-none
returns-in_err-count-clause-none c =
    IfNone_from _ ((unit count : ℕ) → IsLoaded c.args.text.now unit count → ⊥)
    (no_load_digits c.args.text.now c.in_ok-field_of.field-0.now c.in_ok-unit.digits.now c.in_ok-unit.unit c.in_ok-field_of.ensures.found c.in_ok-unit.ensures.found c.in_err-count.ensures.none)

pub returns-clause-found : goal.returns-clause-found
returns-clause-found c =
    load_is c.args.text.now c.in_ok-field_of.field-0.now c.in_ok-unit.digits.now c.in_ok-unit.unit c.in_ok-count.count c.in_ok-field_of.ensures.found c.in_ok-unit.ensures.found c.in_ok-unit.ensures.within c.in_ok-count.ensures.found
