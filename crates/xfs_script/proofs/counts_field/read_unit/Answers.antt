use Rattle.std.proofs.Common.{ℕ}
use Rattle.xfs_script.specs.Counts.{IsUnit}
use Rattle.xfs_token.proofs.AmountReading.{IfNone_from}
use Rattle.xfs_script.proofs.UnitParts.{unit_is, no_prefix, no_head, no_digits}
use Rattle.xfs_script.proofs.counts_field.read_unit.Goals as goal

pub returns-in_err-field_of-clause-none : goal.returns-in_err-field_of-clause-none
returns-in_err-field_of-clause-none c =
    IfNone_from _ ((unit count : ℕ) → IsUnit c.args.part.now unit count → ⊥) (no_prefix c.args.part.now c.in_err-field_of.ensures.none)

pub returns-in_err-unit-clause-none : goal.returns-in_err-unit-clause-none
returns-in_err-unit-clause-none c =
    IfNone_from _ ((unit count : ℕ) → IsUnit c.args.part.now unit count → ⊥)
    (no_head c.args.part.now c.in_ok-field_of.field-0.now c.in_ok-field_of.ensures.found c.in_err-unit.ensures.none)

pub returns-in_err-count-clause-none : goal.returns-in_err-count-clause-none
returns-in_err-count-clause-none c =
    IfNone_from _ ((unit count : ℕ) → IsUnit c.args.part.now unit count → ⊥)
    (no_digits c.args.part.now c.in_ok-field_of.field-0.now c.in_ok-unit.digits.now c.in_ok-unit.unit c.in_ok-field_of.ensures.found c.in_ok-unit.ensures.found c.in_err-count.ensures.none)

pub returns-clause-found : goal.returns-clause-found
returns-clause-found c =
    unit_is c.args.part.now c.in_ok-field_of.field-0.now c.in_ok-unit.digits.now c.in_ok-unit.unit c.in_ok-count.count c.in_ok-field_of.ensures.found c.in_ok-unit.ensures.found c.in_ok-unit.ensures.within c.in_ok-count.ensures.found
