use Rattle.std.proofs.Common.{ℕ, arith, inl, inr}
use Rattle.xfs_script.specs.Guard.{IsFill}
use Rattle.xfs_token.proofs.AmountReading.{IfNone_from}
use Rattle.xfs_script.proofs.Fills.{fill_is, no_fill_prefix, no_fill_head, no_fill_digits, no_fill_count}
use Rattle.xfs_script.proofs.fill.read_fill.Goals.{then-count-eq0-via-then-count-eq0, then-count-eq0-via-else-count-eq0+then-count-gt-MOST_FILLED}
use Rattle.xfs_script.proofs.fill.read_fill.Goals as goal

pub returns-in_err-field_of-clause-none : goal.returns-in_err-field_of-clause-none
returns-in_err-field_of-clause-none c =
    IfNone_from _ ((unit count : ℕ) → IsFill c.args.text.now unit count → ⊥) (no_fill_prefix c.args.text.now c.in_err-field_of.ensures.none)

pub returns-in_err-unit-clause-none : goal.returns-in_err-unit-clause-none
returns-in_err-unit-clause-none c =
    IfNone_from _ ((unit count : ℕ) → IsFill c.args.text.now unit count → ⊥)
    (no_fill_head c.args.text.now c.in_ok-field_of.field-0.now c.in_ok-field_of.ensures.found c.in_err-unit.ensures.none)

pub returns-in_err-count-clause-none : goal.returns-in_err-count-clause-none
returns-in_err-count-clause-none c =
    IfNone_from _ ((unit count : ℕ) → IsFill c.args.text.now unit count → ⊥)
    (no_fill_digits c.args.text.now c.in_ok-field_of.field-0.now c.in_ok-unit.digits.now c.in_ok-unit.unit c.in_ok-field_of.ensures.found c.in_ok-unit.ensures.found c.in_err-count.ensures.none)

pub returns-then-count-eq0-clause-none : goal.returns-then-count-eq0-clause-none
returns-then-count-eq0-clause-none c =
    no_fill_count c.args.text.now c.in_ok-field_of.field-0.now c.in_ok-unit.digits.now c.in_ok-unit.unit c.in_ok-count.count c.in_ok-field_of.ensures.found c.in_ok-unit.ensures.found c.in_ok-count.ensures.found
    (elim c.then-count-eq0.branch [
      | then-count-eq0-via-then-count-eq0 w ↦ inl w.if-count-eq0.true
      | then-count-eq0-via-else-count-eq0+then-count-gt-MOST_FILLED w ↦ inr w.if-count-gt-MOST_FILLED.true
    ])

pub returns-clause-found : goal.returns-clause-found
returns-clause-found c =
    fill_is c.args.text.now c.in_ok-field_of.field-0.now c.in_ok-unit.digits.now c.in_ok-unit.unit c.in_ok-count.count c.in_ok-field_of.ensures.found c.in_ok-unit.ensures.found c.in_ok-unit.ensures.within c.in_ok-count.ensures.found
    (omega (arith, c.if-count-eq0.false)) (omega (arith, c.if-count-gt-MOST_FILLED.false))
