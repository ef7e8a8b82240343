use Rattle.std.proofs.Common.{ℕ}
use Rattle.xfs_base.specs.declared.counts.Counts.{Counts}
use Rattle.xfs_base.specs.declared.counts.Kind.{Kind}
use Rattle.xfs_script.specs.AuditLines.{IsMoved}
use Rattle.xfs_token.proofs.AmountReading.{IfNone_from}
use Rattle.xfs_script.proofs.AuditFields.{no_diverted, no_moved}
use Rattle.xfs_script.proofs.audit_fields.read_moved.Goals as goal

pub returns-in_err-moved-clause-none : goal.returns-in_err-moved-clause-none
returns-in_err-moved-clause-none c =
    IfNone_from _ ((number : ℕ) (kind : Kind) (moved diverted : Counts) → IsMoved c.args.text.now number kind moved diverted → ⊥)
    (no_moved c.args.text.now c.in_ok-digits.digits.now c.in_ok-digits.word.now c.in_ok-digits.first.now c.in_ok-digits.second.now c.in_ok-digits.ensures.found c.in_err-moved.ensures.none)

pub returns-in_err-diverted-clause-none : goal.returns-in_err-diverted-clause-none
returns-in_err-diverted-clause-none c =
    IfNone_from _ ((number : ℕ) (kind : Kind) (moved diverted : Counts) → IsMoved c.args.text.now number kind moved diverted → ⊥)
    (no_diverted c.args.text.now c.in_ok-digits.digits.now c.in_ok-digits.word.now c.in_ok-digits.first.now c.in_ok-digits.second.now c.in_ok-digits.ensures.found c.in_err-diverted.ensures.none)
