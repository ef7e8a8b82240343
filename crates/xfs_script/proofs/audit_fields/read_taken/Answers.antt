use Rattle.xfs_base.specs.declared.counts.Counts.{Counts}
use Rattle.xfs_script.specs.AuditLines.{IsCountsField, IsTaken}
use Rattle.xfs_token.proofs.AmountReading.{IfNone-map}
use Rattle.xfs_script.proofs.AuditFields.{no_taken}
use Rattle.xfs_script.proofs.audit_fields.read_taken.Goals as goal

pub returns-clause-none : goal.returns-clause-none
returns-clause-none c =
    IfNone-map c.counts_or_none.result ((counts : Counts) → IsCountsField c.in_ok-field.field.now counts → ⊥) ((counts : Counts) → IsTaken c.args.text.now counts → ⊥)
    (λ none. no_taken c.args.text.now c.in_ok-field.field.now c.in_ok-field.ensures.found none) c.counts_or_none.ensures.none
