use Rattle.xfs_base.specs.declared.counts.Counts.{Counts}
use Rattle.xfs_script.specs.AuditLines.{IsCountsField}
use Rattle.xfs_script.specs.Counts.{SpellsCounts}
use Rattle.xfs_token.proofs.AmountReading.{IfNone-map}
use Rattle.xfs_script.proofs.AuditFields.{no_counts_field}
use Rattle.xfs_script.proofs.audit_fields.counts_or_none.Goals as goal

pub returns-clause-none : goal.returns-clause-none
returns-clause-none c =
    IfNone-map c.read_counts.result ((counts : Counts) → SpellsCounts c.args.field.now counts → ⊥) ((counts : Counts) → IsCountsField c.args.field.now counts → ⊥)
    (λ other. no_counts_field c.args.field.now (λ is. let word = c.if-is_word.ensures.1 is in cc) other) c.read_counts.ensures.none
