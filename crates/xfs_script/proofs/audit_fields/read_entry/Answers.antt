use Rattle.xfs_mech.specs.declared.motion.Motion.{Motion}
use Rattle.xfs_script.specs.AuditLines.{IsEntry}
use Rattle.xfs_token.proofs.AmountReading.{IfNone_from}
use Rattle.xfs_script.proofs.AuditFields.{no_entry}
use Rattle.xfs_script.proofs.audit_fields.read_entry.Goals as goal

pub returns-in_err-unit-clause-none : goal.returns-in_err-unit-clause-none
returns-in_err-unit-clause-none c =
    IfNone_from _ ((entry : Motion) → IsEntry c.args.text.now entry → ⊥)
    (no_entry c.args.text.now c.in_default.ensures.none c.in_default-read_taken.ensures.none c.in_err-unit.ensures.none)
