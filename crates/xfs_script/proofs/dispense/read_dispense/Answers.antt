use Rattle.std.proofs.Common.{ℕ, List}
use Rattle.xfs_base.specs.declared.counts.Counts.{Counts}
use Rattle.xfs_script.specs.Dispense.{HasFields}
use Rattle.xfs_token.proofs.AmountReading.{IfNone_from}
use Rattle.xfs_script.proofs.FieldLists.{no_spelled}
use Rattle.xfs_script.proofs.dispense.read_dispense.Goals as goal

pub returns-in_err-counts-clause-none : goal.returns-in_err-counts-clause-none
returns-in_err-counts-clause-none c =
    IfNone_from _ ((token : List ℕ) (counts : Counts) → HasFields c.args.text.now token counts → ⊥)
    (no_spelled c.args.text.now c.in_ok-verb.verb.now c.in_ok-verb.token.now c.in_ok-verb.field.now c.in_ok-verb.ensures.found c.in_err-counts.ensures.none)
