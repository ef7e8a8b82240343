-- What stands of a list of records and the mechanism's list, also while the journal is shut.
use Rattle.std.specs.Prelude.{ℕ, List}
use Rattle.std.specs.declared.option.Option.{Option}
use Rattle.xfs_base.specs.Causes.{IfTold}
use Rattle.xfs_base.specs.declared.money.NoteKind.{NoteKind}
use Rattle.xfs_mech.specs.declared.motion.Motion.{Motion}
use Rattle.xfs_journal.specs.declared.record.Rec.{Rec}
use Rattle.xfs_journal.specs.Journal.{Numbered}
use Rattle.xfs_guard.specs.Agrees.{Agrees}
use Rattle.xfs_guard.specs.Within.{Within}

-- the issues are numbered, the lists tell the same, and nothing was put out that a token doesn't cover
pub record IsRecorded (key : List ℕ) (units : List NoteKind) (motions : Option (List Motion)) (records : List Rec) : Type 0 where
  pub numbered : Numbered records
  pub agrees : IfTold motions (Agrees records)
  pub within : IfTold motions (Within key units records)
