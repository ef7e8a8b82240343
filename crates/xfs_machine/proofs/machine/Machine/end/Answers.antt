use Rattle.std.proofs.Common.{List, subst}
use Rattle.xfs_guard.specs.Stored.{MayLeave}
use Rattle.xfs_guard.specs.View.{GuardView}
use Rattle.xfs_journal.specs.JournalView.{IsPossible}
use Rattle.xfs_journal.specs.declared.record.Rec.{Rec}
use Rattle.xfs_machine.proofs.machine.Machine.end.Goals as goal

pub returns-clause-left : goal.returns-clause-left
returns-clause-left g c = subst (λ (v : GuardView g.row.D.Denot). (records : List Rec) → MayLeave g.D.Disk c.end.result.1 records → IsPossible v.state.records v.state.in_doubt records) c.into_guard.ensures.guard c.end.ensures.left
