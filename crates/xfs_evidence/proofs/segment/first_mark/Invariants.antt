use Rattle.std.proofs.Common.{◌≡◌, ◌<◌, ℕ, false, get_or}
use Rattle.xfs_journal.specs.declared.record.Rec.{Rec}
use Rattle.xfs_journal.specs.Journal.{is_mark}
use Rattle.xfs_evidence.proofs.segment.first_mark.Given as goal

-- before here is no mark
abbrev pub invariant-loop-i : goal.invariant-loop-i
invariant-loop-i l = (k : ℕ) (d : Rec) → k < l.i → is_mark (get_or l.records k d) ≡ false
