use Rattle.std.proofs.Common.{◌≡◌, Some, None, take}
use Rattle.std.specs.Prelude.{fold}
use Rattle.xfs_journal.specs.Journal.{finding_after, nothing_read}
use Rattle.xfs_audit.proofs.claim.token_of.Given as goal

-- the issue lives, and no token was bound yet
abbrev pub invariant-loop-place : goal.invariant-loop-place
invariant-loop-place l = fold (finding_after l.issue) (record { read = nothing_read; bind = None }) (take l.place l.records) ≡ record { read = record { count = l.place; live = Some l.issue }; bind = None }
