-- The line `restart`: the journal is read again and gets a boot record, which has room where a boot's would have it; or the run ends as a refused boot does.
use Rattle.std.specs.Prelude.{◌≡◌, ℕ, false, List, codes, None, Result, Err}
use Rattle.xfs_base.specs.Causes.{Rose}
use Rattle.xfs_journal.specs.JournalView.{IsPossible}
use Rattle.xfs_journal.specs.declared.record.Rec.{Rec}
use Rattle.xfs_guard.specs.Booting.{has_no_room_at_boot}
use Rattle.xfs_guard.specs.Continues.{Continues}
use Rattle.xfs_guard.specs.View.{View, rebooted}
use Rattle.xfs_guard.specs.declared.fail.BootFault.{BootFault}
use Rattle.xfs_guard.specs.declared.fail.BootFault.TheVariants.{NotJournal, Disk, Full, Memory}
use Rattle.xfs_lines.specs.Boots.{BootExceeds}
use Rattle.xfs_lines.specs.Guard.States.{GuardState, Becomes, IsLater, IsStill}
use Rattle.xfs_lines.specs.declared.commands.guard.player.NoAnswer.{NoAnswer}
use Rattle.xfs_lines.specs.declared.commands.guard.player.NoAnswer.TheVariants.{Unbooted}

-- the journal is read as the kept list, or as that one with the record in doubt, and its boot record, which passes no limit, is then alone in memory; the token that was minted last stays
pub record Restarts (s : GuardState) (line : List ℕ) (next : GuardState) : Type 0 where
  pub records : List Rec
  pub possible : IsPossible s.guard.records s.guard.in_doubt records
  pub fits : has_no_room_at_boot s.guard.limits records s.guard.places ≡ false
  pub text : line ≡ codes "restarted"
  pub becomes : Becomes s (rebooted s.guard records) next

-- a boot record of the places passes a limit behind such a list
pub record HasNoRoom (v : View) : Type 0 where
  pub records : List Rec
  pub possible : IsPossible v.records v.in_doubt records
  pub exceeds_limit : BootExceeds v.limits v.places records

-- no record is in doubt, and the boot record passes a limit behind the list
pub record IsFull (v : View) : Type 0 where
  pub clear : v.in_doubt ≡ None
  pub exceeds_limit : BootExceeds v.limits v.places v.records

-- why a restart ends the run: the disk's bytes are no journal, which is never so where it tells them; the disk fails; its boot record has no room, and none behind the list that was read; or memory runs out, and the guard is as it was
abbrev pub RestartCause : GuardState → BootFault → GuardState → Type 0
RestartCause s (NotJournal at) next = s.guard.disk_told ≡ false
RestartCause s Disk next = Rose s.disk_faults next.disk_faults
RestartCause s Full next = HasNoRoom s.guard × IsFull next.guard
RestartCause s Memory next = Becomes s s.guard next

-- a restart that ends the run has a cause, and moves nothing
pub record RestartFails (s : GuardState) (fault : BootFault) (next : GuardState) : Type 0 where
  pub still : IsStill next.guard.motions next.guard.places next.guard.faults next.disk_faults s
  pub cause : RestartCause s fault next

-- where a verb has no answer, since a restart was refused, this holds of why
abbrev pub IfUnbooted : {A : Type 0} → Result A NoAnswer → (BootFault → Type 0) → Type 0
IfUnbooted result Then = (why : BootFault) → result ≡ Err (Unbooted why) → Then why

-- the line is `restart`, which is refused for this, and goes on from what stood before it; S is the state that lines are answered from, and `see` what is seen of it
pub record EndsRestart {S : Type 0} (see : S → GuardState) (s : S) (text : List ℕ) (why : BootFault) (end : S) : Type 0 where
  pub restart : text ≡ codes "restart"
  pub fails : RestartFails (see s) why (see end)
  pub continues : Continues (see s).guard (see end).guard
  pub later : IsLater (see s) (see end)
