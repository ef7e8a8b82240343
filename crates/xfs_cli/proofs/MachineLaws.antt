-- What comes back of a machine that is over, and why its restart is refused, as the guard's commands say it.
use Rattle.std.proofs.Common.{◌≡◌, ℕ, List, Option, Result, Err}
use Rattle.std.specs.Prelude.{IsErrAnd}
use Rattle.xfs_disk.specs.declared.disk.Disk.{Ghosts as Disks}
use Rattle.xfs_mech.specs.declared.mechanism.Mechanism.{Ghosts as Mechanisms}
use Rattle.xfs_dispenser.specs.Seen as Of
use Rattle.xfs_guard.specs.declared.fail.BootFault.{BootFault}
use Rattle.xfs_guard.specs.declared.fail.BootFault.TheVariants.{NotJournal, Disk, Full, Memory}
use Rattle.xfs_machine.specs.Endings.{IsHandedBack, RefusesAs}
use Rattle.xfs_machine.specs.MachineView.{MachineView, guard_of}
use Rattle.xfs_lines.specs.Guard.Restarts.{RestartFails}
use Rattle.xfs_lines.specs.Returns.{Return}
use Rattle.xfs_lines.specs.declared.commands.guard.player.NoAnswer.{NoAnswer}
use Rattle.xfs_lines.specs.declared.commands.guard.player.NoAnswer.TheVariants.{Unbooted}
use Rattle.xfs_lines.proofs.EndsLaws.{HasEnded}
use Rattle.xfs_lines.proofs.RestartLaws.{at, refused_disk, refused_full, refused_memory, refused_untold, restart-refused}
use Rattle.xfs_guard.specs.Stored.{EachLeft}
use Rattle.xfs_guard.specs.Recorded.{IsRecorded}

pub machine-ended : {M D : Type 0} (m : Mechanisms M) (d : Disks D) (machine : MachineView D) (r : Return M D) → IsHandedBack m d machine.state.seen r.mech r.disk
    → EachLeft d r.disk (IsRecorded machine.state.seen.guard.key machine.state.seen.guard.units machine.state.seen.guard.motions) → r.disk ≡ machine.disk → HasEnded m d (guard_of machine) r
machine-ended m d machine r back recorded disk = record {
  motions = back.motions;
  places = back.places;
  units = back.units;
  faults = back.faults;
  disk = disk;
  told = back.told;
  stored = back.stored;
  recorded = recorded;
}

refused_as : (old new : Of.Seen) (last : Option (List ℕ)) (why : BootFault) → RefusesAs why old new → RestartFails (at old last) why (at new last)
refused_as old new last (NotJournal n) is = refused_untold old new last n is.untold is.becomes
refused_as old new last Disk is = refused_disk old new last is.now is.is is.fails
refused_as old new last Full is = refused_full old new last is.now is.is is.becomes
refused_as old new last Memory is = refused_memory old new last is

-- the answer to a restart of the machine tells why
pub machine-refused : {T : Type 0} (result : Result T NoAnswer) (why : BootFault) (old new : Of.Seen) (last : Option (List ℕ)) → IsErrAnd result (λ e. e ≡ Unbooted why) → RefusesAs why old new
    → (fault : BootFault) → result ≡ Err (Unbooted fault) → RestartFails (at old last) fault (at new last)
machine-refused result why old new last err is = restart-refused result why (at old last) (at new last) err (refused_as old new last why is)
