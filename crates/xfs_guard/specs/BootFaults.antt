-- How the guard hands on why a disk isn't mounted.
use Rattle.xfs_journal.specs.declared.faults.MountFault.{MountFault}
use Rattle.xfs_journal.specs.declared.faults.MountFault.TheVariants as Mount
use Rattle.xfs_guard.specs.declared.fail.BootFault.{BootFault}
use Rattle.xfs_guard.specs.declared.fail.BootFault.TheVariants.{NotJournal, Disk, Memory}

abbrev pub fault_of : MountFault → BootFault
fault_of (Mount.NotJournal at) = NotJournal at
fault_of Mount.Disk = Disk
fault_of Mount.Memory = Memory
