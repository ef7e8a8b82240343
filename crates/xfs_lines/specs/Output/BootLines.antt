-- The status of a refused boot and its last line.
use Rattle.std.specs.Prelude.{◌≡◌, ◌⊎◌, ℕ, List, [], ◌∷◌, ◌++◌, codes, decimal}
use Rattle.xfs_guard.specs.declared.fail.BootFault.{BootFault}
use Rattle.xfs_guard.specs.declared.fail.BootFault.TheVariants.{NotJournal, Disk, Full, Memory}
use Rattle.xfs_lines.specs.declared.output.status.TheConstants.{DISK_FAULT, JOURNAL_FULL, NOT_A_JOURNAL, NO_MEMORY}

-- the status of a refused boot
abbrev pub boot_status : BootFault → ℕ
boot_status (NotJournal at) = NOT_A_JOURNAL
boot_status Disk = DISK_FAULT
boot_status Full = JOURNAL_FULL
boot_status Memory = NO_MEMORY

-- the last line of a refused boot; want of memory has none
abbrev pub boot_line : BootFault → List (List ℕ)
boot_line (NotJournal at) = (codes "boot: not a journal at " ++ decimal at) ∷ []
boot_line Disk = codes "boot: disk" ∷ []
boot_line Full = codes "boot: journal full" ∷ []
boot_line Memory = []

-- the statuses of a refused boot that has a last line
abbrev pub IsOfBoot : ℕ → Type 0
IsOfBoot status = (status ≡ DISK_FAULT) ⊎ ((status ≡ NOT_A_JOURNAL) ⊎ (status ≡ JOURNAL_FULL))
