-- What a boot finds at its entry, and the guard that it begins.
use Rattle.std.specs.Prelude.{◌≡◌, ℕ, false, List, is_some, None}
use Rattle.std.specs.declared.option.Option.{Option}
use Rattle.xfs_base.specs.declared.counts.Places.{Places}
use Rattle.xfs_base.specs.declared.money.NoteKind.{NoteKind}
use Rattle.xfs_disk.specs.declared.disk.Disk.{Ghosts as Disks}
use Rattle.xfs_mech.specs.declared.mechanism.Mechanism.{Ghosts as Mechanisms}
use Rattle.xfs_mech.specs.declared.motion.Motion.{Motion}
use Rattle.xfs_journal.specs.declared.limits.Limits.{Limits}
use Rattle.xfs_journal.specs.declared.record.Rec.{Rec}
use Rattle.xfs_journal.specs.Journal.{base_of, with_boot}
use Rattle.xfs_guard.specs.Balance.{no_notes}
use Rattle.xfs_guard.specs.Booting.{IsFound}
use Rattle.xfs_guard.specs.View.{View}
use Rattle.xfs_guard.specs.declared.machine_core.Core.{Core}
use Rattle.xfs_guard.specs.declared.open.Open.TheVariants.{No}

-- what is found: the key, the seed, the table of the units, the journal's limits, what the mechanism tells, the disk's bytes where it tells them, and how often the disk failed
pub record AtEntry : Type 0 where
  pub key : List ℕ
  pub seed : List ℕ
  pub units : List NoteKind
  pub limits : Limits
  pub motions : Option (List Motion)
  pub places : Places
  pub faults : ℕ
  pub held : Option (List ℕ)
  pub disk_faults : ℕ

-- what a boot finds of this mechanism and this disk, with this key, seed, table of the units and limits
abbrev pub entry_of : {M D : Type 0} → Mechanisms M → Disks D → M → D → List ℕ → List ℕ → List NoteKind → Limits → AtEntry
entry_of m d mech disk key seed units limits = record {
  key = key;
  seed = seed;
  units = units;
  limits = limits;
  motions = m.motions mech;
  places = m.places mech;
  faults = m.faults mech;
  held = d.held disk;
  disk_faults = d.faults disk;
}

-- what a boot finds of this core
abbrev pub at_entry : {M D : Type 0} → Mechanisms M → Disks D → Core M D → AtEntry
at_entry m d core = entry_of m d core.mech core.disk core.key core.seed core.units core.limits

-- the guard of a boot whose journal has these records then: memory has those from its own boot record on
abbrev pub opened : AtEntry → List Rec → View
opened e records = record {
  key = e.key;
  seed = e.seed;
  units = e.units;
  records = records;
  base = base_of records;
  bound = None;
  open_order = No;
  motions = e.motions;
  places = e.places;
  booted = e.places;
  loaded = no_notes;
  faults = e.faults;
  limits = e.limits;
  shut = false;
  boot_missing = false;
  in_doubt = None;
  disk_told = is_some e.held;
}

-- the guard that a boot begins: the list that the disk had, with a boot record of the mechanism's places behind it
abbrev pub BeginsFound : AtEntry → View → Type 0
BeginsFound e guard = IsFound e.held (λ records. guard ≡ opened e (with_boot records e.places))
