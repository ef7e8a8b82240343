-- What a call of a journal leaves, by what it answers.
use Rattle.std.specs.Prelude.{◌≡◌, ◌≢◌, ℕ, ◌+◌, ◌≤◌, true, false, List, [], ◌∷◌, ◌++◌, length, is_some, Some, None}
use Rattle.xfs_base.specs.Causes.{IfTold, Rose}
use Rattle.xfs_disk.specs.Moments.{EachImage, EachMoment}
use Rattle.xfs_disk.specs.declared.disk.Disk.{Ghosts}
use Rattle.xfs_journal.specs.Image.{StandsFor}
use Rattle.xfs_journal.specs.Journal.{base_of}
use Rattle.xfs_journal.specs.JournalView.{JournalView, HasVersion, IsButForEighth, IsCarriedOver, IsPossible, IsRenewed, MayPartAt, StandsForEither}
use Rattle.xfs_journal.specs.declared.faults.AppendFault.{AppendFault}
use Rattle.xfs_journal.specs.declared.faults.AppendFault.TheVariants.{Disk as AppendDisk, Memory as AppendMemory}
use Rattle.xfs_journal.specs.declared.faults.MountFault.{MountFault}
use Rattle.xfs_journal.specs.declared.faults.MountFault.TheVariants.{NotJournal, Disk as MountDisk, Memory as MountMemory}
use Rattle.xfs_journal.specs.declared.limits.Limits.{Limits}
use Rattle.xfs_journal.specs.declared.record.Rec.{Rec}

-- a disk's count of faults didn't fall, and it goes on telling its bytes, or not telling them
pub record DiskGoesOn {D : Type 0} (g : Ghosts D) (old new : D) : Type 0 where
  pub faults : g.faults old ≤ g.faults new
  pub told : is_some (g.held new) ≡ is_some (g.held old)

-- a disk goes on, and its count of faults rose where a call of it failed
pub record DiskMayFail {D : Type 0} (g : Ghosts D) (old new : D) (Fails : Type 0) : Type 0 where
  pub goes_on : DiskGoesOn g old new
  pub cause : Fails → Rose (g.faults old) (g.faults new)

-- a call keeps a journal's base and limits, and its disk goes on
pub record KeepsJournal {D : Type 0} (g : Ghosts D) (old new : JournalView D) : Type 0 where
  pub base : new.base ≡ old.base
  pub limits : new.limits ≡ old.limits
  pub disk : DiskGoesOn g old.disk new.disk

-- a journal is open: it isn't shut, no record is in doubt, and a crash leaves its list
pub record IsOpenJournal {D : Type 0} (g : Ghosts D) (j : JournalView D) : Type 0 where
  pub shut : j.shut ≡ false
  pub in_doubt : j.in_doubt ≡ None
  pub acknowledged : EachImage g j.disk (λ c. StandsFor c j.records)

-- the list that a disk tells was mounted: memory has it from its last boot record on
pub record IsMounted {D : Type 0} (g : Ghosts D) (disk : D) (given : Limits) (j : JournalView D) : Type 0 where
  pub records : IfTold (g.held disk) (λ all. StandsFor all j.records)
  pub base : j.base ≡ base_of j.records
  pub limits : j.limits ≡ given
  pub opened : IsOpenJournal g j

-- a possible list was read again, which is the one that the disk tells, and the next append wants no memory
pub record IsReread {D : Type 0} (g : Ghosts D) (old new : JournalView D) : Type 0 where
  pub records : IsPossible old.records old.in_doubt new.records
  pub opened : IsOpenJournal g new
  pub reserved : 1 ≤ new.room
  pub stands : IfTold (g.held old.disk) (λ all. StandsFor all new.records)

-- a journal that wasn't read again is as it was, and shut unless memory was wanting; a disk that tells isn't refused as no journal
pub record IsLeftUnread {D : Type 0} (g : Ghosts D) (old new : JournalView D) (fault : MountFault) : Type 0 where
  pub same : new ≡ record old { disk = new.disk; shut = new.shut }
  pub memory : fault ≡ MountMemory → new.shut ≡ old.shut
  pub shut : fault ≢ MountMemory → new.shut ≡ true
  pub disk : fault ≡ MountDisk → Rose (g.faults old.disk) (g.faults new.disk)
  pub not_journal : (at : ℕ) → fault ≡ NotJournal at → g.held old.disk ≡ None
  pub place : (at : ℕ) → fault ≡ NotJournal at → MayPartAt old.base old.records old.in_doubt at

-- a journal was carried over: a crash leaves its list, and its file is of another version than 1
pub record IsMigrated {D : Type 0} (g : Ghosts D) (old new : JournalView D) : Type 0 where
  pub renewed : IsRenewed g old.disk new.disk
  pub acknowledged : EachImage g new.disk (λ c. StandsFor c new.records)
  pub carried : IsCarriedOver (g.held new.disk)

-- at any moment a crash leaves the bytes of a disk that told, but for the eighth, so it leaves the list
pub record SparesList {D : Type 0} (g : Ghosts D) (old new : D) (records : List Rec) : Type 0 where
  pub any_moment : EachMoment g old new (λ _ c. StandsFor c records)
  pub spares : EachMoment g old new IsButForEighth

-- at any moment a crash leaves the list of a disk that told, with the record or without it
pub record WritesAtMost {D : Type 0} (g : Ghosts D) (old new : D) (records : List Rec) (rec : Rec) : Type 0 where
  pub any_moment : EachMoment g old new (λ _. StandsForEither records rec)
  pub images : IfTold (g.held old) (λ _. (c : List ℕ) → g.images new c → StandsForEither records rec c)

-- a record was appended at this place, and the version stays what it was
pub record IsAppended {D : Type 0} (g : Ghosts D) (old new : JournalView D) (rec : Rec) (at : ℕ) : Type 0 where
  pub number : at ≡ length old.records + 1
  pub records : new.records ≡ old.records ++ rec ∷ []
  pub opened : IsOpenJournal g new
  pub version : (v : ℕ) → HasVersion (g.held old.disk) (Some v) → HasVersion (g.held new.disk) (Some v)
  pub carried : IsCarriedOver (g.held old.disk) → IsCarriedOver (g.held new.disk)

-- the disk failed at a record: the journal is shut, and the record in doubt
pub record FailsAt {D : Type 0} (g : Ghosts D) (old new : JournalView D) (rec : Rec) : Type 0 where
  pub shut : new.shut ≡ true
  pub in_doubt : new.in_doubt ≡ Some rec
  pub cause : Rose (g.faults old.disk) (g.faults new.disk)

-- nothing was written of a record
pub record IsUnwritten {D : Type 0} (old new : JournalView D) : Type 0 where
  pub disk : new.disk ≡ old.disk
  pub shut : new.shut ≡ old.shut
  pub in_doubt : new.in_doubt ≡ old.in_doubt

-- a record wasn't appended: the disk failed at it, or nothing was written; where there was room, memory isn't wanting
pub record IsNotAppended {D : Type 0} (g : Ghosts D) (old new : JournalView D) (rec : Rec) (fault : AppendFault) : Type 0 where
  pub records : new.records ≡ old.records
  pub disk : fault ≡ AppendDisk → FailsAt g old new rec
  pub same : fault ≢ AppendDisk → IsUnwritten old new
  pub reserved : 1 ≤ old.room → fault ≢ AppendMemory
