-- What a boot finds on a disk and leaves there, and what a restore and a reboot make of a guard.
use Rattle.std.specs.Prelude.{◌≡◌, ◌⊎◌, ℕ, Bool, true, false, if◌then◌else◌, List}
use Rattle.std.specs.declared.option.Option.{Option}
use Rattle.xfs_base.specs.Causes.{IfTold}
use Rattle.xfs_base.specs.declared.counts.Places.{Places}
use Rattle.xfs_base.specs.declared.money.NoteKind.{NoteKind}
use Rattle.xfs_disk.specs.declared.disk.Disk.{Ghosts}
use Rattle.xfs_mech.specs.declared.motion.Motion.{Motion}
use Rattle.xfs_journal.specs.Image.{StandsFor}
use Rattle.xfs_journal.specs.JournalView.{exceeds, IsButForEighth, IsPossible, StandsForEither}
use Rattle.xfs_journal.specs.Paging.{IsOldOrShort, IsQuiet}
use Rattle.xfs_journal.specs.declared.limits.Limits.{Limits}
use Rattle.xfs_journal.specs.declared.record.Rec.{Rec}
use Rattle.xfs_journal.specs.Journal.{base_of, boot_of, with_boot}
use Rattle.xfs_guard.specs.Recorded.{IsRecorded}
use Rattle.xfs_guard.specs.Stored.{MayLeave}
use Rattle.xfs_guard.specs.View.{View, reread, restarted, unbooted, unread}

-- the disk has this list of records, where it tells
abbrev pub IsFound : Option (List ℕ) → (List Rec → Type 0) → Type 0
IsFound held Then = (records : List Rec) × IfTold held (λ all. StandsFor all records) × Then records

-- a boot, which keeps the records from the last boot record on, finds no room behind them for one of these places
abbrev pub has_no_room_at_boot : Limits → List Rec → Places → Bool
has_no_room_at_boot limits records places = exceeds limits (base_of records) (with_boot records places)

-- these are the records that the disk has, with a boot record of these places, for which there was room
abbrev pub HadRoom : Option (List ℕ) → Limits → Places → List Rec → Type 0
HadRoom held limits places now = IsFound held (λ records. (now ≡ with_boot records places) × (has_no_room_at_boot limits records places ≡ false))

-- the disk has a list of records, and no room behind it for a boot record of these places
abbrev pub LacksRoom : Option (List ℕ) → Limits → Places → Type 0
LacksRoom held limits places = IsFound held (λ records. has_no_room_at_boot limits records places ≡ true)

-- where each image was that of one list, each is that of this list, with this boot record or without it
abbrev pub LeavesEither : {D : Type 0} → Ghosts D → D → D → Places → Type 0
LeavesEither g old new places = IfTold (g.held old) (λ _. (records : List Rec) → ((image : List ℕ) → g.images old image → StandsFor image records)
    → (image : List ℕ) → g.images new image → StandsForEither records (boot_of records places) image)

-- an image of before, or of a short file, perhaps with another eighth byte
abbrev pub IsSpared : (List ℕ → Type 0) → List ℕ → List ℕ → Type 0
IsSpared images all c = (d : List ℕ) × IsOldOrShort images all d × ((c ≡ d) ⊎ IsButForEighth d c)

-- how many of the records memory doesn't have once they are read again: a reboot rebases, and a restore has as many as before
abbrev pub base_then : Bool → ℕ → List Rec → ℕ
base_then rebases base records = if rebases then base_of records else base

-- these are the records that the disk has, with a boot record of these places, for which a restore or a reboot had room
abbrev pub HadRoomThen : Bool → ℕ → Option (List ℕ) → Limits → Places → List Rec → Type 0
HadRoomThen rebases base held limits places now = IsFound held (λ records.
    (now ≡ with_boot records places) × (exceeds limits (base_then rebases base records) (with_boot records places) ≡ false))

-- these are the records that a guard's disk has, with a boot record of its mechanism's places, for which a restore or a reboot had room
abbrev pub HadRoomAgain : Bool → Option (List ℕ) → View → List Rec → Type 0
HadRoomAgain rebases held old now = HadRoomThen rebases old.base held old.limits old.places now

-- a possible list of the journal was read again, and has its boot record; where that rebases, memory has it alone
abbrev pub IsRereadBooted : Bool → View → View → Type 0
IsRereadBooted rebases old new = (records : List Rec) × IsPossible old.records old.in_doubt records
    × (new ≡ record (restarted old records) { base = base_then rebases old.base (with_boot records old.places) })

-- a possible list was read again, and there is no room for its boot record; where that rebases, memory has the list from its last boot record on
abbrev pub IsRereadFull : Bool → View → View → Type 0
IsRereadFull rebases old new = (records : List Rec) × IsPossible old.records old.in_doubt records
    × (exceeds old.limits (base_then rebases old.base records) (with_boot records old.places) ≡ true)
    × (new ≡ record (reread old records) { base = base_then rebases old.base records })

-- a possible list was read again, and the disk failed at its boot record; where that rebases, memory has the list from its last boot record on
abbrev pub IsRereadFailed : Bool → View → View → Type 0
IsRereadFailed rebases old new = (records : List Rec) × IsPossible old.records old.in_doubt records
    × (new ≡ record (unbooted old records) { base = base_then rebases old.base records })

-- the journal was not read, and is shut
abbrev pub IsNotReread : View → View → Type 0
IsNotReread old new = new ≡ unread old
