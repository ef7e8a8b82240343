-- What a journal tells is told of every list that its bytes stand for.
use Rattle.std.proofs.Common.{◌≡◌, ◌≢◌, ◌⊎◌, ℕ, List, None, Some, drop, inl, inr, refl}
use Rattle.std.specs.declared.option.Option.{Option}
use Rattle.xfs_base.specs.Causes.{IfTold}
use Rattle.xfs_base.specs.declared.counts.Places.{Places}
use Rattle.xfs_base.specs.declared.money.NoteKind.{NoteKind}
use Rattle.xfs_mech.specs.declared.motion.Motion.{Motion}
use Rattle.xfs_journal.specs.Image.{StandsFor}
use Rattle.xfs_journal.specs.Journal.{base_of}
use Rattle.xfs_journal.specs.declared.faults.MountFault.{MountFault}
use Rattle.xfs_journal.specs.declared.faults.MountFault.TheVariants.{NotJournal, Disk, Memory}
use Rattle.xfs_journal.specs.declared.record.Rec.{Rec}
use Rattle.xfs_journal.proofs.Unique.{stands_for_one}
use Rattle.xfs_simulated.specs.Resumed.{GoesOn, GoesOnFrom}
use Rattle.xfs_journal.specs.JournalView.{IsNoJournal}

-- of each list that the bytes stand for this is told, where the disk tells them and didn't fail
abbrev pub TellsOf : Option (List ℕ) → Type 0 → List NoteKind → List Motion → Places → Type 0
TellsOf held failed units motions places = IfTold held (λ bytes. (records : List Rec) → StandsFor bytes records → failed ⊎ GoesOn units records motions places)

pub tells-mounted : (held : Option (List ℕ)) (failed : Type 0) (units : List NoteKind) (journal : List Rec) (base : ℕ) (motions : List Motion) (places : Places)
    → IfTold held (λ all. StandsFor all journal) → base ≡ base_of journal → GoesOnFrom units base (drop base journal) motions places → TellsOf held failed units motions places
tells-mounted None failed units journal base motions places stands is goes = tt
tells-mounted (Some bytes) failed units journal base motions places stands is goes = λ records stood. inr (rw (stands_for_one bytes records journal stood stands, ← is) goes)

pub tells-refused : (held : Option (List ℕ)) (failed : Type 0) (units : List NoteKind) (why : MountFault) (motions : List Motion) (places : Places)
    → why ≢ Memory → ((at : ℕ) → why ≡ NotJournal at → IsNoJournal held at) → (why ≡ Disk → failed) → TellsOf held failed units motions places
tells-refused None failed units why motions places nor none disk = tt
tells-refused (Some bytes) failed units (NotJournal at) motions places nor none disk = λ records stood. absurd ((none at refl).1 records stood)
tells-refused (Some bytes) failed units Disk motions places nor none disk = λ records stood. inl (disk refl)
tells-refused (Some bytes) failed units Memory motions places nor none disk = absurd (nor refl)

-- this is told too of a mechanism that has these motions, these places and this table
pub tells-as : (held : Option (List ℕ)) (failed : Type 0) (units : List NoteKind) (motions motions' : List Motion) (places places' : Places) (table : List NoteKind)
    → table ≡ units → motions' ≡ motions → places' ≡ places → TellsOf held failed units motions places → TellsOf held failed table motions' places'
tells-as held failed units motions motions' places places' table same moved lie told = rw (same, moved, lie) told
