-- What a ledger is after a boot, after a restore or a reboot, which rebases, and after a call that writes.
use Rattle.std.specs.Prelude.{◌≡◌, ◌≢◌, ◌⊎◌, ℕ, ◌+◌, ◌≤◌, Bool, true, false, is_some, List, ◌||◌, Some, None, Err, IfErr, OnOk}
use Rattle.std.specs.declared.option.Option.{Option}
use Rattle.std.specs.declared.result.Result.{Result}
use Rattle.xfs_base.specs.Causes.{IfTold, Rose}
use Rattle.xfs_base.specs.Money.{value}
use Rattle.xfs_base.specs.declared.counts.Counts.{Counts}
use Rattle.xfs_base.specs.declared.counts.Kind.{Kind}
use Rattle.xfs_base.specs.declared.counts.Kind.TheVariants.{Present}
use Rattle.xfs_base.specs.declared.money.NoteKind.{NoteKind}
use Rattle.xfs_base.specs.declared.counts.Places.{Places}
use Rattle.xfs_disk.specs.Moments.{EachImage, EachMoment}
use Rattle.xfs_disk.specs.declared.disk.Disk.{Ghosts}
use Rattle.xfs_journal.specs.Image.{StandsFor}
use Rattle.xfs_journal.specs.Journal.{base_of, boot_of, with_boot}
use Rattle.xfs_journal.specs.JournalView.{JournalView, exceeds, IsCarriedOver, IsNoJournal, IsPossible, StandsForEither}
use Rattle.xfs_journal.specs.Outcomes.{DiskGoesOn, IsMounted}
use Rattle.xfs_journal.specs.Paging.{IsQuiet}
use Rattle.xfs_journal.specs.declared.limits.Limits.{Limits}
use Rattle.xfs_journal.specs.declared.record.Rec.{Rec}
use Rattle.xfs_guard.specs.Balance.{no_notes}
use Rattle.xfs_guard.specs.Booting.{HadRoom, IsFound, LacksRoom, LeavesEither, base_then, IsSpared}
use Rattle.xfs_guard.specs.Crashed.{IsCrashOutcome, StandsReread}
use Rattle.xfs_guard.specs.LedgerView.{IsWriteFault, LedgerView, Wrote}
use Rattle.xfs_guard.specs.Presented.{presented_in}
use Rattle.xfs_guard.specs.Stored.{MayLeave, WasLeft}
use Rattle.xfs_guard.specs.declared.deny.Deny.{Deny}
use Rattle.xfs_guard.specs.declared.deny.Deny.TheVariants as deny
use Rattle.xfs_guard.specs.declared.fail.BootFault.{BootFault}
use Rattle.xfs_guard.specs.declared.fail.BootFault.TheVariants.{NotJournal, Disk, Full, Memory}
use Rattle.xfs_guard.specs.CrashOutcomes.{IsOldOrFound, IsOldOrBooted}
use Rattle.xfs_journal.specs.Held.{WhereNoJournal}

-- a possible list of the journal was read again, and has a boot record of these places behind it, since which nothing was loaded
abbrev pub IsBootedNow : {D : Type 0} → Bool → LedgerView D → LedgerView D → Places → Type 0
IsBootedNow rebases old new places = (records : List Rec) × IsPossible old.records old.in_doubt records × (new ≡ record old {
  records = with_boot records places;
  base = base_then rebases old.base (with_boot records places);
  bound = None;
  booted = places;
  loaded = no_notes;
  shut = false;
  boot_missing = false;
  in_doubt = None;
  room = new.room;
  disk = new.disk;
})

-- a possible list was read again, and there is no room for its boot record
abbrev pub IsMissingNow : {D : Type 0} → Bool → LedgerView D → LedgerView D → Places → Type 0
IsMissingNow rebases old new places = (records : List Rec) × IsPossible old.records old.in_doubt records
    × (exceeds old.limits (base_then rebases old.base records) (with_boot records places) ≡ true) × (new ≡ record old {
      records = records;
      base = base_then rebases old.base records;
      bound = None;
      shut = false;
      boot_missing = true;
      in_doubt = None;
      room = new.room;
      disk = new.disk;
    })

-- a possible list was read again, and the disk failed at its boot record
abbrev pub IsFailedNow : {D : Type 0} → Bool → LedgerView D → LedgerView D → Places → Type 0
IsFailedNow rebases old new places = (records : List Rec) × IsPossible old.records old.in_doubt records × (new ≡ record old {
  records = records;
  base = base_then rebases old.base records;
  bound = None;
  shut = true;
  in_doubt = Some (boot_of records places);
  room = new.room;
  disk = new.disk;
})

-- the journal was not read, and is shut
abbrev pub IsUnreadNow : {D : Type 0} → LedgerView D → LedgerView D → Type 0
IsUnreadNow old new = new ≡ record old { shut = true; disk = new.disk }

-- one of the images before, or the bytes stand for a possible list that was read again, with this boot record or without it
abbrev pub IsOldOrReread : {D : Type 0} → Ghosts D → LedgerView D → LedgerView D → Places → List ℕ → Type 0
IsOldOrReread g old new places bytes = g.images old.disk bytes
    ⊎ StandsReread old.records old.in_doubt places (IsCrashOutcome new.records new.in_doubt (new.shut || new.boot_missing)) bytes

-- with these notes, what was presented stays within a token's amounts in each currency
abbrev pub StaysSmall : List NoteKind → List Rec → Kind → Counts → Type 0
StaysSmall units records kind moved = kind ≡ Present → (c : List ℕ) → presented_in units records c + value units moved c ≤ 999999999999

-- The journal of a disk is mounted, whose file is of a version that boots write: nothing else was written.
pub record MountsJournal {D : Type 0} (g : Ghosts D) (limits : Limits) (before : D) (j : JournalView D) : Type 0 where
  pub mounted : IsMounted g before limits j
  pub spared : EachMoment g before j.disk (IsSpared (g.images before))
  pub carried : IsCarriedOver (g.held j.disk)
  pub any_moment : EachMoment g before j.disk (IsOldOrFound (g.images before))
  pub goes_on : DiskGoesOn g before j.disk

-- A disk isn't mounted for this, and is left so.
pub record RefusesMount {D : Type 0} (g : Ghosts D) (before : D) (why : BootFault) (now : D) : Type 0 where
  pub not_journal : (at : ℕ) → why ≡ NotJournal at → IsNoJournal (g.held before) at
  pub refused : (at : ℕ) → why ≡ NotJournal at → IsQuiet g before now
  pub disk : why ≡ Disk → Rose (g.faults before) (g.faults now)
  pub not_full : why ≢ Full
  pub unlisted : WhereNoJournal (g.held before) (IsQuiet g before now)
  pub unwritten : why ≢ Disk → EachMoment g before now (IsSpared (g.images before))
  pub any_moment : EachMoment g before now (IsOldOrFound (g.images before))
  pub goes_on : DiskGoesOn g before now

-- What a call of a ledger does that writes this record, with which these amounts are bound.
pub record WritesLedger {T D : Type 0} (g : Ghosts D) (rec : Rec) (bound : Option (List (List ℕ × ℕ))) (result : Result T Deny) (old new : LedgerView D) : Type 0 where
  pub wrote : Wrote result old new rec bound
  pub err : IfErr result IsWriteFault
  pub cause : result ≡ Err deny.Disk → Rose (g.faults old.disk) (g.faults new.disk)
  pub faults : g.faults old.disk ≤ g.faults new.disk
  pub told : is_some (g.held new.disk) ≡ is_some (g.held old.disk)
  pub any_moment : EachMoment g old.disk new.disk (λ _. StandsForEither old.records rec)
  pub kept : OnOk result (EachImage g new.disk (λ c. StandsFor c new.records))

-- The ledger of a boot: the list that the disk had, with a boot record of these places behind it, since which nothing was loaded.
pub record BootsLedger {D : Type 0} (g : Ghosts D) (limits : Limits) (units : List NoteKind) (places : Places) (before : D) (l : LedgerView D) : Type 0 where
  pub records : IsFound (g.held before) (λ records. l.records ≡ with_boot records places)
  pub based : l.base ≡ base_of l.records
  pub fits : HadRoom (g.held before) limits places l.records
  pub opened : (l.shut ≡ false) × (l.in_doubt ≡ None) × (l.bound ≡ None) × (l.boot_missing ≡ false)
  pub same : (l.limits ≡ limits) × (l.units ≡ units)
  pub unloaded : (l.booted ≡ places) × (l.loaded ≡ no_notes)
  pub kept : EachImage g l.disk (λ c. StandsFor c l.records)
  pub carried : IsCarriedOver (g.held l.disk)
  pub told : is_some (g.held l.disk) ≡ is_some (g.held before)
  pub any_moment : EachMoment g before l.disk (λ all. IsOldOrBooted (g.images before) all places)
  pub faults : g.faults before ≤ g.faults l.disk

-- The boot of a ledger is refused for this, and leaves this disk.
pub record RefusesLedger {D : Type 0} (g : Ghosts D) (limits : Limits) (places : Places) (before : D) (why : BootFault) (now : D) : Type 0 where
  pub not_journal : (at : ℕ) → why ≡ NotJournal at → IsNoJournal (g.held before) at
  pub refused : (at : ℕ) → why ≡ NotJournal at → IsQuiet g before now
  pub full : why ≡ Full → LacksRoom (g.held before) limits places
  pub disk : why ≡ Disk → Rose (g.faults before) (g.faults now)
  pub left : (records : List Rec) → MayLeave g now records → WasLeft g before places records
  pub either : LeavesEither g before now places
  pub unlisted : WhereNoJournal (g.held before) (IsQuiet g before now)
  pub unwritten : why ≢ Disk → EachMoment g before now (IsSpared (g.images before))
  pub told : is_some (g.held now) ≡ is_some (g.held before)
  pub any_moment : EachMoment g before now (λ all. IsOldOrBooted (g.images before) all places)
  pub faults : g.faults before ≤ g.faults now

-- What each refusal of a restore or a reboot makes of a ledger: after want of memory all is as before, after want of room a list was read, and after the others the journal is shut.
pub record RefusesReread {D : Type 0} (g : Ghosts D) (rebases : Bool) (places : Places) (result : Result Unit BootFault) (old new : LedgerView D) : Type 0 where
  pub memory : result ≡ Err Memory → new ≡ record old { disk = new.disk }
  pub full : result ≡ Err Full → IsMissingNow rebases old new places
  pub found : result ≡ Err Full → IfTold (g.held old.disk) (λ all. StandsFor all new.records)
  pub disk : result ≡ Err Disk → IsUnreadNow old new ⊎ IsFailedNow rebases old new places
  pub not_journal : IfErr result (λ f. (at : ℕ) → f ≡ NotJournal at → (g.held old.disk ≡ None) × IsUnreadNow old new)
  pub cause : result ≡ Err Disk → Rose (g.faults old.disk) (g.faults new.disk)
