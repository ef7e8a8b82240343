-- What is seen of a guard.
use Rattle.std.specs.Prelude.{ℕ, Bool, true, false, List, [], ◌∷◌, ◌++◌, None, Some}
use Rattle.std.specs.declared.option.Option.{Option}
use Rattle.xfs_base.specs.declared.money.NoteKind.{NoteKind}
use Rattle.xfs_base.specs.declared.counts.Counts.{Counts}
use Rattle.xfs_base.specs.declared.counts.Kind.{Kind}
use Rattle.xfs_base.specs.declared.counts.Places.{Places}
use Rattle.xfs_mech.specs.declared.motion.Motion.{Motion}
use Rattle.xfs_journal.specs.declared.record.Rec.{Rec}
use Rattle.xfs_journal.specs.declared.record.Rec.TheVariants.{Order}
use Rattle.xfs_journal.specs.Journal.{base_of, boot_of, with_boot}
use Rattle.xfs_journal.specs.declared.limits.Limits.{Limits}
use Rattle.xfs_guard.specs.Balance.{no_notes}
use Rattle.xfs_guard.specs.LedgerView.{LedgerView}
use Rattle.xfs_guard.specs.declared.open.Open.{Open}
use Rattle.xfs_guard.specs.declared.open.Open.TheVariants.{No, Written}

-- a guard: what it was booted with, its journal, its open order, and what its mechanism tells
pub record View : Type 0 where
  pub key : List ℕ
  pub seed : List ℕ
  pub units : List NoteKind
  pub records : List Rec
  -- how many of them, from the first on, memory doesn't have
  pub base : ℕ
  -- the amounts of the token that is bound to the live nonce
  pub bound : Option (List (List ℕ × ℕ))
  pub open_order : Open
  pub motions : Option (List Motion)
  pub places : Places
  -- the places of the last boot record that was appended, and the notes that were loaded since
  pub booted : Places
  pub loaded : Counts
  -- how often the mechanism failed
  pub faults : ℕ
  pub limits : Limits
  pub shut : Bool
  -- a restore found no room for its boot record, and none was appended since
  pub boot_missing : Bool
  -- the record whose append last answered that the disk failed
  pub in_doubt : Option Rec
  -- the disk tells its bytes
  pub disk_told : Bool

-- a guard over a ledger and what its mechanism tells; whether the disk tells its bytes
abbrev pub over : {D : Type 0} → List ℕ → List ℕ → Open → Option (List Motion) → Places → ℕ → LedgerView D → Bool → View
over key seed open_order motions places faults l told = record {
  key = key;
  seed = seed;
  units = l.units;
  records = l.records;
  base = l.base;
  bound = l.bound;
  open_order = open_order;
  motions = motions;
  places = places;
  booted = l.booted;
  loaded = l.loaded;
  faults = faults;
  limits = l.limits;
  shut = l.shut;
  boot_missing = l.boot_missing;
  in_doubt = l.in_doubt;
  disk_told = told;
}

-- the list has this record more
abbrev pub with_record : Rec → View → View
with_record r v = record v { records = v.records ++ r ∷ [] }

-- the list has this record more, and no token is bound
abbrev pub unbound_with : Rec → View → View
unbound_with r v = record (with_record r v) { bound = None }

-- the list has this order more, which is written and not yet carried out
abbrev pub with_order : Kind → Counts → View → View
with_order kind counts v = record (with_record (Order kind counts) v) { open_order = Written kind counts }

-- the disk failed at this record: the journal is shut, and the record is in doubt
abbrev pub shut_at : Rec → View → View
shut_at r v = record v { shut = true; in_doubt = Some r }

-- a restore was refused before it read the journal again: the journal is shut, and the order that was open is never carried out
abbrev pub unread : View → View
unread v = record v { open_order = No; shut = true }

-- the journal was read again, as this list, and has no boot record behind it
abbrev pub reread : View → List Rec → View
reread v records = record v { records = records; bound = None; open_order = No; shut = false; boot_missing = true; in_doubt = None }

-- the journal was read again, as this list, and has a boot record of the mechanism's places behind it, since which nothing was loaded
abbrev pub restarted : View → List Rec → View
restarted v records = record (reread v (with_boot records v.places)) { booted = v.places; loaded = no_notes; boot_missing = false }

-- the journal was read again, as this list, and the disk failed at its boot record; whether an earlier one is missing stays
abbrev pub unbooted : View → List Rec → View
unbooted v records = record (reread v records) { shut = true; boot_missing = v.boot_missing; in_doubt = Some (boot_of records v.places) }

-- the journal was read again, as this list, and has a boot record of the mechanism's places behind it, which alone is in memory
abbrev pub rebooted : View → List Rec → View
rebooted v records = record (restarted v records) { base = base_of (with_boot records v.places) }

-- a guard, and the disk of its journal
pub record GuardView (D : Type 0) : Type 0 where
  pub state : View
  pub disk : D
