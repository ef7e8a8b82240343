-- What the machine has its guard do beside the plans of the dispenser's commands: each is one call of the guard.
use Rattle.std.specs.Prelude.{◌≡◌, ◌≤◌, ◌⊎◌, ℕ, Bool, true, false, List, [], ◌∷◌, ◌++◌, Option, None, Some, is_some, is_none}
use Rattle.xfs_base.specs.Causes.{Rose}
use Rattle.xfs_base.specs.Counts.{LiesIn}
use Rattle.xfs_base.specs.declared.counts.Counts.{Counts}
use Rattle.xfs_base.specs.declared.counts.Kind.{Kind}
use Rattle.xfs_base.specs.declared.counts.Kind.TheVariants.{Retract}
use Rattle.xfs_base.specs.declared.moment.Moment.{Moment}
use Rattle.xfs_common.specs.Payloads.{nothing, nonce_payload}
use Rattle.xfs_dispenser.specs.Seen.{Seen, Becomes, Fails, MechCalled}
use Rattle.xfs_dispenser.specs.Steps.{IsRestoreFull, FailsRestore, IsUnknown}
use Rattle.xfs_envelope.specs.declared.code.Code.TheVariants.{DeviceNotReady}
use Rattle.xfs_guard.specs.Booting.{IsNotReread, IsRereadFull, IsRereadFailed, has_no_room_at_boot}
use Rattle.xfs_guard.specs.Fits.{unfit}
use Rattle.xfs_guard.specs.Nonce.{live_in}
use Rattle.xfs_guard.specs.Orders.{Acts, Settles, Unsettles, kind_unacted}
use Rattle.xfs_guard.specs.Reports.{HasReported}
use Rattle.xfs_guard.specs.View.{View, shut_at, rebooted}
use Rattle.xfs_guard.specs.Word.{issue_word}
use Rattle.xfs_guard.specs.declared.open.Open.{Open}
use Rattle.xfs_guard.specs.declared.open.Open.TheVariants.{No, Written, Acted}
use Rattle.xfs_journal.specs.Journal.{next_issue, nonce_text}
use Rattle.xfs_journal.specs.JournalView.{IsPossible}
use Rattle.xfs_journal.specs.declared.record.Rec.{Rec}
use Rattle.xfs_journal.specs.declared.record.Rec.TheVariants.{Issue, Clear, Expire}
use Rattle.xfs_mech.specs.declared.motion.Motion.TheVariants.{Taken}
use Rattle.xfs_model.specs.State.{State, Ask, issue, clear, Ending, cleared, expired, Outcome}
use Rattle.xfs_model.specs.Results.{plain, success}

-- the journal takes more records
abbrev pub is_fit : Seen → Bool
is_fit s = is_none (unfit s.guard)

-- a nonce lives
abbrev pub is_live : Seen → Bool
is_live s = is_some (live_in s.guard.boot_missing s.guard.records)

-- the number of the Issue that comes next, and its word
abbrev pub number_to_issue : Seen → ℕ
number_to_issue s = next_issue s.guard.records

abbrev pub word_to_issue : Seen → ℕ
word_to_issue s = issue_word s.guard.seed (number_to_issue s)

-- the guard behind one more mark, which binds no token
abbrev pub with_mark : Rec → View → View
with_mark r v = record v { records = v.records ++ r ∷ []; bound = None }

-- a mark is written; or the disk fails at it
abbrev pub Marks : Rec → Seen → Seen → Type 0
Marks r old new = Becomes old (with_mark r old.guard) new

abbrev pub Misses : Rec → Seen → Seen → Type 0
Misses r old new = Fails old (shut_at r old.guard) new

-- GetCommandNonce and ClearCommandNonce: the result, what is seen of the guard then, and the moment at which the live nonce was issued
pub data NonceCommand (s : State) : Ask → Outcome → Seen → Moment → Type 0 where
  refused : (ask : Ask) → is_fit s.seen ≡ false → NonceCommand s ask (plain DeviceNotReady) s.seen s.issued
  issued : (next : Seen) → is_fit s.seen ≡ true → Marks (Issue (number_to_issue s.seen) (word_to_issue s.seen)) s.seen next
      → NonceCommand s issue (success (nonce_payload (nonce_text (number_to_issue s.seen) (word_to_issue s.seen)))) next s.now
  unissued : (next : Seen) → is_fit s.seen ≡ true → Misses (Issue (number_to_issue s.seen) (word_to_issue s.seen)) s.seen next
      → NonceCommand s issue (plain DeviceNotReady) next s.issued
  cleared_ : (next : Seen) → is_fit s.seen ≡ true → is_live s.seen ≡ true → Marks Clear s.seen next
      → NonceCommand s clear (record (success nothing) { ending = Some cleared }) next s.issued
  uncleared : (next : Seen) → is_fit s.seen ≡ true → is_live s.seen ≡ true → Misses Clear s.seen next
      → NonceCommand s clear (plain DeviceNotReady) next s.issued
  none_to_clear : is_fit s.seen ≡ true → is_live s.seen ≡ false → NonceCommand s clear (success nothing) s.seen s.issued

-- the life of the live nonce is over: how it ended, where it did, and what is seen of the guard then
pub data Expires (s : State) : Option Ending → Seen → Type 0 where
  ended : (next : Seen) → Marks Expire s.seen next → Expires s (Some expired) next
  unended : (next : Seen) → Misses Expire s.seen next → Expires s None next

-- an order to retract is written and not yet acted, so the shutter is closed
abbrev pub is_retract : Option Kind → Bool
is_retract None = false
is_retract (Some Retract) = true
is_retract (Some other) = false

abbrev pub is_shutter_closed : Seen → Bool
is_shutter_closed s = is_retract (kind_unacted s.guard.open_order)

-- the customer takes notes from the outlet; or the mechanism fails
pub record CustomerTakes (old : Seen) (moved : Counts) (failed : Bool) (new : Seen) : Type 0 where
  pub diverted : Counts
  pub lay : LiesIn moved old.guard.places.outlet
  pub reported : HasReported old.guard new.guard (Taken moved) moved diverted failed
  pub called : MechCalled old failed new

-- a restart: the journal is read again as a possible list, and gets a boot record with the places, which has room where a boot would have it and is alone in memory
pub record Reboots (old new : Seen) : Type 0 where
  pub records : List Rec
  pub possible : IsPossible old.guard.records old.guard.in_doubt records
  pub fits : has_no_room_at_boot old.guard.limits records old.guard.places ≡ false
  pub becomes : Becomes old (rebooted old.guard records) new

-- a restart is refused, as its boot record passes a limit where a boot's would
pub record FindsNoRoom (old new : Seen) : Type 0 where
  pub now : View
  pub is : IsRereadFull true old.guard now
  pub becomes : Becomes old now new

-- a restart is refused, as the disk fails, before the list was read or at the boot record
pub record FailsToBoot (old new : Seen) : Type 0 where
  pub now : View
  pub is : IsNotReread old.guard now ⊎ IsRereadFailed true old.guard now
  pub fails : Fails old now new

-- a restart is refused: its boot record passes a limit, the disk fails, or a disk that tells nothing is no journal
abbrev pub IsUnbooted : Seen → Seen → Type 0
IsUnbooted old new = FindsNoRoom old new ⊎ (FailsToBoot old new ⊎ IsUnknown old new)

-- a Reset's restore is refused for such a reason, by the room behind the records in memory
abbrev pub IsUnrestored : Seen → Seen → Type 0
IsUnrestored old new = IsRestoreFull old new ⊎ (FailsRestore old new ⊎ IsUnknown old new)

-- the open order is acted
pub record ActsOn (old new : Seen) : Type 0 where
  pub moved : Counts
  pub diverted : Counts
  pub failed : Bool
  pub acts : Acts old.guard new.guard moved diverted failed
  pub called : MechCalled old failed new

-- the acted order is settled, or the disk fails at its Done
pub data SettlesOn (old : Seen) : Bool → Seen → Type 0 where
  written : (new : Seen) → Settles old.guard new.guard → old.disk_faults ≤ new.disk_faults → SettlesOn old true new
  unwritten : (new : Seen) → Unsettles old.guard new.guard → old.disk_faults ≤ new.disk_faults → Rose old.disk_faults new.disk_faults → SettlesOn old false new

pub record ActsAndSettles (old : Seen) (settled : Bool) (new : Seen) : Type 0 where
  pub between : Seen
  pub acts : ActsOn old between
  pub settles : SettlesOn between settled new

-- what a finish does with the open order, if there is one; whether it is settled then
abbrev pub Closes : Open → Seen → Bool → Seen → Type 0
Closes No old settled new = (settled ≡ true) × (new ≡ old)
Closes (Written kind counts) old settled new = ActsAndSettles old settled new
Closes (Acted kind moved diverted failed) old settled new = SettlesOn old settled new
