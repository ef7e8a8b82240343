-- One step of a plan: an open order is acted, or settled; else the next part is begun. Each step is one call of the guard.
use Rattle.std.specs.Prelude.{◌≡◌, ◌≤◌, ◌⊎◌, ℕ, Bool, true, false, List, [], ◌∷◌, ◌++◌, Some, None, OnErr, OnOk, if◌then◌else◌}
use Rattle.std.specs.Option.{option_or}
use Rattle.std.specs.declared.option.Option.{Option}
use Rattle.std.specs.declared.result.Result.{Result}
use Rattle.xfs_base.specs.Causes.{Rose}
use Rattle.xfs_base.specs.declared.counts.Counts.{Counts}
use Rattle.xfs_base.specs.declared.faults.Memory.{Memory}
use Rattle.xfs_base.specs.declared.money.NoteKind.{NoteKind}
use Rattle.xfs_disk.specs.declared.disk.Disk.{Ghosts}
use Rattle.xfs_envelope.specs.declared.code.Code.TheVariants.{Success, HardwareError, DeviceNotReady}
use Rattle.xfs_journal.specs.JournalView.{IsPossible, exceeds}
use Rattle.xfs_journal.specs.declared.record.Rec.{Rec}
use Rattle.xfs_journal.specs.Journal.{with_boot}
use Rattle.xfs_journal.specs.declared.record.Rec.TheVariants.{Load as LoadRecord, Order as OrderRecord}
use Rattle.xfs_mech.specs.declared.motion.Motion.{Motion}
use Rattle.xfs_mech.specs.declared.motion.Motion.TheVariants.{Loaded}
use Rattle.xfs_mech.specs.declared.motion.Outcome.{Outcome}
use Rattle.xfs_guard.specs.Fits.{unfit}
use Rattle.xfs_guard.specs.CrashOutcomes.{MayMove}
use Rattle.xfs_guard.specs.Keeps.{Keeps, NoEntry, Proceeds}
use Rattle.xfs_guard.specs.Orders.{Acts, Settles, Unsettles}
use Rattle.xfs_guard.specs.Refusals.{order_refusal, asked_kind, asked_counts}
use Rattle.xfs_guard.specs.Reports.{HasReported}
use Rattle.xfs_guard.specs.Upheld.{IsUpheld}
use Rattle.xfs_guard.specs.View.{GuardView, View, shut_at, reread, restarted, unbooted, unread}
use Rattle.xfs_guard.specs.declared.ask.Ask.{Ask}
use Rattle.xfs_guard.specs.declared.deny.Deny.{Deny}
use Rattle.xfs_guard.specs.declared.open.Open.{Open}
use Rattle.xfs_guard.specs.declared.open.Open.TheVariants.{No, Written, Acted}
use Rattle.xfs_dispenser.specs.Answers.{CashAnswer, Went, more, done, plain_answer, denial, went_of}
use Rattle.xfs_dispenser.specs.Denominations.{denomination_answer}
use Rattle.xfs_dispenser.specs.Plans.{emptying, with_parts}
use Rattle.xfs_dispenser.specs.Seen.{Seen, Becomes, Fails, MechCalled}
use Rattle.xfs_dispenser.specs.declared.part.Part.{Part}
use Rattle.xfs_dispenser.specs.declared.part.Part.TheVariants.{Order, Restore, Load, Note}
use Rattle.xfs_dispenser.specs.declared.plan.Plan.{Plan}
use Rattle.xfs_dispenser.specs.declared.progress.Progress.{Progress}

-- what an order is refused for
abbrev pub refusal_of : View → Ask → Option Deny
refusal_of v ask = option_or (unfit v) (order_refusal v ask)

-- the record of what is asked
abbrev pub order_record : View → Ask → Rec
order_record v ask = OrderRecord (asked_kind ask) (asked_counts v ask)

-- a guard whose order is written
abbrev pub ordered : View → Ask → View
ordered v ask = record v { records = v.records ++ order_record v ask ∷ []; open_order = Written (asked_kind ask) (asked_counts v ask) }

-- the answer of a plan that was done in full
abbrev pub success_of : List NoteKind → Option Counts → CashAnswer
success_of units None = plain_answer Success
success_of units (Some counts) = denomination_answer units counts

-- a plan that was done so far goes on with these parts, or has come to its end
abbrev pub onward : List NoteKind → Option Counts → List Part → Went
onward units notes [] = done (success_of units notes)
onward units notes (part ∷ parts) = more

-- what a settled order is told: the mechanism failed, or the plan goes on
abbrev pub settled : List NoteKind → Plan → Bool → Went
settled units plan failed = if failed then done (plain_answer HardwareError) else onward units plan.notes plan.parts.items

-- the written order is acted, and its failure is kept
pub record IsActed (s : Seen) (plan : Plan) (next : Seen) (after : Plan) (went : Went) : Type 0 where
  pub outcome : Outcome
  pub acts : Acts s.guard next.guard outcome.moved outcome.diverted outcome.failed
  pub called : MechCalled s outcome.failed next
  pub kept : after ≡ record plan { failed = outcome.failed }
  pub is : went ≡ more

-- the acted order is settled
pub record IsSettled (s : Seen) (plan : Plan) (failed : Bool) (next : Seen) (went : Went) : Type 0 where
  pub settles : Settles s.guard next.guard
  pub later : s.disk_faults ≤ next.disk_faults
  pub is : went ≡ settled s.guard.units plan failed

-- the disk fails at the Done of the acted order
pub record IsUnsettled (s : Seen) (next : Seen) (went : Went) : Type 0 where
  pub unsettles : Unsettles s.guard next.guard
  pub later : s.disk_faults ≤ next.disk_faults
  pub cause : Rose s.disk_faults next.disk_faults
  pub is : went ≡ done (plain_answer DeviceNotReady)

-- the guard refuses, and nothing changes
pub record IsDenied (s : Seen) (refusal : Option Deny) (next : Seen) (went : Went) : Type 0 where
  pub deny : Deny
  pub first : refusal ≡ Some deny
  pub answer : CashAnswer
  pub due : denial deny ≡ Some answer
  pub same : next ≡ s
  pub is : went ≡ done answer

-- nothing refuses a record, and the disk fails at it
pub record FailsToWrite (s : Seen) (refusal : Option Deny) (written : Rec) (next : Seen) (went : Went) : Type 0 where
  pub free : refusal ≡ None
  pub fails : Fails s (shut_at written s.guard) next
  pub is : went ≡ done (plain_answer DeviceNotReady)

-- nothing refuses a record, and this is the guard with it
pub record IsWritten (s : Seen) (refusal : Option Deny) (now : View) (next : Seen) : Type 0 where
  pub free : refusal ≡ None
  pub becomes : Becomes s now next

-- an order: it is written, or refused, or the disk fails at it
abbrev pub Orders : Ask → List Part → Seen → Plan → Seen → Plan → Went → Type 0
Orders ask rest s plan next after went =
    (IsWritten s (refusal_of s.guard ask) (ordered s.guard ask) next × (after ≡ with_parts plan rest) × (went ≡ more))
    ⊎ ((after ≡ plan) × (IsDenied s (refusal_of s.guard ask) next went ⊎ FailsToWrite s (refusal_of s.guard ask) (order_record s.guard ask) next went))

-- the journal is read as a possible list and gets its boot record; what is then left is to empty the places
pub record IsRestored (s : Seen) (plan : Plan) (next : Seen) (after : Plan) (went : Went) : Type 0 where
  pub records : List Rec
  pub possible : IsPossible s.guard.records s.guard.in_doubt records
  pub fits : exceeds s.guard.limits s.guard.base (with_boot records s.guard.places) ≡ false
  pub becomes : Becomes s (restarted s.guard records) next
  pub left : after ≡ with_parts plan (emptying s.guard.places)
  pub is : went ≡ onward s.guard.units plan.notes (emptying s.guard.places)

-- a restore is refused, as its boot record passes a limit
pub record IsRestoreFull (s next : Seen) : Type 0 where
  pub records : List Rec
  pub possible : IsPossible s.guard.records s.guard.in_doubt records
  pub exceeded : exceeds s.guard.limits s.guard.base (with_boot records s.guard.places) ≡ true
  pub becomes : Becomes s (reread s.guard records) next

-- a restore is refused, as the disk fails, before the list was read or at the boot record
pub record FailsRestore (s next : Seen) : Type 0 where
  pub now : View
  pub is : (now ≡ unread s.guard) ⊎ ((records : List Rec) × IsPossible s.guard.records s.guard.in_doubt records × (now ≡ unbooted s.guard records))
  pub fails : Fails s now next

-- a restore is refused, as a disk that tells nothing is no journal
pub record IsUnknown (s next : Seen) : Type 0 where
  pub untold : s.guard.disk_told ≡ false
  pub becomes : Becomes s (unread s.guard) next

-- a restore: it is done, or refused
abbrev pub Restores : Seen → Plan → Seen → Plan → Went → Type 0
Restores s plan next after went =
    IsRestored s plan next after went
    ⊎ ((after ≡ plan) × (went ≡ done (plain_answer DeviceNotReady)) × (IsRestoreFull s next ⊎ (FailsRestore s next ⊎ IsUnknown s next)))

-- a loading: what the operator added is loaded, or the mechanism fails
pub record Loads (unit count : ℕ) (rest : List Part) (s : Seen) (plan : Plan) (next : Seen) (after : Plan) (went : Went) : Type 0 where
  pub outcome : Outcome
  pub reported : HasReported s.guard next.guard (Loaded unit count) outcome.moved outcome.diverted outcome.failed
  pub called : MechCalled s outcome.failed next
  pub left : after ≡ with_parts plan rest
  pub is : went ≡ (if outcome.failed then done (plain_answer HardwareError) else onward s.guard.units plan.notes rest)

-- the record of a loading: it is written, or refused, or the disk fails at it
abbrev pub Notes : Rec → List Part → Seen → Plan → Seen → Plan → Went → Type 0
Notes r rest s plan next after went =
    (IsWritten s (unfit s.guard) (record s.guard { records = s.guard.records ++ r ∷ [] }) next × (after ≡ with_parts plan rest) × (went ≡ onward s.guard.units plan.notes rest))
    ⊎ ((after ≡ plan) × (IsDenied s (unfit s.guard) next went ⊎ FailsToWrite s (unfit s.guard) r next went))

-- a part is done, with those behind it
abbrev pub DoesPart : Part → List Part → Seen → Plan → Seen → Plan → Went → Type 0
DoesPart (Order ask) rest = Orders ask rest
DoesPart Restore rest = Restores
DoesPart (Load unit count) rest = Loads unit count rest
DoesPart (Note unit count) rest = Notes (LoadRecord unit count) rest

-- the first of the parts that are left is done
abbrev pub DoesFirst : List Part → Seen → Plan → Seen → Plan → Went → Type 0
DoesFirst [] s plan next after went = ⊥
DoesFirst (part ∷ rest) s plan next after went = DoesPart part rest s plan next after went

-- a part is done as the first of those that are left
abbrev pub DoesAs : Part → Seen → Plan → Seen → Plan → Progress → Type 0
DoesAs part s plan next after progress = (rest : List Part) → plan.parts.items ≡ part ∷ rest → DoesPart part rest s plan next after (went_of progress)

-- the acted order is settled, or the disk fails at its Done
abbrev pub SettlesOrder : Seen → Plan → Bool → Seen → Went → Type 0
SettlesOrder s plan failed next went = IsSettled s plan failed next went ⊎ IsUnsettled s next went

-- What a step keeps, which may want memory: the guard goes on; a step that was done adds no other entry to the mechanism's list than such, and one that wanted memory none.
pub record KeepsStep {T D : Type 0} (g : Ghosts D) (MayAdd : Motion → Type 0) (result : Result T Memory) (old new : GuardView D) : Type 0 where
  pub proceeds : Proceeds g old new
  pub keeps : OnOk result (Keeps g MayAdd old new)
  pub still : IsUpheld g old → OnErr result (Keeps g NoEntry old new)

-- what a step does, by the order that is open
abbrev pub WorksOn : Open → Seen → Plan → Seen → Plan → Went → Type 0
WorksOn (Written kind counts) s plan next after went = IsActed s plan next after went
WorksOn (Acted kind moved diverted failed) s plan next after went = (after ≡ plan) × SettlesOrder s plan failed next went
WorksOn No s plan next after went = DoesFirst plan.parts.items s plan next after went

-- one step of a plan: what is seen of the guard and the plan, before and after, and what the step has come to
abbrev pub Works : Seen → Plan → Seen → Plan → Went → Type 0
Works s plan next after went = WorksOn s.guard.open_order s plan next after went

-- the load that a part makes
abbrev pub LoadsEntry : List Part → Motion → Type 0
LoadsEntry (Load unit count ∷ rest) entry = entry ≡ Loaded unit count
LoadsEntry parts entry = ⊥

-- an entry that a step may add to the mechanism's list: that of the written order, or of the loading that comes next
abbrev pub MayWork : View → Plan → Motion → Type 0
MayWork v plan entry = MayMove v entry ⊎ ((v.open_order ≡ No) × LoadsEntry plan.parts.items entry)
