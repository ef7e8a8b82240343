-- What the guard's own clauses say, in the words of the machine's definitions.
use Rattle.std.proofs.Common.{◌≡◌, ◌≢◌, ◌≤◌, ◌⊎◌, ℕ, Bool, true, false, List, None, Some, Option, Result, Ok, Err, inl, inr, refl, ap, subst}
use Rattle.std.specs.Prelude.{is_ok, IfErr, OnErr, OnOk}
use Rattle.xfs_base.specs.Causes.{Rose}
use Rattle.xfs_base.specs.declared.counts.Counts.{Counts}
use Rattle.xfs_base.specs.declared.counts.Kind.{Kind}
use Rattle.xfs_base.specs.Counts.{LiesIn}
use Rattle.xfs_dispenser.specs.Seen.{Seen, MechCalled}
use Rattle.xfs_guard.proofs.RoomLaws.{fits_read}
use Rattle.xfs_guard.specs.Booting.{HadRoom, IsRereadBooted, IsNotReread, IsRereadFull, IsRereadFailed}
use Rattle.xfs_guard.specs.Reports.{HasReported}
use Rattle.xfs_mech.specs.declared.motion.Motion.TheVariants.{Taken}
use Rattle.xfs_guard.specs.Orders.{Settles, Unsettles, kind_unacted}
use Rattle.xfs_guard.specs.View.{GuardView, View, unread}
use Rattle.xfs_guard.specs.declared.deny.Deny.{Deny}
use Rattle.xfs_guard.specs.declared.fail.BootFault.{BootFault}
use Rattle.xfs_guard.specs.declared.fail.BootFault.TheVariants.{NotJournal, Disk, Full, Memory}
use Rattle.xfs_guard.specs.declared.open.Open.{Open}
use Rattle.xfs_guard.specs.declared.open.Open.TheVariants.{No, Written, Acted}
use Rattle.xfs_disk.specs.declared.disk.Disk.{Ghosts}
use Rattle.xfs_machine.specs.Endings.{ActsThenSettles, ClosesThrough, RefusesAs}
use Rattle.xfs_model.specs.Events.{fault, taken}
use Rattle.xfs_model.specs.Guards.{ActsAndSettles, Closes, IsUnbooted, Reboots, SettlesOn, is_shutter_closed, written, unwritten}
use Rattle.xfs_model.specs.State.{State}
use Rattle.xfs_model.specs.Touches.{TakesNotes, failed, took}

-- the journal was read again, and has its boot record, which alone is in memory
pub reboots : (held : Option (List ℕ)) (r : Result Unit BootFault) (old new : Seen) → OnOk r (IsRereadBooted true old.guard new.guard)
    → OnOk r (HadRoom held old.guard.limits old.guard.places new.guard.records) → old.disk_faults ≤ new.disk_faults → OnOk r (Reboots old new)
reboots held (Ok done) old new is fits later = record {
  records = is.0;
  possible = is.1;
  fits = fits_read held old.guard.limits old.guard.places is.0 new.guard.records (ap (λ (v : View). v.records) is.2) fits;
  becomes = record { guard_is = is.2; later = later };
}
reboots held (Err why) old new is fits later = tt

-- the reboot was refused, by the fault
pub refuses_as : (Untold : Type 0) (r : Result Unit BootFault) (old new : Seen) → (r ≡ Err Memory → new.guard ≡ old.guard) → (r ≡ Err Full → IsRereadFull true old.guard new.guard)
    → (r ≡ Err Disk → IsNotReread old.guard new.guard ⊎ IsRereadFailed true old.guard new.guard)
    → IfErr r (λ f. (at : ℕ) → f ≡ NotJournal at → Untold × (new.guard ≡ unread old.guard)) → IfErr r (λ f. (at : ℕ) → f ≡ NotJournal at → old.guard.disk_told ≡ false)
    → (r ≡ Err Disk → Rose old.disk_faults new.disk_faults) → old.disk_faults ≤ new.disk_faults → IfErr r (λ f. RefusesAs f old new)
refuses_as Untold (Ok done) old new memory full disk other untold cause later = tt
refuses_as Untold (Err (NotJournal at)) old new memory full disk other untold cause later = record { untold = untold at refl; becomes = record { guard_is = (other at refl).1; later = later } }
refuses_as Untold (Err Disk) old new memory full disk other untold cause later = record { now = new.guard; is = disk refl; fails = record { becomes = record { guard_is = refl; later = later }; cause = cause refl } }
refuses_as Untold (Err Full) old new memory full disk other untold cause later = record { now = new.guard; is = full refl; becomes = record { guard_is = refl; later = later } }
refuses_as Untold (Err Memory) old new memory full disk other untold cause later = record { guard_is = memory refl; later = later }

pub unbooted_as : (f : BootFault) (old new : Seen) → RefusesAs f old new → f ≢ Memory → IsUnbooted old new
unbooted_as (NotJournal at) old new is other = inr (inr is)
unbooted_as Disk old new is other = inr (inl is)
unbooted_as Full old new is other = inl is
unbooted_as Memory old new is other = absurd (other refl)

-- the acted order was settled, or the disk failed at its Done
pub settles : (r : Result Unit Deny) (old new : Seen) → OnOk r (Settles old.guard new.guard) → OnErr r (Unsettles old.guard new.guard) → OnErr r (Rose old.disk_faults new.disk_faults)
    → old.disk_faults ≤ new.disk_faults → SettlesOn old (is_ok r) new
settles (Ok done) old new is unsettled_ cause later = written new is later
settles (Err deny) old new is unsettled_ cause later = unwritten new unsettled_ later cause

pub closes_written : (o : Open) (k : Kind) (old new : Seen) (settled : Bool) → Some k ≡ kind_unacted o → ActsAndSettles old settled new → Closes o old settled new
closes_written No k old new settled e is = absurd (let f : Some k ≡ None = e in cc)
closes_written (Written kind counts) k old new settled e is = is
closes_written (Acted kind moved diverted fails) k old new settled e is = absurd (let f : Some k ≡ None = e in cc)

pub closes_acted : (o : Open) (old new : Seen) (settled : Bool) → None ≡ kind_unacted o → o ≢ No → SettlesOn old settled new → Closes o old settled new
closes_acted No old new settled e some is = absurd (some refl)
closes_acted (Written kind counts) old new settled e some is = absurd (let f : None ≡ Some kind = e in cc)
closes_acted (Acted kind moved diverted fails) old new settled e some is = is

pub closes_none : (o : Open) (old : Seen) → o ≡ No → Closes o old true old
closes_none No old e = (refl, refl)
closes_none (Written kind counts) old e = absurd (let f : Written kind counts ≡ No = e in cc)
closes_none (Acted kind moved diverted fails) old e = absurd (let f : Acted kind moved diverted fails ≡ No = e in cc)

-- the customer took notes, or the mechanism failed
pub notes_failed : (s : State) (next : Seen) (moved diverted : Counts) (fails : Bool) → is_shutter_closed s.seen ≡ false → fails ≡ true → LiesIn moved s.seen.guard.places.outlet
    → HasReported s.seen.guard next.guard (Taken moved) moved diverted fails → MechCalled s.seen fails next → TakesNotes s fault (record s { seen = next })
notes_failed s next moved diverted fails there is lie reported called =
    failed moved next there (record { diverted = diverted; lay = lie; reported = subst (λ f. HasReported s.seen.guard next.guard (Taken moved) moved diverted f) is reported; called = subst (λ f. MechCalled s.seen f next) is called })

pub notes_took : (s : State) (next : Seen) (moved diverted : Counts) (fails : Bool) → is_shutter_closed s.seen ≡ false → fails ≡ false → LiesIn moved s.seen.guard.places.outlet
    → HasReported s.seen.guard next.guard (Taken moved) moved diverted fails → MechCalled s.seen fails next → TakesNotes s (taken moved) (record s { seen = next })
notes_took s next moved diverted fails there is lie reported called =
    took moved next there (record { diverted = diverted; lay = lie; reported = subst (λ f. HasReported s.seen.guard next.guard (Taken moved) moved diverted f) is reported; called = subst (λ f. MechCalled s.seen f next) is called })

-- a written order that is acted, and then settled
pub closes_through : {D : Type 0} (g : Ghosts D) (o : Open) (k : Kind) (old new : GuardView D) → Some k ≡ kind_unacted o → ActsThenSettles g old new → ClosesThrough g o old new
closes_through g No k old new e is = absurd (let f : Some k ≡ None = e in cc)
closes_through g (Written kind counts) k old new e is = is
closes_through g (Acted kind moved diverted fails) k old new e is = absurd (let f : Some k ≡ None = e in cc)
