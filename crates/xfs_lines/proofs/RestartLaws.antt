-- A restart, answered or refused, in the words of the commands that have such a line.
use Rattle.std.proofs.Common.{◌≡◌, ◌≤◌, ◌⊎◌, ℕ, true, false, List, Option, Result, Ok, Err, inl, inr, refl, ap, sym, subst, ◌∙◌}
use Rattle.std.specs.Prelude.{IfErr, IsErrAnd, codes}
use Rattle.xfs_base.specs.Causes.{Rose}
use Rattle.xfs_dispenser.specs.Seen as Of
use Rattle.xfs_guard.proofs.RoomLaws.{fits_read}
use Rattle.xfs_guard.specs.Booting.{HadRoom, IsNotReread, IsRereadBooted, IsRereadFailed, IsRereadFull}
use Rattle.xfs_guard.specs.View.{View, reread, unbooted, unread}
use Rattle.xfs_guard.specs.declared.fail.BootFault.{BootFault}
use Rattle.xfs_guard.specs.declared.fail.BootFault.TheVariants.{NotJournal, Disk, Full, Memory}
use Rattle.xfs_journal.specs.Journal.{base_of}
use Rattle.xfs_lines.proofs.GuardStateLaws.{err-fault}
use Rattle.xfs_lines.specs.Guard.Restarts.{IsFull, RestartFails, Restarts}
use Rattle.xfs_lines.specs.Guard.States.{IsStill, GuardState}
use Rattle.xfs_lines.specs.declared.commands.guard.player.NoAnswer.{NoAnswer}
use Rattle.xfs_lines.specs.declared.commands.guard.player.NoAnswer.TheVariants.{Unbooted}

-- what the script sees of the guard
abbrev pub at : Of.Seen → Option (List ℕ) → GuardState
at s last = record { guard = s.guard; disk_faults = s.disk_faults; last = last }

still : (old new : Of.Seen) (v : View) (last : Option (List ℕ)) → Of.Becomes old v new → v.motions ≡ old.guard.motions → v.places ≡ old.guard.places → v.faults ≡ old.guard.faults
    → IsStill new.guard.motions new.guard.places new.guard.faults new.disk_faults (at old last)
still old new v last becomes motions places faults = record {
  motions_are = sym (ap (λ (w : View). w.motions) becomes.guard_is ∙ motions);
  places_are = sym (ap (λ (w : View). w.places) becomes.guard_is ∙ places);
  mech_is = sym (ap (λ (w : View). w.faults) becomes.guard_is ∙ faults);
  later = becomes.later;
}

-- the disk tells nothing, and is no journal
pub refused_untold : (old new : Of.Seen) (last : Option (List ℕ)) (n : ℕ) → old.guard.disk_told ≡ false → Of.Becomes old (unread old.guard) new → RestartFails (at old last) (NotJournal n) (at new last)
refused_untold old new last n untold becomes = record { still = still old new (unread old.guard) last becomes refl refl refl; cause = untold }

-- the disk fails, before the list was read or at the boot record
pub refused_disk : (old new : Of.Seen) (last : Option (List ℕ)) (now : View) → IsNotReread old.guard now ⊎ IsRereadFailed true old.guard now → Of.Fails old now new → RestartFails (at old last) Disk (at new last)
refused_disk old new last now is fails = record { still = of is; cause = fails.cause }
  where
    kept : (v : View) → now ≡ v → v.motions ≡ old.guard.motions → v.places ≡ old.guard.places → v.faults ≡ old.guard.faults → IsStill new.guard.motions new.guard.places new.guard.faults new.disk_faults (at old last)
    kept v same motions places faults = still old new v last (subst (λ (w : View). Of.Becomes old w new) same fails.becomes) motions places faults

    of : IsNotReread old.guard now ⊎ IsRereadFailed true old.guard now → IsStill new.guard.motions new.guard.places new.guard.faults new.disk_faults (at old last)
    of (inl u) = kept (unread old.guard) u refl refl refl
    of (inr w) = kept (record (unbooted old.guard w.0) { base = base_of w.0 }) w.2 refl refl refl

-- the boot record passes a limit
pub refused_full : (old new : Of.Seen) (last : Option (List ℕ)) (now : View) → IsRereadFull true old.guard now → Of.Becomes old now new → RestartFails (at old last) Full (at new last)
refused_full old new last now f becomes =
    let v : View = record (reread old.guard f.0) { base = base_of f.0 } in
    let became : Of.Becomes old v new = subst (λ (w : View). Of.Becomes old w new) f.3 becomes in
    let none : IsFull new.guard = rw (became.guard_is) (record { clear = refl; exceeds_limit = f.2 }) in
    record { still = still old new v last became refl refl refl; cause = (record { records = f.0; possible = f.1; exceeds_limit = f.2 }, none) }

-- memory runs out, and the guard is as it was
pub refused_memory : (old new : Of.Seen) (last : Option (List ℕ)) → Of.Becomes old old.guard new → RestartFails (at old last) Memory (at new last)
refused_memory old new last is = record {
  still = still old new old.guard last is refl refl refl;
  cause = record { guard_is = is.guard_is; later = is.later; last_is = refl };
}

-- the guard's reboot was refused, by the fault
pub guard-refused : (Untold : Type 0) (r : Result Unit BootFault) (old new : Of.Seen) (last : Option (List ℕ)) → (r ≡ Err Memory → new.guard ≡ old.guard) → (r ≡ Err Full → IsRereadFull true old.guard new.guard)
    → (r ≡ Err Disk → IsNotReread old.guard new.guard ⊎ IsRereadFailed true old.guard new.guard)
    → IfErr r (λ f. (n : ℕ) → f ≡ NotJournal n → Untold × (new.guard ≡ unread old.guard)) → IfErr r (λ f. (n : ℕ) → f ≡ NotJournal n → old.guard.disk_told ≡ false)
    → (r ≡ Err Disk → Rose old.disk_faults new.disk_faults) → old.disk_faults ≤ new.disk_faults → IfErr r (λ f. RestartFails (at old last) f (at new last))
guard-refused Untold (Ok done) old new last memory full disk other untold cause later = tt
guard-refused Untold (Err (NotJournal n)) old new last memory full disk other untold cause later = refused_untold old new last n (untold n refl) (record { guard_is = (other n refl).1; later = later })
guard-refused Untold (Err Disk) old new last memory full disk other untold cause later =
    refused_disk old new last new.guard (disk refl) (record { becomes = record { guard_is = refl; later = later }; cause = cause refl })
guard-refused Untold (Err Full) old new last memory full disk other untold cause later = refused_full old new last new.guard (full refl) (record { guard_is = refl; later = later })
guard-refused Untold (Err Memory) old new last memory full disk other untold cause later = refused_memory old new last (record { guard_is = memory refl; later = later })

fault_of : {a b : BootFault} → ◌≡◌ {A = NoAnswer} (Unbooted a) (Unbooted b) → a ≡ b
fault_of e = cc

-- the answer tells why
pub restart-refused : {T : Type 0} (result : Result T NoAnswer) (why : BootFault) (old new : GuardState) → IsErrAnd result (λ e. e ≡ Unbooted why) → RestartFails old why new
    → (fault : BootFault) → result ≡ Err (Unbooted fault) → RestartFails old fault new
restart-refused (Ok x) why old new err is fault same = absurd err
restart-refused (Err e) why old new err is fault same = subst (λ f. RestartFails old f new) (fault_of (sym err ∙ err-fault same)) is

-- a restart that is answered: the journal was read again, and has its boot record, which alone is in memory
pub restart-answered : (held : Option (List ℕ)) (old new : Of.Seen) (last : Option (List ℕ)) (line : List ℕ) → IsRereadBooted true old.guard new.guard
    → HadRoom held old.guard.limits old.guard.places new.guard.records → old.disk_faults ≤ new.disk_faults → line ≡ codes "restarted" → Restarts (at old last) line (at new last)
restart-answered held old new last line is fits later told = record {
  records = is.0;
  possible = is.1;
  fits = fits_read held old.guard.limits old.guard.places is.0 new.guard.records (ap (λ (v : View). v.records) is.2) fits;
  text = told;
  becomes = record { guard_is = is.2; later = later; last_is = refl };
}
