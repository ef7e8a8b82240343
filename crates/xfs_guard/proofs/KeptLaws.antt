-- What a guard is after a record was written, and after the disk failed.
use Rattle.std.specs.Prelude.{◌||◌}
use Rattle.std.proofs.Common.{◌≡◌, ⊎_elim, inl, inr, ℕ, Bool, true, false, List, [], ◌∷◌, None, Some, Err, length, refl, sym, ◌∙◌, true≢false}
use Rattle.std.specs.declared.option.Option.{Option}
use Rattle.xfs_base.specs.Causes.{IfTold}
use Rattle.xfs_base.specs.declared.money.NoteKind.{NoteKind}
use Rattle.xfs_base.specs.declared.counts.Places.{Places}
use Rattle.xfs_base.specs.declared.counts.Counts.{Counts}
use Rattle.xfs_base.specs.declared.counts.Kind.{Kind}
use Rattle.xfs_mech.specs.Mechanism.{AddsEntry, MayCarry}
use Rattle.xfs_mech.specs.Motions.{PlacesOf}
use Rattle.xfs_mech.specs.declared.motion.Motion.{Motion}
use Rattle.xfs_mech.specs.declared.motion.Motion.TheVariants.{Moved}
use Rattle.xfs_journal.specs.declared.record.Rec.{Rec}
use Rattle.xfs_journal.specs.Journal.{boot_places}
use Rattle.xfs_journal.specs.Journal.{Numbered}
use Rattle.xfs_guard.specs.declared.open.Open.{Open}
use Rattle.xfs_guard.specs.declared.open.Open.TheVariants.{No, Written, Acted}
pub use Rattle.xfs_guard.specs.View.{over}
use Rattle.xfs_guard.specs.View.{View}
use Rattle.xfs_guard.specs.Agrees.{Agrees}
use Rattle.xfs_guard.specs.Balance.{IsBalanced}
use Rattle.xfs_guard.specs.Within.{Within}
use Rattle.xfs_guard.specs.Recorded.{IsRecorded}
use Rattle.xfs_guard.specs.Kept.{HasRoom, HasLimits, IsKept}
use Rattle.xfs_guard.specs.Sound.{Ties, where_told, IsSound}
use Rattle.xfs_guard.specs.declared.deny.Deny.{Deny}
use Rattle.xfs_guard.specs.declared.deny.Deny.TheVariants.{Disk, Memory}
use Rattle.xfs_guard.specs.LedgerView.{LedgerView, Wrote, IsWriteFault}
use Rattle.xfs_guard.specs.Continues.{Continues}
use Rattle.xfs_guard.proofs.BalanceLaws.{balanced-moved}
use Rattle.xfs_guard.proofs.CrashedLaws.{left-doubt}
use Rattle.xfs_guard.proofs.ContinueLaws.{Continues-grown, doubted-possible}
use Rattle.xfs_guard.proofs.SoundLaws.{acted_view, IsSound-act}
use Rattle.xfs_guard.proofs.RecordLaws.{longer}
use Rattle.xfs_guard.proofs.SizeLaws.{takes-done}
use Rattle.xfs_guard.proofs.StandLaws.{Grows, stands-doubted}
use Rattle.xfs_guard.proofs.LifeLaws.{begins-same}

pub told-at : (b : Bool) (v : View) (m : Option (List Motion)) → b ≡ true → IfTold (where_told b m) (Ties v) → IfTold m (Ties v)
told-at true v m e t = t
told-at false v m e t = absurd (true≢false (sym e))

-- the journal's list agrees with one that is tied to it
pub recorded-ties : (v : View) (m : Option (List Motion)) → Numbered v.records → IfTold m (Ties v) → IsRecorded v.key v.units m v.records
recorded-ties v m numbered told = record { numbered = numbered; agrees = agrees m told; within = within m told }
  where
    agrees : (m : Option (List Motion)) → IfTold m (Ties v) → IfTold m (Agrees v.records)
    agrees None t = tt
    agrees (Some motions) t = t.agrees

    within : (m : Option (List Motion)) → IfTold m (Ties v) → IfTold m (Within v.key v.units v.records)
    within None t = tt
    within (Some motions) t = t.within

-- and so with the mechanism's
pub recorded-sound : (v : View) → IsSound v → v.disk_told ≡ true → IsRecorded v.key v.units v.motions v.records
recorded-sound v s is = recorded-ties v v.motions (s.numbered is) (told-at v.disk_told v v.motions is s.told)

-- whether the journal is shut, and which record is in doubt, changes nothing of what is sound
pub IsSound-stored : (v : View) (s : Bool) (d : Option Rec) → IsSound v → IsSound (record v { shut = s; in_doubt = d })
IsSound-stored v s d h = record {
  numbered = h.numbered;
  stands = h.stands;
  budget = record {
    funded = λ p b lives bound.
        let f = h.budget.funded p b lives bound in record { token = f.token; carries = f.carries; amounts = f.amounts; amounts_are = f.amounts_are; kept = f.kept; enough = f.enough };
    unbound = h.budget.unbound;
    dead = h.budget.dead;
  };
  told = go (where_told v.disk_told v.motions) h.told;
}
  where
    go : (m : Option (List Motion)) → IfTold m (Ties v) → IfTold m (Ties (record v { shut = s; in_doubt = d }))
    go None t = tt
    go (Some motions) t = record { agrees = t.agrees; within = t.within; counted = t.counted; acted = t.acted }

-- a guard whose journal is open
pub IsKept-open : (v : View) (spare left : ℕ) (kinds : List NoteKind) → IsSound v → IsBalanced v.records v.booted v.loaded v.places → v.boot_missing ≡ false → HasRoom v.open_order spare left → HasLimits v.open_order v → kinds ≡ v.units
    → IsKept (record v { shut = false; in_doubt = None }) spare left kinds
IsKept-open v spare left kinds s balanced booted room limits units = record {
  sound = λ e m. IsSound-stored v false None s;
  clean = λ e. refl;
  balanced = balanced;
  closed = λ e. absurd (true≢false (sym e));
  missing = λ e. absurd (true≢false (sym e ∙ booted));
  recorded = λ told records p. ⊎_elim (λ same. rw same (recorded-sound v s told)) (λ doubt. absurd (none doubt.0 doubt.1)) p;
  room = room;
  limits = has v.open_order limits;
  units = units;
}
  where
    none : (r : Rec) → None ≡ Some r → ⊥
    none r e = cc

    has : (o : Open) → HasLimits o v → HasLimits o (record v { shut = false; in_doubt = None })
    has No h = tt
    has (Written k c) h = h
    has (Acted k m d failed) h = h

-- a guard whose disk failed at a record
pub IsKept-doubted : (v : View) (r : Rec) (w : Option (List (List ℕ × ℕ))) (o : Open) (spare left : ℕ) (kinds : List NoteKind) → IsSound v → IsBalanced v.records v.booted v.loaded v.places → IsSound (longer v r w o) → kinds ≡ v.units
    → IsKept (record v { shut = true; in_doubt = Some r; open_order = No }) spare left kinds
IsKept-doubted v r w o spare left kinds s balanced t units = record {
  sound = λ e m. absurd (true≢false e);
  clean = λ e. absurd (true≢false e);
  balanced = balanced;
  closed = λ e. refl;
  missing = λ e. refl;
  recorded = λ told records p. ⊎_elim (λ same. rw same (recorded-sound v s told)) (λ doubt. rw (doubt.2, ← (some doubt.0 doubt.1)) (recorded-sound (longer v r w o) t told)) p;
  room = tt;
  limits = tt;
  units = units;
}
  where
    some : (x : Rec) → Some r ≡ Some x → r ≡ x
    some x e = cc

-- a call that writes and has no order open, where memory ran out or the disk failed
pub IsKept-refused : (T : Type 0) {D : Type 0} (e : Deny) (key seed : List ℕ) (o : Open) (motions : Option (List Motion)) (places : Places) (faults : ℕ) (old new : LedgerView D) (r : Rec)
    (w : Option (List (List ℕ × ℕ))) (was told : Bool) (spare room left : ℕ) (kinds : List NoteKind)
    → Wrote {T = T} (Err e) old new r w → IsWriteFault e → told ≡ was → o ≡ No → IsKept (over key seed o motions places faults old was) spare room kinds → old.shut ≡ false → old.boot_missing ≡ false
    → IsSound (longer (over key seed o motions places faults old was) r w No) → IsKept (over key seed o motions places faults new told) spare left kinds
IsKept-refused T e key seed o motions places faults old new r w was told spare room left kinds wrote why same none kept open_still booted sound = ⊎_elim memory disk why
  where
    memory : e ≡ Memory → IsKept (over key seed o motions places faults new told) spare left kinds
    memory is = let s = rw is at wrote in
        rw (s.records, s.base, s.units, s.bound, s.booted, s.loaded, s.limits, s.shut, s.boot_missing, s.in_doubt, same) (record {
          sound = kept.sound;
          clean = kept.clean;
          balanced = kept.balanced;
          closed = kept.closed;
          missing = kept.missing;
          recorded = kept.recorded;
          room = rw none tt;
          limits = kept.limits;
          units = kept.units;
        })

    disk : e ≡ Disk → IsKept (over key seed o motions places faults new told) spare left kinds
    disk is = let s = rw is at wrote in
        rw (s.records, s.base, s.units, s.bound, s.booted, s.loaded, s.limits, s.shut, s.boot_missing, s.in_doubt, same, none)
        (IsKept-doubted (over key seed o motions places faults old was) r w No spare left kinds (kept.sound open_still booted) kept.balanced sound kept.units)

-- what follows then
pub Continues-refused : (T : Type 0) {D : Type 0} (e : Deny) (key seed : List ℕ) (o : Open) (motions : Option (List Motion)) (places : Places) (faults : ℕ) (old new : LedgerView D) (r : Rec)
    (w : Option (List (List ℕ × ℕ))) (was told : Bool)
    → Wrote {T = T} (Err e) old new r w → IsWriteFault e → told ≡ was → old.in_doubt ≡ None → old.shut ≡ false → old.boot_missing ≡ false → ((p : Places) → boot_places r ≡ Some p → places ≡ p) → (o' : Open) → Grows (over key seed o motions places faults old was) r w o' → Continues (over key seed o motions places faults old was) (over key seed o motions places faults new told)
Continues-refused T e key seed o motions places faults old new r w was told wrote why same none open_still booted boots o' grows = ⊎_elim memory disk why
  where
    memory : e ≡ Memory → Continues (over key seed o motions places faults old was) (over key seed o motions places faults new told)
    memory is = let s = rw is at wrote in Continues-grown (over key seed o motions places faults old was) (over key seed o motions places faults new told) r boots refl refl refl refl s.units same s.limits
        (λ records possible. inl (rw (s.records, s.in_doubt) at possible)) (rw s.records (begins-same old.records)) (λ records was. rw (s.records, s.in_doubt, s.shut, s.boot_missing) was)
        (λ compared from stood. rw (s.records, s.base, s.units, s.bound, s.booted, s.loaded, s.limits, s.shut, s.boot_missing, s.in_doubt, same) stood)

    disk : e ≡ Disk → Continues (over key seed o motions places faults old was) (over key seed o motions places faults new told)
    disk is = let s = rw is at wrote in Continues-grown (over key seed o motions places faults old was) (over key seed o motions places faults new told) r boots refl refl refl refl s.units same s.limits
        (λ records possible. elim (doubted-possible old.records records r (rw (s.records, s.in_doubt) at possible)) [
          | inl kept ↦ inl (inl kept)
          | inr more ↦ inr (old.records, inl refl, more)
        ]) (rw s.records (begins-same old.records)) (λ records was. rw (s.records, s.in_doubt, s.shut) (left-doubt old.records r old.in_doubt (old.shut || old.boot_missing) records none (rw (open_still, booted) refl) was))
        (λ compared from stood. rw (s.records, s.base, s.units, s.bound, s.booted, s.loaded, s.limits, s.shut, s.boot_missing, s.in_doubt, same)
        (stands-doubted (over key seed o motions places faults old was) r w o' grows compared from open_still booted stood o))

-- an order is open only in a journal that is
pub still-open : (shut : Bool) (o : Open) (k : Kind) (c : Counts) → (shut ≡ true → o ≡ No) → o ≡ Written k c → shut ≡ false
still-open false o k c closed is = refl
still-open true o k c closed is = let none : Written k c ≡ No = sym is ∙ closed refl in cc

-- the written order was carried out, and its outcome counts the notes of eight units
pub IsKept-acted : (v : View) (k : Kind) (c m d : Counts) (failed : Bool) (now : Option (List Motion)) (Q : Places) (f spare was left : ℕ) (kinds before : List NoteKind)
    → IsKept v was left before → v.open_order ≡ Written k c → length m.0 ≡ 8 → length d.0 ≡ 8 → MayCarry k c m d failed → AddsEntry v.motions (Moved (length v.records) k m d) now
    → PlacesOf v.places (Moved (length v.records) k m d ∷ []) Q → kinds ≡ v.units → IsKept (acted_view v k m d failed now Q f) spare left kinds
IsKept-acted v k c m d failed now Q f spare was left kinds before kept written moved diverted may grows places units = record {
  sound = λ e m. sound;
  clean = kept.clean;
  balanced = balanced-moved v.records v.booted v.loaded v.places Q (length v.records) k m d places kept.balanced;
  closed = λ e. absurd (true≢false (sym e ∙ still));
  missing = λ e. absurd (true≢false (sym e ∙ booted));
  recorded = λ told records p. ⊎_elim (λ same. rw same (recorded-sound (acted_view v k m d failed now Q f) sound told)) (λ doubt. absurd (none doubt.0 (sym (kept.clean still) ∙ doubt.1))) p;
  room = (rw written at kept.room).1;
  limits = takes-done v.limits v.base v.records m d moved diverted (rw written at kept.limits);
  units = units;
}
  where
    still : v.shut ≡ false
    still = still-open v.shut v.open_order k c kept.closed written

    booted : v.boot_missing ≡ false
    booted = still-open v.boot_missing v.open_order k c kept.missing written

    sound : IsSound (acted_view v k m d failed now Q f)
    sound = IsSound-act v k c m d failed now Q f (kept.sound still booted) written may grows places

    none : (r : Rec) → None ≡ Some r → ⊥
    none r e = cc

-- an acted order is open only in a journal that is
pub still-acted : (shut : Bool) (o : Open) (k : Kind) (m d : Counts) (failed : Bool) → (shut ≡ true → o ≡ No) → o ≡ Acted k m d failed → shut ≡ false
still-acted false o k m d failed closed is = refl
still-acted true o k m d failed closed is = let none : Acted k m d failed ≡ No = sym is ∙ closed refl in cc
