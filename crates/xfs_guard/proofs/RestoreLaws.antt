-- What a guard is after a restore or a reboot, and what follows then.
use Rattle.std.proofs.Common.{◌≡◌, ◌≢◌, ◌⊎◌, inl, inr, ⊎_elim, ℕ, ◌+◌, ◌≤◌, Bool, true, false, true≢false, List, [], ◌∷◌, ◌++◌, length, length-append, drop, None, Some, Ok, Err, refl, sym, ◌∙◌, arith}
use Rattle.std.specs.Prelude.{OnOk, IfErr, ◌||◌, is_some}
use Rattle.std.specs.declared.option.Option.{Option}
use Rattle.std.specs.declared.result.Result.{Result}
use Rattle.std.proofs.lemmas.List.{drop-append-le}
use Rattle.xfs_base.specs.Causes.{IfTold}
use Rattle.xfs_base.specs.declared.money.NoteKind.{NoteKind}
use Rattle.xfs_base.specs.declared.counts.Places.{Places}
use Rattle.xfs_mech.specs.declared.motion.Motion.{Motion}
use Rattle.xfs_journal.specs.JournalView.{IsPossible, exceeds}
use Rattle.xfs_journal.specs.declared.record.Rec.{Rec}
use Rattle.xfs_journal.specs.declared.record.Rec.TheVariants.{Clear}
use Rattle.xfs_journal.specs.Journal.{boot_of, boot_places, live_of, with_boot}
use Rattle.xfs_journal.proofs.JournalLaws.{live_of-push}
use Rattle.xfs_journal.proofs.StartLaws.{boot-ends, boot_of-numbered, boot_of-only, boot_of-places}
use Rattle.xfs_guard.specs.declared.fail.BootFault.{BootFault}
use Rattle.xfs_guard.specs.declared.fail.BootFault.TheVariants.{NotJournal, Disk, Full, Memory}
use Rattle.xfs_guard.specs.declared.open.Open.{Open}
use Rattle.xfs_guard.specs.declared.open.Open.TheVariants.{No}
use Rattle.xfs_guard.specs.Balance.{no_notes}
use Rattle.xfs_guard.specs.Booting.{IsRereadBooted, base_then}
use Rattle.xfs_guard.specs.View.{View, unread, reread}
use Rattle.xfs_guard.specs.Kept.{IsKept}
use Rattle.xfs_guard.specs.LedgerView.{LedgerView}
use Rattle.xfs_guard.specs.Continues.{Continues}
use Rattle.xfs_guard.proofs.BalanceLaws.{balanced-possible}
use Rattle.xfs_guard.proofs.BootLaws.{base_of-boot, IsKept-boot, IsRecorded-boot}
use Rattle.xfs_guard.proofs.ContinueLaws.{Continues-grown, only-possible, doubted-possible}
use Rattle.xfs_guard.proofs.CrashedLaws.{begins-push, left-close, left-mount, left-boot, left-boot_doubt}
use Rattle.xfs_guard.proofs.KeptLaws.{over}
use Rattle.xfs_guard.specs.Reach.{reached, AgreesBehind, IsBootAt, IsRecordedBehind, StandsBehind, view_behind, WithinBehind}
use Rattle.xfs_guard.specs.Sound.{Ties, where_told}
use Rattle.xfs_guard.proofs.AgreesLaws.{Agrees-record, boot-follows, boot-no_done, numbers_within}
use Rattle.xfs_guard.proofs.ReachLaws.{booted-push, from-within, numbered-push, split}
use Rattle.xfs_guard.proofs.WithinLaws.{Within-record}
use Rattle.xfs_guard.proofs.LifeLaws.{begins-same, possible-begins}

-- no more than the records in front of the boot record are let go of
pub base_then-within : (b : Bool) (base : ℕ) (records : List Rec) (p : Places) → base ≤ length records → base_then b base (with_boot records p) ≤ length records
base_then-within true base records p within = let e = base_of-boot records p in omega (arith, e)
base_then-within false base records p within = within

-- as before, but for the disk
abbrev pub untouched : {D : Type 0} → LedgerView D → LedgerView D → LedgerView D
untouched old new = record old { disk = new.disk }

-- shut
abbrev pub shut_now : {D : Type 0} → LedgerView D → LedgerView D → LedgerView D
shut_now old new = record old { shut = true; disk = new.disk }

-- this list was read, and has its boot record
abbrev pub booted_now : {D : Type 0} → Bool → LedgerView D → LedgerView D → Places → List Rec → LedgerView D
booted_now b old new p records = record old { records = with_boot records p; base = base_then b old.base (with_boot records p); bound = None; booted = p; loaded = no_notes; shut = false; boot_missing = false; in_doubt = None; room = new.room; disk = new.disk }

-- this list was read, and its boot record is missing
abbrev pub missing_now : {D : Type 0} → Bool → LedgerView D → LedgerView D → List Rec → LedgerView D
missing_now b old new records = record old { records = records; base = base_then b old.base records; bound = None; shut = false; boot_missing = true; in_doubt = None; room = new.room; disk = new.disk }

-- this list was read, and its boot record is in doubt
abbrev pub doubted_now : {D : Type 0} → Bool → LedgerView D → LedgerView D → Places → List Rec → LedgerView D
doubted_now b old new p records = record old { records = records; base = base_then b old.base records; bound = None; shut = true; in_doubt = Some (boot_of records p); room = new.room; disk = new.disk }

-- what a restore leaves that read this list
abbrev pub IsReread : {D : Type 0} → Bool → LedgerView D → LedgerView D → Places → List Rec → Type 0
IsReread b old new p records = (new ≡ booted_now b old new p records) ⊎ ((new ≡ missing_now b old new records) ⊎ (new ≡ doubted_now b old new p records))

-- what a restore may leave that doesn't want memory
abbrev pub MayRestore : {D : Type 0} → Bool → LedgerView D → LedgerView D → Places → Type 0
MayRestore b old new p = (new ≡ shut_now old new) ⊎ ((records : List Rec) × IsPossible old.records old.in_doubt records × IsReread b old new p records)

pub restored : {T D : Type 0} (res : Result T BootFault) (b : Bool) (old new : LedgerView D) (p : Places) (told : Type 0) → res ≢ Err Memory
    → OnOk res ((records : List Rec) × IsPossible old.records old.in_doubt records × (new ≡ booted_now b old new p records))
    → (res ≡ Err Full → (records : List Rec) × IsPossible old.records old.in_doubt records × (exceeds old.limits (base_then b old.base records) (with_boot records p) ≡ true) × (new ≡ missing_now b old new records))
    → (res ≡ Err Disk → (new ≡ shut_now old new) ⊎ ((records : List Rec) × IsPossible old.records old.in_doubt records × (new ≡ doubted_now b old new p records)))
    → IfErr res (λ f. (at : ℕ) → f ≡ NotJournal at → told × (new ≡ shut_now old new))
    → MayRestore b old new p
restored (Ok x) b old new p told other ok full disk silent = inr (ok.0, ok.1, inl ok.2)
restored (Err Memory) b old new p told other ok full disk silent = absurd (other refl)
restored (Err Full) b old new p told other ok full disk silent = let f = full refl in inr (f.0, f.1, inr (inl f.3))
restored (Err Disk) b old new p told other ok full disk silent = elim (disk refl) [
  | inl shut ↦ inl shut
  | inr read ↦ inr (read.0, read.1, inr (inr read.2))
]
restored (Err (NotJournal at)) b old new p told other ok full disk silent = inl (silent at refl).1

-- a restore that wants memory leaves what a guard is
pub IsKept-untouched : {D : Type 0} (key seed : List ℕ) (o : Open) (motions : Option (List Motion)) (places : Places) (faults : ℕ) (old new : LedgerView D) (was told : Bool) (spare : ℕ) (kinds : List NoteKind)
    → new ≡ untouched old new → told ≡ was → IsKept (over key seed o motions places faults old was) spare old.room kinds → IsKept (over key seed o motions places faults new told) spare new.room kinds
IsKept-untouched key seed o motions places faults old new was told spare kinds is same kept = rw (is, same) kept

-- the journal is shut, and the order that was open is never carried out
pub IsKept-unread : (v : View) (spare was left : ℕ) (kinds : List NoteKind) → IsKept v spare was kinds → IsKept (unread v) spare left kinds
IsKept-unread v spare was left kinds kept = record {
  sound = λ e m. absurd (true≢false e);
  clean = λ e. absurd (true≢false e);
  balanced = kept.balanced;
  closed = λ e. refl;
  missing = λ e. refl;
  recorded = kept.recorded;
  room = tt;
  limits = tt;
  units = kept.units;
}

-- the journal was read again, and its boot record is missing
pub IsKept-reread : (v : View) (records : List Rec) (base spare was left : ℕ) (kinds : List NoteKind) → IsPossible v.records v.in_doubt records → IsKept v spare was kinds
    → IsKept (record (reread v records) { base = base }) spare left kinds
IsKept-reread v records base spare was left kinds possible kept = record {
  sound = λ e m. absurd (true≢false m);
  clean = λ e. refl;
  balanced = balanced-possible v.records v.in_doubt records v.booted v.loaded v.places possible kept.balanced;
  closed = λ e. refl;
  missing = λ e. refl;
  recorded = λ told list only. rw (only-possible records list None refl only) (kept.recorded told records possible);
  room = tt;
  limits = tt;
  units = kept.units;
}

-- the journal was read again, and its boot record is in doubt
pub IsKept-unbooted : (v : View) (records : List Rec) (p : Places) (base spare was left : ℕ) (kinds : List NoteKind) → IsPossible v.records v.in_doubt records → IsKept v spare was kinds
    → IsKept (record (reread v records) { base = base; shut = true; boot_missing = v.boot_missing; in_doubt = Some (boot_of records p) }) spare left kinds
IsKept-unbooted v records p base spare was left kinds possible kept = record {
  sound = λ e m. absurd (true≢false e);
  clean = λ e. absurd (true≢false e);
  balanced = balanced-possible v.records v.in_doubt records v.booted v.loaded v.places possible kept.balanced;
  closed = λ e. refl;
  missing = λ e. refl;
  recorded = λ told list either. ⊎_elim (λ same. rw same (kept.recorded told records possible)) (λ more. rw more (IsRecorded-boot v.key v.units records p v.motions (kept.recorded told records possible))) (doubted-possible records list (boot_of records p) either);
  room = tt;
  limits = tt;
  units = kept.units;
}

-- what a guard is after a restore that doesn't want memory
pub IsKept-restored : {D : Type 0} (key seed : List ℕ) (o : Open) (motions : Option (List Motion)) (places : Places) (faults : ℕ) (b : Bool) (old new : LedgerView D) (p : Places) (was told : Bool) (spare room left : ℕ) (kinds : List NoteKind)
    → MayRestore b old new p → p ≡ places → told ≡ was → IsKept (over key seed o motions places faults old was) spare room kinds → IsKept (over key seed No motions places faults new told) spare left kinds
IsKept-restored key seed o motions places faults b old new p was told spare room left kinds (inl is) there same kept =
    rw (is, same) (IsKept-unread (over key seed o motions places faults old was) spare room left kinds kept)
IsKept-restored key seed o motions places faults b old new p was told spare room left kinds (inr (records, possible, inl is)) there same kept =
    rw (is, same) (IsKept-boot (record (over key seed o motions places faults old was) { base = base_then b old.base (with_boot records p) }) records p spare left kinds there (λ t. kept.recorded t records possible) kept.units)
IsKept-restored key seed o motions places faults b old new p was told spare room left kinds (inr (records, possible, inr (inl is))) there same kept =
    rw (is, same) (IsKept-reread (over key seed o motions places faults old was) records (base_then b old.base records) spare room left kinds possible kept)
IsKept-restored key seed o motions places faults b old new p was told spare room left kinds (inr (records, possible, inr (inr is))) there same kept =
    rw (is, same) (IsKept-unbooted (over key seed o motions places faults old was) records p (base_then b old.base records) spare room left kinds possible kept)

-- the boot record keeps its number in each possible list
booted-possible : (records : List Rec) (d : Option Rec) (list : List Rec) (n : ℕ) → IsPossible records d list → IsBootAt records n → IsBootAt list n
booted-possible records d list n (inl is) b = rw is b
booted-possible records d list n (inr (r, doubt, is)) b = rw is (booted-push records r n b)

-- what is recorded behind a number is so with one more boot record
recorded-booted : (from : ℕ) (key : List ℕ) (u : List NoteKind) (records : List Rec) (p : Places) (m : Option (List Motion)) → IsBootAt records (from + 1) → IsRecordedBehind from key u records m → IsRecordedBehind from key u (with_boot records p) m
recorded-booted from key u records p m b h = record {
  numbered = numbered-push from records (boot_of records p) within (boot_of-numbered records p) h.numbered;
  agrees = agrees m h.agrees;
  within = held m h.agrees h.within;
}
  where
    within : from ≤ length records
    within = from-within records from (split records from b)

    tells : boot_places (boot_of records p) ≡ Some p
    tells = boot_of-places records p

    agrees : (m : Option (List Motion)) → IfTold m (AgreesBehind from records) → IfTold m (AgreesBehind from (with_boot records p))
    agrees None a = tt
    agrees (Some motions) a = rw (drop-append-le from records (boot_of records p ∷ []) within)
        (Agrees-record (drop from records) (boot_of records p) (reached from motions) a (boot-follows _ (boot_of records p) p tells) (λ k c m d o e. absurd (boot-no_done (boot_of records p) p m d tells e)))

    held : (m : Option (List Motion)) → IfTold m (AgreesBehind from records) → IfTold m (WithinBehind from key u records) → IfTold m (WithinBehind from key u (with_boot records p))
    held None a w = tt
    held (Some motions) a w = rw (drop-append-le from records (boot_of records p ∷ []) within)
        (Within-record key u (drop from records) (boot_of records p) (reached from motions) (numbers_within (drop from records) (reached from motions) a) w)

-- no nonce lives behind a boot record, and no order is open: what is recorded there is tied
tied-booted : (v : View) (from : ℕ) (records : List Rec) (p : Places) (m : Option (List Motion)) → v.records ≡ with_boot records p → v.open_order ≡ No → IsRecordedBehind from v.key v.units (with_boot records p) m → from ≤ length records
    → IfTold m (λ motions. Ties (view_behind from v) (reached from motions))
tied-booted v from records p None is none h within = tt
tied-booted v from records p (Some motions) is none h within = record {
  agrees = rw is h.agrees;
  within = rw is h.within;
  counted = λ q c lives. absurd (gone q (rw (is, drop-append-le from records (boot_of records p ∷ []) within) at lives));
  acted = rw none tt;
}
  where
    gone : (q : ℕ) → live_of (drop from records ++ boot_of records p ∷ []) ≡ Some q → ⊥
    gone q lives =
        let ends = boot-ends (boot_of records p) p (boot_of-places records p) (length (drop from records)) (live_of (drop from records)) in
        let e : None ≡ Some q = sym (live_of-push (drop from records) (boot_of records p) ∙ ends) ∙ lives in cc

-- the journal is shut, and the order that was open is never carried out
stands-unread : (v : View) (compared : Bool) (from : ℕ) → StandsBehind compared from v → StandsBehind compared from (unread v)
stands-unread v compared from s = record { booted = s.booted; recorded = s.recorded; tied = λ e m. absurd (true≢false e) }

-- the journal was read again, and its boot record is missing
stands-reread : (v : View) (records : List Rec) (base : ℕ) (o : Open) → IsPossible v.records v.in_doubt records → (compared : Bool) (from : ℕ) → StandsBehind compared from v
    → StandsBehind compared from (record (reread v records) { base = base; open_order = o })
stands-reread v records base o possible compared from s = record {
  booted = booted-possible v.records v.in_doubt records (from + 1) possible s.booted;
  recorded = λ list only. rw (only-possible records list None refl only) (s.recorded records possible);
  tied = λ e m. absurd (true≢false m);
}

-- and its boot record is in doubt
stands-unbooted : (v : View) (records : List Rec) (p : Places) (base : ℕ) (o : Open) → IsPossible v.records v.in_doubt records → (compared : Bool) (from : ℕ) → StandsBehind compared from v
    → StandsBehind compared from (record (reread v records) { base = base; open_order = o; shut = true; boot_missing = v.boot_missing; in_doubt = Some (boot_of records p) })
stands-unbooted v records p base o possible compared from s =
    let booted = booted-possible v.records v.in_doubt records (from + 1) possible s.booted in record {
      booted = booted;
      recorded = λ list either. ⊎_elim (λ same. rw same (s.recorded records possible))
          (λ more. rw more (recorded-booted from v.key v.units records p (where_told compared v.motions) booted (s.recorded records possible))) (doubted-possible records list (boot_of records p) either);
      tied = λ e m. absurd (true≢false e);
    }

-- and has its boot record
stands-booted : (v : View) (records : List Rec) (p : Places) (base : ℕ) (o : Open) → o ≡ No → IsPossible v.records v.in_doubt records → (compared : Bool) (from : ℕ) → StandsBehind compared from v
    → StandsBehind compared from (record v { records = with_boot records p; base = base; bound = None; open_order = o; booted = p; loaded = no_notes; shut = false; boot_missing = false; in_doubt = None })
stands-booted v records p base o none possible compared from s =
    let booted = booted-possible v.records v.in_doubt records (from + 1) possible s.booted in
    let all = recorded-booted from v.key v.units records p (where_told compared v.motions) booted (s.recorded records possible) in record {
      booted = booted-push records (boot_of records p) (from + 1) booted;
      recorded = λ list only. rw (only-possible (with_boot records p) list None refl only) all;
      tied = λ e m. tied-booted (record v { records = with_boot records p; base = base; bound = None; open_order = o; booted = p; loaded = no_notes; shut = false; boot_missing = false; in_doubt = None })
          from records p (where_told compared v.motions) refl none all (from-within records from (split records from booted));
    }

-- what follows then: the boot record, which has the places, comes behind a possible list, or nothing does
pub Continues-restored : {D : Type 0} (key seed : List ℕ) (o o' : Open) (motions : Option (List Motion)) (places : Places) (faults : ℕ) (b : Bool) (old new : LedgerView D) (was told : Bool)
    → told ≡ was → ((new ≡ untouched old new) × (o' ≡ o)) ⊎ (MayRestore b old new places × (o' ≡ No)) → Continues (over key seed o motions places faults old was) (over key seed o' motions places faults new told)
Continues-restored key seed o o' motions places faults b old new was told same (inl (is, still)) =
    rw is (Continues-grown _ _ Clear (λ q e. cc) refl refl refl refl refl same refl (λ later possible. inl possible) (begins-same old.records) (λ X left. left)
    (λ compared from s. rw (same, still) s))
Continues-restored key seed o o' motions places faults b old new was told same (inr (inl is, none)) =
    rw is (Continues-grown _ _ Clear (λ q e. cc) refl refl refl refl refl same refl (λ later possible. inl possible) (begins-same old.records) (λ X left. left-close old.records old.in_doubt (old.shut || old.boot_missing) X left)
    (λ compared from s. rw (same, none) (stands-unread (over key seed o motions places faults old was) compared from s)))
Continues-restored key seed o o' motions places faults b old new was told same (inr (inr (records, found, inl is), none)) =
    rw is (Continues-grown _ _ (boot_of records places) (boot_of-only records places) refl refl refl refl refl same refl (λ later possible. inr (records, found, only-possible (with_boot records places) later None refl possible))
    (begins-push old.records records (boot_of records places) (possible-begins old.records old.in_doubt records found))
    (λ X left. left-boot records places false X (left-mount old.records old.in_doubt (old.shut || old.boot_missing) records X found left))
    (λ compared from s. rw same (stands-booted (over key seed o motions places faults old was) records places (base_then b old.base (with_boot records places)) o' none found compared from s)))
Continues-restored key seed o o' motions places faults b old new was told same (inr (inr (records, found, inr (inl is)), none)) =
    rw is (Continues-grown _ _ (boot_of records places) (boot_of-only records places) refl refl refl refl refl same refl (λ later possible. inl (rw (only-possible records later None refl possible) found))
    (possible-begins old.records old.in_doubt records found) (λ X left. left-mount old.records old.in_doubt (old.shut || old.boot_missing) records X found left)
    (λ compared from s. rw same (stands-reread (over key seed o motions places faults old was) records (base_then b old.base records) o' found compared from s)))
Continues-restored key seed o o' motions places faults b old new was told same (inr (inr (records, found, inr (inr is)), none)) =
    rw is (Continues-grown _ _ (boot_of records places) (boot_of-only records places) refl refl refl refl refl same refl (λ later possible. ⊎_elim (λ same. inl (rw same found)) (λ more. inr (records, found, more)) (doubted-possible records later (boot_of records places) possible))
    (possible-begins old.records old.in_doubt records found) (λ X left. left-boot_doubt records places X (left-mount old.records old.in_doubt (old.shut || old.boot_missing) records X found left))
    (λ compared from s. rw same (stands-unbooted (over key seed o motions places faults old was) records places (base_then b old.base records) o' found compared from s)))

-- the boot record is the last one, and all that is in memory
pub rebooted-alone : {T : Type 0} (result : Result T BootFault) (old new : View) → OnOk result (IsRereadBooted true old new) → OnOk result (new.base + 1 ≡ length new.records)
rebooted-alone (Ok x) old new is = rw is.2 (let e = base_of-boot is.0 old.places in let n = length-append is.0 (boot_of is.0 old.places ∷ []) in omega (arith, e, n))
rebooted-alone (Err f) old new is = tt

-- a disk that is refused as no journal tells nothing
pub untold-refused : {T : Type 0} (Claim : Type 0) (result : Result T BootFault) (held : Option (List ℕ)) → IfErr result (λ f. (at : ℕ) → f ≡ NotJournal at → (held ≡ None) × Claim)
    → IfErr result (λ f. (at : ℕ) → f ≡ NotJournal at → is_some held ≡ false)
untold-refused Claim (Ok x) held h = tt
untold-refused Claim (Err f) held h = λ at is. rw (h at is).0 refl
