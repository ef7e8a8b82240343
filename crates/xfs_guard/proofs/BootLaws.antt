-- What a guard is once its boot record is written.
use Rattle.std.proofs.Common.{◌≡◌, ⊎_elim, ℕ, true, false, List, length, None, Some, refl, sym, ◌∙◌}
use Rattle.std.specs.Prelude.{Bool}
use Rattle.std.specs.declared.option.Option.{Option}
use Rattle.xfs_base.specs.Causes.{IfTold}
use Rattle.xfs_base.specs.declared.money.NoteKind.{NoteKind}
use Rattle.xfs_base.specs.declared.counts.Places.{Places}
use Rattle.xfs_mech.specs.declared.motion.Motion.{Motion}
use Rattle.xfs_disk.specs.declared.disk.Disk.{Ghosts}
use Rattle.xfs_journal.specs.declared.record.Rec.{Rec}
use Rattle.xfs_journal.specs.Journal.{base_of, boot_of, boot_places, is_boot, live_of, next_number, with_boot, CarriesNumber}
use Rattle.xfs_journal.specs.declared.record.Rec.TheVariants.{Issue, Clear, Expire, Boot, Start, Bind, Order, Done, Load}
use Rattle.xfs_journal.proofs.BaseLaws.{base_of-push}
use Rattle.xfs_journal.proofs.JournalLaws.{live_of-push, Walk-push}
use Rattle.xfs_journal.proofs.StartLaws.{boot-ends, boot_of-numbered, boot_of-places}
use Rattle.xfs_guard.specs.declared.open.Open.TheVariants.{No}
use Rattle.xfs_guard.specs.Balance.{no_notes}
use Rattle.xfs_guard.specs.View.{View}
use Rattle.xfs_guard.specs.Agrees.{Agrees}
use Rattle.xfs_guard.specs.Within.{Within}
use Rattle.xfs_guard.specs.Recorded.{IsRecorded}
use Rattle.xfs_guard.specs.Sound.{Ties, where_told, IsSound}
use Rattle.xfs_guard.specs.Kept.{IsKept}
use Rattle.xfs_guard.specs.Stored.{MayLeave, WasLeft}
use Rattle.xfs_guard.proofs.AgreesLaws.{boot-follows, boot-no_done, boot-no_order, Agrees-record, numbers_within}
use Rattle.xfs_guard.proofs.WithinLaws.{Within-record}
use Rattle.xfs_guard.proofs.RecordLaws.{last-pushed}
use Rattle.xfs_guard.proofs.KeptLaws.{IsKept-open}
use Rattle.xfs_guard.proofs.BalanceLaws.{balanced-boot}

agrees-boot : (records : List Rec) (p : Places) (m : Option (List Motion)) → IfTold m (Agrees records) → IfTold m (Agrees (with_boot records p))
agrees-boot records p None a = tt
agrees-boot records p (Some motions) a = Agrees-record records (boot_of records p) motions a (boot-follows _ (boot_of records p) p (boot_of-places records p)) (λ k c m d o e. absurd (boot-no_done (boot_of records p) p m d (boot_of-places records p) e))

within-boot : (key : List ℕ) (u : List NoteKind) (records : List Rec) (p : Places) (m : Option (List Motion)) → IfTold m (Agrees records) → IfTold m (Within key u records) → IfTold m (Within key u (with_boot records p))
within-boot key u records p None a w = tt
within-boot key u records p (Some motions) a w = Within-record key u records (boot_of records p) motions (numbers_within records motions a) w

-- a boot record may stand behind any list that is recorded
pub IsRecorded-boot : (key : List ℕ) (u : List NoteKind) (records : List Rec) (p : Places) (m : Option (List Motion)) → IsRecorded key u m records → IsRecorded key u m (with_boot records p)
IsRecorded-boot key u records p m r = record {
  numbered = Walk-push next_number CarriesNumber 1 records (boot_of records p) r.numbered (boot_of-numbered records p);
  agrees = agrees-boot records p m r.agrees;
  within = within-boot key u records p m r.agrees r.within;
}

-- no nonce lives behind a boot record
no-nonce : (records : List Rec) (p : Places) (q : ℕ) → live_of (with_boot records p) ≡ Some q → ⊥
no-nonce records p q lives = let e : None ≡ Some q = sym (live_of-push records (boot_of records p) ∙ boot-ends (boot_of records p) p (boot_of-places records p) (length records) (live_of records)) ∙ lives in cc

-- the journal got a Boot: no nonce lives, and no order is open
pub IsSound-boot : (v : View) (records : List Rec) (p : Places) → (v.disk_told ≡ true → IsRecorded v.key v.units v.motions records)
    → IsSound (record v { records = with_boot records p; bound = None; open_order = No })
IsSound-boot v records p recorded = record {
  numbered = λ told. (IsRecorded-boot v.key v.units records p v.motions (recorded told)).numbered;
  stands = rw last-pushed (boot-no_order (boot_of records p) p (boot_of-places records p));
  budget = record {
    funded = λ q b lives bound. absurd (no-nonce records p q lives);
    unbound = λ q lives free. absurd (no-nonce records p q lives);
    dead = λ dead. refl;
  };
  told = ties v.disk_told v.motions recorded;
}
  where
    ties : (t : Bool) (m : Option (List Motion)) → (t ≡ true → IsRecorded v.key v.units m records) → IfTold (where_told t m) (Ties (record v { records = with_boot records p; bound = None; open_order = No }))
    ties false m r = tt
    ties true None r = tt
    ties true (Some motions) r = let after = IsRecorded-boot v.key v.units records p (Some motions) (r refl) in record {
      agrees = after.agrees;
      within = after.within;
      counted = λ q c lives. absurd (no-nonce records p q lives);
      acted = tt;
    }

is-boot : (r : Rec) (p : Places) → boot_places r ≡ Some p → is_boot r ≡ true
is-boot (Boot q) p is = refl
is-boot (Start i q) p is = refl
is-boot (Issue number word) p is = cc
is-boot Clear p is = cc
is-boot Expire p is = cc
is-boot (Bind t) p is = cc
is-boot (Order k c) p is = cc
is-boot (Done m d) p is = cc
is-boot (Load u c) p is = cc

-- the records in front of a boot record are those that memory doesn't have
pub base_of-boot : (records : List Rec) (p : Places) → base_of (with_boot records p) ≡ length records
base_of-boot records p = base_of-push records (boot_of records p) ∙ rw (is-boot (boot_of records p) p (boot_of-places records p)) refl

-- what a guard is then
pub IsKept-boot : (v : View) (records : List Rec) (p : Places) (spare left : ℕ) (kinds : List NoteKind) → p ≡ v.places → (v.disk_told ≡ true → IsRecorded v.key v.units v.motions records) → kinds ≡ v.units
    → IsKept (record v { records = with_boot records p; bound = None; open_order = No; booted = p; loaded = no_notes; shut = false; boot_missing = false; in_doubt = None }) spare left kinds
IsKept-boot v records p spare left kinds there recorded units =
    IsKept-open (record v { records = with_boot records p; bound = None; open_order = No; booted = p; loaded = no_notes; boot_missing = false }) spare left kinds (IsSound-boot (record v { booted = p; loaded = no_notes; boot_missing = false }) records p recorded) (balanced-boot records p v.places there) refl tt tt units

-- a list that was left is recorded, and stays so with the boot record
pub WasLeft-recorded : {D : Type 0} (key : List ℕ) (u : List NoteKind) (m : Option (List Motion)) (g : Ghosts D) (d : D) (p : Places)
    → ((records : List Rec) → MayLeave g d records → IsRecorded key u m records) → (records : List Rec) → WasLeft g d p records → IsRecorded key u m records
WasLeft-recorded key u m g d p all records was =
    ⊎_elim (λ same. rw same (all was.list was.before)) (λ more. rw more (IsRecorded-boot key u was.list p m (all was.list was.before))) was.grown
