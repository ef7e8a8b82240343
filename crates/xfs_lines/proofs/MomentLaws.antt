-- What a crash leaves at any moment of a run goes on from the records at entry.
use Rattle.std.proofs.Common.{◌≡◌, ◌⊎◌, inl, inr, ⊎_elim, ℕ, ◌≤◌, true, List, Some, refl, sym, ◌∙◌, ap}
use Rattle.std.specs.Prelude.{is_some}
use Rattle.std.specs.declared.option.Option.{Option}
use Rattle.xfs_base.specs.Causes.{IfTold}
use Rattle.xfs_base.specs.declared.counts.Places.{Places}
use Rattle.xfs_base.specs.declared.money.NoteKind.{NoteKind}
use Rattle.xfs_disk.specs.declared.disk.Disk.{Ghosts}
use Rattle.xfs_disk.specs.Disk.{Only}
use Rattle.xfs_disk.specs.Moments.{LeavesOnly, EachImage}
use Rattle.xfs_mech.specs.declared.motion.Motion.{Motion}
use Rattle.xfs_journal.specs.Image.{StandsFor}
use Rattle.xfs_journal.specs.JournalView.{IsPossible, StandsForEither, HasPossible}
use Rattle.xfs_journal.specs.declared.record.Rec.{Rec}
use Rattle.xfs_journal.specs.Journal.{boot_of, with_boot}
use Rattle.xfs_journal.proofs.Moments.{started, weaken, joins}
use Rattle.xfs_journal.proofs.Told.{on_told, from_told}
use Rattle.xfs_journal.proofs.Unique.{stands_for_one}
use Rattle.xfs_guard.specs.Continues.{Continues}
use Rattle.xfs_guard.specs.Crashed.{IsCrashOutcome, IsCrashOutcomeAt, StandsLeft, LeavesBehind}
use Rattle.xfs_guard.specs.CrashOutcomes.{IsOldOrBooted}
use Rattle.xfs_guard.specs.Recorded.{IsRecorded}
use Rattle.xfs_guard.specs.Stored.{MayLeave}
use Rattle.xfs_guard.specs.View.{GuardView}
use Rattle.xfs_guard.proofs.BootLaws.{IsRecorded-boot}
use Rattle.xfs_guard.proofs.CrashedLaws.{begins-push, left-front, IsTorn-in_doubt}
use Rattle.xfs_guard.proofs.StoredLaws.{MayLeave-held, left-possible, tells}
use Rattle.xfs_lines.specs.Moments.{IsPrefixOrLost, WasOnTheWay}
use Rattle.xfs_lines.proofs.RunLaws.{Starts, AtRest}
use Rattle.xfs_guard.proofs.LifeLaws.{begins-same, begins-trans}

-- what each moment of a run leaves, from the disk at entry to that at the end
abbrev pub WasOnTheWayAll : {D : Type 0} → Ghosts D → D → D → Option (List Motion) → Type 0
WasOnTheWayAll g old new motions = IfTold (g.held old) (λ bytes. (J : List Rec) → StandsFor bytes J → LeavesOnly g old new (WasOnTheWay J (g.held new) motions))

module _ {D : Type 0} (g : Ghosts D)
    (as_read : (d : D) (all : List ℕ) → g.held d ≡ Some all → g.images d all) where
  -- nothing was done
  pub moments-same : (old new : D) (motions : Option (List Motion)) → ((d : D) (c : List ℕ) → g.images_since d (g.moment d) c → g.images d c) → AtRest (g.held old) (g.images old) → new ≡ old
      → WasOnTheWayAll g old new motions
  moments-same old new motions only_now rest same = rw same (on_told (g.held old) (λ bytes. (J : List Rec) → StandsFor bytes J → LeavesOnly g old old (WasOnTheWay J (g.held old) motions)) (λ bytes told J stands.
      started g old (WasOnTheWay J (g.held old) motions) (λ c left.
      let here : StandsFor c J = rw (from_told (g.held old) (λ b. Only b (g.images old)) rest bytes told c (only_now old c left)) stands in record {
        list = J;
        stands = here;
        begins = begins-same J;
        prefix = on_told (g.held old) (λ now. (R : List Rec) → StandsFor now R → IsPrefixOrLost R motions J) (λ now is R reads. inl (rw (stands_for_one now R J reads (rw (same_bytes now bytes is told) stands)) (begins-same J)));
      })))
    where
      same_bytes : (now bytes : List ℕ) → g.held old ≡ Some now → g.held old ≡ Some bytes → now ≡ bytes
      same_bytes now bytes is told = let e : Some now ≡ Some bytes = sym is ∙ told in cc

  -- an image of a boot stands for the list at entry, or for that with the boot record
  booted-either : (old : D) (bytes : List ℕ) (J : List Rec) (p : Places) (c : List ℕ) → Only bytes (g.images old) → StandsFor bytes J → IsOldOrBooted (g.images old) bytes p c → StandsForEither J (boot_of J p) c
  booted-either old bytes J p c rest stands (inl was) = inl (rw (rest c was) stands)
  booted-either old bytes J p c rest stands (inr (K, found, either)) = rw (stands_for_one bytes J K stands found) either

  -- the boot was refused
  pub moments-refused : (old new : D) (key : List ℕ) (units : List NoteKind) (motions : Option (List Motion)) (p : Places)
      → Starts (g.held old) (g.images old) key units motions → AtRest (g.held old) (g.images old)
      → IfTold (g.held old) (λ all. LeavesOnly g old new (IsOldOrBooted (g.images old) all p))
      → IfTold (g.held old) (λ _. (J : List Rec) → ((c : List ℕ) → g.images old c → StandsFor c J) → (c : List ℕ) → g.images new c → StandsForEither J (boot_of J p) c)
      → WasOnTheWayAll g old new motions
  moments-refused old new key units motions p starts rest leaves either = on_told (g.held old) (λ bytes. (J : List Rec) → StandsFor bytes J → LeavesOnly g old new (WasOnTheWay J (g.held new) motions)) (λ bytes told J stands.
      let only = from_told (g.held old) (λ b. Only b (g.images old)) rest bytes told in
      let recorded : IsRecorded key units motions J = from_told (g.held old) (λ _. (c : List ℕ) → g.images old c → (K : List Rec) → StandsFor c K → IsRecorded key units motions K) starts bytes told bytes (as_read old bytes told) J stands in
      let now = from_told (g.held old) (λ _. (K : List Rec) → ((c : List ℕ) → g.images old c → StandsFor c K) → (c : List ℕ) → g.images new c → StandsForEither K (boot_of K p) c) either bytes told J (λ c was. rw (only c was) stands) in
      weaken g old new (IsOldOrBooted (g.images old) bytes p) (WasOnTheWay J (g.held new) motions) (λ c is. on_the_way J c recorded now (booted-either old bytes J p c only stands is))
      (from_told (g.held old) (λ all. LeavesOnly g old new (IsOldOrBooted (g.images old) all p)) leaves bytes told))
    where
      -- what the disk reads as is one of the two lists
      possible : (J R : List Rec) (now : List ℕ) → StandsForEither J (boot_of J p) now → StandsFor now R → IsPossible J (Some (boot_of J p)) R
      possible J R now (inl is) reads = inl (stands_for_one now R J reads is)
      possible J R now (inr is) reads = inr (boot_of J p, refl, stands_for_one now R (with_boot J p) reads is)

      agreed : (J R : List Rec) → IsRecorded key units motions J → IsPossible J (Some (boot_of J p)) R → IsRecorded key units motions R
      agreed J R recorded (inl is) = rw is recorded
      agreed J R recorded (inr (r, doubt, is)) = rw (is, (let e : Some r ≡ Some (boot_of J p) = sym doubt in some_same r (boot_of J p) e)) (IsRecorded-boot key units J p motions recorded)
        where
          some_same : (a b : Rec) → Some a ≡ Some b → a ≡ b
          some_same a b e = cc

      prefix : (J X : List Rec) → IsRecorded key units motions J → ((c : List ℕ) → g.images new c → StandsForEither J (boot_of J p) c) → IsCrashOutcome J (Some (boot_of J p)) true X
          → IfTold (g.held new) (λ now. (R : List Rec) → StandsFor now R → IsPrefixOrLost R motions X)
      prefix J X recorded each left = on_told (g.held new) (λ now. (R : List Rec) → StandsFor now R → IsPrefixOrLost R motions X) (λ now is R reads.
          let one = possible J R now (each now (as_read new now is)) reads in left-front J (Some (boot_of J p)) true X R motions left one (agreed J R recorded one).agrees)

      on_the_way : (J : List Rec) (c : List ℕ) → IsRecorded key units motions J → ((d : List ℕ) → g.images new d → StandsForEither J (boot_of J p) d) → StandsForEither J (boot_of J p) c → WasOnTheWay J (g.held new) motions c
      on_the_way J c recorded each (inl is) = record { list = J; stands = is; begins = begins-same J; prefix = prefix J J recorded each (inl (begins-same J)) }
      on_the_way J c recorded each (inr is) = record {
        list = with_boot J p;
        stands = is;
        begins = begins-push J J (boot_of J p) (begins-same J);
        prefix = prefix J (with_boot J p) recorded each (inr (IsTorn-in_doubt J (boot_of J p)));
      }

  -- the guard was booted, and lines were answered
  pub moments-run : (old : D) (first last : GuardView D) (J0 : List Rec) (p : Places) (motions : Option (List Motion)) → ((d : D) (t : ℕ) (c : List ℕ) → t ≤ g.moment d → g.images d c → g.images_since d t c)
      → AtRest (g.held old) (g.images old) → first.state.records ≡ with_boot J0 p → IfTold (g.held old) (λ bytes. StandsFor bytes J0) → is_some (g.held first.disk) ≡ is_some (g.held old)
      → IfTold (g.held old) (λ all. LeavesOnly g old first.disk (IsOldOrBooted (g.images old) all p))
      → Continues first.state last.state → LeavesBehind g first last → EachImage g last.disk (HasPossible last.state.records last.state.in_doubt)
      → ((J : List Rec) → MayLeave g last.disk J → IsRecorded last.state.key last.state.units last.state.motions J) → motions ≡ last.state.motions
      → WasOnTheWayAll g old last.disk motions
  moments-run old first last J0 p motions counts_now rest booted stood same leaves continues behind stored recorded is_motions =
      on_told (g.held old) (λ bytes. (J : List Rec) → StandsFor bytes J → LeavesOnly g old last.disk (WasOnTheWay J (g.held last.disk) motions)) (λ bytes told J stands.
      let only = from_told (g.held old) (λ b. Only b (g.images old)) rest bytes told in
      let one : J ≡ J0 = stands_for_one bytes J J0 stands (from_told (g.held old) (λ b. StandsFor b J0) stood bytes told) in
      let boot = from_told (g.held old) (λ all. LeavesOnly g old first.disk (IsOldOrBooted (g.images old) all p)) leaves bytes told in
      let still = tells (g.held first.disk) (same ∙ ap is_some told) in
      let later = from_told (g.held first.disk) (λ _. LeavesOnly g first.disk last.disk (λ c. g.images first.disk c ⊎ StandsLeft first.state last.state c)) behind.moments still.0 still.1 in
      weaken g old last.disk (λ c. IsOldOrBooted (g.images old) bytes p c ⊎ (g.images first.disk c ⊎ StandsLeft first.state last.state c)) (WasOnTheWay J (g.held last.disk) motions)
      (λ c e. rw one (⊎_elim (λ in_boot. early c (booted-either old bytes J0 p c only (rw one at stands) in_boot))
      (λ then. ⊎_elim (λ here. early c (booted-either old bytes J0 p c only (rw one at stands) (boot.each c (counts_now first.disk (g.moment old) c boot.later here)))) (late c) then) e))
      (joins g old first.disk last.disk (IsOldOrBooted (g.images old) bytes p) (λ c. g.images first.disk c ⊎ StandsLeft first.state last.state c) boot later))
    where
      prefix : (X : List Rec) → IsCrashOutcomeAt last.state X → IfTold (g.held last.disk) (λ now. (R : List Rec) → StandsFor now R → IsPrefixOrLost R motions X)
      prefix X left = on_told (g.held last.disk) (λ now. (R : List Rec) → StandsFor now R → IsPrefixOrLost R motions X) (λ now is R reads.
          let may = MayLeave-held g last.disk R as_read (ap is_some is) (rw is reads) in
          rw is_motions (left-front last.state.records last.state.in_doubt _ X R last.state.motions left
          (left-possible g last.disk last.state.records last.state.in_doubt stored R may) (recorded R may).agrees))

      -- what was left in the boot is a prefix of its records
      early : (c : List ℕ) → StandsForEither J0 (boot_of J0 p) c → WasOnTheWay J0 (g.held last.disk) motions c
      early c (inl is) = record { list = J0; stands = is; begins = begins-same J0; prefix = prefix J0 (continues.left J0 (inl (rw booted (begins-push J0 J0 (boot_of J0 p) (begins-same J0))))) }
      early c (inr is) = record {
        list = with_boot J0 p;
        stands = is;
        begins = begins-push J0 J0 (boot_of J0 p) (begins-same J0);
        prefix = prefix (with_boot J0 p) (continues.left (with_boot J0 p) (inl (rw booted (begins-same (with_boot J0 p)))));
      }

      late : (c : List ℕ) → StandsLeft first.state last.state c → WasOnTheWay J0 (g.held last.disk) motions c
      late c s = record {
        list = s.list;
        stands = s.stands;
        begins = begins-trans J0 first.state.records s.list (rw booted (begins-push J0 J0 (boot_of J0 p) (begins-same J0))) s.begins;
        prefix = prefix s.list s.left;
      }
