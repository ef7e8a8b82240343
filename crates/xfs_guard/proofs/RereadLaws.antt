-- What a crash leaves at each moment of a restore: the journal is read again, and a boot record is appended.
use Rattle.std.proofs.Common.{◌≡◌, ◌⊎◌, inl, inr, ⊎_elim, ℕ, true, List, [], ◌∷◌, refl, ◌∙◌, ap}
use Rattle.std.specs.Prelude.{is_some}
use Rattle.xfs_base.specs.Causes.{IfTold}
use Rattle.xfs_base.specs.declared.counts.Places.{Places}
use Rattle.xfs_disk.specs.Moments.{LeavesOnly, EachImage}
use Rattle.xfs_disk.specs.declared.disk.Disk.{Ghosts}
use Rattle.xfs_journal.specs.JournalView.{IsPossible, StandsForEither}
use Rattle.xfs_journal.specs.Paging.{IsQuiet}
use Rattle.xfs_journal.specs.declared.record.Rec.{Rec}
use Rattle.xfs_journal.specs.Journal.{boot_of, with_boot}
use Rattle.xfs_journal.proofs.Moments.{weaken, joins}
use Rattle.xfs_journal.proofs.Told.{on_told, from_told}
use Rattle.xfs_guard.specs.Crashed.{IsCrashOutcomeAt, StandsLeft, StandsReread, LeavesBehind}
use Rattle.xfs_guard.specs.Recorded.{IsRecorded}
use Rattle.xfs_guard.specs.View.{View, GuardView}
use Rattle.xfs_guard.proofs.BootLaws.{IsRecorded-boot}
use Rattle.xfs_guard.proofs.LeftLaws.{recorded-possible, recorded-either}
use Rattle.xfs_guard.proofs.StoredLaws.{tells}
use Rattle.xfs_journal.specs.Held.{StandsForSome}
use Rattle.xfs_guard.proofs.LifeLaws.{begins-trans, possible-begins}

module _ {D : Type 0} (g : Ghosts D) where
  -- the disk was read, and nothing else
  pub reread-quiet : (old new : D) (Holds : List ℕ → Type 0) → IfTold (g.held old) (λ _. IsQuiet g old new)
      → IfTold (g.held old) (λ _. LeavesOnly g old new (λ bytes. g.images old bytes ⊎ Holds bytes))
  reread-quiet old new Holds quiet = on_told (g.held old) (λ _. LeavesOnly g old new (λ bytes. g.images old bytes ⊎ Holds bytes)) (λ all told.
      weaken g old new (g.images old) (λ bytes. g.images old bytes ⊎ Holds bytes) (λ bytes was. inl was)
      (from_told (g.held old) (λ _. IsQuiet g old new) quiet all told).moments)

  -- it was read, and a record was appended, or may have been
  pub reread-append : (old mid new : D) (list : List Rec) (r : Rec) (Holds : List ℕ → Type 0) → is_some (g.held mid) ≡ is_some (g.held old)
      → IfTold (g.held old) (λ _. IsQuiet g old mid) → IfTold (g.held mid) (λ _. LeavesOnly g mid new (StandsForEither list r))
      → ((bytes : List ℕ) → StandsForEither list r bytes → Holds bytes) → IfTold (g.held old) (λ _. LeavesOnly g old new (λ bytes. g.images old bytes ⊎ Holds bytes))
  reread-append old mid new list r Holds same quiet appended implies = on_told (g.held old) (λ _. LeavesOnly g old new (λ bytes. g.images old bytes ⊎ Holds bytes)) (λ all told.
      let still = tells (g.held mid) (same ∙ ap is_some told) in
      weaken g old new (λ bytes. g.images old bytes ⊎ StandsForEither list r bytes) (λ bytes. g.images old bytes ⊎ Holds bytes) (λ bytes e. ⊎_elim (λ was. inl was) (λ is. inr (implies bytes is)) e)
      (joins g old mid new (g.images old) (StandsForEither list r)
      (from_told (g.held old) (λ _. IsQuiet g old mid) quiet all told).moments
      (from_told (g.held mid) (λ _. LeavesOnly g mid new (StandsForEither list r)) appended still.0 still.1)))

  -- what was left goes on from the records before
  pub behind-reread : (old new : GuardView D) (p : Places) → is_some (g.held new.disk) ≡ is_some (g.held old.disk)
      → IfTold (g.held old.disk) (λ _. LeavesOnly g old.disk new.disk (λ bytes. g.images old.disk bytes ⊎ StandsReread old.state.records old.state.in_doubt p (IsCrashOutcomeAt new.state) bytes))
      → LeavesBehind g old new
  behind-reread old new p told leaves = record {
    told = told;
    moments = on_told (g.held old.disk) (λ _. LeavesOnly g old.disk new.disk (λ bytes. g.images old.disk bytes ⊎ StandsLeft old.state new.state bytes)) (λ all is.
        weaken g old.disk new.disk (λ bytes. g.images old.disk bytes ⊎ StandsReread old.state.records old.state.in_doubt p (IsCrashOutcomeAt new.state) bytes)
        (λ bytes. g.images old.disk bytes ⊎ StandsLeft old.state new.state bytes) (λ bytes e. ⊎_elim (λ was. inl was) (λ read. inr (from bytes read read.either)) e)
        (from_told (g.held old.disk) (λ _. LeavesOnly g old.disk new.disk (λ bytes. g.images old.disk bytes ⊎ StandsReread old.state.records old.state.in_doubt p (IsCrashOutcomeAt new.state) bytes)) leaves all is));
  }
    where
      from : (bytes : List ℕ) (read : StandsReread old.state.records old.state.in_doubt p (IsCrashOutcomeAt new.state) bytes) → StandsForEither read.list (boot_of read.list p) bytes → StandsLeft old.state new.state bytes
      from bytes read (inl is) = record { list = read.list; stands = is; begins = possible-begins old.state.records old.state.in_doubt read.list read.possible; left = read.without }
      from bytes read (inr is) = record {
        list = with_boot read.list p;
        stands = is;
        begins = begins-trans old.state.records read.list (with_boot read.list p) (possible-begins old.state.records old.state.in_doubt read.list read.possible) (record { more = boot_of read.list p ∷ []; is = refl });
        left = read.booted;
      }

  -- and is recorded
  pub recorded-reread : (old new : D) (v : View) (p : Places) (IsLeftNow : List Rec → Type 0) → EachImage g old (StandsForSome (IsPossible v.records v.in_doubt))
      → (is_some (g.held old) ≡ true → (list : List Rec) → IsPossible v.records v.in_doubt list → IsRecorded v.key v.units v.motions list)
      → IfTold (g.held old) (λ _. LeavesOnly g old new (λ bytes. g.images old bytes ⊎ StandsReread v.records v.in_doubt p IsLeftNow bytes))
      → IfTold (g.held old) (λ _. LeavesOnly g old new (StandsForSome (IsRecorded v.key v.units v.motions)))
  recorded-reread old new v p IsLeftNow possible recorded leaves = on_told (g.held old) (λ _. LeavesOnly g old new (StandsForSome (IsRecorded v.key v.units v.motions))) (λ all told.
      let each = recorded (ap is_some told) in
      weaken g old new (λ bytes. g.images old bytes ⊎ StandsReread v.records v.in_doubt p IsLeftNow bytes) (StandsForSome (IsRecorded v.key v.units v.motions))
      (λ bytes e. ⊎_elim
      (λ was. recorded-possible v.key v.units v.motions v.records v.in_doubt bytes each (from_told (g.held old) (λ _. (c : List ℕ) → g.images old c → StandsForSome (IsPossible v.records v.in_doubt) c) possible all told bytes was))
      (λ read. recorded-either v.key v.units v.motions read.list (boot_of read.list p) bytes (each read.list read.possible) (IsRecorded-boot v.key v.units read.list p v.motions (each read.list read.possible)) read.either)
      e)
      (from_told (g.held old) (λ _. LeavesOnly g old new (λ bytes. g.images old bytes ⊎ StandsReread v.records v.in_doubt p IsLeftNow bytes)) leaves all told))
