-- That a crash leaves one of the possible lists, behind each call that may change it.
use Rattle.std.proofs.Common.{◌≡◌, inl, inr, ⊎_elim, ℕ, ◌≤◌, List, [], ◌∷◌, ◌++◌, Some, Err, refl, sym, ◌∙◌, ap}
use Rattle.std.specs.Prelude.{is_some}
use Rattle.std.specs.declared.option.Option.{Option}
use Rattle.xfs_base.specs.Causes.{IfTold}
use Rattle.xfs_disk.specs.Moments.{LeavesOnly, EachImage}
use Rattle.xfs_disk.specs.declared.disk.Disk.{Ghosts}
use Rattle.xfs_journal.specs.Image.{StandsFor}
use Rattle.xfs_journal.specs.JournalView.{StandsForEither, IsPossible}
use Rattle.xfs_journal.specs.declared.record.Rec.{Rec}
use Rattle.xfs_journal.proofs.Told.{on_told, from_told}
use Rattle.xfs_guard.specs.LedgerView.{LedgerView, Wrote, IsWriteFault}
use Rattle.xfs_guard.specs.declared.deny.Deny.{Deny}
use Rattle.xfs_guard.specs.declared.deny.Deny.TheVariants.{Disk, Memory}
use Rattle.xfs_guard.proofs.StoredLaws.{tells}
use Rattle.xfs_journal.specs.Held.{StandsForSome}

module _ {D : Type 0} (g : Ghosts D) where
  -- a crash leaves the kept list
  pub leaves-list : (disk : D) (records : List Rec) (in_doubt : Option Rec) → EachImage g disk (λ c. StandsFor c records) → EachImage g disk (StandsForSome (IsPossible records in_doubt))
  leaves-list disk records in_doubt leaves = on_told (g.held disk) (λ _. (c : List ℕ) → g.images disk c → StandsForSome (IsPossible records in_doubt) c) (λ all told c left.
      record { records = records; stands = from_told (g.held disk) (λ _. (c : List ℕ) → g.images disk c → StandsFor c records) leaves all told c left; such = inl refl })

  -- a record is in doubt
  pub leaves-either : (old new : D) (records : List Rec) (r : Rec) → is_some (g.held new) ≡ is_some (g.held old)
      → IfTold (g.held old) (λ _. (c : List ℕ) → g.images new c → StandsForEither records r c) → EachImage g new (StandsForSome (IsPossible records (Some r)))
  leaves-either old new records r same either = on_told (g.held new) (λ _. (c : List ℕ) → g.images new c → StandsForSome (IsPossible records (Some r)) c) (λ all told c left.
      let before = tells (g.held old) (sym same ∙ ap is_some told) in
      ⊎_elim (λ was. record { records = records; stands = was; such = inl refl }) (λ is. record { records = records ++ r ∷ []; stands = is; such = inr (r, refl, refl) })
      (from_told (g.held old) (λ _. (c : List ℕ) → g.images new c → StandsForEither records r c) either before.0 before.1 c left))

  -- the disk failed at a record
  pub leaves-doubted : (old new : D) (records : List Rec) (r : Rec) → ((d : D) (t : ℕ) (c : List ℕ) → t ≤ g.moment d → g.images d c → g.images_since d t c) → is_some (g.held new) ≡ is_some (g.held old)
      → IfTold (g.held old) (λ _. LeavesOnly g old new (StandsForEither records r)) → EachImage g new (StandsForSome (IsPossible records (Some r)))
  leaves-doubted old new records r counts_now same moments = leaves-either old new records r same
      (on_told (g.held old) (λ _. (c : List ℕ) → g.images new c → StandsForEither records r c) (λ all told c left.
      let run = from_told (g.held old) (λ _. LeavesOnly g old new (StandsForEither records r)) moments all told in
      run.each c (counts_now new (g.moment old) c run.later left)))

  -- a record wasn't written
  pub leaves-refused : (T : Type 0) (e : Deny) (old new : LedgerView D) (r : Rec) (w : Option (List (List ℕ × ℕ)))
      → ((d : D) (t : ℕ) (c : List ℕ) → t ≤ g.moment d → g.images d c → g.images_since d t c) → Wrote {T = T} (Err e) old new r w → IsWriteFault e
      → is_some (g.held new.disk) ≡ is_some (g.held old.disk) → IfTold (g.held old.disk) (λ _. LeavesOnly g old.disk new.disk (StandsForEither old.records r))
      → EachImage g old.disk (StandsForSome (IsPossible old.records old.in_doubt)) → EachImage g new.disk (StandsForSome (IsPossible new.records new.in_doubt))
  leaves-refused T e old new r w counts_now wrote why same moments leaves = ⊎_elim memory disk why
    where
      memory : e ≡ Memory → EachImage g new.disk (StandsForSome (IsPossible new.records new.in_doubt))
      memory is = let s = rw is at wrote in rw (s.disk, s.records, s.in_doubt) leaves

      disk : e ≡ Disk → EachImage g new.disk (StandsForSome (IsPossible new.records new.in_doubt))
      disk is = let s = rw is at wrote in rw (s.records, s.in_doubt) (leaves-doubted old.disk new.disk old.records r counts_now same moments)
