-- What a crash leaves at each moment between two states of a guard.
use Rattle.std.proofs.Common.{◌≡◌, ◌⊎◌, inl, inr, ⊎_elim, ℕ, ◌≤◌, true, false, List, [], ◌∷◌, ◌++◌, None, Some, refl, sym, ◌∙◌, ap, arith}
use Rattle.std.specs.Prelude.{is_some}
use Rattle.std.specs.declared.option.Option.{Option}
use Rattle.std.specs.Prelude.{Bool, Err}
use Rattle.xfs_base.specs.declared.counts.Places.{Places}
use Rattle.xfs_mech.specs.declared.motion.Motion.{Motion}
use Rattle.xfs_guard.specs.declared.open.Open.{Open}
use Rattle.xfs_guard.specs.declared.deny.Deny.{Deny}
use Rattle.xfs_guard.specs.declared.deny.Deny.TheVariants.{Disk, Memory}
use Rattle.xfs_guard.specs.LedgerView.{LedgerView, Wrote, IsWriteFault}
use Rattle.xfs_guard.proofs.KeptLaws.{over}
use Rattle.xfs_base.specs.Causes.{IfTold}
use Rattle.xfs_disk.specs.Moments.{LeavesOnly}
use Rattle.xfs_disk.specs.declared.disk.Disk.{Ghosts}
use Rattle.xfs_journal.specs.JournalView.{StandsForEither}
use Rattle.xfs_journal.specs.declared.record.Rec.{Rec}
use Rattle.xfs_guard.specs.Continues.{Continues}
use Rattle.xfs_guard.specs.Crashed.{IsCrashOutcomeAt, StandsLeft, LeavesBehind}
use Rattle.xfs_guard.specs.Lives.{BeginsWith}
use Rattle.xfs_guard.specs.View.{GuardView}
use Rattle.xfs_guard.proofs.CrashedLaws.{begins-push, IsTorn-in_doubt}
use Rattle.xfs_guard.proofs.LifeLaws.{begins-same, begins-trans}

-- no call of the disk: the images are those of before
pub behind-still : {D : Type 0} (g : Ghosts D) (old new : GuardView D)
    → ((d : D) (c : List ℕ) → g.images_since d (g.moment d) c → g.images d c) → new.disk ≡ old.disk → LeavesBehind g old new
behind-still {D = D} g old new only_now same = record { told = ap (λ (d : D). is_some (g.held d)) same; moments = rw same (go (g.held old.disk)) }
  where
    go : (h : Option (List ℕ)) → IfTold h (λ _. LeavesOnly g old.disk old.disk (λ bytes. g.images old.disk bytes ⊎ StandsLeft old.state new.state bytes))
    go None = tt
    go (Some all) = record { later = omega arith; each = λ c now. inl (only_now old.disk c now); before = λ t c le was. inl was }

-- a record was appended, or may have been
pub behind-record : {D : Type 0} (g : Ghosts D) (old new : GuardView D) (r : Rec)
    → is_some (g.held new.disk) ≡ is_some (g.held old.disk) → IfTold (g.held old.disk) (λ _. LeavesOnly g old.disk new.disk (StandsForEither old.state.records r))
    → BeginsWith new.state.records old.state.records → IsCrashOutcomeAt new.state (old.state.records ++ r ∷ []) → LeavesBehind g old new
behind-record g old new r told leaves grew longer = record { told = told; moments = go (g.held old.disk) leaves }
  where
    either : (c : List ℕ) → StandsForEither old.state.records r c → g.images old.disk c ⊎ StandsLeft old.state new.state c
    either c (inl before) = inr (record { list = old.state.records; stands = before; begins = begins-same old.state.records; left = inl grew })
    either c (inr after) = inr (record { list = old.state.records ++ r ∷ []; stands = after; begins = record { more = r ∷ []; is = refl }; left = longer })

    go : (h : Option (List ℕ)) → IfTold h (λ _. LeavesOnly g old.disk new.disk (StandsForEither old.state.records r))
        → IfTold h (λ _. LeavesOnly g old.disk new.disk (λ bytes. g.images old.disk bytes ⊎ StandsLeft old.state new.state bytes))
    go None l = tt
    go (Some all) l = record { later = l.later; each = λ c now. either c (l.each c now); before = λ t c le was. ⊎_elim (λ then. inl then) (λ here. inr (either c here)) (l.before t c le was) }

-- on the way from one state to a third
pub behind-trans : {D : Type 0} (g : Ghosts D) (a b c : GuardView D)
    → ((d : D) (t : ℕ) (bytes : List ℕ) → t ≤ g.moment d → g.images d bytes → g.images_since d t bytes) → Continues a.state b.state → Continues b.state c.state
    → LeavesBehind g a b → LeavesBehind g b c → LeavesBehind g a c
behind-trans {D = D} g a b c counts_now ab bc one two = record { told = two.told ∙ one.told; moments = go (g.held a.disk) (g.held b.disk) (sym one.told) one.moments two.moments }
  where
    On : GuardView D → GuardView D → List ℕ → Type 0
    On x y bytes = g.images x.disk bytes ⊎ StandsLeft x.state y.state bytes

    further : (bytes : List ℕ) → On a b bytes → On a c bytes
    further bytes (inl was) = inl was
    further bytes (inr s) = inr (record { list = s.list; stands = s.stands; begins = s.begins; left = bc.left s.list s.left })

    earlier : LeavesOnly g a.disk b.disk (On a b) → (bytes : List ℕ) → On b c bytes → On a c bytes
    earlier l bytes (inl now) = further bytes (l.each bytes (counts_now b.disk (g.moment a.disk) bytes l.later now))
    earlier l bytes (inr s) = inr (record { list = s.list; stands = s.stands; begins = begins-trans a.state.records b.state.records s.list ab.grew s.begins; left = s.left })

    join : LeavesOnly g a.disk b.disk (On a b) → LeavesOnly g b.disk c.disk (On b c) → LeavesOnly g a.disk c.disk (On a c)
    join l m = record {
      later = let x = l.later in let y = m.later in omega (arith, x, y);
      each = λ bytes since_a. ⊎_elim (λ then. further bytes (l.each bytes then)) (λ here. earlier l bytes here) (m.before (g.moment a.disk) bytes l.later since_a);
      before = λ t bytes le was. ⊎_elim
          (λ then. ⊎_elim (λ old. inl old) (λ here. inr (further bytes here)) (l.before t bytes le then))
          (λ here. inr (earlier l bytes here))
          (m.before t bytes (let x = l.later in omega (arith, x, le)) was);
    }

    go : (h k : Option (List ℕ)) → is_some h ≡ is_some k → IfTold h (λ _. LeavesOnly g a.disk b.disk (On a b)) → IfTold k (λ _. LeavesOnly g b.disk c.disk (On b c))
        → IfTold h (λ _. LeavesOnly g a.disk c.disk (On a c))
    go None k same l m = tt
    go (Some x) (Some y) same l m = join l m
    go (Some x) None same l m = absurd (never same)
      where
        never : true ≡ false → ⊥
        never e = cc

-- the guard of a ledger
abbrev pub guard_of : {D : Type 0} → List ℕ → List ℕ → Open → Option (List Motion) → Places → ℕ → LedgerView D → Bool → GuardView D
guard_of key seed o motions places faults l told = record { state = over key seed o motions places faults l told; disk = l.disk }

-- the record was written
pub behind-written : {D : Type 0} (g : Ghosts D) (old new : GuardView D) (r : Rec)
    → is_some (g.held new.disk) ≡ is_some (g.held old.disk) → IfTold (g.held old.disk) (λ _. LeavesOnly g old.disk new.disk (StandsForEither old.state.records r))
    → new.state.records ≡ old.state.records ++ r ∷ [] → LeavesBehind g old new
behind-written g old new r told leaves is =
    behind-record g old new r told leaves (rw is (begins-push old.state.records old.state.records r (begins-same old.state.records))) (inl (rw is (begins-same (old.state.records ++ r ∷ []))))

-- the record is in doubt
pub behind-doubted : {D : Type 0} (g : Ghosts D) (old new : GuardView D) (r : Rec)
    → is_some (g.held new.disk) ≡ is_some (g.held old.disk) → IfTold (g.held old.disk) (λ _. LeavesOnly g old.disk new.disk (StandsForEither old.state.records r))
    → new.state.records ≡ old.state.records → new.state.shut ≡ true → new.state.in_doubt ≡ Some r → LeavesBehind g old new
behind-doubted g old new r told leaves is shut doubt =
    behind-record g old new r told leaves (rw is (begins-same old.state.records)) (inr (rw (is, shut, doubt) (IsTorn-in_doubt old.state.records r)))

-- a ledger's record that was refused
pub behind-refused : (T : Type 0) {D : Type 0} (g : Ghosts D) (e : Deny) (key seed : List ℕ) (o : Open)
    (motions : Option (List Motion)) (places : Places) (faults : ℕ) (old new : LedgerView D) (r : Rec) (w : Option (List (List ℕ × ℕ))) (was told : Bool)
    → ((d : D) (c : List ℕ) → g.images_since d (g.moment d) c → g.images d c) → Wrote {T = T} (Err e) old new r w → IsWriteFault e
    → is_some (g.held new.disk) ≡ is_some (g.held old.disk) → IfTold (g.held old.disk) (λ _. LeavesOnly g old.disk new.disk (StandsForEither old.records r))
    → LeavesBehind g (guard_of key seed o motions places faults old was) (guard_of key seed o motions places faults new told)
behind-refused T {D = D} g e key seed o motions places faults old new r w was told only_now wrote why tells leaves = ⊎_elim memory disk why
  where
    A : GuardView D
    A = guard_of key seed o motions places faults old was

    B : GuardView D
    B = guard_of key seed o motions places faults new told

    memory : e ≡ Memory → LeavesBehind g A B
    memory is = let s = rw is at wrote in behind-still g A B only_now s.disk

    disk : e ≡ Disk → LeavesBehind g A B
    disk is = let s = rw is at wrote in behind-doubted g A B r tells leaves s.records s.shut s.in_doubt
