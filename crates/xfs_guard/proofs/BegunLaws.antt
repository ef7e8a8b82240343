-- What stands behind the base of a guard whose boot record is its newest record.
use Rattle.std.proofs.Common.{◌≡◌, ◌-◌, ℕ, zero, suc, Bool, true, false, List, [], ◌∷◌, length, drop, None, Some, Ok, Err, refl, sym, ◌∙◌, subst, arith}
use Rattle.std.specs.Prelude.{OnOk}
use Rattle.std.specs.declared.result.Result.{Result}
use Rattle.std.specs.declared.option.Option.{Option}
use Rattle.std.specs.List.{AllByRecursion}
use Rattle.std.proofs.Math.Seq.{drop-append_seam, take-append_seam}
use Rattle.xfs_base.specs.Causes.{IfTold}
use Rattle.xfs_base.specs.declared.counts.Counts.{Counts}
use Rattle.xfs_base.specs.declared.counts.Kind.{Kind}
use Rattle.xfs_base.specs.declared.counts.Places.{Places}
use Rattle.xfs_base.specs.declared.money.NoteKind.{NoteKind}
use Rattle.xfs_mech.specs.declared.motion.Motion.{Motion}
use Rattle.xfs_mech.specs.declared.motion.Motion.TheVariants.{Moved, Taken, Loaded}
use Rattle.xfs_mech.proofs.MotionLaws.{all-map}
use Rattle.xfs_journal.specs.declared.record.Rec.{Rec}
use Rattle.xfs_journal.specs.declared.record.Rec.TheVariants.{Order}
use Rattle.xfs_journal.specs.Journal.{boot_of, boot_places, live_of, record_at, with_boot}
use Rattle.xfs_journal.proofs.JournalLaws.{record_at-pushed}
use Rattle.xfs_journal.proofs.StartLaws.{boot-ends, boot_of-numbered, boot_of-places}
use Rattle.xfs_guard.specs.declared.open.Open.TheVariants.{No}
use Rattle.xfs_guard.specs.Agrees.{Agrees, IsAsked, IsNoOrder, RisesFrom}
use Rattle.xfs_guard.specs.Recorded.{IsRecorded}
use Rattle.xfs_guard.specs.Reach.{reached, BeginsBehind, IsComparable, IsRecordedBehind, NoneInReach, StandsBehind, view_behind}
use Rattle.xfs_guard.specs.Sound.{Ties, where_told}
use Rattle.xfs_guard.specs.View.{View, rebooted}
use Rattle.xfs_guard.specs.Booting.{IsRereadBooted}
use Rattle.xfs_guard.specs.declared.fail.BootFault.{BootFault}
use Rattle.xfs_guard.proofs.BootLaws.{base_of-boot}
use Rattle.xfs_guard.specs.Within.{IsWithin}
use Rattle.xfs_guard.proofs.AgreesLaws.{boot-follows, boot-no_order}
use Rattle.xfs_guard.proofs.ReportLaws.{IsReport, asked-report, within-report}
use Rattle.xfs_guard.proofs.StandLaws.{only-possible, recorded-behind}

-- where none is in reach, the entries that are told have no numbers
none-reached : (from : ℕ) (motions : List Motion) → NoneInReach from motions → AllByRecursion IsReport (reached from motions)
none-reached from [] none = tt
none-reached from (Moved n k m d ∷ ms) none = rw none.0 (none-reached from ms none.1)
none-reached from (Taken c ∷ ms) none = (tt, none-reached from ms none.1)
none-reached from (Loaded u c ∷ ms) none = (tt, none-reached from ms none.1)

rises-reports : (low : ℕ) (motions : List Motion) → AllByRecursion IsReport motions → RisesFrom low motions
rises-reports low [] all = tt
rises-reports low (Moved n k m d ∷ ms) all = absurd all.0
rises-reports low (Taken c ∷ ms) all = rises-reports low ms all.1
rises-reports low (Loaded u c ∷ ms) all = rises-reports low ms all.1

-- a boot record alone agrees with such entries
agrees-alone : (b : Rec) (p : Places) (motions : List Motion) → boot_places b ≡ Some p → AllByRecursion IsReport motions → Agrees (b ∷ []) motions
agrees-alone b p motions tells all = record {
  rising = rises-reports 0 motions all;
  asked = all-map IsReport (IsAsked (b ∷ [])) motions (asked-report (b ∷ [])) all;
  shape = (boot-follows None b p tells, tt);
  done = λ n k c m d ordered done. absurd (none n k c ordered);
}
  where
    none : (n : ℕ) (k : Kind) (c : Counts) → record_at (b ∷ []) n ≡ Some (Order k c) → ⊥
    none zero k c e = cc
    none (suc zero) k c e = absurd (subst IsNoOrder e (boot-no_order b p tells))
    none (suc (suc i)) k c e = cc

ties-alone : (v : View) (b : Rec) (p : Places) (motions : List Motion) → v.records ≡ b ∷ [] → v.open_order ≡ No → boot_places b ≡ Some p → AllByRecursion IsReport motions → Ties v motions
ties-alone v b p motions is none tells all = record {
  agrees = rw is (agrees-alone b p motions tells all);
  within = rw is (all-map IsReport (IsWithin v.key v.units (b ∷ []) motions) motions (within-report v.key v.units (b ∷ []) motions) all);
  counted = λ q c lives. absurd (gone q (rw is at lives));
  acted = rw none tt;
}
  where
    gone : (q : ℕ) → live_of (b ∷ []) ≡ Some q → ⊥
    gone q lives = let e : None ≡ Some q = sym (boot-ends b p tells 0 None) ∙ lives in cc

-- a guard whose newest record is its boot record, and whose base stands in front of that
pub begun : (v : View) (found : List Rec) (p : Places) → v.records ≡ with_boot found p → v.base ≡ length found → v.open_order ≡ No → v.in_doubt ≡ None → BeginsBehind v
begun v found p is base none clean compared comparable = subst (λ (n : ℕ). StandsBehind compared n v) (sym base) (record {
  booted = record { boot = boot_of found p; places = p; there = rw is (record_at-pushed found (boot_of found p)); tells = boot_of-places found p };
  recorded = λ records possible. rw (only-possible v.records records v.in_doubt clean possible)
      (recorded-behind (length found) v (where_told compared v.motions) (rw (is, take-append_seam, alone) (boot_of-numbered found p, tt)) (tied (where_told compared v.motions) compare));
  tied = λ still booted. tied (where_told compared v.motions) compare;
})
  where
    alone : drop (length found) (with_boot found p) ≡ boot_of found p ∷ []
    alone = drop-append_seam found (boot_of found p ∷ [])

    compare : IfTold (where_told compared v.motions) (NoneInReach (length found))
    compare = go compared (rw base at comparable)
      where
        go : (b : Bool) → IsComparable b (length found) v.motions → IfTold (where_told b v.motions) (NoneInReach (length found))
        go true c = c refl
        go false c = tt

    tied : (m : Option (List Motion)) → IfTold m (NoneInReach (length found)) → IfTold m (λ motions. Ties (view_behind (length found) v) (reached (length found) motions))
    tied None c = tt
    tied (Some motions) c = ties-alone (view_behind (length found) v) (boot_of found p) p (reached (length found) motions) (rw is alone) none (boot_of-places found p) (none-reached (length found) motions c)

-- of 0 every entry is in reach, with its own number
pub reached-all : (motions : List Motion) → reached 0 motions ≡ motions
reached-all [] = refl
reached-all (Moved n k m d ∷ ms) = let e : n - 0 ≡ n = omega arith in rw (e, reached-all ms) refl
reached-all (Taken c ∷ ms) = rw (reached-all ms) refl
reached-all (Loaded u c ∷ ms) = rw (reached-all ms) refl

-- so what is recorded behind 0 is recorded
pub recorded-all : (key : List ℕ) (u : List NoteKind) (records : List Rec) (m : Option (List Motion)) → IsRecordedBehind 0 key u records m → IsRecorded key u m records
recorded-all key u records None h = record { numbered = h.numbered; agrees = tt; within = tt }
recorded-all key u records (Some motions) h = record { numbered = h.numbered; agrees = rw (reached-all motions) at h.agrees; within = rw (reached-all motions) at h.within }

-- a guard that was started anew
pub begun-rebooted : {T : Type 0} (result : Result T BootFault) (old new : View) → OnOk result (IsRereadBooted true old new) → OnOk result (BeginsBehind new)
begun-rebooted (Ok x) old new is = rw is.2 (begun (rebooted old is.0) is.0 old.places refl (base_of-boot is.0 old.places) refl refl)
begun-rebooted (Err f) old new is = tt
