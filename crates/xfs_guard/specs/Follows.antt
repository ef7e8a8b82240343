-- What happened since an earlier state: both lists grew, and the places are those that the new motions lead to.
use Rattle.std.specs.Prelude.{◌≡◌, ℕ, ◌<◌, ◌≤◌, List, ◌++◌, length, Some}
use Rattle.std.specs.List.{AllByRecursion}
use Rattle.xfs_base.specs.declared.counts.Places.{Places}
use Rattle.xfs_mech.specs.declared.motion.Motion.{Motion}
use Rattle.xfs_mech.specs.Motions.{PlacesOf, NumberIs}
use Rattle.xfs_journal.specs.declared.record.Rec.{Rec}
use Rattle.xfs_journal.specs.Journal.{boot_places, record_at}

-- a boot record of this number has the places after some prefix of the motions: those of lower numbers, none of higher
pub record BootFits (old : Places) (motions : List Motion) (n : ℕ) (places : Places) : Type 0 where
  pub prefix : List Motion
  pub back : List Motion
  pub split : motions ≡ prefix ++ back
  pub reached : PlacesOf old prefix places
  pub before : AllByRecursion (NumberIs (λ k. k ≤ n)) prefix
  pub after : AllByRecursion (NumberIs (λ k. n ≤ k)) back

pub record Follows (records : List Rec) (motions : List Motion) (places : Places) (records' : List Rec) (motions' : List Motion) (places' : Places) : Type 0 where
  pub recs : List Rec
  pub moves : List Motion
  pub grew : records' ≡ records ++ recs
  pub moved : motions' ≡ motions ++ moves
  pub reached : PlacesOf places moves places'
  pub later : AllByRecursion (NumberIs (λ n. length records ≤ n)) moves
  pub boots : (n : ℕ) (r : Rec) (p : Places) → length records < n → record_at records' n ≡ Some r → boot_places r ≡ Some p → BootFits places moves n p
