-- What a guard keeps from call to call.
use Rattle.std.specs.Prelude.{◌≡◌, ℕ, ◌+◌, ◌<◌, Bool, true, false, List, length, Some, None, ⊤}
use Rattle.std.specs.declared.option.Option.{Option}
use Rattle.std.specs.List.{AllByRecursion, Contains}
use Rattle.xfs_base.specs.Causes.{IfTold}
use Rattle.xfs_base.specs.Counts.{LiesIn}
use Rattle.xfs_base.specs.declared.counts.Counts.{Counts}
use Rattle.xfs_base.specs.declared.counts.Places.{Places}
use Rattle.xfs_base.specs.declared.counts.Kind.{Kind}
use Rattle.xfs_base.specs.declared.counts.Kind.TheVariants.{Present}
use Rattle.xfs_mech.specs.declared.motion.Motion.{Motion}
use Rattle.xfs_mech.specs.declared.motion.Motion.TheVariants.{Moved}
use Rattle.xfs_mech.specs.Motions.{NumberIs}
use Rattle.xfs_mech.specs.Mechanism.{source_of}
use Rattle.xfs_journal.specs.declared.record.Rec.{Rec}
use Rattle.xfs_journal.specs.declared.record.Rec.TheVariants.{Order}
use Rattle.xfs_journal.specs.Journal.{record_at, live_at, live_of, token_of, Numbered}
use Rattle.xfs_guard.specs.declared.open.Open.{Open}
use Rattle.xfs_guard.specs.declared.open.Open.TheVariants.{No, Written, Acted}
use Rattle.xfs_guard.specs.View.{View}
use Rattle.xfs_guard.specs.Agrees.{Agrees, IsNoOrder}
use Rattle.xfs_guard.specs.Budget.{Budget}
use Rattle.xfs_guard.specs.Presented.{presented_in, unsettled}
use Rattle.xfs_guard.specs.Within.{Within, shown}

-- the newest record is an order to present, in a segment with a token
pub record IsReleased (records : List Rec) : Type 0 where
  pub number : ℕ
  pub bytes : List ℕ
  pub before : live_at records (length records) ≡ Some number
  pub lives : live_of records ≡ Some number
  pub bound : token_of records number ≡ Some bytes

-- a fact of an order to present
abbrev pub IfPresent : Kind → Type 0 → Type 0
IfPresent Present Fact = Fact
IfPresent k Fact = ⊤

-- the open order is the newest record
abbrev pub OpenIsNewest : Open → List Rec → Places → Type 0
OpenIsNewest No records places = IsNoOrder (record_at records (length records))
OpenIsNewest (Written kind counts) records places = (record_at records (length records) ≡ Some (Order kind counts)) × LiesIn counts (source_of kind places) × IfPresent kind (IsReleased records)
OpenIsNewest (Acted kind moved diverted failed) records places = (counts : Counts) × (record_at records (length records) ≡ Some (Order kind counts)) × IfPresent kind (IsReleased records)

-- the mechanism's list against the open order
abbrev pub HasActed : Open → List Rec → List Motion → Type 0
HasActed No records motions = ⊤
HasActed (Written kind counts) records motions = AllByRecursion (NumberIs (λ n. n < length records)) motions
HasActed (Acted kind moved diverted failed) records motions = Contains motions (Moved (length records) kind moved diverted)

-- the journal and the mechanism's list
pub record Ties (v : View) (motions : List Motion) : Type 0 where
  pub agrees : Agrees v.records motions
  pub within : Within v.key v.units v.records motions
  pub counted : (p : ℕ) (c : List ℕ) → live_of v.records ≡ Some p → shown v.units v.records motions p c ≡ presented_in v.units v.records c + unsettled v.units v.open_order c
  pub acted : HasActed v.open_order v.records motions

-- a list that stands beside the journal's, where the disk tells the journal's
abbrev pub where_told : Bool → Option (List Motion) → Option (List Motion)
where_told true motions = motions
where_told false motions = None

-- what a guard keeps while its journal isn't shut and has its boot record
pub record IsSound (v : View) : Type 0 where
  pub numbered : v.disk_told ≡ true → Numbered v.records
  pub stands : OpenIsNewest v.open_order v.records v.places
  pub budget : Budget v
  pub told : IfTold (where_told v.disk_told v.motions) (Ties v)
