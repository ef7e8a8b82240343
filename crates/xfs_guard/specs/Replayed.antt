-- The motions that a journal stands for: its orders with a Done, its loads, and what was taken from the outlet in between.
use Rattle.std.specs.Prelude.{◌≡◌, ℕ, ◌+◌, ◌-◌, ◌≤◌, ◌==◌, List, [], ◌∷◌, ◌++◌, fold, map, replicate, sum, Some, None, if◌then◌else◌, ⊤}
use Rattle.std.specs.declared.option.Option.{Option}
use Rattle.xfs_base.specs.Counts.{at}
use Rattle.xfs_base.specs.declared.counts.Counts.{Counts}
use Rattle.xfs_base.specs.declared.counts.Kind.{Kind}
use Rattle.xfs_base.specs.declared.counts.Kind.TheVariants.{Present, Retract}
use Rattle.xfs_mech.specs.declared.motion.Motion.{Motion}
use Rattle.xfs_mech.specs.declared.motion.Motion.TheVariants.{Moved, Taken, Loaded}
use Rattle.xfs_journal.specs.declared.record.Rec.{Rec}
use Rattle.xfs_journal.specs.declared.record.Rec.TheVariants.{Order, Done, Load}
use Rattle.xfs_base.specs.declared.counts.Places.{Places}
use Rattle.xfs_journal.specs.Journal.{boot_places, Walk}
use Rattle.xfs_guard.specs.Agrees.{Agrees, MayFollow, keep_last}

-- how many records were read, the kind of the order that was the last of them, what lies in the outlet, and the motions
pub record Replay : Type 0 where
  pub count : ℕ
  pub ordered : Option Kind
  pub outlet : Counts
  pub motions : List Motion

-- at first nothing lies in the outlet
abbrev pub nothing_replayed : Replay
nothing_replayed = record { count = 0; ordered = None; outlet = record { 0 = replicate 8 0 }; motions = [] }

-- notes are taken from the outlet, where it isn't empty
abbrev pub taken_of : Counts → List Motion
taken_of outlet = if sum outlet.0 == 0 then [] else Taken outlet ∷ []

-- an order presents notes only once those before were taken
abbrev pub taken_before : Kind → Counts → List Motion
taken_before Present outlet = taken_of outlet
taken_before kind outlet = []

-- what a Done tells of the order before it, which has this number
abbrev pub done_motions : ℕ → Option Kind → Counts → Counts → Counts → List Motion
done_motions number (Some kind) outlet moved diverted = taken_before kind outlet ++ Moved number kind moved diverted ∷ []
done_motions number None outlet moved diverted = []

-- the motions that a record adds: those of a Done, and the loads
abbrev pub motions_after : Replay → Rec → List Motion
motions_after r (Done moved diverted) = r.motions ++ done_motions r.count r.ordered r.outlet moved diverted
motions_after r (Load unit count) = r.motions ++ Loaded unit count ∷ []
motions_after r x = r.motions

-- what is left in each unit; a count that would fall below 0 stays there
abbrev pub left_of : Counts → Counts → Counts
left_of counts gone = record { 0 = map (λ u. at counts u - at gone u) (0 ∷ 1 ∷ 2 ∷ 3 ∷ 4 ∷ 5 ∷ 6 ∷ 7 ∷ []) }

-- an order to present leaves its notes in the emptied outlet, and one to retract takes its notes out of it
abbrev pub outlet_done : Option Kind → Counts → Counts → Counts
outlet_done (Some Present) outlet moved = moved
outlet_done (Some Retract) outlet moved = left_of outlet moved
outlet_done ordered outlet moved = outlet

-- the outlet of places that are told; where none are told it is as before
abbrev pub outlet_told : Option Places → Counts → Counts
outlet_told (Some places) outlet = places.outlet
outlet_told None outlet = outlet

-- what lies in the outlet: a boot record tells it, and a Done changes it
abbrev pub outlet_after : Replay → Rec → Counts
outlet_after r (Done moved diverted) = outlet_done r.ordered r.outlet moved
outlet_after r x = outlet_told (boot_places x) r.outlet

-- the kind of an order
abbrev pub ordered_by : Rec → Option Kind
ordered_by (Order kind counts) = Some kind
ordered_by r = None

-- a Done is read, of the order that was read last
abbrev pub replay_done : Replay → Counts → Counts → Replay
replay_done r moved diverted = record r {
  outlet = outlet_done r.ordered r.outlet moved;
  motions = r.motions ++ done_motions r.count r.ordered r.outlet moved diverted;
}

-- one more record is read
abbrev pub replay_after : Replay → Rec → Replay
replay_after r x = record { count = r.count + 1; ordered = ordered_by x; outlet = outlet_after r x; motions = motions_after r x }

-- what all records tell
abbrev pub replay : List Rec → Replay
replay records = fold replay_after nothing_replayed records

-- the motions that the records stand for; at the end what lies in the outlet is taken
abbrev pub replayed : List Rec → List Motion
replayed records = (replay records).motions ++ taken_of (replay records).outlet

-- a moved entry's number with the base on top; any other entry as it is
abbrev pub renumber : ℕ → Motion → Motion
renumber base (Moved number kind moved diverted) = Moved (base + number) kind moved diverted
renumber base m = m

-- the entries, with the base on top of each number
abbrev pub renumbered : ℕ → List Motion → List Motion
renumbered base motions = map (renumber base) motions

-- the list agrees with the records, but for the base on top of its numbers
pub record AgreesFrom (base : ℕ) (records : List Rec) (list : List Motion) : Type 0 where
  pub motions : List Motion
  pub agrees : Agrees records motions
  pub counted : list ≡ renumbered base motions

-- a Done moved and diverted no more than the order before it asked for
abbrev pub KeepsWithin : Option Rec → Rec → Type 0
KeepsWithin (Some (Order kind counts)) (Done moved diverted) = (u : ℕ) → at moved u + at diverted u ≤ at counts u
KeepsWithin before r = ⊤

-- the records' orders and dones stand as they are written, and no done passes its order's counts
pub record CanReplay (records : List Rec) : Type 0 where
  pub shape : Walk keep_last MayFollow None records
  pub within : Walk keep_last KeepsWithin None records
