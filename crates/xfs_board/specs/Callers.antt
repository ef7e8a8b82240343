-- A caller at the lock of a machine: what its seat has seen, and what its tally counts.
use Rattle.std.specs.Prelude.{List, [], Option, Some, None}
use Rattle.xfs_machine.specs.Tallies.{TallyView}
use Rattle.xfs_turn.specs.Seats.{Seated}
use Rattle.xfs_board.specs.declared.shared.Entry.{Entry}

pub record CallerView (M D : Type 0) : Type 0 where
  pub seen : List (Entry M D)
  pub tally : TallyView

-- a caller that has made no calls
abbrev pub fresh : {M D : Type 0} → List (Entry M D) → CallerView M D
fresh seen = record { seen = seen; tally = record { posts = 0; touches = 0; works = 0; outboxes = 0 } }

-- what a seat has seen, where it is there
abbrev pub seen_by : {E : Type 0} → Option (Seated E) → List E
seen_by None = []
seen_by (Some seat) = seat.seen
