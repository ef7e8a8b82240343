-- The calls of the guard that a step may make.
use Rattle.std.specs.Prelude.{◌≡◌, ◌⊎◌, Bool, ⊤}
use Rattle.xfs_base.specs.declared.counts.Counts.{Counts}
use Rattle.xfs_dispenser.specs.Answers.{Start, Went}
use Rattle.xfs_dispenser.specs.Begins.{Begins}
use Rattle.xfs_dispenser.specs.Seen.{Seen, Becomes}
use Rattle.xfs_dispenser.specs.Steps.{Works}
use Rattle.xfs_dispenser.specs.declared.ask.CashAsk.{CashAsk}
use Rattle.xfs_dispenser.specs.declared.plan.Plan.{Plan}
use Rattle.xfs_journal.specs.declared.record.Rec.{Rec}
use Rattle.xfs_model.specs.Events.{Event, restart, finish}
use Rattle.xfs_model.specs.Guards.{Marks, Misses, CustomerTakes}

-- one call: a mark is written, or the disk fails at it; a command of the dispenser is checked, and its token bound; one step of a plan; the customer takes notes; or the journal was read in vain, as memory ran out
pub data GuardCall (old : Seen) : Seen → Type 0 where
  marked : (mark : Rec) (new : Seen) → Marks mark old new → GuardCall old new
  missed : (mark : Rec) (new : Seen) → Misses mark old new → GuardCall old new
  checked : (exchange after : Bool) (ask : CashAsk) (start : Start) (new : Seen) → Begins old exchange ask new after start → GuardCall old new
  worked : (plan left : Plan) (went : Went) (new : Seen) → Works old plan new left went → GuardCall old new
  took : (moved : Counts) (failed : Bool) (new : Seen) → CustomerTakes old moved failed new → GuardCall old new
  read : (new : Seen) → Becomes old old.guard new → GuardCall old new

abbrev pub AtMostOneCall : Seen → Seen → Type 0
AtMostOneCall old new = (new ≡ old) ⊎ GuardCall old new

-- a restart reads the journal again, and a finish acts and settles the open order
abbrev pub IsPlain : Event → Type 0
IsPlain restart = ⊥
IsPlain finish = ⊥
IsPlain other = ⊤
