use Rattle.std.proofs.Common.{ℕ, ◌≤◌, List, take, drop}
use Rattle.std.specs.Prelude.{IfSome}
use Rattle.xfs_guard.specs.Agrees.{RisesFrom}
use Rattle.xfs_audit.specs.Claims.{IsUnder}
use Rattle.xfs_audit.specs.Paying.{IsPaying}
use Rattle.xfs_audit.proofs.within.is_within.Given as goal

-- the motions before this one are paid for, and records were read no further than their numbers
abbrev pub invariant-loop-entry : goal.invariant-loop-entry
invariant-loop-entry l = record {
  paying : IsPaying l.key l.units l.records (take l.entry-index l.motions) l.payer;
  small : IfSome l.payer.claim IsUnder;
  rises : (low : ℕ) × RisesFrom low (drop l.entry-index l.motions) × (l.payer.read.count ≤ low);
}
