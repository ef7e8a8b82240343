use Rattle.std.proofs.Common.{take}
use Rattle.xfs_simulated.specs.Leaving.{Leads}
use Rattle.xfs_simulated.proofs.leaving.after_all.Given as goal

-- the motions before this one were made
abbrev pub invariant-loop-motion : goal.invariant-loop-motion
invariant-loop-motion l = Leads l.units l.start (take l.motion-index l.motions) l.places
