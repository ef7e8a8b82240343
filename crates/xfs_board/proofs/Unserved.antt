-- A server that found no memory before it looked at its doors has done nothing to them.
use Rattle.std.proofs.Common.{◌≢◌, ℕ, refl, arith, rules}
use Rattle.xfs_server.specs.Doors.{DoorLog}
use Rattle.xfs_serving.specs.Takings.{Takes}
use Rattle.xfs_serving.specs.declared.ending.Ending.TheVariants.{Served, Memory}

starved : Memory ≢ Served
starved e = search rules

pub none_taken : (count : ℕ) (log : DoorLog) → Takes count Memory log log
none_taken count log = record { came = 0; quiets = 0; few = omega arith; all = λ e. absurd (starved e); is = refl }
