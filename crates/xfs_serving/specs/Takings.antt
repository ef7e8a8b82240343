-- What a server does to its doors: so many connections come, so often nobody has come, and none is dialled. It has served only where all came, and the doors failed once exactly where it ended so.
use Rattle.std.specs.Prelude.{◌≡◌, ◌≢◌, ◌≤◌, ℕ, Bool, true, false}
use Rattle.xfs_server.specs.Counted.{counted}
use Rattle.xfs_server.specs.Doors.{DoorLog}
use Rattle.xfs_serving.specs.declared.ending.Ending.{Ending}
use Rattle.xfs_serving.specs.declared.ending.Ending.TheVariants.{Served, Failed, Memory}

-- the doors after so many connections, so many quiets and so many faults
abbrev pub passed : ℕ → ℕ → ℕ → DoorLog → DoorLog
passed came quiets faults d = record d { came = counted came d.came; quiets = counted quiets d.quiets; faults = counted faults d.faults }

abbrev pub faults_in : Ending → ℕ
faults_in Served = 0
faults_in Failed = 1
faults_in Memory = 0

-- of `count` connections that are to come, those that came before this ending: all where they were served
pub record Takes (count : ℕ) (ending : Ending) (old new : DoorLog) : Type 0 where
  pub came : ℕ
  pub quiets : ℕ
  pub few : came ≤ count
  pub all : ending ≡ Served → came ≡ count
  pub is : new ≡ passed came quiets (faults_in ending) old

-- the doors after one look, at which a connection came or nobody did
abbrev pub looked : Bool → DoorLog → DoorLog
looked true d = passed 1 0 0 d
looked false d = passed 0 1 0 d

-- a look that ended the taking
pub record EndsTaking (ending : Ending) (old new : DoorLog) : Type 0 where
  pub early : ending ≢ Served
  pub takes : Takes 1 ending old new
