-- A run of the program by its command: what the command says of its own, and what is said of every run.
use Rattle.std.specs.Prelude.{◌≡◌, ◌≢◌, ℕ, List, None, ⊤}
use Rattle.xfs_disk.specs.declared.disk.Disk.{Ghosts as Disks}
use Rattle.xfs_mech.specs.declared.mechanism.Mechanism.{Ghosts as Mechanisms}
use Rattle.xfs_guard.specs.declared.bench.Bench.{Bench}
use Rattle.xfs_script.specs.Streams.{Output, Streams}
use Rattle.xfs_server.specs.Doors.{DoorLog}
use Rattle.xfs_server.specs.Links.{LinkLog}
use Rattle.xfs_words.specs.Words.{Names}
use Rattle.xfs_words.specs.declared.command.Command.{Command}
use Rattle.xfs_words.specs.declared.command.Command.TheVariants.{Guard, Token, Replay, Load, Serve, Client, Host, Audit, Fleet}
use Rattle.xfs_lines.specs.Audit.Runs.{RunsAudit}
use Rattle.xfs_lines.specs.Guard.Runs.{RunsGuard}
use Rattle.xfs_lines.specs.Headlines.{EndsWell}
use Rattle.xfs_lines.specs.Host.Runs.{RunsHost}
use Rattle.xfs_lines.specs.Output.Statuses.{IsCaused, IsStatus}
use Rattle.xfs_lines.specs.Returns.{ComesBack, back, second_back}
use Rattle.xfs_lines.specs.Token.Runs.{RunsToken}
use Rattle.xfs_lines.specs.declared.ended.Ended.{Ended}
use Rattle.xfs_lines.specs.declared.output.status.TheConstants.{USAGE}
use Rattle.xfs_cli.specs.ClientRuns.{IsUndialled, RunsClientFor}
use Rattle.xfs_cli.specs.FleetRuns.{RunsBoth}
use Rattle.xfs_cli.specs.LoadRuns.{RunsLoad}
use Rattle.xfs_cli.specs.Replay.Runs.{RunsReplay}
use Rattle.xfs_cli.specs.ServeRuns.{RunsServe}

-- some words name the command, so its numbers and its currency are those that words may give
pub record IsNamed (command : Command) : Type 0 where
  pub words : List (List ℕ)
  pub names : Names command words

-- what a command gives back that dials nothing, where a link could be
abbrev pub without_link : {M D X L : Type 0} → Ended M D X → Ended M D L
without_link ended = record { status = ended.status; mech = ended.mech; disk = ended.disk; link = None; second = ended.second }

-- ---- what a command says of its own

-- the run of a command that asks nothing of the doors
abbrev pub RunsDoorless : {M D P Q L : Type 0} → Command → Mechanisms M → Disks D → Bench M D P Q → Ended M D L → Streams → Type 0
RunsDoorless Guard m d bench ended io = RunsGuard m d bench.core (back ended) io
RunsDoorless Token m d bench ended io = RunsToken bench.core (back ended) io
RunsDoorless Replay m d bench ended io = RunsReplay m d bench.core (back ended) io
RunsDoorless (Load rounds) m d bench ended io = RunsLoad m d bench.core rounds (back ended) io
RunsDoorless (Serve connections) m d bench ended io = ⊤
RunsDoorless (Client currency amount) m d bench ended io = ⊤
RunsDoorless Host m d bench ended io = RunsHost bench.core (back ended) io
RunsDoorless Audit m d bench ended io = RunsAudit bench.core (back ended) io
RunsDoorless Fleet m d bench ended io = RunsBoth m d bench ended io

-- what is done at the doors: `serve` takes connections, and `client` alone dials
abbrev pub AtDoors : {M D P Q L : Type 0} → Command → Mechanisms M → Disks D → (L → LinkLog) → Bench M D P Q → Ended M D L → DoorLog → DoorLog → Output → Type 0
AtDoors (Serve connections) m d log bench ended before now o = RunsServe m d bench.core connections (back ended) before now o × IsUndialled ended.link before now
AtDoors (Client currency amount) m d log bench ended before now o = RunsClientFor log currency amount bench.core ended before now o
AtDoors command m d log bench ended before now o = IsUndialled ended.link before now

-- ---- what is said of every run

abbrev pub ReadsNothing : Command → Type 0
ReadsNothing (Load rounds) = ⊤
ReadsNothing (Serve connections) = ⊤
ReadsNothing (Client currency amount) = ⊤
ReadsNothing command = ⊥

-- `serve` and `client` have statuses of their own
abbrev pub HasStatus : Command → ℕ → Type 0
HasStatus (Serve connections) status = ⊤
HasStatus (Client currency amount) status = ⊤
HasStatus command status = IsStatus status

-- the statuses of the input are those of a command that reads it
abbrev pub HasCauses : Command → ℕ → Streams → Type 0
HasCauses (Load rounds) status io = ⊤
HasCauses (Serve connections) status io = ⊤
HasCauses (Client currency amount) status io = ⊤
HasCauses command status io = IsCaused status io

-- `fleet` alone touches the second machine
abbrev pub LeavesSecond : {M D P Q L : Type 0} → Command → Bench M D P Q → Ended M D L → Type 0
LeavesSecond Fleet bench ended = ⊤
LeavesSecond command bench ended = ComesBack bench.second (second_back ended)

pub record HasRun {S M D P Q L : Type 0} (command : Command) (m : Mechanisms M) (d : Disks D) (bench : Bench M D P Q) (ended : Ended M D L) (before after : S) (io : Streams) : Type 0 where
  pub ends : EndsWell m d bench.core (back ended)
  pub runs : RunsDoorless command m d bench ended io
  pub usage : ended.status ≢ USAGE
  pub unread : ReadsNothing command → after ≡ before
  pub statuses : HasStatus command ended.status
  pub causes : HasCauses command ended.status io
  pub second : LeavesSecond command bench ended
