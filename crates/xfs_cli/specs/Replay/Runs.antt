-- A run of `replay`.
use Rattle.std.specs.Prelude.{◌≡◌, ℕ, List, String, [], length}
use Rattle.xfs_disk.specs.declared.disk.Disk.{Ghosts as Disks}
use Rattle.xfs_mech.specs.declared.mechanism.Mechanism.{Ghosts as Mechanisms}
use Rattle.xfs_guard.specs.declared.machine_core.Core.{Core}
use Rattle.xfs_model.specs.State.{bare}
use Rattle.xfs_guard.specs.Entries.{AtEntry, at_entry}
use Rattle.xfs_lines.specs.Guard.Starts.{IsStart}
use Rattle.xfs_cli.specs.Replay.Command.{replay_lines}
use Rattle.xfs_cli.specs.Replay.States.{Played, guard_state_of}
use Rattle.xfs_lines.specs.Runs.{Runs}
use Rattle.xfs_script.specs.Streams.{Streams}
use Rattle.xfs_lines.specs.Returns.{Return, back}
use Rattle.std.specs.declared.alloc.Global.{Global}
use Rattle.xfs_lines.specs.declared.ended.Ended.{Ended}
use Rattle.xfs_lines.specs.Run.{IsReplay}

-- the state that the boot begins: a machine over the guard that the boot of `guard` begins too, with this life of a nonce; no client is joined, the moment is 0, and no token was minted
pub record Begins (e : AtEntry) (life : ℕ) (start : Played) : Type 0 where
  pub boots : IsStart e (guard_state_of start)
  pub machine : start.machine ≡ bare start.machine.seen life (length start.machine.seen.guard.records)
  pub clients : start.clients ≡ []
  pub now : start.now.0 ≡ 0

-- the lines of `replay` are answered from the state that the boot begins
abbrev pub RunsReplay : {M D : Type 0} → Mechanisms M → Disks D → Core M D → Return M D → Streams → Type 0
RunsReplay m d core result io = Runs replay_lines guard_state_of (Begins (at_entry m d core) core.life) m d core result io

-- the words `replay` have a run of `replay`
abbrev pub RunsReplayOf : {M D L : Type 0} → List (String Global) → Mechanisms M → Disks D → Core M D → Ended M D L → Streams → Type 0
RunsReplayOf words m d core ended io = IsReplay words → RunsReplay m d core (back ended) io
