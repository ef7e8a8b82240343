-- A run of `guard`.
use Rattle.std.specs.Prelude.{List, String}
use Rattle.xfs_disk.specs.declared.disk.Disk.{Ghosts as Disks}
use Rattle.xfs_mech.specs.declared.mechanism.Mechanism.{Ghosts as Mechanisms}
use Rattle.xfs_guard.specs.declared.machine_core.Core.{Core}
use Rattle.xfs_lines.specs.Guard.Command.{guard_lines}
use Rattle.xfs_guard.specs.Entries.{at_entry}
use Rattle.xfs_lines.specs.Guard.Starts.{IsStart}
use Rattle.xfs_lines.specs.Runs.{Runs}
use Rattle.xfs_lines.specs.Guard.States.{GuardState}
use Rattle.xfs_script.specs.Streams.{Streams}
use Rattle.xfs_lines.specs.Returns.{Return, back}
use Rattle.std.specs.declared.alloc.Global.{Global}
use Rattle.xfs_lines.specs.declared.ended.Ended.{Ended}
use Rattle.xfs_lines.specs.Run.{IsGuard}

-- the lines of `guard` are answered from the state that the boot begins, which is seen whole
abbrev pub RunsGuard : {M D : Type 0} → Mechanisms M → Disks D → Core M D → Return M D → Streams → Type 0
RunsGuard m d core result io = Runs guard_lines (λ (s : GuardState). s) (IsStart (at_entry m d core)) m d core result io

-- the words `guard` have a run of `guard`
abbrev pub RunsGuardOf : {M D L : Type 0} → List (String Global) → Mechanisms M → Disks D → Core M D → Ended M D L → Streams → Type 0
RunsGuardOf words m d core ended io = IsGuard words → RunsGuard m d core (back ended) io
