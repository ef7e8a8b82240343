-- How a command over lines ends.
use Rattle.std.specs.Prelude.{◌≢◌}
use Rattle.xfs_guard.specs.declared.machine_core.Core.{Core}
use Rattle.xfs_script.specs.Streams.{Streams}
use Rattle.xfs_lines.specs.Output.Statuses.{IsCaused, IsStatus}
use Rattle.xfs_lines.specs.Returns.{ComesBack, second_back}
use Rattle.xfs_lines.specs.declared.ended.Ended.{Ended}
use Rattle.xfs_lines.specs.declared.output.status.TheConstants.{USAGE}

-- with a status that has its cause, and never with that of wrong words; the second machine comes back as it was
pub record EndsLines {M D L : Type 0} (other : Core M D) (ended : Ended M D L) (io : Streams) : Type 0 where
  pub usage : ended.status ≢ USAGE
  pub status : IsStatus ended.status
  pub cause : IsCaused ended.status io
  pub second : ComesBack other (second_back ended)
