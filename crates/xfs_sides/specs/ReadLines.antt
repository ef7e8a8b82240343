-- Where the lines of a command are those that `read_replay` reads, the lines of it over two sides are those that `read_fleet` reads.
use Rattle.std.specs.Prelude.{◌↔◌, ◌≤◌, ℕ, List, length}
use Rattle.xfs_script.specs.Commands.{Command}
use Rattle.xfs_script.specs.FleetLines.{IsFleetLine}
use Rattle.xfs_script.specs.ReplayLines.{IsReplayLine}
use Rattle.xfs_script.specs.declared.feed.TheConstants.{LONGEST_LINE}
use Rattle.xfs_script.specs.declared.fleet_line.FleetLine.{FleetLine}
use Rattle.xfs_script.specs.declared.replay_line.ReplayLine.{ReplayLine}
use Rattle.xfs_sides.specs.Sides.{IsSideLine}

-- a text of at most 70,000 bytes that is a line of `replay`
pub record IsReplayText (text : List ℕ) : Type 0 where
  pub line : ReplayLine
  pub reads : IsReplayLine text line
  pub short : length text ≤ LONGEST_LINE

-- a text of at most 70,000 bytes that is a line of `fleet`
pub record IsFleetText (text : List ℕ) : Type 0 where
  pub line : FleetLine
  pub reads : IsFleetLine text line
  pub short : length text ≤ LONGEST_LINE

-- the command's lines are those of `replay`
abbrev pub HasReplayLines : {S E : Type 0} → Command S E → Type 0
HasReplayLines c = (text : List ℕ) → c.IsLine text ↔ IsReplayText text

-- the lines of the command over two sides are those of `fleet`
abbrev pub HasFleetLines : {S E : Type 0} → Command S E → Type 0
HasFleetLines c = (text : List ℕ) → IsSideLine c text ↔ IsFleetText text
