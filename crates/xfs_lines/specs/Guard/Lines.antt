-- The lines of the command `guard`.
use Rattle.std.specs.Prelude.{ℕ, ◌≤◌, List, length}
use Rattle.xfs_script.specs.Guard.{IsGuardLine}
use Rattle.xfs_script.specs.declared.guard_line.GuardLine.{GuardLine}
use Rattle.xfs_script.specs.declared.feed.TheConstants.{LONGEST_LINE}

-- a line of at most 70,000 bytes that writes a verb
pub record IsLine (text : List ℕ) : Type 0 where
  pub verb : GuardLine
  pub reads : IsGuardLine text verb
  pub short : length text ≤ LONGEST_LINE
