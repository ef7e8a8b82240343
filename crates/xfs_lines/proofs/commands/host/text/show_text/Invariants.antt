use Rattle.std.proofs.Common.{◌≡◌, map, take}
use Rattle.xfs_script.specs.Answered.{lines_text}
use Rattle.xfs_lines.proofs.HostTexts.{line_of}
use Rattle.xfs_lines.proofs.commands.host.text.show_text.Given as goal

-- the lines of the accounts before this one
abbrev pub invariant-loop-i : goal.invariant-loop-i
invariant-loop-i l = l.text.items ≡ lines_text (map line_of (take l.i l.accounts.items))
