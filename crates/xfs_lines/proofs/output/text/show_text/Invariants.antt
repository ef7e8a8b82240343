use Rattle.std.proofs.Common.{◌≡◌}
use Rattle.xfs_script.specs.Answered.{lines_text}
use Rattle.xfs_lines.specs.Guard.Texts.{show_lines}
use Rattle.xfs_lines.proofs.output.text.show_text.Given as goal

abbrev pub invariant-loop-place : goal.invariant-loop-place
invariant-loop-place l = l.text.items ≡ lines_text (show_lines l.place l.fn.places)
