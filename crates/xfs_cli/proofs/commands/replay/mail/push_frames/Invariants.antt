use Rattle.std.proofs.Common.{◌≡◌, ◌++◌, take, map}
use Rattle.xfs_script.specs.Answered.{lines_text}
use Rattle.xfs_cli.specs.Replay.Events.{frame_line}
use Rattle.xfs_cli.proofs.commands.replay.mail.push_frames.Given as goal

abbrev pub invariant-loop-frame : goal.invariant-loop-frame
invariant-loop-frame l = l.text.items ≡ l.fn.text.items ++ lines_text (map (frame_line l.number) (take l.frame-index l.frame-items))
