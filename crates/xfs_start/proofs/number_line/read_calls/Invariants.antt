use Rattle.std.proofs.Common.{take}
use Rattle.std.specs.Prelude.{map}
use Rattle.std.specs.List.{AllZip}
use Rattle.xfs_start.specs.BenchLines.{IsCall}
use Rattle.xfs_start.proofs.number_line.read_calls.Given as goal

abbrev pub invariant-loop-place : goal.invariant-loop-place
invariant-loop-place l = AllZip IsCall (map (λ field. field.now) (take l.place-index l.places)) l.calls.items
