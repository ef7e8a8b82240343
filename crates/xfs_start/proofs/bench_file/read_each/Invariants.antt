use Rattle.std.proofs.Common.{take}
use Rattle.std.specs.Prelude.{map}
use Rattle.std.specs.List.{AllZip}
use Rattle.xfs_script.specs.Lines.{without_return}
use Rattle.xfs_start.specs.BenchLines.{IsBenchLine}
use Rattle.xfs_start.proofs.bench_file.read_each.Given as goal

abbrev pub invariant-loop-piece : goal.invariant-loop-piece
invariant-loop-piece l = AllZip IsBenchLine (map (λ piece. without_return piece.now) (take l.piece-index l.pieces)) l.read.items
