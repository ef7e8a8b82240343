use Rattle.std.proofs.Common.{List, ℕ, subst}
use Rattle.xfs_script.specs.Lines.{without_return}
use Rattle.xfs_start.specs.BenchLines.{IsBenchLine}
use Rattle.xfs_start.proofs.NumberLaws.{zip_more}
use Rattle.xfs_start.proofs.bench_file.read_each.Goals as goal

pub loop-piece-preserved : goal.loop-piece-preserved
loop-piece-preserved c =
    let P : List ℕ → Type 0 = λ text. IsBenchLine text c.in_ok-line.line in
    rw c.in_ok-add.ensures
    (zip_more IsBenchLine (λ piece. without_return piece.now) c.args.pieces.now c.loop-piece.read.items c.loop-piece.piece-index _ c.in_ok-line.line c.loop-piece-test.true c.loop-piece.invariant
    (subst P c.without_return.ensures c.in_ok-line.ensures.ok))
