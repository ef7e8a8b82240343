use Rattle.std.proofs.Common.{◌≡◌, ◌++◌, Some}
use Rattle.std.specs.Vec.Iter.{into_iter_items}
use Rattle.xfs_simulated.specs.Setups.{setup_of}
use Rattle.xfs_start.specs.BenchFile.{setup_by}
use Rattle.xfs_start.proofs.bench_file.set_up.Given as goal

abbrev pub invariant-loop-line : goal.invariant-loop-line
invariant-loop-line l = record {
  split : l.yielded ++ into_iter_items l.line-iterator ≡ l.fn.lines.items;
  set : setup_by l.yielded ≡ Some (setup_of l.setup);
}
