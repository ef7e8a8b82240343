use Rattle.std.proofs.Common.{◌≡◌, take}
use Rattle.xfs_load.specs.Generator.{hears_all}
use Rattle.xfs_load.proofs.client.Client.hear_all.Given as goal

abbrev pub invariant-loop-frame : goal.invariant-loop-frame
invariant-loop-frame l = record {
  heard : l.self ≡ hears_all l.ask l.fn.self (take l.frame-index l.frame-items);
  asked : l.self.asked ≡ l.fn.self.asked;
  refused : l.self.refused ≡ l.fn.self.refused;
}
