use Rattle.std.proofs.Common.{◌≡◌, []}
use Rattle.xfs_token.specs.Amounts.{IsAmounts}
use Rattle.xfs_script.specs.Fields.{parts}
use Rattle.xfs_token.proofs.AmountsBehind.{read_onto}
use Rattle.xfs_script.proofs.Parts.{parts_left, size_left}
use Rattle.xfs_script.proofs.amounts.read_amounts.Given as goal

abbrev pub invariant-loop-rest : goal.invariant-loop-rest
invariant-loop-rest l = record {
  same : read_onto [] (parts l.fn.text) ≡ read_onto l.amounts (parts_left l.rest);
  valid : IsAmounts l.amounts;
}

abbrev pub decreases-loop-rest : goal.decreases-loop-rest
decreases-loop-rest l = size_left l.rest
