use Rattle.std.proofs.Common.{ℕ}
use Rattle.std.specs.Int.{◌∣◌}
use Rattle.xfs_mix.proofs.StepLaws.{AreMultiplesBelow}
use Rattle.xfs_mix.proofs.steps.step_of.Given as goal

abbrev pub invariant-loop-kind : goal.invariant-loop-kind
invariant-loop-kind l = record {
  multiples : AreMultiplesBelow l.kind-index l.step l.currency l.kinds;
  greatest : (d : ℕ) → AreMultiplesBelow l.kind-index d l.currency l.kinds → d ∣ l.step;
}
