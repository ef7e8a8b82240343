use Rattle.std.proofs.Common.{◌≡◌, take}
use Rattle.std.specs.Prelude.{map}
use Rattle.xfs_mix.specs.Steps.{in_steps}
use Rattle.xfs_mix.proofs.steps.in_steps.Given as goal

abbrev pub invariant-loop-kind : goal.invariant-loop-kind
invariant-loop-kind l = l.counted.items ≡ map (in_steps l.step l.currency) (take l.kind-index l.kinds)
