use Rattle.std.proofs.Common.{sym, ◌∙◌, arith}
use Rattle.xfs_mix.proofs.StepLaws.{multiples-more, multiples-same, greatest-more}
use Rattle.xfs_mix.proofs.steps.step_of.Goals as goal
use Rattle.xfs_mix.proofs.steps.step_of.Goals.{then-eq, else-eq}

pub loop-kind-preserved : goal.loop-kind-preserved
loop-kind-preserved c =
    let ks = c.args.kinds.now in
    let cur = c.args.currency in
    let i = c.loop-kind.kind-index in
    let before = c.loop-kind.invariant in
    elim c.if-eq.branch [
      | then-eq w ↦ rw w.step-is record {
        multiples = multiples-more ks cur i c.loop-kind.step w.greatest_divisor-step.result c.kind-item.result c.loop-kind-test.true c.kind-item.is w.greatest_divisor-step.ensures before.multiples;
        greatest = greatest-more ks cur i c.loop-kind.step w.greatest_divisor-step.result c.kind-item.result c.loop-kind-test.true c.kind-item.is (sym c.eq.ensures ∙ w.if-eq.true) w.greatest_divisor-step.ensures before.greatest;
      }
      | else-eq w ↦ rw w.step-is record {
        multiples = multiples-same ks cur i c.loop-kind.step c.kind-item.result c.loop-kind-test.true c.kind-item.is (sym c.eq.ensures ∙ w.if-eq.false) before.multiples;
        greatest = λ d all. before.greatest d (λ v k lt. all v k (omega (arith, lt)));
      }
    ]
