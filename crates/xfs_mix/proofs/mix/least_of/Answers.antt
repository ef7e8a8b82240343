use Rattle.std.proofs.Common.{◌≡◌, ◌<◌, ◌%◌, ◌∙◌, arith}
use Rattle.std.proofs.lemmas.List.{length-map}
use Rattle.std.specs.Prelude.{map}
use Rattle.xfs_mix.specs.Steps.{in_steps}
use Rattle.xfs_mix.proofs.StepLaws.{values_in_steps, no_mix_between, no_mix_without, answer_of_steps}
use Rattle.xfs_mix.proofs.mix.least_of.Goals as goal
use Rattle.xfs_mix.proofs.mix.least_of.Goals.{then-step-eq0-via-then-step-eq0, then-step-eq0-via-else-step-eq0+then-amount-step-ne0}

pub returns-then-step-eq0 : goal.returns-then-step-eq0
returns-then-step-eq0 c = λ m is. elim c.then-step-eq0.branch [
  | then-step-eq0-via-then-step-eq0 w ↦
      let none : c.step_of-step.result ≡ 0 = omega (arith, w.if-step-eq0) in
      no_mix_without c.args.currency c.args.kinds.now c.args.have.now c.args.amount m (rw none at c.step_of-step.ensures.multiples) (omega arith) is
  | then-step-eq0-via-else-step-eq0+then-amount-step-ne0 w ↦
      no_mix_between c.step_of-step.result c.args.currency c.args.kinds.now c.args.have.now c.args.amount m c.step_of-step.ensures.multiples (λ even. omega (arith, even, w.if-amount-step-ne0)) is
]

pub least_in_steps-requires-clause-kinds : goal.least_in_steps-requires-clause-kinds
least_in_steps-requires-clause-kinds c =
    let same : c.deref.result.now ≡ map (in_steps c.step_of-step.result c.args.currency) c.args.kinds.now = c.deref.ensures.value ∙ c.in_ok-kinds.ensures in
    rw same record { few = rw length-map c.requires.kinds.few; values = values_in_steps c.step_of-step.result c.args.currency c.args.kinds.now c.step_of-step.ensures.multiples c.requires.kinds.values }

pub returns : goal.returns
returns c =
    let some : 0 < c.step_of-step.result = omega arith in
    let even : c.args.amount % c.step_of-step.result ≡ 0 = omega arith in
    let same : c.deref.result.now ≡ map (in_steps c.step_of-step.result c.args.currency) c.args.kinds.now = c.deref.ensures.value ∙ c.in_ok-kinds.ensures in
    answer_of_steps c.step_of-step.result c.args.currency c.args.kinds.now c.args.have.now c.args.amount c.least_in_steps.result some c.step_of-step.ensures.multiples even (rw same at c.least_in_steps.ensures)
