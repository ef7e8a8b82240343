use Rattle.std.proofs.lemmas.Result.{IfOk-weaker}
use Rattle.xfs_dispenser.specs.Answers.{went_of}
use Rattle.xfs_dispenser.specs.Seen.{seen}
use Rattle.xfs_dispenser.specs.Steps.{Works}
use Rattle.xfs_dispenser.proofs.SendLaws.{works-sent}
use Rattle.xfs_dispenser.proofs.WorkLaws.{at-answer, at-more, work-over, work-planned}
use Rattle.xfs_dispenser.proofs.steps.work.Goals as goal

pub returns-clause-planned : goal.returns-clause-planned
returns-clause-planned g c = λ is.
    let s = seen g.D.Disk c.args.guard.now in
    let next = seen g.D.Disk c.step.new.guard in
    work-planned s c.args.plan.now next c.step.new.plan c.requires (at-more (λ w. Works s c.args.plan.now next c.step.new.plan w) c.step.result c.step.ensures.works is)

pub returns-clause-over : goal.returns-clause-over
returns-clause-over g c =
    let s = seen g.D.Disk c.args.guard.now in
    let next = seen g.D.Disk c.step.new.guard in
    at-answer _ (λ w. Works s c.args.plan.now next c.step.new.plan w) c.step.result (λ answer w. work-over s c.args.plan.now next c.step.new.plan answer w) c.step.ensures.works

pub returns-clause-payload : goal.returns-clause-payload
returns-clause-payload g c =
    let s = seen g.D.Disk c.args.guard.now in
    let next = seen g.D.Disk c.step.new.guard in
    IfOk-weaker c.step.result _ _ (λ p w. works-sent s c.args.plan.now next c.step.new.plan (went_of p) w) c.step.ensures.works
