use Rattle.std.proofs.Common.{◌∙◌, refl}
use Rattle.xfs_queue.specs.Commands.{is_waiting}
use Rattle.xfs_queue.specs.declared.command.Stage.TheVariants.{Running}
use Rattle.xfs_traffic.proofs.ChangeLaws.{pending_changed, planned, waits_there}
use Rattle.xfs_machine.proofs.begin.start_plan.Goals as goal

pub job-requires : goal.job-requires
job-requires c =
    rw c.start.ensures (pending_changed (λ b. record b { stage = Running }) (λ b. refl) c.args.ticket c.args.queue.now
    ∙ waits_there (λ b. is_waiting b.stage) c.args.ticket c.args.queue.now c.requires.waiting)

pub returns : goal.returns
returns c =
    let there = rw c.start.ensures at c.job.ensures.now in
    let kept = rw c.start.ensures at c.job.ensures.valid in
    rw (c.go_on.ensures, c.start.ensures) (planned c.args.plan c.args.ticket c.args.queue.now c.job.result.now there kept)
