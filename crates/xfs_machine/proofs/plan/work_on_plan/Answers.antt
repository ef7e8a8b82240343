use Rattle.std.proofs.Common.{◌≡◌, ◌&&◌, not, Some, None, find, ap, sym, subst, refl, ◌∙◌}
use Rattle.std.specs.Option.{option_map}
use Rattle.std.proofs.lemmas.Option.{none-some, same_Some}
use Rattle.xfs_dispenser.proofs.StepLaws.{Keeps-fewer}
use Rattle.xfs_dispenser.specs.Answers.{went_of}
use Rattle.xfs_dispenser.specs.Plans.{IsPlanned}
use Rattle.xfs_dispenser.specs.Seen.{seen}
use Rattle.xfs_queue.specs.Commands.{is_at, is_running, ticket_of}
use Rattle.xfs_queue.specs.Queue.{IsQueue}
use Rattle.xfs_queue.specs.declared.command.Command.{Command}
use Rattle.xfs_model.specs.State.{Job}
use Rattle.xfs_traffic.specs.Jobs.{changed_at}
use Rattle.xfs_machine.specs.Parts.{at_cash, with_job_plan}
use Rattle.xfs_machine.proofs.PlanLaws.{one_plan, plan_back, plan_taken, plan_worked, step_adds}
use Rattle.xfs_machine.proofs.plan.work_on_plan.Goals as goal

pub unreachable-requires-in_default-take_plan : goal.unreachable-requires-in_default-take_plan
unreachable-requires-in_default-take_plan g c =
    let a = c.in-Some.command.now in
    let runs_ : find (λ b. is_running b.stage) c.args.queues.now.cash ≡ Some a = rw c.at.ensures at (sym c.in-Some.ensures.first) in
    let valid : IsQueue c.args.queues.now.cash = rw c.at.ensures at c.in-Some.ensures.valid in
    let had : option_map (λ (b : Command Job). b.job.plan) (find (is_at (ticket_of a)) c.args.queues.now.cash) ≡ Some c.take_plan.result = rw (c.at_mut.ensures.now, c.ticket-ticket.ensures) at c.take_plan.ensures.had in
    let taken : a.job.plan ≡ c.take_plan.result = plan_taken c.args.queues.now.cash a c.take_plan.result runs_ valid had in
    let planned : a.job.plan ≡ Some c.requires.plan = ap (λ (b : Command Job). b.job.plan) (same_Some a c.requires.command (sym runs_ ∙ c.requires.runs)) ∙ c.requires.planned in
    none-some c.requires.plan (sym c.in_default-take_plan.is ∙ (sym taken ∙ planned))

pub work-requires : goal.work-requires
work-requires g c =
    let a = c.in-Some.command.now in
    let runs_ : find (λ b. is_running b.stage) c.args.queues.now.cash ≡ Some a = rw c.at.ensures at (sym c.in-Some.ensures.first) in
    let valid : IsQueue c.args.queues.now.cash = rw c.at.ensures at c.in-Some.ensures.valid in
    let had : option_map (λ (b : Command Job). b.job.plan) (find (is_at (ticket_of a)) c.args.queues.now.cash) ≡ Some c.take_plan.result = rw (c.at_mut.ensures.now, c.ticket-ticket.ensures) at c.take_plan.ensures.had in
    let taken : a.job.plan ≡ c.take_plan.result = plan_taken c.args.queues.now.cash a c.take_plan.result runs_ valid had in
    let planned : a.job.plan ≡ Some c.requires.plan = ap (λ (b : Command Job). b.job.plan) (same_Some a c.requires.command (sym runs_ ∙ c.requires.runs)) ∙ c.requires.planned in
    subst (IsPlanned c.args.guard.now.state) (one_plan c.requires.plan c.in-Some-take_plan.plan (sym planned ∙ (taken ∙ c.in-Some-take_plan.is))) c.requires.can

pub returns-in-Ok-clause-works : goal.returns-in-Ok-clause-works
returns-in-Ok-clause-works g c = λ s.
    let a = c.in-Some.command.now in
    let runs_ : find (λ b. is_running b.stage) c.args.queues.now.cash ≡ Some a = rw c.at.ensures at (sym c.in-Some.ensures.first) in
    let valid : IsQueue c.args.queues.now.cash = rw c.at.ensures at c.in-Some.ensures.valid in
    let had : option_map (λ (b : Command Job). b.job.plan) (find (is_at (ticket_of a)) c.args.queues.now.cash) ≡ Some c.take_plan.result = rw (c.at_mut.ensures.now, c.ticket-ticket.ensures) at c.take_plan.ensures.had in
    let taken : a.job.plan ≡ c.take_plan.result = plan_taken c.args.queues.now.cash a c.take_plan.result runs_ valid had in
    let first : record c.args.queues.now { cash = c.take_plan.new.queue } ≡ record c.args.queues.now { cash = changed_at (with_job_plan None) (ticket_of a) c.args.queues.now.cash }
    = ap (λ q. record c.args.queues.now { cash = q }) (rw (c.at_mut.ensures.now, c.ticket-ticket.ensures) at c.take_plan.ensures.left) in
    plan_worked (at_cash s (seen g.D.Disk c.args.guard.now) c.args.queues.now) a c.in-Some-take_plan.plan c.work.new.self (seen g.D.Disk c.work.new.guard) (c.is_live-lived.result && not c.is_live.result) (went_of c.in-Ok.progress)
    (record c.args.queues.now { cash = c.take_plan.new.queue }) c.step_on.new.queues runs_ (taken ∙ c.in-Some-take_plan.is) valid c.in-Ok.ensures.works (rw (c.is_live-lived.ensures, c.is_live.ensures) refl) first
    (rw c.ticket-ticket.ensures at c.step_on.ensures)

pub returns-in-Ok-clause-guard : goal.returns-in-Ok-clause-guard
returns-in-Ok-clause-guard g c =
    let a = c.in-Some.command.now in
    let runs_ : find (λ b. is_running b.stage) c.args.queues.now.cash ≡ Some a = rw c.at.ensures at (sym c.in-Some.ensures.first) in
    let valid : IsQueue c.args.queues.now.cash = rw c.at.ensures at c.in-Some.ensures.valid in
    let had : option_map (λ (b : Command Job). b.job.plan) (find (is_at (ticket_of a)) c.args.queues.now.cash) ≡ Some c.take_plan.result = rw (c.at_mut.ensures.now, c.ticket-ticket.ensures) at c.take_plan.ensures.had in
    let taken : a.job.plan ≡ c.take_plan.result = plan_taken c.args.queues.now.cash a c.take_plan.result runs_ valid had in
    record {
      proceeds = c.in-Ok.ensures.guard.proceeds;
      keeps = Keeps-fewer g.D.Disk _ _ _ _ (step_adds c.args.guard.now.state c.args.queues.now.cash a c.in-Some-take_plan.plan runs_ (taken ∙ c.in-Some-take_plan.is)) c.in-Ok.ensures.guard.keeps;
      still = λ upheld. tt;
    }

pub returns-in-Err-clause-memory : goal.returns-in-Err-clause-memory
returns-in-Err-clause-memory g c =
    let a = c.in-Some.command.now in
    let runs_ : find (λ b. is_running b.stage) c.args.queues.now.cash ≡ Some a = rw c.at.ensures at (sym c.in-Some.ensures.first) in
    let valid : IsQueue c.args.queues.now.cash = rw c.at.ensures at c.in-Some.ensures.valid in
    let had : option_map (λ (b : Command Job). b.job.plan) (find (is_at (ticket_of a)) c.args.queues.now.cash) ≡ Some c.take_plan.result = rw (c.at_mut.ensures.now, c.ticket-ticket.ensures) at c.take_plan.ensures.had in
    let taken : a.job.plan ≡ c.take_plan.result = plan_taken c.args.queues.now.cash a c.take_plan.result runs_ valid had in
    let first : record c.args.queues.now { cash = c.take_plan.new.queue } ≡ record c.args.queues.now { cash = changed_at (with_job_plan None) (ticket_of a) c.args.queues.now.cash }
    = ap (λ q. record c.args.queues.now { cash = q }) (rw (c.at_mut.ensures.now, c.ticket-ticket.ensures) at c.take_plan.ensures.left) in
    let back : record c.args.queues.now { cash = c.put_plan.new.queue } ≡ record c.args.queues.now { cash = changed_at (with_job_plan (Some c.in-Some-take_plan.plan)) (ticket_of a) c.take_plan.new.queue }
    = ap (λ q. record c.args.queues.now { cash = q }) (rw (c.at_mut-in-Err.ensures.now, c.ticket-ticket.ensures, c.in-Err.ensures.memory.1) at c.put_plan.ensures) in
    (c.in-Err.ensures.memory.0, plan_back a c.in-Some-take_plan.plan c.args.queues.now (record c.args.queues.now { cash = c.take_plan.new.queue }) (record c.args.queues.now { cash = c.put_plan.new.queue }) runs_ (taken ∙ c.in-Some-take_plan.is) valid first back)
