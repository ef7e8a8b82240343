-- A step of the running plan, by what was done to its command.
use Rattle.std.proofs.Common.{◌≡◌, ◌||◌, Bool, true, false, List, Option, None, Some, find, refl, sym, subst, ◌∙◌, ap}
use Rattle.std.specs.Option.{option_map}
use Rattle.xfs_dispenser.specs.Answers.{Went, more, done}
use Rattle.xfs_dispenser.specs.Seen.{Seen}
use Rattle.xfs_dispenser.specs.Steps.{MayWork, Works}
use Rattle.xfs_dispenser.specs.declared.plan.Plan.{Plan}
use Rattle.xfs_guard.specs.View.{View}
use Rattle.xfs_mech.specs.declared.motion.Motion.{Motion}
use Rattle.xfs_queue.specs.declared.command.Command.{Command}
use Rattle.xfs_queue.specs.declared.command.Stage.{Stage}
use Rattle.xfs_queue.specs.declared.command.Stage.TheVariants.{Waiting, Running, Ready}
use Rattle.xfs_queue.specs.Commands.{is_at, is_running, ticket_of}
use Rattle.xfs_queue.specs.Queue.{IsQueue}
use Rattle.xfs_model.specs.Cases.{WorksOnPlan, has_ended, with_went}
use Rattle.xfs_model.specs.State.{Job, Queues, State}
use Rattle.xfs_model.proofs.Lists.{found_passes}
use Rattle.xfs_traffic.specs.Jobs.{changed_at}
use Rattle.xfs_machine.specs.Parts.{MayStep, with_job_plan, with_step}
use Rattle.xfs_traffic.proofs.AnswerLaws.{at_its_ticket}
use Rattle.xfs_traffic.proofs.ChangeLaws.{alike, still, twice}
use Rattle.std.proofs.lemmas.Option.{same_Some}

runs : (stage : Stage) → is_running stage ≡ true → stage ≡ Running
runs Waiting e = absurd (let f : false ≡ true = e in cc)
runs Running e = refl
runs Ready e = absurd (let f : false ≡ true = e in cc)

stepped : (left : Plan) (ended : Bool) (went : Went) (a : Command Job) → a.stage ≡ Running → with_step left ended went (with_job_plan None a) ≡ with_went left (a.job.ended_nonce || ended) went a
stepped left ended more a e = ap (λ (stage : Stage). record a { stage = stage; job = record a.job { plan = Some left; ended_nonce = a.job.ended_nonce || ended } }) e
stepped left ended (done result) a e = refl

pub plan_worked : (s : State) (a : Command Job) (plan left : Plan) (next : Seen) (ended : Bool) (went : Went) (middle queues : Queues)
    → find (λ b. is_running b.stage) s.queues.cash ≡ Some a → a.job.plan ≡ Some plan → IsQueue s.queues.cash → Works s.seen plan next left went → ended ≡ has_ended s.seen next
    → middle ≡ record s.queues { cash = changed_at (with_job_plan None) (ticket_of a) s.queues.cash }
    → queues ≡ record middle { cash = changed_at (with_step left ended went) (ticket_of a) middle.cash }
    → WorksOnPlan s (record s { seen = next; queues = queues })
plan_worked s a plan left next ended went middle queues runs_ planned kept works is first then_ =
    let running_ : a.stage ≡ Running = runs a.stage (found_passes (λ b. is_running b.stage) s.queues.cash a runs_) in
    let both : changed_at (with_step left ended went) (ticket_of a) (changed_at (with_job_plan None) (ticket_of a) s.queues.cash)
    ≡ changed_at (with_went left (a.job.ended_nonce || has_ended s.seen next) went) (ticket_of a) s.queues.cash
    = twice (with_job_plan None) (with_step left ended went) (λ b. refl) (ticket_of a) s.queues.cash
    ∙ alike (λ b. is_running b.stage) (λ b. with_step left ended went (with_job_plan None b)) (with_went left (a.job.ended_nonce || has_ended s.seen next) went) a s.queues.cash runs_ kept
    (stepped left ended went a running_ ∙ ap (λ x. with_went left (a.job.ended_nonce || x) went a) is) in
    record {
      command = a;
      runs = runs_;
      plan = plan;
      planned = planned;
      next = next;
      left = left;
      went = went;
      works = works;
      is = rw (then_, first, both) refl;
    }

-- the plan is put back where nothing was done
pub plan_back : (a : Command Job) (plan : Plan) (old middle queues : Queues)
    → find (λ b. is_running b.stage) old.cash ≡ Some a → a.job.plan ≡ Some plan → IsQueue old.cash
    → middle ≡ record old { cash = changed_at (with_job_plan None) (ticket_of a) old.cash }
    → queues ≡ record middle { cash = changed_at (with_job_plan (Some plan)) (ticket_of a) middle.cash }
    → queues ≡ old
plan_back a plan old middle queues runs_ planned kept first then_ =
    let same : with_job_plan (Some plan) (with_job_plan None a) ≡ a = ap (λ p. record a { job = record a.job { plan = p } }) (sym planned) in
    let both : changed_at (with_job_plan (Some plan)) (ticket_of a) (changed_at (with_job_plan None) (ticket_of a) old.cash) ≡ old.cash
    = twice (with_job_plan None) (with_job_plan (Some plan)) (λ b. refl) (ticket_of a) old.cash
    ∙ still (λ b. is_running b.stage) (λ b. with_job_plan (Some plan) (with_job_plan None b)) a old.cash runs_ kept same in
    rw (then_, first, both) refl

same_plan : (o : Option Plan) (a : Command Job) → option_map (λ (b : Command Job). b.job.plan) (Some a) ≡ Some o → a.job.plan ≡ o
same_plan o a e = cc

pub one_plan : (p r : Plan) → Some p ≡ Some r → p ≡ r
one_plan p r e = cc

-- the plan that is taken is that of the command that runs
pub plan_taken : (q : List (Command Job)) (a : Command Job) (o : Option Plan) → find (λ b. is_running b.stage) q ≡ Some a → IsQueue q → option_map (λ (b : Command Job). b.job.plan) (find (is_at (ticket_of a)) q) ≡ Some o → a.job.plan ≡ o
plan_taken q a o runs_ kept had = same_plan o a (rw (at_its_ticket (λ b. is_running b.stage) q a runs_ kept) at had)

-- an entry that a step of the running plan may add is one of that plan
pub step_adds : (v : View) (q : List (Command Job)) (a : Command Job) (plan : Plan) → find (λ b. is_running b.stage) q ≡ Some a → a.job.plan ≡ Some plan → (entry : Motion) → MayStep v q entry → MayWork v plan entry
step_adds v q a plan runs_ planned entry may =
    let one : may.0 ≡ a = same_Some may.0 a (sym may.2 ∙ runs_) in
    let its : may.1 ≡ plan = one_plan may.1 plan (sym may.3 ∙ (ap (λ (b : Command Job). b.job.plan) one ∙ planned)) in
    subst (λ p. MayWork v p entry) its may.4
