-- A Dispense or a Present that runs is on its way, and one that succeeds has moved all of its notes.
use Rattle.std.proofs.Common.{◌≡◌, ◌⊎◌, ◌<◌, ℕ, Bool, true, false, cond, List, Option, None, Some, Ok, Err, All, length, get_or, refl, ap, sym, subst, ◌∙◌, inl, inr}
use Rattle.std.specs.Prelude.{IfSome}
use Rattle.std.specs.declared.result.Result.{Result}
use Rattle.std.proofs.lemmas.Bool.{false≢true}
use Rattle.xfs_base.specs.declared.moment.Service.{Service}
use Rattle.xfs_base.specs.declared.moment.Service.TheVariants.{Publisher, Card, Keys, Cash}
use Rattle.xfs_dispenser.specs.Answers.{CashAnswer, Start, Went, done, more, planned, told}
use Rattle.xfs_dispenser.specs.Begins.{Begins, IsDispensed, StartsWith}
use Rattle.xfs_dispenser.specs.Checks.{Passed, Permits}
use Rattle.xfs_dispenser.specs.Plans.{dispense_plan, order_plan}
use Rattle.xfs_dispenser.specs.Seen.{Seen}
use Rattle.xfs_dispenser.specs.Steps.{Works}
use Rattle.xfs_dispenser.specs.declared.ask.CashAsk.{CashAsk}
use Rattle.xfs_dispenser.specs.declared.ask.CashAsk.TheVariants.{Dispense, Present}
use Rattle.xfs_dispenser.specs.declared.grant.Grant.{Grant}
use Rattle.xfs_dispenser.specs.declared.notes.Notes.{Notes}
use Rattle.xfs_dispenser.specs.declared.plan.Plan.{Plan}
use Rattle.xfs_dispenser.specs.declared.refusal.Refusal.{Refusal}
use Rattle.xfs_dispenser.proofs.BeginLaws.{bound-same, granted-notes, same-plan}
use Rattle.xfs_envelope.specs.declared.code.Code.TheVariants.{Canceled, TimeOut}
use Rattle.xfs_guard.specs.View.{View}
use Rattle.xfs_guard.specs.declared.ask.Ask.TheVariants as asked
use Rattle.xfs_guard.specs.declared.open.Open.TheVariants.{No}
use Rattle.xfs_queue.specs.Commands.{is_at, is_running, is_waiting}
use Rattle.xfs_queue.specs.declared.command.Command.{Command}
use Rattle.xfs_queue.specs.declared.command.Stage.{Stage}
use Rattle.xfs_queue.specs.declared.command.Stage.TheVariants.{Waiting, Running, Ready}
use Rattle.xfs_queue.specs.declared.command.Ticket.{Ticket}
use Rattle.xfs_model.specs.Cases.{with_start, with_went}
use Rattle.xfs_model.specs.Events.{Answer, Event}
use Rattle.xfs_model.specs.Moved.{IsWaitingAt, MovesAll, RunsSince, IsFulfilled, SucceedsInFull, runs, waits}
use Rattle.xfs_model.specs.Results.{closing, outcome, with_plan}
use Rattle.xfs_model.specs.Sound.{IsFresh, IsSound}
use Rattle.xfs_model.specs.State.{Ask, cash, Job, Outcome, State, queue_at}
use Rattle.xfs_model.specs.Step.{Step}
use Rattle.xfs_model.specs.Successes.{IsDoneAtOnce, is_success}
use Rattle.xfs_model.proofs.Changes.{each}
use Rattle.xfs_model.proofs.Moving.{Pays, Presents, pays_on, pays_rests, planned_present, presents_on, presents_rests, begun_pays}
use Rattle.xfs_model.proofs.Resting.{rests_same}
use Rattle.xfs_model.proofs.Sounds.{sound_kept, waits_unready, runs_unready}
use Rattle.xfs_model.proofs.StillPlanned.{StillWorks, unless_planned}
use Rattle.xfs_model.proofs.Succeeding.{IsNoSuccess, begins_at_once, nonce_at_once}
use Rattle.xfs_model.proofs.Turns.{Turn, accepted, at_event, begun, heard, late, marks, misasked, nonce, seen_at, stays, stopped_running, stopped_waiting, turns, worked}

-- what a running command has moved, and what it is still to move, by what it asks
abbrev Under : View → View → Ask → Option Plan → Type 0
Under base now (cash (Dispense notes token)) (Some plan) = Pays base now notes plan
Under base now (cash Present) (Some plan) = Presents base now plan
Under base now ask plan = Unit {0}

under_rests : (base now later : View) (ask : Ask) (plan : Option Plan) → StillWorks now later → Under base now ask plan → Under base later ask plan
under_rests base now later (cash (Dispense notes token)) (Some plan) still u = pays_rests base now later notes plan still.order still.units still.places u
under_rests base now later (cash Present) (Some plan) still u = presents_rests base now later plan still.order still.places u
under_rests base now later ask plan still u = tt

-- a Dispense or a Present that begins
dispense_under : (s : Seen) (exchange : Bool) (notes : Notes) (token : Option (List ℕ)) (next : Seen) (plan : Plan) → s.guard.open_order ≡ No → IsDispensed s exchange notes token next (planned plan) → Pays s.guard next.guard notes plan
dispense_under s exchange notes token next plan none d = grant d.grant refl d.starts
  where
    no_err : {T : Type 0} (x : T) (r : Refusal) → ◌≡◌ {A = Result T Refusal} (Ok x) (Err r) → ⊥
    no_err x r e = cc

    ok_is : {T : Type 0} (x y : T) → ◌≡◌ {A = Result T Refusal} (Ok x) (Ok y) → x ≡ y
    ok_is x y e = cc

    checked : (c : Result Passed Refusal) (l : Grant) → d.checked ≡ c → Permits s c (Ok l) next → length l.counts.0 ≡ 8 → Pays s.guard next.guard notes (dispense_plan l.issue l.counts)
    checked (Err r) l e p eight = absurd (no_err l r p.0)
    checked (Ok passed) l e (inr u) eight = absurd (no_err l _ u.is)
    checked (Ok passed) l e (inl p) eight =
        let same = bound-same s.guard next.guard passed.token passed.amounts p.binds in
        let given = granted-notes s.guard exchange notes token passed (rw e at d.checks) in
        let counts : l.counts ≡ passed.counts = ap (λ (x : Grant). x.counts) (ok_is l _ p.is) in
        begun_pays s.guard next.guard notes l.issue l.counts (rw counts given.1) same.0 same.1 (same.2 ∙ none) eight

    grant : (r : Result Grant Refusal) → d.grant ≡ r → StartsWith r (λ (l : Grant). planned (dispense_plan l.issue l.counts)) (planned plan) → Pays s.guard next.guard notes plan
    grant (Err r) e t = (let f = t.is in cc)
    grant (Ok l) e t = rw (same-plan plan (dispense_plan l.issue l.counts) t) (checked d.checked l refl (rw e at d.permits) (rw e at d.eight))

begun_under : (s : Seen) (exchange : Bool) (ask : CashAsk) (next : Seen) (after : Bool) (plan : Plan) → s.guard.open_order ≡ No → Begins s exchange ask next after (planned plan) → Under s.guard next.guard (cash ask) (Some plan)
begun_under s exchange (Dispense notes token) next after plan none is = dispense_under s exchange notes token next plan none is.1
begun_under s exchange Present next after plan none is =
    planned_present s.guard next.guard plan (ap (λ (p : Plan). p.parts.items) (unless_planned _ (order_plan asked.Present) plan is.2)) (ap (λ (x : Seen). x.guard.open_order) is.0 ∙ none)
    (rests_same s.guard.places next.guard.places (ap (λ (x : Seen). x.guard.places) is.0))
begun_under s exchange ask next after plan none is = tt

at_once_moves : (base now : View) (ask : Ask) (result : Outcome) → IsDoneAtOnce ask → MovesAll base now ask result
at_once_moves base now (cash (Dispense notes token)) result at_once = absurd at_once
at_once_moves base now (cash Present) result at_once = absurd at_once
at_once_moves base now ask result at_once = tt

not_both : (stage : Stage) → is_waiting stage ≡ true → is_running stage ≡ true → ⊥
not_both Waiting w r = false≢true r
not_both Running w r = false≢true w
not_both Ready w r = false≢true w

-- what a step makes of the command of a ticket: it is on its way where it runs, and has moved all where it succeeds
record Holds (base now : View) (a : Command Job) : Type 0 where
  under : is_running a.stage ≡ true → Under base now a.job.ask a.job.plan
  full : IsFulfilled base now a

no_result : (base now : View) (a : Command Job) → a.job.outcome ≡ None → IsFulfilled base now a
no_result base now a none = subst (λ (o : Option Outcome). IfSome o (λ result. is_success result.code ≡ true → MovesAll base now a.job.ask result)) (sym none) tt

-- a command that waits; that runs
abbrev Waits : Ticket → Service → Command Job → Type 0
Waits t service a = IsFresh a × (service ≡ Cash → is_at t a ≡ true → is_waiting a.stage ≡ true)

abbrev RunsUnder : Ticket → View → View → Service → Command Job → Type 0
RunsUnder t base now service a = IsFresh a × (service ≡ Cash → is_at t a ≡ true → (is_running a.stage ≡ true) × Under base now a.job.ask a.job.plan)

stop_fails : (b : Bool) → is_success (cond b Canceled TimeOut) ≡ true → ⊥
stop_fails true e = false≢true e
stop_fails false e = false≢true e

by_start : (base now : View) (start : Start) (a : Command Job) (ask : CashAsk) → a.job.ask ≡ cash ask → a.job.outcome ≡ None → IsDoneAtOnce (cash ask) ⊎ IsNoSuccess start → ((plan : Plan) → start ≡ planned plan → Under base now (cash ask) (Some plan))
    → Holds base now (with_start start a)
by_start base now (told answer) a ask asks none (inl done_) on = record { under = λ r. absurd (false≢true r); full = λ success. at_once_moves base now a.job.ask _ (subst IsDoneAtOnce (sym asks) done_) }
by_start base now (told answer) a ask asks none (inr fails) on = record { under = λ r. absurd (false≢true r); full = λ success. absurd (false≢true (sym fails ∙ success)) }
by_start base now (planned plan) a ask asks none either on = record { under = λ r. subst (λ x. Under base now x (Some plan)) (sym asks) (on plan refl); full = no_result base now (with_start (planned plan) a) none }

at_went : (t : Ticket) (left : Plan) (e : Bool) (went : Went) (a : Command Job) → is_at t (with_went left e went a) ≡ true → is_at t a ≡ true
at_went t left e more a h = h
at_went t left e (done answer) a h = h

at_start : (t : Ticket) (start : Start) (a : Command Job) → is_at t (with_start start a) ≡ true → is_at t a ≡ true
at_start t (told answer) a h = h
at_start t (planned plan) a h = h

first_turn : (t : Ticket) (old : State) (event : Event) (s new : State) → s.seen ≡ old.seen → (b : Command Job) → Turn s event new (Waits t Cash) Cash b → is_at t b ≡ true → Holds old.seen.guard new.seen.guard b
first_turn t old event s new same b (stays a (fresh, p) still) at_ = record { under = λ r. absurd (not_both a.stage (p refl at_) r); full = no_result _ _ b (fresh.outcome (waits_unready a.stage (p refl at_))) }
first_turn t old event s new same b (marks a holds (fresh, p) still) at_ = record { under = λ r. absurd (not_both a.stage (p refl at_) r); full = no_result _ _ b (fresh.outcome (waits_unready a.stage (p refl at_))) }
first_turn t old event s new same b (accepted client id line timeout name payload ask has asks) at_ = record { under = λ r. absurd (false≢true r); full = tt }
first_turn t old event s new same b (stopped_waiting a holds p waits_ marked) at_ = record { under = λ r. absurd (false≢true r); full = λ success. absurd (false≢true success) }
first_turn t old event s new same b (late a p waits_ due) at_ = record { under = λ r. absurd (false≢true r); full = λ success. absurd (false≢true success) }
first_turn t old event s new same b (stopped_running a p ran stops) at_ = record { under = λ r. absurd (false≢true r); full = λ success. absurd (stop_fails a.marked success) }
first_turn t old event s new same b (nonce a p waits_ here result does) at_ = record { under = λ r. absurd (false≢true r); full = λ success. at_once_moves _ _ a.job.ask _ (nonce_at_once s a.job.ask result new.seen new.issued does success) }
first_turn t old event s new same b (misasked a p waits_ asks) at_ = record { under = λ r. absurd (false≢true r); full = λ success. absurd (false≢true success) }
first_turn t old event s new same b (begun a (fresh, p) waits_ none here ask asks start begins) at_ =
    by_start old.seen.guard new.seen.guard start a ask asks (fresh.outcome (waits_unready a.stage waits_)) (begins_at_once s.seen s.exchange ask new.seen new.exchange start begins)
    (λ plan is. subst (λ (x : Seen). Under x.guard new.seen.guard (cash ask) (Some plan)) same (begun_under s.seen s.exchange ask new.seen new.exchange plan none (subst (λ x. Begins s.seen s.exchange ask new.seen new.exchange x) is begins)))
first_turn t old event s new same b (worked a (fresh, p) ran here plan left has went works) at_ = absurd (not_both a.stage (p refl (at_went t left _ went a at_)) ran)
first_turn t old event s new same b (heard a p elsewhere saying speaks) at_ = absurd (elsewhere refl)

-- the result of a plan that has come to its end
abbrev ended : Plan → Bool → CashAnswer → Command Job → Outcome
ended left e answer a = closing (with_plan left e a).job (outcome answer.code answer.payload)

by_went : (base : View) (s next : Seen) (plan left : Plan) (e : Bool) (went : Went) (a : Command Job) (ask : Ask) → a.job.ask ≡ ask → a.job.outcome ≡ None → Under base s.guard ask (Some plan) → Works s plan next left went
    → Holds base next.guard (with_went left e went a)
by_went base s next plan left e more a (cash (Dispense notes token)) asks none u works =
    record { under = λ r. subst (λ x. Under base next.guard x (Some left)) (sym asks) (pays_on base s notes plan next left more u works); full = no_result _ _ (with_went left e more a) none }
by_went base s next plan left e (done answer) a (cash (Dispense notes token)) asks none u works =
    record { under = λ r. absurd (false≢true r); full = λ success. subst (λ x. MovesAll base next.guard x (ended left e answer a)) (sym asks) (pays_on base s notes plan next left (done answer) u works (ended left e answer a) refl success) }
by_went base s next plan left e more a (cash Present) asks none u works =
    record { under = λ r. subst (λ x. Under base next.guard x (Some left)) (sym asks) (presents_on base s plan next left more u works); full = no_result _ _ (with_went left e more a) none }
by_went base s next plan left e (done answer) a (cash Present) asks none u works =
    record { under = λ r. absurd (false≢true r); full = λ success. subst (λ x. MovesAll base next.guard x (ended left e answer a)) (sym asks) (presents_on base s plan next left (done answer) u works success) }
by_went base s next plan left e more a ask asks none u works = record { under = λ r. subst (λ x. Under base next.guard x (Some left)) (sym asks) tt; full = no_result _ _ (with_went left e more a) none }
by_went base s next plan left e (done answer) a ask asks none u works = record { under = λ r. absurd (false≢true r); full = λ success. subst (λ x. MovesAll base next.guard x (ended left e answer a)) (sym asks) tt }

next_turn : (t : Ticket) (base : View) (old : State) (event : Event) (s new : State) → s.seen ≡ old.seen → (b : Command Job) → Turn s event new (RunsUnder t base old.seen.guard Cash) Cash b → is_at t b ≡ true → Holds base new.seen.guard b
next_turn t base old event s new same b (stays a (fresh, p) still) at_ =
    let ran = p refl at_ in
    record { under = λ r. under_rests base s.seen.guard new.seen.guard a.job.ask a.job.plan (still refl ran.0) (subst (λ (x : Seen). Under base x.guard a.job.ask a.job.plan) (sym same) ran.1); full = no_result _ _ b (fresh.outcome (runs_unready a.stage ran.0)) }
next_turn t base old event s new same b (marks a holds (fresh, p) still) at_ =
    let ran = p refl at_ in
    record { under = λ r. under_rests base s.seen.guard new.seen.guard a.job.ask a.job.plan (still refl ran.0) (subst (λ (x : Seen). Under base x.guard a.job.ask a.job.plan) (sym same) ran.1); full = no_result _ _ b (fresh.outcome (runs_unready a.stage ran.0)) }
next_turn t base old event s new same b (accepted client id line timeout name payload ask has asks) at_ = record { under = λ r. absurd (false≢true r); full = tt }
next_turn t base old event s new same b (stopped_waiting a holds p waits_ marked) at_ = record { under = λ r. absurd (false≢true r); full = λ success. absurd (false≢true success) }
next_turn t base old event s new same b (late a p waits_ due) at_ = record { under = λ r. absurd (false≢true r); full = λ success. absurd (false≢true success) }
next_turn t base old event s new same b (stopped_running a p ran stops) at_ = record { under = λ r. absurd (false≢true r); full = λ success. absurd (stop_fails a.marked success) }
next_turn t base old event s new same b (nonce a p waits_ here result does) at_ = record { under = λ r. absurd (false≢true r); full = λ success. at_once_moves _ _ a.job.ask _ (nonce_at_once s a.job.ask result new.seen new.issued does success) }
next_turn t base old event s new same b (misasked a p waits_ asks) at_ = record { under = λ r. absurd (false≢true r); full = λ success. absurd (false≢true success) }
next_turn t base old event s new same b (begun a (fresh, p) waits_ none here ask asks start begins) at_ = absurd (not_both a.stage waits_ (p refl (at_start t start a at_)).0)
next_turn t base old event s new same b (worked a (fresh, p) ran here plan left has went works) at_ =
    let is = p refl (at_went t left _ went a at_) in
    by_went base s.seen new.seen plan left _ went a a.job.ask refl (fresh.outcome (runs_unready a.stage ran))
    (subst (λ (x : Seen). Under base x.guard a.job.ask (Some plan)) (sym same) (subst (λ o. Under base old.seen.guard a.job.ask o) has is.1)) works
next_turn t base old event s new same b (heard a p elsewhere saying speaks) at_ = absurd (elsewhere refl)

-- what is known of the dispenser's commands alone
no_publisher : Publisher ≡ Cash → ⊥
no_publisher e = cc

no_card : Card ≡ Cash → ⊥
no_card e = cc

no_keys : Keys ≡ Cash → ⊥
no_keys e = cc

at_cash : (s : State) (Q : Command Job → Type 0) → ((service : Service) → All IsFresh (queue_at s service)) → All Q (queue_at s Cash) → (service : Service) → All (λ a. IsFresh a × (service ≡ Cash → Q a)) (queue_at s service)
at_cash s Q fresh all service = λ k d within. (fresh service k d within, λ at_. go service at_ k d within)
  where
    go : (b : Service) → b ≡ Cash → (k : ℕ) (d : Command Job) → k < length (queue_at s b) → Q (get_or (queue_at s b) k d)
    go Cash at_ k d within = all k d within
    go Publisher at_ k d within = absurd (no_publisher at_)
    go Card at_ k d within = absurd (no_card at_)
    go Keys at_ k d within = absurd (no_keys at_)

-- before a step the command of the ticket waits as at first, or is on its way
abbrev IsOnItsWay : State → Ticket → State → Type 0
IsOnItsWay start t s = ((s ≡ start) × IsWaitingAt start t) ⊎ All (λ a. is_at t a ≡ true → (is_running a.stage ≡ true) × Under start.seen.guard s.seen.guard a.job.ask a.job.plan) (queue_at s Cash)

on_step : (start s new : State) (t : Ticket) (event : Event) (told_ : Answer) → IsSound s → IsOnItsWay start t s → Step s event told_ new → All (λ b. is_at t b ≡ true → Holds start.seen.guard new.seen.guard b) (queue_at new Cash)
on_step start s new t event told_ sound (inl (same, waits_)) is =
    subst (λ (x : State). All (λ b. is_at t b ≡ true → Holds x.seen.guard new.seen.guard b) (queue_at new Cash)) same
    (each (Turn (at_event s event) event new (Waits t Cash) Cash) (λ b. is_at t b ≡ true → Holds s.seen.guard new.seen.guard b)
    (λ b turn. first_turn t s event (at_event s event) new (seen_at s event) b turn) (queue_at new Cash)
    (turns (Waits t) s sound.machine sound.asks (at_cash s (λ a. is_at t a ≡ true → is_waiting a.stage ≡ true) sound.fresh (subst (λ x. IsWaitingAt x t) (sym same) waits_)) event told_ new is Cash))
on_step start s new t event told_ sound (inr ran) is =
    each (Turn (at_event s event) event new (RunsUnder t start.seen.guard s.seen.guard Cash) Cash) (λ b. is_at t b ≡ true → Holds start.seen.guard new.seen.guard b)
    (λ b turn. next_turn t start.seen.guard s event (at_event s event) new (seen_at s event) b turn) (queue_at new Cash)
    (turns (RunsUnder t start.seen.guard s.seen.guard) s sound.machine sound.asks
    (at_cash s (λ a. is_at t a ≡ true → (is_running a.stage ≡ true) × Under start.seen.guard s.seen.guard a.job.ask a.job.plan) sound.fresh ran) event told_ new is Cash)

on_its_way : (start : State) (t : Ticket) (s : State) → IsSound start → RunsSince start t s → IsSound s × IsOnItsWay start t s
on_its_way start t s sound (waits waits_) = (sound, inl (refl, waits_))
on_its_way start t new sound (runs {s = s} before event told_ new_ is ran) =
    let b = on_its_way start t s sound before in
    let all = on_step start s new t event told_ b.0 b.1 is in
    (sound_kept s new event told_ b.0 is, inr (λ k d within at_. (ran k d within at_, (all k d within at_).under (ran k d within at_))))

pub successes_move_all : (start s new : State) (t : Ticket) (event : Event) (told_ : Answer) → IsSound start → RunsSince start t s → Step s event told_ new → SucceedsInFull start new t
successes_move_all start s new t event told_ sound since is =
    let b = on_its_way start t s sound since in
    λ k d within at_. (on_step start s new t event told_ b.0 b.1 is k d within at_).full
