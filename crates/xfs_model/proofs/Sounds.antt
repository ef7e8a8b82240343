-- Each step keeps a machine sound, and one without commands is sound.
use Rattle.std.proofs.Common.{List, ◌⊎◌, ◌≡◌, ◌≢◌, ◌<◌, ℕ, Bool, true, false, MatchOption, Option, None, Some, length, get_or, All, refl, ap, sym, subst, ◌∙◌, inl, inr}
use Rattle.std.proofs.lemmas.Bool.{false≢true}
use Rattle.std.proofs.lemmas.List.Elements.{All-nil}
use Rattle.xfs_base.specs.declared.moment.ClientId.{ClientId}
use Rattle.xfs_base.specs.declared.moment.Service.{Service}
use Rattle.xfs_base.specs.declared.moment.Service.TheVariants.{Publisher, Card, Keys, Cash}
use Rattle.xfs_dispenser.specs.Answers.{Start, told, planned, Went, more, done}
use Rattle.xfs_dispenser.specs.Begins.{Begins}
use Rattle.xfs_dispenser.specs.Plans.{IsPlanned}
use Rattle.xfs_dispenser.specs.Seen.{Seen}
use Rattle.xfs_dispenser.specs.Steps.{Works}
use Rattle.xfs_dispenser.specs.declared.ask.CashAsk.{CashAsk}
use Rattle.xfs_dispenser.specs.declared.plan.Plan.{Plan}
use Rattle.xfs_dispenser.proofs.WorkLaws.{work-planned, unread-closed}
use Rattle.xfs_guard.specs.Booting.{IsNotReread, IsRereadFailed}
use Rattle.xfs_guard.specs.View.{View, unread}
use Rattle.xfs_guard.specs.declared.open.Open.TheVariants.{No}
use Rattle.xfs_queue.specs.declared.command.Command.{Command}
use Rattle.xfs_queue.specs.declared.command.Stage.{Stage}
use Rattle.xfs_queue.specs.declared.command.Stage.TheVariants.{Waiting, Running, Ready}
use Rattle.xfs_queue.specs.Commands.{is_ready, is_running, is_waiting}
use Rattle.xfs_queue.specs.Queue.{mark}
use Rattle.xfs_model.specs.Cases.{with_start, with_went}
use Rattle.xfs_model.specs.Devices.{Saying, with_saying}
use Rattle.xfs_model.specs.Events.{Answer, Event}
use Rattle.xfs_model.specs.Guards.{IsUnbooted, IsUnrestored}
use Rattle.xfs_model.specs.Results.{with_plan, with_result}
use Rattle.xfs_model.specs.Runs.{Run, begun as begun_, next}
use Rattle.xfs_model.specs.Sound.{IsFitting, IsFresh, IsOnPlan, IsSound}
use Rattle.xfs_model.specs.State.{Job, Outcome, State, bare, queue_at}
use Rattle.xfs_model.specs.Step.{Step}
use Rattle.xfs_model.proofs.Asking.{may_ask}
use Rattle.xfs_model.proofs.Caused.{bare_causes, causes_kept}
use Rattle.xfs_model.proofs.Changes.{each}
use Rattle.xfs_model.proofs.Machines.{bare_machine, kept}
use Rattle.xfs_model.proofs.Standings.{IsStanding, bare_stands, stands}
use Rattle.xfs_model.proofs.StillPlanned.{StillWorks, begins_planned}
use Rattle.xfs_model.proofs.Turns.{Speaks, Turn, accepted, at_event, begun, card_begins, card_touched, heard, keys_begin, keys_touched, late, marks, misasked, nonce, seen_at, stays, stopped_running, stopped_waiting, turns, worked}

-- what a command asks stays, whatever becomes of it
fitting_went : (service : Service) (left : Plan) (b : Bool) (went : Went) (a : Command Job) → IsFitting service a → IsFitting service (with_went left b went a)
fitting_went service left b more a fits = fits
fitting_went service left b (done answer) a fits = fits

fitting_start : (service : Service) (start : Start) (a : Command Job) → IsFitting service a → IsFitting service (with_start start a)
fitting_start service (told answer) a fits = fits
fitting_start service (planned plan) a fits = fits

fitting_saying : (service : Service) (result : Option Outcome) (a : Command Job) → IsFitting service a → IsFitting service (with_saying result a)
fitting_saying service None a fits = fits
fitting_saying service (Some result) a fits = fits

turn_fits : (s : State) (event : Event) (new : State) (service : Service) (b : Command Job) → Turn s event new (IsFitting service) service b → IsFitting service b
turn_fits s event new service b (stays a fits still) = fits
turn_fits s event new service b (marks a holds fits still) = fits
turn_fits s event new service b (accepted client id known timeout name payload ask has asks) = may_ask service name payload ask known has asks
turn_fits s event new service b (stopped_waiting a holds fits waits marked) = fits
turn_fits s event new service b (late a fits waits due) = fits
turn_fits s event new service b (stopped_running a fits runs stops) = fits
turn_fits s event new service b (nonce a fits waits at result does) = fits
turn_fits s event new service b (misasked a fits waits asks) = fits
turn_fits s event new service b (begun a fits waits none here ask asks start begins) = fitting_start service start a fits
turn_fits s event new service b (worked a fits runs at plan left has went works) = fitting_went service left _ went a fits
turn_fits s event new service b (heard a fits elsewhere saying speaks) = fitting_saying service saying.result a fits

-- one that has its result is not fresh any more
ready_fresh : (a : Command Job) (result : Outcome) → IsFresh (with_result result a)
ready_fresh a result = record { outcome = λ unready. absurd (false≢true (sym unready)); plan = λ waits. absurd (false≢true waits); ended = λ waits. absurd (false≢true waits) }

runs_fresh : (a : Command Job) (plan : Plan) (ended : Bool) → a.job.outcome ≡ None → IsFresh (with_plan plan ended a)
runs_fresh a plan ended none = record { outcome = λ unready. none; plan = λ waits. absurd (false≢true waits); ended = λ waits. absurd (false≢true waits) }

pub waits_unready : (stage : Stage) → is_waiting stage ≡ true → is_ready stage ≡ false
waits_unready Waiting waits = refl
waits_unready Running waits = absurd (false≢true waits)
waits_unready Ready waits = absurd (false≢true waits)

pub runs_unready : (stage : Stage) → is_running stage ≡ true → is_ready stage ≡ false
runs_unready Waiting runs = absurd (false≢true runs)
runs_unready Running runs = refl
runs_unready Ready runs = absurd (false≢true runs)

speaks_unready : (s : State) (event : Event) (service : Service) (a : Command Job) (saying : Saying) → Speaks s event service a saying → is_ready a.stage ≡ false
speaks_unready s event service a saying (card_begins waits ask) = waits_unready a.stage waits
speaks_unready s event service a saying (keys_begin waits ask) = waits_unready a.stage waits
speaks_unready s event service a saying (card_touched at runs touched fault) = runs_unready a.stage runs
speaks_unready s event service a saying (keys_touched at runs touched fault) = runs_unready a.stage runs

fresh_went : (left : Plan) (b : Bool) (went : Went) (a : Command Job) → is_ready a.stage ≡ false → IsFresh a → IsFresh (with_went left b went a)
fresh_went left b more a unready fresh = runs_fresh a left b (fresh.outcome unready)
fresh_went left b (done answer) a unready fresh = ready_fresh (with_plan left b a) _

fresh_start : (start : Start) (a : Command Job) → is_ready a.stage ≡ false → IsFresh a → IsFresh (with_start start a)
fresh_start (told answer) a unready fresh = ready_fresh a _
fresh_start (planned plan) a unready fresh = runs_fresh a plan false (fresh.outcome unready)

fresh_saying : (result : Option Outcome) (a : Command Job) → is_ready a.stage ≡ false → IsFresh a → IsFresh (with_saying result a)
fresh_saying None a unready fresh = record { outcome = λ still. fresh.outcome unready; plan = λ waits. absurd (false≢true waits); ended = λ waits. absurd (false≢true waits) }
fresh_saying (Some result) a unready fresh = ready_fresh a result

turn_fresh : (s : State) (event : Event) (new : State) (service : Service) (b : Command Job) → Turn s event new IsFresh service b → IsFresh b
turn_fresh s event new service b (stays a fresh still) = fresh
turn_fresh s event new service b (marks a holds fresh still) = record { outcome = fresh.outcome; plan = fresh.plan; ended = fresh.ended }
turn_fresh s event new service b (accepted client id line timeout name payload ask has asks) = record { outcome = λ unready. refl; plan = λ waits. refl; ended = λ waits. refl }
turn_fresh s event new service b (stopped_waiting a holds fresh waits marked) = ready_fresh (mark holds a) _
turn_fresh s event new service b (late a fresh waits due) = ready_fresh a _
turn_fresh s event new service b (stopped_running a fresh runs stops) = ready_fresh a _
turn_fresh s event new service b (nonce a fresh waits at result does) = ready_fresh a result
turn_fresh s event new service b (misasked a fresh waits asks) = ready_fresh a _
turn_fresh s event new service b (begun a fresh waits none here ask asks start begins) = fresh_start start a (waits_unready a.stage waits) fresh
turn_fresh s event new service b (worked a fresh runs at plan left has went works) = fresh_went left _ went a (runs_unready a.stage runs) fresh
turn_fresh s event new service b (heard a fresh elsewhere saying speaks) = fresh_saying saying.result a (speaks_unready s event service a saying speaks) fresh

-- a plan that is there and can be worked on
still_on_plan : (v w : View) (o : Option Plan) → StillWorks v w → MatchOption o ⊥ (IsPlanned v) → MatchOption o ⊥ (IsPlanned w)
still_on_plan v w None still on = on
still_on_plan v w (Some plan) still on = still.planned plan on

on_plan_went : (s : State) (new : State) (plan left : Plan) (b : Bool) (went : Went) (a : Command Job) → IsPlanned s.seen.guard plan → Works s.seen plan new.seen left went → IsOnPlan new.seen.guard (with_went left b went a)
on_plan_went s new plan left b more a planned_ works = λ runs. work-planned s.seen plan new.seen left planned_ works
on_plan_went s new plan left b (done answer) a planned_ works = λ runs. absurd (false≢true runs)

on_plan_start : (s : State) (new : State) (ask : CashAsk) (start : Start) (a : Command Job) → s.seen.guard.open_order ≡ No → Begins s.seen s.exchange ask new.seen new.exchange start → IsOnPlan new.seen.guard (with_start start a)
on_plan_start s new ask (told answer) a none begins = λ runs. absurd (false≢true runs)
on_plan_start s new ask (planned plan) a none begins = λ runs. begins_planned s.seen s.exchange ask new.seen new.exchange plan none begins

-- the plan of a running command
pub has_plan : (v : View) (o : Option Plan) (plan : Plan) → o ≡ Some plan → MatchOption o ⊥ (IsPlanned v) → IsPlanned v plan
has_plan v o plan is on = rw is at on

-- what is asked of the dispenser's commands alone
abbrev AtCash : View → Service → Command Job → Type 0
AtCash v service b = service ≡ Cash → IsOnPlan v b

turn_on_plan : (s : State) (event : Event) (new : State) (service : Service) (b : Command Job) → Turn s event new (AtCash s.seen.guard service) service b → AtCash new.seen.guard service b
turn_on_plan s event new service b (stays a on still) = λ at runs. still_on_plan s.seen.guard new.seen.guard a.job.plan (still at runs) (on at runs)
turn_on_plan s event new service b (marks a holds on still) = λ at runs. still_on_plan s.seen.guard new.seen.guard a.job.plan (still at runs) (on at runs)
turn_on_plan s event new service b (accepted client id line timeout name payload ask has asks) = λ at runs. absurd (false≢true runs)
turn_on_plan s event new service b (stopped_waiting a holds on waits marked) = λ at runs. absurd (false≢true runs)
turn_on_plan s event new service b (late a on waits due) = λ at runs. absurd (false≢true runs)
turn_on_plan s event new service b (stopped_running a on ran stops) = λ at runs. absurd (false≢true runs)
turn_on_plan s event new service b (nonce a on waits here result does) = λ at runs. absurd (false≢true runs)
turn_on_plan s event new service b (misasked a on waits asks) = λ at runs. absurd (false≢true runs)
turn_on_plan s event new service b (begun a on waits none here ask asks start begins) = λ at. on_plan_start s new ask start a none begins
turn_on_plan s event new service b (worked a on runs here plan left has went works) = λ at. on_plan_went s new plan left _ went a (has_plan s.seen.guard a.job.plan plan has (on at runs)) works
turn_on_plan s event new service b (heard a on elsewhere saying speaks) = λ at. absurd (elsewhere at)

no_publisher : Publisher ≡ Cash → ⊥
no_publisher e = cc

no_card : Card ≡ Cash → ⊥
no_card e = cc

no_keys : Keys ≡ Cash → ⊥
no_keys e = cc

pub at_cash_alone : (v : View) (s : State) → All (IsOnPlan v) (queue_at s Cash) → (service : Service) → All (AtCash v service) (queue_at s service)
at_cash_alone v s all service = λ k d within at. go service at k d within
  where
    go : (b : Service) → b ≡ Cash → (k : ℕ) (d : Command Job) → k < length (queue_at s b) → IsOnPlan v (get_or (queue_at s b) k d)
    go Cash at k d within = all k d within
    go Publisher at k d within = absurd (no_publisher at)
    go Card at k d within = absurd (no_card at)
    go Keys at k d within = absurd (no_keys at)

empty_all : (seen : Seen) (life boot : ℕ) (service : Service) (P : Command Job → Type 0) → All P (queue_at (bare seen life boot) service)
empty_all seen life boot Publisher P = All-nil P
empty_all seen life boot Card P = All-nil P
empty_all seen life boot Keys P = All-nil P
empty_all seen life boot Cash P = All-nil P

-- Each call keeps it.
pub sound_kept : (old new : State) (event : Event) (told_ : Answer) → IsSound old → Step old event told_ new → IsSound new
sound_kept old new event told_ h is = record {
  machine = kept old new event told_ h.machine is;
  causes = causes_kept old new event told_ h.machine is h.causes;
  asks = λ service. each (Turn s event new (IsFitting service) service) (IsFitting service) (λ b turn. turn_fits s event new service b turn) (queue_at new service) (turns IsFitting old h.machine h.asks h.asks event told_ new is service);
  fresh = λ service. each (Turn s event new IsFresh service) IsFresh (λ b turn. turn_fresh s event new service b turn) (queue_at new service) (turns (λ b. IsFresh) old h.machine h.asks h.fresh event told_ new is service);
  planned = each (Turn s event new (AtCash old.seen.guard Cash) Cash) (IsOnPlan new.seen.guard) (λ b turn. turn_on_plan s event new Cash b (subst (λ (x : Seen). Turn s event new (AtCash x.guard Cash) Cash b) (sym (seen_at old event)) turn) refl) (queue_at new Cash)
      (turns (AtCash old.seen.guard) old h.machine h.asks (at_cash_alone old.seen.guard old h.planned) event told_ new is Cash);
  ordered = standing.ordered;
  devices = standing.devices;
  issued = standing.issued;
}
  where
    s : State
    s = at_event old event

    standing : IsStanding new
    standing = stands old new event told_ h.machine h.asks is (record { ordered = h.ordered; devices = h.devices; issued = h.issued })

-- a machine with no connection and no command is sound, where no order is open, or where it is gone
pub sound_bare : (seen : Seen) (life boot : ℕ) → (boot ≢ 0 → seen.guard.open_order ≡ No) → IsSound (bare seen life boot)
sound_bare seen life boot none = record {
  machine = bare_machine seen life boot;
  causes = bare_causes seen life boot;
  asks = λ service. empty_all seen life boot service (IsFitting service);
  fresh = λ service. empty_all seen life boot service IsFresh;
  planned = All-nil _;
  ordered = standing.ordered;
  devices = standing.devices;
  issued = standing.issued;
}
  where
    standing : IsStanding (bare seen life boot)
    standing = bare_stands seen life boot none

-- what a refused restore leaves has no order open
pub unrestored_closed : (old new : Seen) → IsUnrestored old new → new.guard.open_order ≡ No
unrestored_closed old new (inl f) = ap (λ (v : View). v.open_order) f.becomes.guard_is
unrestored_closed old new (inr (inl u)) = ap (λ (v : View). v.open_order) u.fails.becomes.guard_is ∙ unread-closed old.guard u.now u.is
unrestored_closed old new (inr (inr u)) = ap (λ (v : View). v.open_order) u.becomes.guard_is

unstarted_closed : (v now : View) → IsNotReread v now ⊎ IsRereadFailed true v now → now.open_order ≡ No
unstarted_closed v now (inl e) = ap (λ (w : View). w.open_order) e
unstarted_closed v now (inr e) = ap (λ (w : View). w.open_order) e.2

-- nor has what a refused restart leaves
pub unbooted_closed : (old new : Seen) → IsUnbooted old new → new.guard.open_order ≡ No
unbooted_closed old new (inl f) = ap (λ (v : View). v.open_order) (f.becomes.guard_is ∙ f.is.3)
unbooted_closed old new (inr (inl u)) = ap (λ (v : View). v.open_order) u.fails.becomes.guard_is ∙ unstarted_closed old.guard u.now u.is
unbooted_closed old new (inr (inr u)) = ap (λ (v : View). v.open_order) u.becomes.guard_is

-- a run keeps it
pub sound_runs : (seen : Seen) (life boot : ℕ) (mine : ClientId) → seen.guard.open_order ≡ No → {s : State} {texts frames : List (List ℕ)} → Run (bare seen life boot) mine s texts frames → IsSound s
sound_runs seen life boot mine none begun_ = sound_bare seen life boot (λ up. none)
sound_runs seen life boot mine none (next {s = s} before event told_ new is) = sound_kept s new event told_ (sound_runs seen life boot mine none before) is
