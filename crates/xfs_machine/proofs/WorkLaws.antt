-- What a case of the work finds, where it is the first that applies to a machine that keeps what every call keeps.
use Rattle.std.proofs.Common.{◌≡◌, ◌≢◌, ◌≤◌, ℕ, nat_le, cond, ◌&&◌, not, Bool, true, false, List, [], ◌∷◌, Option, None, Some, Result, Ok, Err, find, All, refl, sym, subst, ◌∙◌, ap, inl, inr}
use Rattle.std.specs.Prelude.{IsErrAnd, OnErr, ◌⊎◌, ◌+◌, ◌==◌, MatchOption, is_some}
use Rattle.std.specs.List.{list_any}
use Rattle.std.proofs.lemmas.Bool.{cases_Bool, false≢true}
use Rattle.std.proofs.lemmas.List.Elements.{All-head, All-tail}
use Rattle.std.proofs.lemmas.Option.{none-some, same_Some}
use Rattle.xfs_base.specs.declared.moment.Moment.{Moment}
use Rattle.xfs_base.specs.declared.moment.Service.{Service}
use Rattle.xfs_base.specs.declared.moment.Service.TheVariants.{Publisher, Card, Keys, Cash}
use Rattle.xfs_dispenser.specs.Plans.{IsPlanned}
use Rattle.xfs_dispenser.specs.Seen.{seen}
use Rattle.xfs_dispenser.specs.declared.ask.CashAsk.{CashAsk}
use Rattle.xfs_dispenser.specs.declared.plan.Plan.{Plan}
use Rattle.xfs_guard.specs.Fits.{unfit}
use Rattle.xfs_guard.specs.Nonce.{live_in}
use Rattle.xfs_guard.specs.View.{View}
use Rattle.xfs_guard.specs.declared.open.Open.TheVariants.{No}
use Rattle.xfs_queue.specs.Commands.{is_on, is_ready, is_running, is_waiting, waits_on}
use Rattle.xfs_queue.specs.declared.command.Command.{Command}
use Rattle.xfs_queue.specs.declared.command.Line.{Line}
use Rattle.xfs_queue.specs.declared.command.Line.TheVariants.{Nonce, Device}
use Rattle.xfs_model.specs.Causes.{IsCaused}
use Rattle.xfs_model.specs.Connections.{is_service}
use Rattle.xfs_model.specs.Guards.{is_fit, is_live}
use Rattle.xfs_model.specs.Sound.{IsFitting, IsOnPlan, IsSound, MayAsk}
use Rattle.xfs_model.specs.State.{Ask, issue, clear, cash, card, entry, bad, Job, Outcome, State, queue_at}
use Rattle.xfs_model.specs.Work.{Case, order, expire, answer, nonce, overdue, stop, go_on, begin, rest, case_of, can_begin, has_nonce, has_order, has_overdue, has_ready, has_running, has_stopped, is_life_over, is_ordered}
use Rattle.xfs_model.proofs.Lists.{found_passes}
use Rattle.xfs_traffic.specs.Parts.{HasResult}
use Rattle.xfs_machine.specs.Parts.{HasDeviceAsk, HasNonceAsk, HasPlan}
use Rattle.xfs_disk.specs.declared.disk.Disk.{Ghosts}
use Rattle.xfs_base.specs.declared.faults.Memory.{Memory}
use Rattle.xfs_machine.specs.Answers.{worked}
use Rattle.xfs_machine.specs.Changes.{IsOnlyRead}
use Rattle.xfs_machine.specs.MachineView.{IsWhole, of_parts}
use Rattle.xfs_machine.specs.declared.answer.Work.{Work}
use Rattle.xfs_machine.specs.declared.dispenser.Dispenser.{Dispenser}
use Rattle.xfs_machine.specs.Working.{CanDo, MayAdd, MayAddAt}
use Rattle.xfs_mech.specs.declared.motion.Motion.{Motion}
use Rattle.xfs_model.specs.Cases.{Does, told_by}
use Rattle.xfs_model.specs.Events.{Answer, work}
use Rattle.xfs_model.specs.Step.{Step, at_moment, happens, wanting}
use Rattle.xfs_traffic.specs.declared.devices.Devices.{Devices}
use Rattle.xfs_traffic.specs.declared.traffic.Traffic.{Traffic}
use Rattle.xfs_model.proofs.Standings.{no_order as unordered}
use Rattle.xfs_model.proofs.Asking.{is_absent}

-- the first command that passes a test, of a queue whose commands all have a property
record IsFirst (p : Command Job → Bool) (P : Command Job → Type 0) (q : List (Command Job)) : Type 0 where
  command : Command Job
  first : find p q ≡ Some command
  passes : p command ≡ true
  has : P command

first_of : (p : Command Job → Bool) (P : Command Job → Type 0) (q : List (Command Job)) → All P q → list_any p q ≡ true → IsFirst p P q
first_of p P [] all some = absurd (false≢true some)
first_of p P (x ∷ q) all some = elim (cases_Bool (p x)) [
  | inl y ↦ record { command = x; first = rw y refl; passes = y; has = All-head P x q all }
  | inr n ↦
      let r = first_of p P q (All-tail P x q all) (rw n at some) in
      record { command = r.command; first = rw n (r.first); passes = r.passes; has = r.has }
]

found_has : (p : Command Job → Bool) (P : Command Job → Type 0) (q : List (Command Job)) (a : Command Job) → All P q → find p q ≡ Some a → P a
found_has p P [] a all there = absurd (none-some a there)
found_has p P (x ∷ q) a all there = elim (cases_Bool (p x)) [
  | inl y ↦ subst P (same_Some x a (rw y at there)) (All-head P x q all)
  | inr n ↦ found_has p P q a (All-tail P x q all) (rw n at there)
]

-- none passes
none_of : (p : Command Job → Bool) (q : List (Command Job)) → list_any p q ≡ false → find p q ≡ None
none_of p [] none = refl
none_of p (x ∷ q) none = elim (cases_Bool (p x)) [
  | inl y ↦ absurd (false≢true (sym (rw y at none)))
  | inr n ↦ rw n (none_of p q (rw n at none))
]

first_and : (a b : Bool) → (a && b) ≡ true → a ≡ true
first_and true b e = refl
first_and false b e = e

second_and : (a b : Bool) → (a && b) ≡ true → b ≡ true
second_and true b e = e
second_and false b e = absurd (false≢true e)

not_true : (b : Bool) → not b ≡ true → b ≡ false
not_true true e = absurd (false≢true e)
not_true false e = refl

some_result : (o : Option Outcome) → is_some o ≡ true → (result : Outcome) × (o ≡ Some result)
some_result None e = absurd (false≢true e)
some_result (Some result) e = (result, refl)

has_result : (now : Moment) (q : List (Command Job)) → All (IsCaused now) q → list_any (λ a. is_ready a.stage) q ≡ true → HasResult q
has_result now q all some =
    let f = first_of (λ a. is_ready a.stage) (IsCaused now) q all some in
    let r = some_result f.command.job.outcome (f.has.ready f.passes) in
    record { command = f.command; first = f.first; result = r.0; has = r.1 }

plan_in : (v : View) (o : Option Plan) → MatchOption o ⊥ (IsPlanned v) → (plan : Plan) × (o ≡ Some plan) × IsPlanned v plan
plan_in v None on = absurd on
plan_in v (Some plan) on = (plan, refl, on)

has_plan : (v : View) (q : List (Command Job)) → All (IsOnPlan v) q → list_any (λ a. is_running a.stage) q ≡ true → HasPlan v q
has_plan v q all some =
    let f = first_of (λ a. is_running a.stage) (IsOnPlan v) q all some in
    let r = plan_in v f.command.job.plan (f.has f.passes) in
    record { command = f.command; runs = f.first; plan = r.0; planned = r.1; can = r.2 }

on_line : (a b : Line) → is_on a b ≡ true → a ≡ b
on_line Nonce Nonce e = refl
on_line Nonce Device e = absurd (false≢true e)
on_line Device Nonce e = absurd (false≢true e)
on_line Device Device e = refl

line_of_waiting : (line : Line) (a : Command Job) → waits_on line a ≡ true → a.line ≡ line
line_of_waiting line a e = on_line a.line line (second_and (is_waiting a.stage) (is_on a.line line) e)

nonce_asks : (ask : Ask) → MayAsk Cash Nonce ask → (ask ≡ issue) ⊎ (ask ≡ clear)
nonce_asks issue may = inl refl
nonce_asks clear may = inr refl
nonce_asks (cash ask) may = absurd may
nonce_asks (card ask) may = absurd may
nonce_asks (entry ask) may = absurd may
nonce_asks bad may = absurd may

has_nonce_ask : (q : List (Command Job)) → All (IsFitting Cash) q → list_any (waits_on Nonce) q ≡ true → HasNonceAsk q
has_nonce_ask q all some =
    let f = first_of (waits_on Nonce) (IsFitting Cash) q all some in
    record { command = f.command; first = f.first; asks = nonce_asks f.command.job.ask (subst (λ line. MayAsk Cash line f.command.job.ask) (line_of_waiting Nonce f.command f.passes) f.has) }

no_issue : (service : Service) → MayAsk service Device issue → ⊥
no_issue Publisher may = may
no_issue Card may = may
no_issue Keys may = may
no_issue Cash may = may

no_clear : (service : Service) → MayAsk service Device clear → ⊥
no_clear Publisher may = may
no_clear Card may = may
no_clear Keys may = may
no_clear Cash may = may

has_device_ask : (service : Service) (q : List (Command Job)) → All (IsFitting service) q → list_any (waits_on Device) q ≡ true → HasDeviceAsk q
has_device_ask service q all some =
    let f = first_of (waits_on Device) (IsFitting service) q all some in
    let may : MayAsk service Device f.command.job.ask = subst (λ line. MayAsk service line f.command.job.ask) (line_of_waiting Device f.command f.passes) f.has in
    record {
      command = f.command;
      first = f.first;
      no_issue = λ e. no_issue service (subst (λ ask. MayAsk service Device ask) e may);
      no_clear = λ e. no_clear service (subst (λ ask. MayAsk service Device ask) e may);
    }

no_order : (s : State) (service : Service) → has_order s service ≡ false → is_service Cash service ≡ true → s.seen.guard.open_order ≡ No
no_order s service none at_cash = unordered s.seen.guard.open_order (rw at_cash at none)

is_some_not : {X : Type 0} (o : Option X) → is_some o ≡ true → o ≢ None
is_some_not None some e = false≢true some
is_some_not (Some x) some e = absurd (let f : Some x ≡ None = e in cc)

-- only the dispenser has commands of the dispenser
pub at_cash : (service : Service) (q : List (Command Job)) (a : Command Job) (ask : CashAsk) → All (IsFitting service) q → find (waits_on Device) q ≡ Some a → a.job.ask ≡ cash ask → service ≡ Cash
at_cash service q a ask all there asks = of service (subst (λ k. MayAsk service Device k) asks (subst (λ line. MayAsk service line a.job.ask) (line_of_waiting Device a (found_passes (waits_on Device) q a there)) (found_has (waits_on Device) (IsFitting service) q a all there)))
  where
    of : (other : Service) → MayAsk other Device (cash ask) → other ≡ Cash
    of Publisher may = absurd may
    of Card may = absurd may
    of Keys may = absurd may
    of Cash may = refl

-- the machine at another moment
abbrev later : State → Moment → State
later s now = record s { now = now }

over_live : (s : State) → is_life_over s ≡ true → is_live s.seen ≡ true
over_live s e = first_and (is_live s.seen) (not (s.life == 0)) (first_and (is_live s.seen && not (s.life == 0)) (nat_le (s.issued.0 + s.life) s.now.0) (first_and (is_live s.seen && not (s.life == 0) && nat_le (s.issued.0 + s.life) s.now.0) (is_fit s.seen) e))

over_fit : (s : State) → is_life_over s ≡ true → is_fit s.seen ≡ true
over_fit s e = second_and (is_live s.seen && not (s.life == 0) && nat_le (s.issued.0 + s.life) s.now.0) (is_fit s.seen) e

module _ (s : State) (now : Moment) (service : Service) (sound : IsSound s) (up : s.boot ≢ 0) where
  at : (found case : Case) → found ≡ case → CanDo found s.seen.guard now s.queues service → CanDo case s.seen.guard now s.queues service
  at found case e can = subst (λ k. CanDo k s.seen.guard now s.queues service) e can

  ordered : has_order (later s now) service ≡ true → CanDo order s.seen.guard now s.queues service
  ordered y = has_plan s.seen.guard s.queues.cash sound.planned (sound.ordered up (second_and (is_service Cash service) (is_ordered s.seen.guard.open_order) y))

  expires : has_order (later s now) service ≡ false → (is_service Cash service && is_life_over (later s now)) ≡ true → CanDo expire s.seen.guard now s.queues service
  expires none y =
      let over = second_and (is_service Cash service) (is_life_over (later s now)) y in
      record {
        none = no_order s service none (first_and (is_service Cash service) (is_life_over (later s now)) y);
        live = is_some_not (live_in s.seen.guard.boot_missing s.seen.guard.records) (over_live (later s now) over);
        fit = is_absent (unfit s.seen.guard) (over_fit (later s now) over);
      }

  nonces : has_order (later s now) service ≡ false → (is_service Cash service && has_nonce (later s now) service) ≡ true → CanDo nonce s.seen.guard now s.queues service
  nonces none y =
      let at_cash = first_and (is_service Cash service) (has_nonce (later s now) service) y in
      record {
        none = no_order s service none at_cash;
        asks = has_nonce_ask s.queues.cash (sound.asks Cash) (waiting service at_cash (second_and (is_service Cash service) (has_nonce (later s now) service) y));
      }
    where
      waiting : (other : Service) → is_service Cash other ≡ true → list_any (waits_on Nonce) (queue_at s other) ≡ true → list_any (waits_on Nonce) s.queues.cash ≡ true
      waiting Publisher e some = absurd (false≢true e)
      waiting Card e some = absurd (false≢true e)
      waiting Keys e some = absurd (false≢true e)
      waiting Cash e some = some

  goes_on : (is_service Cash service && has_running (later s now) service) ≡ true → CanDo go_on s.seen.guard now s.queues service
  goes_on y = has_plan s.seen.guard s.queues.cash sound.planned (running service (first_and (is_service Cash service) (has_running (later s now) service) y) (second_and (is_service Cash service) (has_running (later s now) service) y))
    where
      running : (other : Service) → is_service Cash other ≡ true → list_any (λ a. is_running a.stage) (queue_at s other) ≡ true → list_any (λ a. is_running a.stage) s.queues.cash ≡ true
      running Publisher e some = absurd (false≢true e)
      running Card e some = absurd (false≢true e)
      running Keys e some = absurd (false≢true e)
      running Cash e some = some

  begins : has_order (later s now) service ≡ false → can_begin (later s now) service ≡ true → CanDo begin s.seen.guard now s.queues service
  begins none y = record {
    none = λ e. no_order s service none (subst (λ other. is_service Cash other ≡ true) (sym e) refl);
    asks = has_device_ask service (queue_at s service) (sound.asks service) (first_and (list_any (waits_on Device) (queue_at s service)) _ y);
    fitting = sound.asks service;
    idle = none_of (λ a. is_running a.stage) (queue_at s service) (not_true (has_running s service) (second_and (list_any (waits_on Device) (queue_at s service)) _ y));
  }

  -- the first case that applies can be done
  pub can_do : (case : Case) → case_of (later s now) service ≡ case → CanDo case s.seen.guard now s.queues service
  can_do case e = elim (cases_Bool (has_order (later s now) service)) [
    | inl y ↦ at order case (rw y at e) (ordered y)
    | inr a ↦ elim (cases_Bool (is_service Cash service && is_life_over (later s now))) [
      | inl y ↦ at expire case (rw (a, y) at e) (expires a y)
      | inr b ↦ elim (cases_Bool (has_ready (later s now) service)) [
        | inl y ↦ at answer case (rw (a, b, y) at e) (has_result s.now (queue_at s service) (sound.causes service) y)
        | inr c ↦ elim (cases_Bool (is_service Cash service && has_nonce (later s now) service)) [
          | inl y ↦ at nonce case (rw (a, b, c, y) at e) (nonces a y)
          | inr d ↦ elim (cases_Bool (has_overdue (later s now) service)) [
            | inl y ↦ at overdue case (rw (a, b, c, d, y) at e) y
            | inr f ↦ elim (cases_Bool (has_stopped (later s now) service)) [
              | inl y ↦ at stop case (rw (a, b, c, d, f, y) at e) y
              | inr g ↦ elim (cases_Bool (is_service Cash service && has_running (later s now) service)) [
                | inl y ↦ at go_on case (rw (a, b, c, d, f, g, y) at e) (goes_on y)
                | inr h ↦ elim (cases_Bool (can_begin (later s now) service)) [
                  | inl y ↦ at begin case (rw (a, b, c, d, f, g, h, y) at e) (begins a y)
                  | inr i ↦ at rest case (rw (a, b, c, d, f, g, h, i) at e) tt
                ]
              ]
            ]
          ]
        ]
      ]
    ]
  ]

-- the case is that of the moment of the step
same_case : (s : State) (now moment : Moment) (service : Service) (case : Case) → moment ≡ cond (nat_le s.now.0 now.0) now s.now → case ≡ case_of (later s moment) service → case ≡ case_of (at_moment s now) service
same_case s now moment service case is at = at ∙ ap (λ m. case_of (record s { now = m }) service) is

-- a case that is done at the later moment is a step of work
pub works : (s : State) (service : Service) (now moment : Moment) (case : Case) (told : Answer) (new : State)
    → IsWhole s → moment ≡ cond (nat_le s.now.0 now.0) now s.now → case ≡ case_of (later s moment) service → told ≡ told_by case
    → Does case (later s moment) service new → Step s (work service now) told new
works s service now moment case told new whole is at tells does =
    let its = same_case s now moment service case is at in
    happens (whole.there) (
      tells ∙ ap told_by its,
      subst (λ m. Does (case_of (at_moment s now) service) (record s { now = m }) service new) is (subst (λ k. Does k (later s moment) service new) its does),
    )

-- want of memory leaves all as it was, but that the journal may have been read
pub work_wants : {M D : Type 0} (g : Ghosts D) (r : Result Work Memory) (why : Memory) (service : Service) (now : Moment) (boot : ℕ) (moment : Moment) (given : ℕ) (old new : Dispenser M D) (devices devices' : Devices) (traffic traffic' : Traffic)
    → IsErrAnd r (λ e. e ≡ why) → IsOnlyRead old new → devices' ≡ devices → traffic' ≡ traffic → g.faults old.guard.disk ≤ g.faults new.guard.disk
    → Step (of_parts g old boot moment given devices traffic) (work service now) (worked r) (of_parts g new boot moment given devices' traffic')
work_wants g (Ok done) why service now boot moment given old new devices devices' traffic traffic' err read a b later_ = absurd err
work_wants g (Err wants) why service now boot moment given old new devices devices' traffic traffic' err read a b later_ =
    wanting refl (record {
      next = seen g new.guard;
      becomes = record { guard_is = ap (λ d. d.guard.state) read; later = later_ };
      is = rw (a, b) (ap (λ d. of_parts g (record d { guard = new.guard }) boot moment given devices traffic) read);
    })

-- what a case may add is what the step may
pub step_adds : (s : State) (service : Service) (now moment : Moment) (case : Case) → moment ≡ cond (nat_le s.now.0 now.0) now s.now → case ≡ case_of (later s moment) service
    → (it : Motion) → MayAddAt (at_moment s now) service it → MayAdd case s.seen.guard s.queues it
step_adds s service now moment case is at it may = subst (λ k. MayAdd k s.seen.guard s.queues it) (sym (same_case s now moment service case is at)) may

pub on_err : {T E P : Type 0} (r : Result T E) → P → OnErr r P
on_err (Ok x) p = tt
on_err (Err e) p = p
