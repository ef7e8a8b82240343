-- The case of a step of work that the tests of queue and guard choose.
use Rattle.std.proofs.Common.{◌≡◌, ◌≢◌, ◌&&◌, ◌||◌, not, Bool, true, false, List, [], refl, inl, inr}
use Rattle.std.specs.List.{list_any}
use Rattle.std.proofs.lemmas.Bool.{cases_Bool}
use Rattle.xfs_queue.specs.declared.command.Command.{Command}
use Rattle.xfs_base.specs.declared.moment.Moment.{Moment}
use Rattle.xfs_queue.specs.Commands.{is_due, is_running, waits_on}
use Rattle.xfs_queue.specs.declared.command.Line.TheVariants.{Device}
use Rattle.xfs_base.specs.declared.moment.Service.{Service}
use Rattle.xfs_guard.specs.declared.open.Open.{Open}
use Rattle.xfs_guard.specs.declared.open.Open.TheVariants.{No, Written, Acted}
use Rattle.xfs_base.specs.declared.moment.Service.TheVariants.{Cash}
use Rattle.xfs_model.specs.Connections.{is_service}
use Rattle.xfs_model.specs.State.{Job, State, queue_at}
use Rattle.xfs_model.specs.Work.{answer, begin, case_of, expire, go_on, has_nonce, has_order, has_ready, is_life_over, is_ordered, nonce, overdue, rest, stop}
use Rattle.xfs_machine.specs.Chosen.{device_case}

-- the cases behind the first, where none before applies
pub expires_first : (s : State) (service : Service) → has_order s service ≡ false → (is_service Cash service && is_life_over s) ≡ true → expire ≡ case_of s service
expires_first s service a b = rw (a, b) refl

pub answers_first : (s : State) (service : Service) → has_order s service ≡ false → (is_service Cash service && is_life_over s) ≡ false → has_ready s service ≡ true → answer ≡ case_of s service
answers_first s service a b c = rw (a, b, c) refl

pub nonce_first : (s : State) (service : Service) → has_order s service ≡ false → (is_service Cash service && is_life_over s) ≡ false → has_ready s service ≡ false → (is_service Cash service && has_nonce s service) ≡ true
    → nonce ≡ case_of s service
nonce_first s service a b c d = rw (a, b, c, d) refl

pub device_first : (s : State) (service : Service) → has_order s service ≡ false → (is_service Cash service && is_life_over s) ≡ false → has_ready s service ≡ false → (is_service Cash service && has_nonce s service) ≡ false
    → device_case (queue_at s service) (is_service Cash service) s.now ≡ case_of s service
device_first s service a b c d = rw (a, b, c, d) refl

-- no command is pending
pub rests_empty : (s : State) (service : Service) → has_order s service ≡ false → (is_service Cash service && is_life_over s) ≡ false → queue_at s service ≡ [] → rest ≡ case_of s service
rests_empty s service a b none = elim (cases_Bool (is_service Cash service)) [
  | inl y ↦ rw (a, b, none, y) refl
  | inr n ↦ rw (a, b, none, n) refl
]

-- an order is open
pub ordered_is : (b : Bool) (o : Open) → (b ≡ true → o ≢ No) → (o ≢ No → b ≡ true) → b ≡ is_ordered o
ordered_is true No f g = absurd (f refl refl)
ordered_is true (Written kind counts) f g = refl
ordered_is true (Acted kind moved diverted failed) f g = refl
ordered_is false No f g = refl
ordered_is false (Written kind counts) f g = g (λ e. let h : Written kind counts ≡ No = e in cc)
ordered_is false (Acted kind moved diverted failed) f g = g (λ e. let h : Acted kind moved diverted failed ≡ No = e in cc)

-- the cases of the device line, where none before applies
pub overdue_first : (q : List (Command Job)) (is_cash : Bool) (now : Moment) → list_any (λ a. waits_on Device a && is_due now a) q ≡ true → overdue ≡ device_case q is_cash now
overdue_first q is_cash now a = rw a refl

pub stops_first : (q : List (Command Job)) (is_cash : Bool) (now : Moment) → list_any (λ a. waits_on Device a && is_due now a) q ≡ false → list_any (λ a. is_running a.stage && (a.marked || is_due now a)) q ≡ true → stop ≡ device_case q is_cash now
stops_first q is_cash now a b = rw (a, b) refl

pub goes_on_first : (q : List (Command Job)) (is_cash : Bool) (now : Moment) → list_any (λ a. waits_on Device a && is_due now a) q ≡ false → list_any (λ a. is_running a.stage && (a.marked || is_due now a)) q ≡ false → (is_cash && list_any (λ a. is_running a.stage) q) ≡ true
    → go_on ≡ device_case q is_cash now
goes_on_first q is_cash now a b c = rw (a, b, c) refl

pub begins_first : (q : List (Command Job)) (is_cash : Bool) (now : Moment) → list_any (λ a. waits_on Device a && is_due now a) q ≡ false → list_any (λ a. is_running a.stage && (a.marked || is_due now a)) q ≡ false → (is_cash && list_any (λ a. is_running a.stage) q) ≡ false
    → (list_any (waits_on Device) q && not (list_any (λ a. is_running a.stage) q)) ≡ true → begin ≡ device_case q is_cash now
begins_first q is_cash now a b c d = rw (a, b, c, d) refl

pub rests : (q : List (Command Job)) (is_cash : Bool) (now : Moment) → list_any (λ a. waits_on Device a && is_due now a) q ≡ false → list_any (λ a. is_running a.stage && (a.marked || is_due now a)) q ≡ false → (is_cash && list_any (λ a. is_running a.stage) q) ≡ false
    → (list_any (waits_on Device) q && not (list_any (λ a. is_running a.stage) q)) ≡ false → rest ≡ device_case q is_cash now
rests q is_cash now a b c d = rw (a, b, c, d) refl
