-- A step of work: when its case can be done, and what it may add to the mechanism's list.
use Rattle.std.specs.Prelude.{◌≡◌, ◌≢◌, ◌&&◌, ◌||◌, ⊤, true, None, OnOk, Result, find, All}
use Rattle.std.specs.List.{list_any}
use Rattle.xfs_base.specs.declared.moment.Moment.{Moment}
use Rattle.xfs_base.specs.declared.moment.Service.{Service}
use Rattle.xfs_base.specs.declared.moment.Service.TheVariants.{Cash}
use Rattle.xfs_disk.specs.declared.disk.Disk.{Ghosts}
use Rattle.xfs_guard.specs.Fits.{unfit}
use Rattle.xfs_guard.specs.Nonce.{live_in}
use Rattle.xfs_guard.specs.Keeps.{Keeps}
use Rattle.xfs_guard.specs.Upheld.{IsUpheld}
use Rattle.xfs_guard.specs.View.{GuardView, View}
use Rattle.xfs_guard.specs.declared.open.Open.TheVariants.{No}
use Rattle.xfs_mech.specs.declared.motion.Motion.{Motion}
use Rattle.xfs_queue.specs.Commands.{is_due, is_running, waits_on}
use Rattle.xfs_queue.specs.declared.command.Line.TheVariants.{Device}
use Rattle.xfs_model.specs.Sound.{IsFitting}
use Rattle.xfs_model.specs.State.{Queues, State, queue_of}
use Rattle.xfs_model.specs.Work.{Case, order, expire, answer, nonce, overdue, stop, go_on, begin, rest, case_of}
use Rattle.xfs_traffic.specs.Parts.{HasResult}
use Rattle.xfs_machine.specs.Chosen.{case_seen}
use Rattle.xfs_machine.specs.Parts.{HasDeviceAsk, HasNonceAsk, HasPlan, MayStep}
use Rattle.xfs_machine.specs.declared.cases.Case.{Case as Chosen}

-- no order is open, a nonce lives, and the journal takes more records
pub record CanExpire (v : View) : Type 0 where
  pub none : v.open_order ≡ No
  pub live : live_in v.boot_missing v.records ≢ None
  pub fit : unfit v ≡ None

-- no order is open, and the nonce line has a command
pub record CanTakeNonce (v : View) (qs : Queues) : Type 0 where
  pub none : v.open_order ≡ No
  pub asks : HasNonceAsk qs.cash

-- a command waits that its service can begin, and none runs
pub record CanBegin (v : View) (qs : Queues) (service : Service) : Type 0 where
  pub none : service ≡ Cash → v.open_order ≡ No
  pub asks : HasDeviceAsk (queue_of qs service)
  pub fitting : All (IsFitting service) (queue_of qs service)
  pub idle : find (λ a. is_running a.stage) (queue_of qs service) ≡ None

-- what a case finds
abbrev pub CanDo : Case → View → Moment → Queues → Service → Type 0
CanDo order v now qs service = HasPlan v qs.cash
CanDo expire v now qs service = CanExpire v
CanDo answer v now qs service = HasResult (queue_of qs service)
CanDo nonce v now qs service = CanTakeNonce v qs
CanDo overdue v now qs service = list_any (λ a. waits_on Device a && is_due now a) (queue_of qs service) ≡ true
CanDo stop v now qs service = list_any (λ a. is_running a.stage && (a.marked || is_due now a)) (queue_of qs service) ≡ true
CanDo go_on v now qs service = HasPlan v qs.cash
CanDo begin v now qs service = CanBegin v qs service
CanDo rest v now qs service = ⊤

-- an entry that a case may add to the mechanism's list: a step of the running plan adds one
abbrev pub MayAdd : Case → View → Queues → Motion → Type 0
MayAdd order v qs entry = MayStep v qs.cash entry
MayAdd go_on v qs entry = MayStep v qs.cash entry
MayAdd other v qs entry = ⊥

-- what a crash finds inside a case that is done between calls: the guard gained no more than such an entry
abbrev pub CaseKeeps : {D : Type 0} → Ghosts D → Chosen → Queues → GuardView D → GuardView D → Type 0
CaseKeeps g case qs old new = Keeps g (MayAdd (case_seen case) old.state qs) old new

-- a case that is done keeps a guard that is upheld
abbrev pub CaseUpholds : {D T E : Type 0} → Ghosts D → Chosen → Queues → Result T E → GuardView D → GuardView D → Type 0
CaseUpholds g case qs result old new = IsUpheld g old → OnOk result (CaseKeeps g case qs old new)

-- an entry that the step of work of a service may add to the mechanism's list
abbrev pub MayAddAt : State → Service → Motion → Type 0
MayAddAt s service entry = MayAdd (case_of s service) s.seen.guard s.queues entry
