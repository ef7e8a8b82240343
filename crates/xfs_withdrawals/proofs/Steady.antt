-- While no count of faults rises, a step that wants memory changes nothing: so it can be left out.
use Rattle.std.proofs.Common.{◌≡◌, ◌≢◌, ◌≤◌, ℕ, suc, List, [], ◌++◌, refl, ap, ap₂, subst, ◌∙◌, inl, inr, arith}
use Rattle.std.proofs.lemmas.Bool.{cases_lt}
use Rattle.xfs_base.specs.Causes.{Rose}
use Rattle.xfs_base.specs.declared.moment.Moment.{Moment}
use Rattle.xfs_base.specs.declared.moment.Service.TheVariants.{Cash}
use Rattle.xfs_dispenser.specs.Complete.{IsCalm}
use Rattle.xfs_dispenser.specs.Seen.{Seen}
use Rattle.xfs_dispenser.proofs.TurnLaws.{IsLater, calm-first, calm-rest, later-same, later-trans}
use Rattle.xfs_model.specs.Cases.{told_by}
use Rattle.xfs_model.specs.Conversations.{frames_after}
use Rattle.xfs_model.specs.Events.{Answer, Event, handed, memory, outbox, work}
use Rattle.xfs_model.specs.State.{Job, Pass, State}
use Rattle.xfs_model.specs.Step.{Step, at_moment, happens, wanting}
use Rattle.xfs_model.specs.Work.{Case, answer, begin, case_of, expire, go_on, nonce, order, overdue, rest, stop}
use Rattle.xfs_model.proofs.Advancing.{advances}
use Rattle.xfs_queue.specs.declared.command.Command.{Command}
use Rattle.xfs_withdrawals.specs.Turning.{IsInTime, Turned}
use Rattle.xfs_withdrawals.specs.Turning as turning

-- turns of which none wants memory
pub data Steady (a : Command Job) (last : State) : ℕ → State → List (List ℕ) → Type 0 where
  ended : Steady a last 0 last []
  hears : {turns : ℕ} {s middle : State} {frames : List (List ℕ)} → (pass : Pass) (more : List (List ℕ)) → Step s (outbox pass) (handed more) middle → Steady a last turns middle frames
      → Steady a last turns s (frames_after s [] (outbox pass) (handed more) a.client ++ frames)
  works : {turns : ℕ} {s middle : State} {frames : List (List ℕ)} → (now : Moment) (told_ : Answer) → told_ ≢ memory → IsInTime (at_moment s now) a → Step s (work Cash now) told_ middle
      → Steady a last turns middle frames → Steady a last (suc turns) s frames

pub later_by : (s new : State) (event : Event) (told_ : Answer) → Step s event told_ new → IsLater s.seen new.seen
later_by s new event told_ is = let on = advances s new event told_ is in record { mech = on.mech_faults; disk = on.disk_faults }

-- no count of faults falls
turned_later : (a : Command Job) (last : State) {turns : ℕ} {s : State} {frames : List (List ℕ)} → Turned a last turns s frames → IsLater s.seen last.seen
turned_later a last turning.ended = later-same last.seen last.seen refl
turned_later a last (turning.hears {s = s} {middle = middle} pass given step run) = later-trans s.seen middle.seen last.seen (later_by s middle _ _ step) (turned_later a last run)
turned_later a last (turning.wants {s = s} {middle = middle} now step run) = later-trans s.seen middle.seen last.seen (later_by s middle _ _ step) (turned_later a last run)
turned_later a last (turning.works {s = s} {middle = middle} now told_ some time step run) = later-trans s.seen middle.seen last.seen (later_by s middle _ _ step) (turned_later a last run)

pub steady_later : (a : Command Job) (last : State) {turns : ℕ} {s : State} {frames : List (List ℕ)} → Steady a last turns s frames → IsLater s.seen last.seen
steady_later a last ended = later-same last.seen last.seen refl
steady_later a last (hears {s = s} {middle = middle} pass given step run) = later-trans s.seen middle.seen last.seen (later_by s middle _ _ step) (steady_later a last run)
steady_later a last (works {s = s} {middle = middle} now told_ some time step run) = later-trans s.seen middle.seen last.seen (later_by s middle _ _ step) (steady_later a last run)

-- a count that neither fell nor rose
still : (before now : ℕ) → before ≤ now → ¬ Rose before now → now ≡ before
still before now later calm = elim (cases_lt before now) [
  | inl rose ↦ absurd (calm (omega (arith, rose)))
  | inr low ↦ omega (arith, later, low)
]

same_seen : (s next : Seen) → next.guard ≡ s.guard → next.disk_faults ≡ s.disk_faults → next ≡ s
same_seen s next guard faults = ap₂ (λ g d. record { guard = g; disk_faults = d }) guard faults

-- no case of the work answers so
never_told : (c : Case) → memory ≡ told_by c → ⊥
never_told order e = cc
never_told expire e = cc
never_told answer e = cc
never_told nonce e = cc
never_told overdue e = cc
never_told stop e = cc
never_told go_on e = cc
never_told begin e = cc
never_told rest e = cc

-- want of memory changes nothing in a calm while
unmoved : (s new : State) (now : Moment) → ¬ Rose s.seen.disk_faults new.seen.disk_faults → Step s (work Cash now) memory new → new ≡ s
unmoved s new now calm (happens up is) = absurd (never_told (case_of (at_moment s now) Cash) is.0)
unmoved s new now calm (wanting told w) =
    let seen : new.seen ≡ w.next = ap (λ (n : State). n.seen) w.is in
    let faults = still s.seen.disk_faults w.next.disk_faults w.becomes.later (subst (λ (x : Seen). ¬ Rose s.seen.disk_faults x.disk_faults) seen calm) in
    w.is ∙ ap (λ (x : Seen). record s { seen = x }) (same_seen s.seen w.next w.becomes.guard_is faults)

pub steady : (a : Command Job) (last : State) {turns : ℕ} {s : State} {frames : List (List ℕ)} → IsCalm s.seen last.seen → Turned a last turns s frames → Steady a last turns s frames
steady a last calm turning.ended = ended
steady a last calm (turning.hears {s = s} {middle = middle} pass given step run) = hears pass given step (steady a last (calm-rest s.seen middle.seen last.seen (later_by s middle _ _ step) calm) run)
steady a last calm (turning.wants {turns = turns} {s = s} {middle = middle} {frames = frames} now step run) =
    let same = unmoved s middle now (calm-first s.seen middle.seen last.seen (turned_later a last run) calm).disk step in
    subst (λ n. Steady a last turns n frames) same (steady a last (calm-rest s.seen middle.seen last.seen (later_by s middle _ _ step) calm) run)
steady a last calm (turning.works {s = s} {middle = middle} now told_ some time step run) = works now told_ some time step (steady a last (calm-rest s.seen middle.seen last.seen (later_by s middle _ _ step) calm) run)
