-- A touch of the world is a step of the machine.
use Rattle.std.proofs.Common.{◌≡◌, ◌≢◌, Result, Ok, Err, refl, ap}
use Rattle.std.specs.Prelude.{IfOk, IsErrAnd, OnErr}
use Rattle.xfs_base.specs.declared.faults.Memory.{Memory}
use Rattle.xfs_dispenser.specs.Seen.{Seen}
use Rattle.xfs_mech.specs.declared.touch.Touch.{Touch}
use Rattle.xfs_mech.specs.declared.touch.Touch.TheVariants.{NotesTaken}
use Rattle.xfs_machine.specs.Answers.{touched_as}
use Rattle.xfs_machine.specs.Parts.{at_devices}
use Rattle.xfs_machine.specs.declared.answer.Touched.{Touched}
use Rattle.xfs_model.specs.Events.{touch}
use Rattle.xfs_model.specs.State.{State}
use Rattle.xfs_model.specs.Step.{Step, happens, wanting}
use Rattle.xfs_model.specs.Touches.{TakesNotes}
use Rattle.xfs_traffic.specs.declared.devices.Devices.{Devices}
use Rattle.xfs_traffic.specs.declared.traffic.Traffic.{Traffic}
use Rattle.xfs_machine.proofs.Calls.{traffic_of}

pub notes_taken : (s : State) (r : Result Touched Memory) (next : Seen) → s.boot ≢ 0 → IfOk r (λ t. (x : State) → TakesNotes (record x { seen = s.seen }) (touched_as (Ok t)) (record x { seen = next })) → OnErr r (next ≡ s.seen)
    → Step s (touch NotesTaken) (touched_as r) (record s { seen = next })
notes_taken s (Ok t) next up takes same = happens up (takes s)
notes_taken s (Err e) next up takes same = wanting refl (ap (λ n. record s { seen = n }) same)

pub touch_wants : (r : Result Touched Memory) (why : Memory) (s : State) (it : Touch) (devices : Devices) (traffic : Traffic) → IsErrAnd r (λ e. e ≡ why) → devices ≡ record { slot = s.slot; keypad = s.keypad } → traffic ≡ traffic_of s
    → Step s (touch it) (touched_as r) (at_devices s devices traffic)
touch_wants (Ok t) why s it devices traffic err a b = absurd err
touch_wants (Err e) why s it devices traffic err a b = wanting refl (rw (a, b) refl)

-- an error is no answer
pub err_if_ok : (r : Result Touched Memory) (why : Memory) (P : Touched → Type 0) → IsErrAnd r (λ e. e ≡ why) → IfOk r P
err_if_ok (Ok t) why P err = absurd err
err_if_ok (Err e) why P err = tt
