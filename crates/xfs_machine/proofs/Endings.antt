-- A restart in place, and the end of a machine, are steps of it.
use Rattle.std.proofs.Common.{◌≡◌, ◌≢◌, ℕ, false, List, length, None, Result, Ok, Err, ◌∷◌, [], refl, ap, sym, subst, ◌∙◌, arith, length-append}
use Rattle.std.specs.Prelude.{IfErr, OnErr, OnOk, is_ok}
use Rattle.xfs_card.specs.Slot.{empty}
use Rattle.xfs_disk.specs.declared.disk.Disk.{Ghosts}
use Rattle.xfs_dispenser.specs.Seen.{Becomes, Seen, seen}
use Rattle.xfs_guard.specs.View.{GuardView, View}
use Rattle.xfs_guard.specs.declared.deny.Deny.{Deny}
use Rattle.xfs_guard.specs.declared.fail.BootFault.{BootFault}
use Rattle.xfs_guard.specs.declared.fail.BootFault.TheVariants.{Memory}
use Rattle.xfs_guard.specs.declared.open.Open.TheVariants.{No}
use Rattle.xfs_base.specs.declared.counts.Places.{Places}
use Rattle.xfs_guard.proofs.MarkLaws.{mark-there, marked-here}
use Rattle.xfs_journal.specs.declared.record.Rec.{Rec}
use Rattle.xfs_journal.specs.Journal.{boot_of, with_boot}
use Rattle.xfs_journal.proofs.StartLaws.{boot-mark, boot_of-places}
use Rattle.xfs_machine.specs.Answers.{finished}
use Rattle.xfs_machine.specs.Endings.{RefusesAs}
use Rattle.xfs_machine.specs.MachineView.{IsWhole, of_parts}
use Rattle.xfs_machine.specs.declared.dispenser.Dispenser.{Dispenser}
use Rattle.xfs_model.specs.Events.{restart, restarted, unrestarted, finish, memory}
use Rattle.xfs_model.specs.Guards.{Closes, Reboots}
use Rattle.xfs_model.specs.State.{State, bare, no_commands}
use Rattle.xfs_model.specs.Step.{Step, gone, happens, wanting}
use Rattle.xfs_model.specs.Told.{HasMark}
use Rattle.xfs_machine.proofs.GuardLaws.{unbooted_as}
use Rattle.xfs_model.proofs.Advancing.{advances}
use Rattle.xfs_model.proofs.RunsTell.{mark_kept}
use Rattle.xfs_model.proofs.Sounds.{sound_bare, unbooted_closed}
use Rattle.xfs_model.proofs.Telling.{bare_told}
use Rattle.xfs_traffic.specs.declared.devices.Devices.{Devices}
use Rattle.xfs_traffic.specs.declared.traffic.Traffic.{Traffic}

-- a machine over this guard that has forgotten what was before its boot
abbrev pub forgotten : {M D : Type 0} → Ghosts D → Dispenser M D → GuardView D → ℕ → Devices → Traffic → State
forgotten g before guard boot devices traffic = of_parts g (record before { guard = guard; issued = record { 0 = 0 }; exchange = false }) boot (record { 0 = 0 }) 0 devices traffic

pub is_bare : {M D : Type 0} (g : Ghosts D) (before : Dispenser M D) (guard : GuardView D) (boot : ℕ) (devices : Devices) (traffic : Traffic)
    → devices ≡ record { slot = empty; keypad = None } → traffic ≡ record { connections = []; queues = no_commands } → forgotten g before guard boot devices traffic ≡ bare (seen g guard) before.life boot
is_bare g before guard boot devices traffic a b = rw (a, b) refl

-- a list that ends with its boot record has a mark
pub boot_marks : (seen : Seen) (records : List Rec) (places : Places) → seen.guard.records ≡ with_boot records places → HasMark seen
boot_marks seen records places is =
    let last = marked-here records (boot_of records places) (boot-mark (boot_of records places) places (boot_of-places records places)) in
    rw is (mark-there (with_boot records places) (omega (arith, last)))

pub finishes : (s : State) (r : Result Unit Deny) (next : Seen) → s.boot ≢ 0 → Closes s.seen.guard.open_order s.seen (is_ok r) next → Step s finish (finished r) (gone s next)
finishes s (Ok done) next there closes = happens there (record { next = next; closes = closes; is = refl })
finishes s (Err deny) next there closes = happens there (record { next = next; closes = closes; is = refl })

pub restart_wants : (s : State) (r : Result Unit BootFault) (next : Seen) → IfErr r (λ f. RefusesAs f s.seen next) → r ≡ Err Memory → Step s restart memory (record s { seen = next })
restart_wants s (Ok done) next cause e = absurd (let f : Ok done ≡ Err Memory = e in cc)
restart_wants s (Err why) next cause e = wanting refl (record { next = next; becomes = wanted why (same_fault why e) cause; is = refl })
  where
    same_fault : (f : BootFault) → Path (Result Unit BootFault) (Err f) (Err Memory) → f ≡ Memory
    same_fault f e = cc

    wanted : (f : BootFault) → f ≡ Memory → RefusesAs f s.seen next → Becomes s.seen s.seen.guard next
    wanted f e cause = subst (λ g. RefusesAs g s.seen next) e cause

pub restarts : (s : State) (r : Result Unit BootFault) (next : Seen) (boot : ℕ) → s.boot ≢ 0 → OnOk r (Reboots s.seen next) → OnOk r (boot ≡ length next.guard.records) → OnOk r (Step s restart restarted (bare next s.life boot))
restarts s (Ok done) next boot there is number = happens there (record { next = next; reboots = is; is = ap (λ n. bare next s.life n) number })
restarts s (Err why) next boot there is number = tt

-- the same of a machine that is one of these parts
pub restarts_to : (s t : State) (r : Result Unit BootFault) (next : Seen) (boot : ℕ) → t ≡ bare next s.life boot → s.boot ≢ 0 → OnOk r (Reboots s.seen next) → OnOk r (boot ≡ length next.guard.records) → OnOk r (Step s restart restarted t)
restarts_to s t r next boot is there reboots number = subst (λ (b : State). OnOk r (Step s restart restarted b)) (sym is) (restarts s r next boot there reboots number)

pub refuses : (s : State) (r : Result Unit BootFault) (next : Seen) → s.boot ≢ 0 → IfErr r (λ f. RefusesAs f s.seen next) → IfErr r (λ f. f ≢ Memory → Step s restart unrestarted (gone s next))
refuses s (Ok done) next there is = tt
refuses s (Err why) next there is = λ other. happens there (record { next = next; refused = unbooted_as why s.seen next is other; is = refl })

-- an outcome that is not want of memory leaves no order open
pub closed_after : (old next : Seen) (r : Result Unit BootFault) → r ≢ Err Memory → OnOk r (Reboots old next) → IfErr r (λ f. RefusesAs f old next) → next.guard.open_order ≡ No
closed_after old next (Ok done) other is how = ap (λ (v : View). v.open_order) is.becomes.guard_is
closed_after old next (Err why) other is how = unbooted_closed old next (unbooted_as why old next how (λ e. other (ap Err e)))

pub emptied : (t : State) (r : Result Unit BootFault) (next : Seen) (life before boot : ℕ) → t ≡ bare next life boot → OnErr r (boot ≡ before) → IfErr r (λ f. f ≢ Memory → t ≡ bare next life before)
emptied t (Ok done) next life before boot is same = tt
emptied t (Err why) next life before boot is same = λ other. is ∙ ap (λ n. bare next life n) same

numbered : (s : State) (r : Result Unit BootFault) (next : Seen) (boot : ℕ) → s.boot ≢ 0 → OnOk r (Reboots s.seen next) → OnOk r (boot ≡ length next.guard.records) → OnErr r (boot ≡ s.boot) → boot ≢ 0
numbered s (Ok done) next boot there is number same e =
    let grown = ap (λ (v : View). length v.records) is.becomes.guard_is in
    let size = length-append is.records (boot_of is.records s.seen.guard.places ∷ []) in
    absurd (omega (arith, grown, size, number, e))
numbered s (Err why) next boot there is number same e = there (sym same ∙ e)

-- a list that has a mark has one behind a restart
marked : (s : State) (r : Result Unit BootFault) (next : Seen) (boot : ℕ) → IsWhole s → r ≢ Err Memory → OnOk r (Reboots s.seen next) → IfErr r (λ f. RefusesAs f s.seen next) → OnOk r (boot ≡ length next.guard.records) → HasMark next
marked s (Ok done) next boot whole other is how number = mark_kept s.seen next (advances s (bare next s.life boot) restart restarted (restarts s (Ok done) next boot whole.there is number)).records whole.mark
marked s (Err why) next boot whole other is how number = mark_kept s.seen next (advances s (gone s next) restart unrestarted (refuses s (Err why) next whole.there how (λ e. other (ap Err e)))).records whole.mark

pub whole_after : (s : State) (r : Result Unit BootFault) (next : Seen) (boot : ℕ) → IsWhole s → r ≢ Err Memory → OnOk r (Reboots s.seen next) → IfErr r (λ f. RefusesAs f s.seen next)
    → OnOk r (boot ≡ length next.guard.records) → OnErr r (boot ≡ s.boot) → IsWhole (bare next s.life boot)
whole_after s r next boot whole other is how number same = record {
  sound = sound_bare next s.life boot (λ up. closed_after s.seen next r other is how);
  told = bare_told next s.life boot;
  mark = marked s r next boot whole other is how number;
  moment = omega arith;
  there = numbered s r next boot whole.there is number same;
}
