use Rattle.std.proofs.Common.{◌≡◌, ◌≢◌, Err, sym, subst, ◌∙◌}
use Rattle.std.specs.Prelude.{IfErr, OnOk, Result}
use Rattle.std.proofs.lemmas.Bool.{false≢true}
use Rattle.std.proofs.lemmas.Result.{on_ok_weaker}
use Rattle.xfs_base.specs.Causes.{Rose}
use Rattle.xfs_dispenser.specs.Seen.{seen}
use Rattle.xfs_guard.specs.Keeps.{Keeps, NoEntry}
use Rattle.xfs_guard.specs.declared.fail.BootFault.{BootFault}
use Rattle.xfs_guard.specs.declared.fail.BootFault.TheVariants.{Disk, Memory}
use Rattle.xfs_machine.proofs.Endings.{emptied, forgotten, is_bare, refuses, restart_wants, restarts_to, whole_after}
use Rattle.xfs_machine.proofs.Laws.{lawful}
use Rattle.xfs_machine.proofs.machine.Machine.reboot.Goals as goal
use Rattle.xfs_machine.specs.Endings.{RefusesAs}
use Rattle.xfs_machine.specs.Laws.{IsLawful}
use Rattle.xfs_machine.specs.MachineView.{MachineView, IsWhole, guard_of, of_parts}
use Rattle.xfs_model.specs.Events.{restart, restarted, unrestarted}
use Rattle.xfs_model.specs.State.{bare}
use Rattle.xfs_model.specs.Step.{Step, gone}

pub returns-then-eq-clause-memory : goal.returns-then-eq-clause-memory
returns-then-eq-clause-memory g c = λ e. rw (← c.self.view_is) (restart_wants _ c.reboot-outcome.result (seen g.D.Disk c.reboot-outcome.new.guard) c.reboot-outcome.ensures.cause e)

pub invariant_of-self-2 : goal.invariant_of-self-2
invariant_of-self-2 g c =
    let m = c.self.inside in
    let before = of_parts g.D.Disk m.dispenser m.boot m.moment m.given m.devices m.traffic in
    let next = seen g.D.Disk c.reboot-outcome.new.guard in
    let boot = c.boot_after-self-inside.result in
    let empty = is_bare g.D.Disk m.dispenser c.reboot-outcome.new.guard boot c.new.result c.new-2.result c.new.ensures c.new-2.ensures in
    let is = c.reboot-outcome.ensures in
    let number = c.boot_after-self-inside.ensures in
    subst IsWhole (sym empty)
    (whole_after before c.reboot-outcome.result next boot c.self.invariant (λ e. false≢true (sym c.if-eq.false ∙ (rw e at c.eq.ensures))) is.ok is.cause number.ok number.err)

pub returns-clause-ok : goal.returns-clause-ok
returns-clause-ok g c =
    let m = c.self.inside in
    let next = seen g.D.Disk c.reboot-outcome.new.guard in
    let boot = c.boot_after-self-inside.result in
    let after = forgotten g.D.Disk m.dispenser c.reboot-outcome.new.guard boot c.new.result c.new-2.result in
    let empty = is_bare g.D.Disk m.dispenser c.reboot-outcome.new.guard boot c.new.result c.new-2.result c.new.ensures c.new-2.ensures in
    subst (λ (v : MachineView g.row.D.Denot). OnOk c.reboot-outcome.result (Step v.state restart restarted after)) c.self.view_is
    (restarts_to _ _ c.reboot-outcome.result next boot empty c.self.invariant.there c.reboot-outcome.ensures.ok c.boot_after-self-inside.ensures.ok)

pub returns-clause-laws : goal.returns-clause-laws
returns-clause-laws g c =
    let m = c.self.inside in
    let next = seen g.D.Disk c.reboot-outcome.new.guard in
    let boot = c.boot_after-self-inside.result in
    let after = forgotten g.D.Disk m.dispenser c.reboot-outcome.new.guard boot c.new.result c.new-2.result in
    let empty = is_bare g.D.Disk m.dispenser c.reboot-outcome.new.guard boot c.new.result c.new-2.result c.new.ensures c.new-2.ensures in
    subst (λ (v : MachineView g.row.D.Denot). OnOk c.reboot-outcome.result (IsLawful v.state restart restarted after)) c.self.view_is
    (on_ok_weaker c.reboot-outcome.result (λ step. lawful _ _ restart restarted c.self.invariant step)
    (restarts_to _ _ c.reboot-outcome.result next boot empty c.self.invariant.there c.reboot-outcome.ensures.ok c.boot_after-self-inside.ensures.ok))

pub returns-clause-refused : goal.returns-clause-refused
returns-clause-refused g c =
    let next = seen g.D.Disk c.reboot-outcome.new.guard in
    subst (λ (v : MachineView g.row.D.Denot). IfErr c.reboot-outcome.result (λ f. f ≢ Memory → Step v.state restart unrestarted (gone v.state next))) c.self.view_is
    (refuses _ c.reboot-outcome.result next c.self.invariant.there c.reboot-outcome.ensures.cause)

pub returns-clause-emptied : goal.returns-clause-emptied
returns-clause-emptied g c =
    let m = c.self.inside in
    let next = seen g.D.Disk c.reboot-outcome.new.guard in
    let boot = c.boot_after-self-inside.result in
    let after = forgotten g.D.Disk m.dispenser c.reboot-outcome.new.guard boot c.new.result c.new-2.result in
    let empty = is_bare g.D.Disk m.dispenser c.reboot-outcome.new.guard boot c.new.result c.new-2.result c.new.ensures c.new-2.ensures in
    subst (λ (v : MachineView g.row.D.Denot). IfErr c.reboot-outcome.result (λ f. f ≢ Memory → after ≡ bare next v.state.life v.state.boot)) c.self.view_is
    (emptied _ c.reboot-outcome.result next m.dispenser.life m.boot boot empty c.boot_after-self-inside.ensures.err)

pub returns-clause-memory : goal.returns-clause-memory
returns-clause-memory g c = λ e. absurd (false≢true (sym c.if-eq.false ∙ (rw e at c.eq.ensures)))

pub returns-clause-cause : goal.returns-clause-cause
returns-clause-cause g c =
    subst (λ (v : MachineView g.row.D.Denot). IfErr c.reboot-outcome.result (λ f. RefusesAs f v.state.seen (seen g.D.Disk c.reboot-outcome.new.guard))) c.self.view_is c.reboot-outcome.ensures.cause

pub returns-clause-disk : goal.returns-clause-disk
returns-clause-disk g c =
    subst (λ (v : MachineView g.row.D.Denot). Path (Result Unit BootFault) c.reboot-outcome.result (Err Disk) → Rose (g.D.Disk.faults v.disk) (g.D.Disk.faults c.reboot-outcome.new.guard.disk)) c.self.view_is c.reboot-outcome.ensures.disk

pub returns-clause-keeps : goal.returns-clause-keeps
returns-clause-keeps g c =
    subst (λ (v : MachineView g.row.D.Denot). Keeps g.D.Disk NoEntry (guard_of v) c.reboot-outcome.new.guard) c.self.view_is c.reboot-outcome.ensures.keeps
