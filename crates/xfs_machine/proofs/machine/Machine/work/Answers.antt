use Rattle.std.proofs.Common.{refl, sym}
use Rattle.xfs_dispenser.proofs.StepLaws.{Keeps-fewer}
use Rattle.xfs_machine.specs.Chosen.{case_seen}
use Rattle.xfs_machine.specs.MachineView.{of_parts}
use Rattle.xfs_machine.specs.Parts.{at_work}
use Rattle.xfs_machine.proofs.Calls.{later_within, whole_kept}
use Rattle.xfs_machine.proofs.Laws.{lawful}
use Rattle.xfs_machine.proofs.WorkLaws.{can_do, on_err, step_adds, work_wants, works}
use Rattle.xfs_machine.proofs.machine.Machine.work.Goals as goal
use Rattle.xfs_model.specs.Cases.{told_by}
use Rattle.xfs_model.specs.Events.{work}

pub carry_out-requires-clause-can : goal.carry_out-requires-clause-can
carry_out-requires-clause-can g c =
    let m = c.self.inside in
    let before = of_parts g.D.Disk m.dispenser m.boot m.moment m.given m.devices m.traffic in
    can_do before c.later-now.result c.args.service c.self.invariant.sound c.self.invariant.there (case_seen c.case_of-case.result) (sym (c.case_of-case.ensures.case before))

pub returns-in_err-carry_out-clause-step : goal.returns-in_err-carry_out-clause-step
returns-in_err-carry_out-clause-step g c =
    let m = c.self.inside in
    let new = c.carry_out.new in
    let same = c.in_err-carry_out.ensures.memory in
    rw (← c.self.view_is) (work_wants g.D.Disk c.from_residual.result _ c.args.service c.args.now m.boot m.moment m.given m.dispenser new.dispenser m.devices new.devices m.traffic new.traffic c.from_residual.ensures.1 same.0 same.1 same.2 c.carry_out.ensures.proceeds.disk_faults)

pub returns-in_err-carry_out-clause-laws : goal.returns-in_err-carry_out-clause-laws
returns-in_err-carry_out-clause-laws g c =
    let m = c.self.inside in
    let new = c.carry_out.new in
    let same = c.in_err-carry_out.ensures.memory in
    rw (← c.self.view_is) (lawful _ _ (work c.args.service c.args.now) _ c.self.invariant (work_wants g.D.Disk c.from_residual.result _ c.args.service c.args.now m.boot m.moment m.given m.dispenser new.dispenser m.devices new.devices m.traffic new.traffic c.from_residual.ensures.1 same.0 same.1 same.2 c.carry_out.ensures.proceeds.disk_faults))

pub returns-in_err-carry_out-clause-still : goal.returns-in_err-carry_out-clause-still
returns-in_err-carry_out-clause-still g c =
    rw (← c.self.view_is) (on_err c.from_residual.result (c.in_err-carry_out.ensures.still c.case_of-case.ensures.upheld))

pub invariant_of-self-2 : goal.invariant_of-self-2
invariant_of-self-2 g c =
    let m = c.self.inside in
    let before = of_parts g.D.Disk m.dispenser m.boot m.moment m.given m.devices m.traffic in
    whole_kept before _ (work c.args.service c.args.now) (told_by (case_seen c.case_of-case.result)) c.self.invariant
    (works before c.args.service c.args.now c.later-now.result (case_seen c.case_of-case.result) _ (at_work g.D.Disk before c.later-now.result c.carry_out.new.dispenser c.carry_out.new.devices c.carry_out.new.traffic)
    c.self.invariant c.later-now.ensures (c.case_of-case.ensures.case before) refl (c.in_ok-carry_out.ensures.does before))
    (later_within m.moment c.args.now c.later-now.result c.later-now.ensures c.self.invariant.moment c.requires) refl

pub returns-clause-step : goal.returns-clause-step
returns-clause-step g c =
    let m = c.self.inside in
    let before = of_parts g.D.Disk m.dispenser m.boot m.moment m.given m.devices m.traffic in
    rw (← c.self.view_is) (works before c.args.service c.args.now c.later-now.result (case_seen c.case_of-case.result) _ (at_work g.D.Disk before c.later-now.result c.carry_out.new.dispenser c.carry_out.new.devices c.carry_out.new.traffic)
    c.self.invariant c.later-now.ensures (c.case_of-case.ensures.case before) c.told_by.ensures (c.in_ok-carry_out.ensures.does before))

pub returns-clause-laws : goal.returns-clause-laws
returns-clause-laws g c =
    let m = c.self.inside in
    let before = of_parts g.D.Disk m.dispenser m.boot m.moment m.given m.devices m.traffic in
    rw (← c.self.view_is) (lawful before _ (work c.args.service c.args.now) _ c.self.invariant (works before c.args.service c.args.now c.later-now.result (case_seen c.case_of-case.result) _ (at_work g.D.Disk before c.later-now.result c.carry_out.new.dispenser c.carry_out.new.devices c.carry_out.new.traffic)
    c.self.invariant c.later-now.ensures (c.case_of-case.ensures.case before) c.told_by.ensures (c.in_ok-carry_out.ensures.does before)))

pub returns-clause-keeps : goal.returns-clause-keeps
returns-clause-keeps g c =
    let m = c.self.inside in
    let before = of_parts g.D.Disk m.dispenser m.boot m.moment m.given m.devices m.traffic in
    rw (← c.self.view_is) (Keeps-fewer g.D.Disk _ _ _ _ (step_adds before c.args.service c.args.now c.later-now.result (case_seen c.case_of-case.result) c.later-now.ensures (c.case_of-case.ensures.case before))
    (c.in_ok-carry_out.ensures.keeps c.case_of-case.ensures.upheld))
