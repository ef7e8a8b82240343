use Rattle.std.proofs.Common.{arith, refl, sym, ◌∙◌}
use Rattle.xfs_machine.specs.MachineView.{of_parts}
use Rattle.xfs_machine.proofs.Calls.{joins, was_ok, whole_kept}
use Rattle.xfs_machine.proofs.Laws.{lawful}
use Rattle.xfs_machine.proofs.machine.Machine.join.Goals as goal
use Rattle.xfs_model.specs.Events.{join}

pub invariant_of-self-2 : goal.invariant_of-self-2
invariant_of-self-2 g c =
    let m = c.self.inside in
    let before = of_parts g.D.Disk m.dispenser m.boot m.moment m.given m.devices m.traffic in
    whole_kept before _ (join c.args.service) _ c.self.invariant
    (joins before c.args.service c.push.new.self c.self.invariant (omega (arith, c.len.ensures, c.if-len-ge-MOST_OPEN.false)) (omega (arith, c.if-self.false, c.self.ranges)) (rw c.new-connection.ensures at (was_ok c.push.result (sym c.is_err.ensures.value ∙ c.if-is_err.false) c.push.ensures.ok))) c.self.invariant.moment refl

pub returns-clause-laws : goal.returns-clause-laws
returns-clause-laws g c =
    let m = c.self.inside in
    let before = of_parts g.D.Disk m.dispenser m.boot m.moment m.given m.devices m.traffic in
    rw (← c.self.view_is) (lawful before _ (join c.args.service) _ c.self.invariant
    (joins before c.args.service c.push.new.self c.self.invariant (omega (arith, c.len.ensures, c.if-len-ge-MOST_OPEN.false)) (omega (arith, c.if-self.false, c.self.ranges)) (rw c.new-connection.ensures at (was_ok c.push.result (sym c.is_err.ensures.value ∙ c.if-is_err.false) c.push.ensures.ok))))
