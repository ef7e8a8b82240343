use Rattle.std.proofs.Common.{ap, refl}
use Rattle.std.proofs.lemmas.Result.{on_err_weaker}
use Rattle.xfs_dispenser.specs.Seen.{seen}
use Rattle.xfs_guard.proofs.KeepsLaws.{Proceeds-same}
use Rattle.xfs_mech.specs.declared.touch.Touch.TheVariants as Touch
use Rattle.xfs_machine.specs.MachineView.{of_parts}
use Rattle.xfs_machine.proofs.Calls.{whole_kept}
use Rattle.xfs_machine.proofs.Laws.{lawful}
use Rattle.xfs_machine.proofs.TouchLaws.{err_if_ok, notes_taken, touch_wants}
use Rattle.xfs_machine.proofs.WorkLaws.{on_err}
use Rattle.xfs_machine.proofs.machine.Machine.touch.Goals as goal
use Rattle.xfs_model.specs.Events.{touch, touched}
use Rattle.xfs_model.specs.Step.{happens}

pub invariant_of-self : goal.invariant_of-self
invariant_of-self g c =
    let m = c.self.inside in
    let before = of_parts g.D.Disk m.dispenser m.boot m.moment m.given m.devices m.traffic in
    whole_kept before _ (touch Touch.NotesTaken) _ c.self.invariant (notes_taken before c.take_notes.result (seen g.D.Disk c.take_notes.new.guard) c.self.invariant.there c.take_notes.ensures.takes (on_err_weaker c.take_notes.result (λ e. ap (seen g.D.Disk) e) c.take_notes.ensures.memory)) c.self.invariant.moment refl

pub returns-in-NotesTaken-clause-laws : goal.returns-in-NotesTaken-clause-laws
returns-in-NotesTaken-clause-laws g c =
    let m = c.self.inside in
    let before = of_parts g.D.Disk m.dispenser m.boot m.moment m.given m.devices m.traffic in
    rw (← c.self.view_is, c.in-NotesTaken.is) (lawful before _ (touch Touch.NotesTaken) _ c.self.invariant (notes_taken before c.take_notes.result (seen g.D.Disk c.take_notes.new.guard) c.self.invariant.there c.take_notes.ensures.takes (on_err_weaker c.take_notes.result (λ e. ap (seen g.D.Disk) e) c.take_notes.ensures.memory)))

pub returns-in_err-touch_device : goal.returns-in_err-touch_device
returns-in_err-touch_device g c =
    let m = c.self.inside in
    let before = of_parts g.D.Disk m.dispenser m.boot m.moment m.given m.devices m.traffic in
    let same = c.in_err-touch_device.ensures.memory in
    let wants = touch_wants c.from_residual.result _ before c.args.touch c.touch_device.new.devices c.touch_device.new.traffic c.from_residual.ensures.1 same.0 same.1 in
    rw (← c.self.view_is) record {
      step = wants;
      laws = lawful before _ (touch c.args.touch) _ c.self.invariant wants;
      keeps = err_if_ok c.from_residual.result _ _ c.from_residual.ensures.1;
      closed = λ _. refl;
      other = λ _. refl;
      memory = on_err c.from_residual.result refl;
      proceeds = Proceeds-same g.D.Disk _ g.met.D.Disk.only_now;
      tally = c.count_touch.ensures;
    }

pub invariant_of-self-2 : goal.invariant_of-self-2
invariant_of-self-2 g c =
    let m = c.self.inside in
    let before = of_parts g.D.Disk m.dispenser m.boot m.moment m.given m.devices m.traffic in
    whole_kept before _ (touch c.args.touch) touched c.self.invariant (happens c.self.invariant.there (c.in_ok-touch_device.ensures.touches before)) c.self.invariant.moment refl

pub returns : goal.returns
returns g c =
    let m = c.self.inside in
    let before = of_parts g.D.Disk m.dispenser m.boot m.moment m.given m.devices m.traffic in
    let step = happens c.self.invariant.there (c.in_ok-touch_device.ensures.touches before) in
    rw (← c.self.view_is) record {
      step = step;
      laws = lawful before _ (touch c.args.touch) touched c.self.invariant step;
      keeps = λ its. absurd (c.in_default.not-NotesTaken its);
      closed = λ _. refl;
      other = λ _. refl;
      memory = tt;
      proceeds = Proceeds-same g.D.Disk _ g.met.D.Disk.only_now;
      tally = c.count_touch.ensures;
    }
