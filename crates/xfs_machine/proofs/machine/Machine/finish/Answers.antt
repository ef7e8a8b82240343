use Rattle.std.proofs.Common.{ap, subst}
use Rattle.std.specs.Prelude.{is_ok}
use Rattle.xfs_dispenser.specs.Seen.{Seen, seen}
use Rattle.xfs_machine.proofs.Endings.{finishes}
use Rattle.xfs_machine.proofs.machine.Machine.finish.Goals as goal
use Rattle.xfs_guard.specs.Keeps.{Proceeds}
use Rattle.xfs_guard.specs.View.{GuardView}
use Rattle.xfs_machine.specs.Endings.{ClosesThrough}
use Rattle.xfs_model.specs.Guards.{Closes}

pub returns-clause-step : goal.returns-clause-step
returns-clause-step g c =
    let last = seen g.D.Disk c.close-settled.new.guard in
    let its = c.into_guard-guard.ensures in
    let back = c.end-mech.ensures in (
      last,
      finishes c.args.self.state c.close-settled.result last its.there (subst (λ (x : Seen). Closes x.guard.open_order x (is_ok c.close-settled.result) last) its.seen c.close-settled.ensures.closes),
      record { stored = back.stored; told = back.told; disk_faults = ap g.D.Disk.faults back.disk; motions = back.motions; places = back.places; units = back.units; faults = back.faults },
    )

pub returns-clause-through : goal.returns-clause-through
returns-clause-through g c =
    let left = c.close-settled.new.guard in
    let its = c.into_guard-guard.ensures.guard in
    let back = c.end-mech.ensures in record {
      last = left;
      through = subst (λ (v : GuardView g.row.D.Denot). ClosesThrough g.D.Disk v.state.open_order v left) its c.close-settled.ensures.through;
      proceeds = subst (λ (v : GuardView g.row.D.Denot). Proceeds g.D.Disk v left) its c.close-settled.ensures.proceeds;
      back = record { stored = back.stored; told = back.told; disk_faults = ap g.D.Disk.faults back.disk; motions = back.motions; places = back.places; units = back.units; faults = back.faults };
      disk_is = back.disk;
    }
