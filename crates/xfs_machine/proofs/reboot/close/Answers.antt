use Rattle.std.proofs.Common.{sym, ap, ◌∙◌}
use Rattle.xfs_dispenser.specs.Seen.{seen}
use Rattle.xfs_guard.proofs.KeepsLaws.{Proceeds-same, Proceeds-trans}
use Rattle.xfs_machine.proofs.GuardLaws.{closes_through, closes_written}
use Rattle.xfs_machine.proofs.reboot.close.Goals as goal

pub returns-in-Some-clause-closes : goal.returns-in-Some-clause-closes
returns-in-Some-clause-closes g c =
    let old = seen g.D.Disk c.args.guard.now in
    closes_written c.args.guard.now.state.open_order _ old _ _ (sym c.in-Some.is ∙ c.unacted.ensures)
    (record {
      between = seen g.D.Disk c.act.new.self;
      acts = record { moved = c.act.result.moved; diverted = c.act.result.diverted; failed = c.act.result.failed; acts = c.act.ensures.acted; called = record { later = c.act.ensures.uses.keeps.proceeds.mech_faults; cause = c.act.ensures.uses.cause; disk_same = ap g.D.Disk.faults c.act.ensures.uses.same } };
      settles = c.settle.ensures.settles;
    })

pub returns-in-Some-clause-proceeds : goal.returns-in-Some-clause-proceeds
returns-in-Some-clause-proceeds g c = Proceeds-trans g.D.Disk _ _ _ g.met.D.Disk.counts_now c.act.ensures.uses.keeps.proceeds c.settle.ensures.keeps.proceeds

pub returns-in-None-2-clause-proceeds : goal.returns-in-None-2-clause-proceeds
returns-in-None-2-clause-proceeds g c = Proceeds-same g.D.Disk _ g.met.D.Disk.only_now

pub returns-in-Some-clause-through : goal.returns-in-Some-clause-through
returns-in-Some-clause-through g c =
    closes_through g.D.Disk c.args.guard.now.state.open_order _ c.args.guard.now c.settle.new.guard (sym c.in-Some.is ∙ c.unacted.ensures) (record { between = c.act.new.self; acts = c.act.ensures.uses.keeps; settles = c.settle.ensures.keeps })
