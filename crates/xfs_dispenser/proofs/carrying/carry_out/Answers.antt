use Rattle.std.proofs.Common.{inr, ap, rules}
use Rattle.xfs_guard.proofs.KeepsLaws.{Proceeds-trans}
use Rattle.xfs_dispenser.specs.Seen.{seen}
use Rattle.xfs_dispenser.proofs.CarryLaws.{carried-err, stopped-order}
use Rattle.xfs_dispenser.proofs.carrying.carry_out.Goals as goal

pub returns-in_err-order-clause-carried : goal.returns-in_err-order-clause-carried
returns-in_err-order-clause-carried g c = λ some.
    let e = c.in_err-order.ensures in
    carried-err _ _ c.from_residual.result c.in_err-order.field-0.0 _ c.from_residual.ensures.1 some
    (stopped-order g.D.Disk c.args.guard.now c.order.new.self c.args.ask c.in_err-order.field-0.0 e.refused e.writes.disk e.writes.keeps.proceeds.disk_faults e.writes.cause e.writes.same)

pub returns-in_err-settle-clause-carried : goal.returns-in_err-settle-clause-carried
returns-in_err-settle-clause-carried g c = λ some.
    let e = c.in_ok-order.ensures in
    let a = c.act-outcome.ensures in
    let s = c.in_err-settle.ensures in
    carried-err _ _ c.from_residual-in_err-settle.result c.in_err-settle.field-0.0 _ c.from_residual-in_err-settle.ensures.1 some (λ other. inr (
      e.refused,
      s.err,
      inr (record {
        outcome = c.act-outcome.result;
        acted = seen g.D.Disk c.act-outcome.new.self;
        first = record {
          written = seen g.D.Disk c.order.new.self;
          order = record { guard_is = e.ok; later = e.writes.keeps.proceeds.disk_faults };
          acts = a.acted;
          called = record { later = a.uses.keeps.proceeds.mech_faults; cause = a.uses.cause; disk_same = ap g.D.Disk.faults a.uses.same };
        };
        unsettles = s.disk;
        later = s.keeps.proceeds.disk_faults;
        cause = s.cause;
      }),
    ))

pub returns-in_err-settle-clause-leaves : goal.returns-in_err-settle-clause-leaves
returns-in_err-settle-clause-leaves g c = record {
  proceeds =
      Proceeds-trans g.D.Disk _ _ _ g.met.D.Disk.counts_now c.in_ok-order.ensures.writes.keeps.proceeds (Proceeds-trans g.D.Disk _ _ _ g.met.D.Disk.counts_now c.act-outcome.ensures.uses.keeps.proceeds c.in_err-settle.ensures.keeps.proceeds);
  none = search rules;
}

pub returns-clause-carried : goal.returns-clause-carried
returns-clause-carried g c = λ some.
    let e = c.in_ok-order.ensures in
    let a = c.act-outcome.ensures in
    let s = c.in_ok-settle.ensures in (
      e.refused,
      record {
        acted = seen g.D.Disk c.act-outcome.new.self;
        first = record {
          written = seen g.D.Disk c.order.new.self;
          order = record { guard_is = e.ok; later = e.writes.keeps.proceeds.disk_faults };
          acts = a.acted;
          called = record { later = a.uses.keeps.proceeds.mech_faults; cause = a.uses.cause; disk_same = ap g.D.Disk.faults a.uses.same };
        };
        settles = s.settled;
        later = s.keeps.proceeds.disk_faults;
      },
    )

pub returns-clause-leaves : goal.returns-clause-leaves
returns-clause-leaves g c = record {
  proceeds =
      Proceeds-trans g.D.Disk _ _ _ g.met.D.Disk.counts_now c.in_ok-order.ensures.writes.keeps.proceeds (Proceeds-trans g.D.Disk _ _ _ g.met.D.Disk.counts_now c.act-outcome.ensures.uses.keeps.proceeds c.in_ok-settle.ensures.keeps.proceeds);
  none = search rules;
}
