use Rattle.std.proofs.Common.{◌≡◌, Ok, ap, arith, drop, length, refl, subst, sym, rules}
use Rattle.std.specs.Prelude.{IsTrue}
use Rattle.xfs_mix.specs.Asked.{is_none}
use Rattle.xfs_guard.proofs.KeepsLaws.{Proceeds-same, Proceeds-trans}
use Rattle.xfs_dispenser.specs.Seen.{seen}
use Rattle.xfs_dispenser.specs.Carried.{StacksFirst}
use Rattle.xfs_dispenser.proofs.CarryLaws.{deny-memory, front-first, front-unit, not-disk, stacks-next, stacks-none, stacks-over, stacks-stop, stacks-units}
use Rattle.xfs_dispenser.proofs.carrying.stack_all.Goals as goal

pub loop-place-init : goal.loop-place-init
loop-place-init g c = record {
  proceeds = Proceeds-same g.D.Disk _ g.met.D.Disk.only_now;
  none = c.requires.none;
  fine = refl;
  front = λ more result next h. h;
  onward = λ result last h. stacks-units c.args.issue c.args.counts.now.0 0 _ _ result last h;
}

pub returns-in_err-outcome-clause-stacked : goal.returns-in_err-outcome-clause-stacked
returns-in_err-outcome-clause-stacked g c = λ some.
    c.loop-place.invariant.onward c.from_residual.result _
    (stacks-stop _ _ _ _ _ _ _ c.carry_out.result c.from_residual.result c.in_err-outcome.field-0.0 c.from-at.ensures c.if-count-eq0.false c.in_err-outcome.was c.from_residual.ensures.1 some c.carry_out.ensures.carried)

pub returns-in_err-outcome-clause-leaves : goal.returns-in_err-outcome-clause-leaves
returns-in_err-outcome-clause-leaves g c = record { proceeds = Proceeds-trans g.D.Disk _ _ _ g.met.D.Disk.counts_now c.loop-place.invariant.proceeds c.carry_out.ensures.leaves.proceeds; none = search rules }

pub returns-then-all-clause-stacked : goal.returns-then-all-clause-stacked
returns-then-all-clause-stacked g c = λ some.
    c.loop-place.invariant.onward _ _
    (stacks-over _ _ _ _ _ c.in_ok-outcome.outcome _ _ c.from-at.ensures c.if-count-eq0.false (c.in_ok-outcome.ensures.carried (λ e. cc)) c.if-all.true)

pub returns-then-all-clause-leaves : goal.returns-then-all-clause-leaves
returns-then-all-clause-leaves g c = record { proceeds = Proceeds-trans g.D.Disk _ _ _ g.met.D.Disk.counts_now c.loop-place.invariant.proceeds c.carry_out.ensures.leaves.proceeds; none = search rules }

pub loop-place-preserved : goal.loop-place-preserved
loop-place-preserved g c = record {
  proceeds = Proceeds-trans g.D.Disk _ _ _ g.met.D.Disk.counts_now c.loop-place.invariant.proceeds c.carry_out.ensures.leaves.proceeds;
  none = c.carry_out.ensures.leaves.none;
  fine = c.if-all.false;
  front = front-unit _ _ _ _ _ c.in_ok-outcome.outcome _ _ _ c.from-at.ensures c.if-count-eq0.false (c.in_ok-outcome.ensures.carried (λ e. cc)) c.if-all.false c.loop-place.invariant.front;
  onward = λ result last h. c.loop-place.invariant.onward result last
      (stacks-next _ _ _ _ _ c.in_ok-outcome.outcome _ _ result last c.from-at.ensures c.if-count-eq0.false (c.in_ok-outcome.ensures.carried (λ e. cc)) c.if-all.false h);
}

pub returns-clause-stacked : goal.returns-clause-stacked
returns-clause-stacked g c = λ some.
    let end : c.loop-place.place ≡ length c.args.guard.now.state.units = (let u = ap length c.units.ensures in omega (arith, c.loop-place-test.false, c.loop-place.auto.place-end, c.len-place-end.ensures.len, u)) in
    let none : IsTrue (is_none (drop c.loop-place.place c.args.counts.now.0)) = rw end c.requires.few in
    c.loop-place.invariant.onward (Ok c.loop-place.all) _
    (stacks-none c.args.issue (drop c.loop-place.place c.args.counts.now.0) c.loop-place.place c.loop-place.all (seen g.D.Disk c.loop-place.guard) none)

pub returns-in_err-outcome-clause-memory : goal.returns-in_err-outcome-clause-memory
returns-in_err-outcome-clause-memory g c = λ memory.
    let is = deny-memory c.from_residual.result c.in_err-outcome.field-0.0 c.from_residual.ensures.1 memory in
    let start = seen g.D.Disk c.args.guard.now in
    let here = seen g.D.Disk c.loop-place.guard in
    let same = ap (seen g.D.Disk) (c.in_err-outcome.ensures.same (not-disk c.in_err-outcome.field-0.0 is)) in
    subst (λ s. StacksFirst c.args.issue c.args.counts.now.0 start s) (sym same)
    (front-first c.args.issue c.args.counts.now.0 c.loop-place.place c.loop-place.all start here c.loop-place.invariant.fine c.loop-place.invariant.front)
