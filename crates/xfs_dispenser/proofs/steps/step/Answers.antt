use Rattle.std.proofs.Common.{drop}
use Rattle.xfs_dispenser.specs.declared.part.Part.TheVariants.{Load}
use Rattle.std.proofs.lemmas.Result.{IfOk-weaker}
use Rattle.xfs_dispenser.proofs.StepLaws.{Keeps-fewer, KeepsStep-done, act-adds}
use Rattle.xfs_dispenser.proofs.WorkLaws.{first-is, none-open, works-part}
use Rattle.xfs_dispenser.proofs.steps.step.Goals as goal

pub returns-then-is_some-clause-guard : goal.returns-then-is_some-clause-guard
returns-then-is_some-clause-guard g c =
    let a = c.act.ensures.acted.acts in
    KeepsStep-done g.D.Disk _ c.act.result c.args.guard.now c.act.new.guard (Keeps-fewer g.D.Disk _ _ c.args.guard.now c.act.new.guard (λ e may. act-adds _ c.args.plan.now a.kind a.counts a.written e may) c.act.ensures.keeps)

pub returns-in-Load-clause-works : goal.returns-in-Load-clause-works
returns-in-Load-clause-works g c =
    let parts = c.args.plan.now.parts.items in
    let none = none-open c.args.guard.now.state.open_order (λ some. let t = c.ordering.ensures.open.1 some in let e = rw c.if-ordering.false at t in cc) in
    let is = first-is parts _ (Load c.in-Load.unit c.in-Load.count) (c.requires.some_left none) (rw c.as_slice.ensures.value at c.in-Load.is) in
    IfOk-weaker c.load.result _ _ (λ p f. works-part _ c.args.plan.now _ _ _ (Load c.in-Load.unit c.in-Load.count) (drop 1 parts) none is (f (drop 1 parts) is)) c.load.ensures.loads
