use Rattle.std.proofs.Common.{List, ℕ, ◌-◌, subst, arith}
use Rattle.std.specs.declared.option.Option.{Option}
use Rattle.xfs_journal.specs.Paging.{Took}
use Rattle.xfs_journal.proofs.Moments.{quiet_then}
use Rattle.xfs_journal.proofs.Paged.{took_more}
use Rattle.xfs_journal.proofs.page.read_on.Goals as goal

pub loop-missing-preserved : goal.loop-missing-preserved
loop-missing-preserved g c =
    let inv = c.loop-missing.invariant in
    let page = c.loop-missing.page in
    let out = c.loop-missing.out in
    let got = c.in_ok-got.got in
    let page2 = c.read_some.new.page in
    let out2 = c.read_some.new.out in
    let done = c.args.count - c.loop-missing.missing in
    let next = subst (λ (h : Option (List ℕ)). Took h page page2 out out2 got) inv.3.same c.in_ok-got.ensures.took in
    let all = took_more _ c.args.page.now page page2 c.args.out.now out out2 done got inv.0 next in (
      subst (λ (k : ℕ). Took (g.D.Disk.held c.args.disk.now) c.args.page.now page2 c.args.out.now out2 k) (omega (arith, inv.1, c.in_ok-got.ensures.most)) all,
      omega (arith, inv.1),
      omega (arith, inv.2, next.count, c.in_ok-got.ensures.most),
      quiet_then g.D.Disk _ _ _ inv.3 c.read_some.ensures.reads.quiet,
    )
