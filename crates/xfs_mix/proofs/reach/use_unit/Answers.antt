use Rattle.std.proofs.Common.{◌<◌, ◌≤◌, refl, arith, length, get_or, None}
use Rattle.std.proofs.lemmas.List.{length-set}
use Rattle.std.proofs.lemmas.Option.{slice_get-get_or}
use Rattle.xfs_mix.specs.Mix.{with_more}
use Rattle.xfs_mix.specs.Reach.{IsOpened, IsLeastUse, least_use}
use Rattle.xfs_mix.proofs.Raised.{raised_set}
use Rattle.xfs_mix.proofs.ReachLaws.{use_below, use_from, used_more}
use Rattle.xfs_mix.proofs.reach.use_unit.Goals as goal
use Rattle.xfs_mix.proofs.reach.use_unit.Goals.{then-a-value, else-a-value}

pub loop-a-preserved : goal.loop-a-preserved
loop-a-preserved c =
    let ks = c.args.kinds.now in
    let cur = c.args.currency in
    let u = c.args.u in
    let old = c.args.limits.now in
    let new = with_more old u c.args.count in
    let a = c.loop-a.a in
    let table = c.loop-a.used in
    let kind = get_or ks u c.index-kinds-u.result in
    let stands = slice_get-get_or ks u c.index-kinds-u.result c.requires.unit.unit.0 in
    let facts = rw stands at c.requires.unit.of in
    let in_limits : u < length old.0 = omega (arith, c.requires.unit.eight, c.requires.unit.unit) in
    let in_eight : u < 8 = omega (arith, c.requires.unit.unit) in
    let within : a < length table = omega (arith, c.loop-a.invariant.0, c.loop-a-test.true) in
    let opened : IsOpened ks cur u c.args.count kind.value old new = record {
      kind = kind;
      stands = stands;
      of = facts.0;
      worth = refl;
      some = facts.1.0;
      none = c.requires.none;
      raised = raised_set old.0 u c.args.count in_limits;
    } in
    let here = c.loop-a.invariant.1.left a None (omega arith) within in
    let is : IsLeastUse ks new cur u a (least_use c.args.count (get_or table a None) c.if-a-value.one_less) = elim c.if-a-value.branch [
      | then-a-value w ↦ rw w.one_less-is (use_below ks cur u c.args.count kind.value old new opened a (get_or table a None) (omega (arith, w.if-a-value)) here)
      | else-a-value w ↦
          let le : kind.value ≤ a = omega (arith, w.if-a-value) in
          rw w.one_less-is (use_from ks cur u c.args.count kind.value old new opened in_eight a (get_or table a None) _ le here (c.loop-a.invariant.1.done _ None (omega (arith, le, opened.some)) (omega (arith, within))))
    ] in
    (rw length-set c.loop-a.invariant.0, rw c.least_use.ensures (used_more ks cur u old new a table _ within is c.loop-a.invariant.1))
