use Rattle.std.proofs.Common.{refl, arith, length, get_or, subst, ℕ, ◌≡◌, ◌<◌, ◌+◌, ◌-◌}
use Rattle.std.proofs.lemmas.Option.{slice_get-get_or}
use Rattle.std.proofs.lemmas.List.{length-set}
use Rattle.xfs_mix.specs.Mix.{IsMore, IsPassed, with_more}
use Rattle.xfs_mix.proofs.Raised.{raised_set}
use Rattle.xfs_mix.proofs.Best.{passed_one, passed_all}
use Rattle.xfs_mix.proofs.mix.add_notes.Goals as goal

pub loop-a-preserved : goal.loop-a-preserved
loop-a-preserved c =
    let ks = c.args.kinds.now in
    let kind = get_or ks c.args.u c.index-kinds-u.result in
    let stands = slice_get-get_or ks c.args.u c.index-kinds-u.result c.requires.unit.unit.0 in
    let facts = rw stands at c.requires.unit.of in
    let in_limits : c.args.u < length c.args.limits.now.0 = omega (arith, c.requires.unit.eight, c.requires.unit.unit) in
    let new = with_more c.args.limits.now c.args.u c.args.n in
    let more : IsMore ks c.args.currency c.args.u c.args.n kind.value c.args.limits.now new = record {
      kind = kind;
      stands = stands;
      of = facts.0;
      worth = refl;
      some = c.requires.notes.0;
      few = c.requires.notes.1;
      raised = raised_set c.args.limits.now.0 c.args.u c.args.n in_limits;
    } in
    let table = c.loop-a.table in
    let a = c.loop-a.a - 1 in
    let back : c.loop-a.a ≡ a + 1 = omega arith in
    let one = passed_one ks c.args.currency c.args.u c.args.n kind.value c.args.limits.now new more a table (omega arith) (omega arith) (omega arith) (subst (λ (b : ℕ). IsPassed ks c.args.currency c.args.limits.now new b table) back c.loop-a.invariant.2) in
    (rw length-set (omega arith), rw length-set c.loop-a.invariant.1, rw c.better.ensures one)

pub returns-clause-table : goal.returns-clause-table
returns-clause-table c =
    let ks = c.args.kinds.now in
    let kind = get_or ks c.args.u c.index-kinds-u.result in
    let stands = slice_get-get_or ks c.args.u c.index-kinds-u.result c.requires.unit.unit.0 in
    let facts = rw stands at c.requires.unit.of in
    let in_limits : c.args.u < length c.args.limits.now.0 = omega (arith, c.requires.unit.eight, c.requires.unit.unit) in
    let new = with_more c.args.limits.now c.args.u c.args.n in
    let more : IsMore ks c.args.currency c.args.u c.args.n kind.value c.args.limits.now new = record {
      kind = kind;
      stands = stands;
      of = facts.0;
      worth = refl;
      some = c.requires.notes.0;
      few = c.requires.notes.1;
      raised = raised_set c.args.limits.now.0 c.args.u c.args.n in_limits;
    } in
    passed_all ks c.args.currency c.args.u c.args.n kind.value c.args.limits.now new more c.loop-a.a c.loop-a.table (omega arith) c.loop-a.invariant.2
