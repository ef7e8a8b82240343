use Rattle.std.proofs.Common.{◌≡◌, inr, refl, ap, arith, ◌∙◌, length, length-append}
use Rattle.xfs_guard.proofs.KeepsLaws.{Proceeds-same, Proceeds-trans}
use Rattle.xfs_guard.specs.View.{GuardView}
use Rattle.xfs_load.specs.Generator.{Client}
use Rattle.xfs_load.specs.Summaries.{summary_of}
use Rattle.xfs_load.proofs.BaseLaws.{plays-base, step-base}
use Rattle.xfs_load.proofs.RestLaws.{on-err}
use Rattle.xfs_load.proofs.JoinLaws.{never-full}
use Rattle.xfs_load.proofs.PlayLaws.{plan-next, plan-part, proceeds-kept}
use Rattle.xfs_load.proofs.playing.play.Goals as goal

pub loop-i-init : goal.loop-i-init
loop-i-init g c =
    let asked = ap (λ (v : Client). v.asked) c.new-client.ensures in
    let refused = ap (λ (v : Client). v.refused) c.new-client.ensures in
    record { plays = (refl, refl); asked = omega (arith, asked); refused = omega (arith, refused); proceeds = Proceeds-same g.D.Disk _ g.met.D.Disk.only_now }

pub loop-i-preserved : goal.loop-i-preserved
loop-i-preserved g c =
    let i = c.loop-i.invariant in
    let r = c.round.ensures in
    record {
      plays = plan-next _ _ _ _ _ _ _ i.plays c.in_ok-round.ensures.plays;
      asked = omega (arith, i.asked, r.asked);
      refused = omega (arith, i.refused, r.refused);
      proceeds = Proceeds-trans g.D.Disk _ _ _ g.met.D.Disk.counts_now i.proceeds r.proceeds;
    }

pub returns-in-Err-Memory-clause-proceeds : goal.returns-in-Err-Memory-clause-proceeds
returns-in-Err-Memory-clause-proceeds g c = proceeds-kept g.D.Disk _ _ g.met.D.Disk.only_now c.join.ensures.guard

pub returns-in_err-round-clause-proceeds : goal.returns-in_err-round-clause-proceeds
returns-in_err-round-clause-proceeds g c =
    let joined = proceeds-kept g.D.Disk _ _ g.met.D.Disk.only_now c.join.ensures.guard in
    Proceeds-trans g.D.Disk _ _ _ g.met.D.Disk.counts_now (Proceeds-trans g.D.Disk _ _ _ g.met.D.Disk.counts_now joined c.loop-i.invariant.proceeds) c.round.ensures.proceeds

pub returns-clause-proceeds : goal.returns-clause-proceeds
returns-clause-proceeds g c =
    let joined = proceeds-kept g.D.Disk _ _ g.met.D.Disk.only_now c.join.ensures.guard in
    Proceeds-trans g.D.Disk _ _ _ g.met.D.Disk.counts_now joined c.loop-i.invariant.proceeds

pub unreachable-requires : goal.unreachable-requires
unreachable-requires g c = never-full _ _ _ _ c.requires.booted (rw (c.in-Err-Full.is, c.in-Err-Full.field-0-is) refl) c.join.ensures.step

pub returns-in_err-round-clause-memory : goal.returns-in_err-round-clause-memory
returns-in_err-round-clause-memory g c =
    on-err _ _ (inr (record {
      pass = c.in-Ok.pass;
      between = c.join.new.self.state;
      joins = rw c.in-Ok.is at c.join.ensures.step;
      plays = plan-part c.loop-i.i c.args.rounds _ _ _ _ _ c.loop-i-test.true (rw c.new-client.ensures at c.loop-i.invariant.plays) c.in_err-round.ensures.memory;
    }))

pub returns-clause-plays : goal.returns-clause-plays
returns-clause-plays g c =
    let end : c.loop-i.i ≡ c.args.rounds = omega (arith, c.loop-i-test.false, c.loop-i.auto.i-end) in
    let told : c.of.result ≡ summary_of c.args.rounds c.refusals.result c.units.result.now c.behind.result.now = c.of.ensures in
    let units = c.loop-i.invariant.proceeds.continues.units ∙ ap (λ (v : GuardView g.row.D.Denot). v.state.units) c.join.ensures.guard in
    record {
      client = c.loop-i.client;
      plays = record {
        pass = c.in-Ok.pass;
        between = c.join.new.self.state;
        joins = rw c.in-Ok.is at c.join.ensures.step;
        plays = rw (end, c.new-client.ensures) at c.loop-i.invariant.plays;
      };
      is = rw (c.refusals.ensures, c.units.ensures, units, c.behind.ensures, c.older-before.ensures.count) at told;
    }

pub behind-requires-clause-kept : goal.behind-requires-clause-kept
behind-requires-clause-kept g c =
    let base = plays-base _ _ _ _ _ c.loop-i.invariant.plays ∙ step-base _ _ _ _ c.join.ensures.step (λ e. cc) in
    omega (arith, base, c.older-before.ensures.kept)

pub behind-requires-clause-within : goal.behind-requires-clause-within
behind-requires-clause-within g c =
    let grew = c.loop-i.invariant.proceeds.continues.grew in
    let first = ap (λ (v : GuardView g.row.D.Denot). length v.state.records) c.join.ensures.guard in
    let longer = ap length grew.is in
    omega (arith, c.older-before.ensures.count, first, longer, length-append c.join.new.self.state.seen.guard.records grew.more)
