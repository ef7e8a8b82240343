use Rattle.xfs_guard.proofs.KeepsLaws.{Proceeds-same, Proceeds-trans}
use Rattle.xfs_load.proofs.RestLaws.{on-err, round-part, underway-full, underway-idle, underway-more, underway-none}
use Rattle.xfs_load.proofs.resting.rest.Goals as goal

pub loop-count-init : goal.loop-count-init
loop-count-init g c = record { underway = underway-none _ _ _; proceeds = Proceeds-same g.D.Disk _ g.met.D.Disk.only_now }

pub returns-in_err-done-clause-memory : goal.returns-in_err-done-clause-memory
returns-in_err-done-clause-memory g c = on-err _ _ (round-part _ _ _ _ (c.loop-count.invariant.underway.rounds_are c.loop-count-test.true) c.in_err-done.ensures.memory)

pub returns-in_err-done-clause-proceeds : goal.returns-in_err-done-clause-proceeds
returns-in_err-done-clause-proceeds g c = Proceeds-trans g.D.Disk _ _ _ g.met.D.Disk.counts_now c.loop-count.invariant.proceeds c.round.ensures.proceeds

pub returns-then-done-eq0-clause-rests : goal.returns-then-done-eq0-clause-rests
returns-then-done-eq0-clause-rests g c = underway-idle _ _ _ _ _ _ c.loop-count.invariant.underway (rw c.if-done-eq0.true at c.in_ok-done.ensures.turns)

pub returns-then-done-eq0-clause-proceeds : goal.returns-then-done-eq0-clause-proceeds
returns-then-done-eq0-clause-proceeds g c = Proceeds-trans g.D.Disk _ _ _ g.met.D.Disk.counts_now c.loop-count.invariant.proceeds c.round.ensures.proceeds

pub loop-count-preserved : goal.loop-count-preserved
loop-count-preserved g c = record {
  underway = underway-more _ _ _ _ _ _ _ c.loop-count.invariant.underway c.loop-count-test.true c.in_ok-done.ensures.turns c.if-done-eq0.false;
  proceeds = Proceeds-trans g.D.Disk _ _ _ g.met.D.Disk.counts_now c.loop-count.invariant.proceeds c.round.ensures.proceeds;
}

pub returns-clause-rests : goal.returns-clause-rests
returns-clause-rests g c = underway-full _ _ _ _ _ c.loop-count.invariant.underway c.loop-count-test.false
