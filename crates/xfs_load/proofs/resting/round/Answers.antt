use Rattle.xfs_guard.proofs.KeepsLaws.{Proceeds-trans}
use Rattle.xfs_load.proofs.RestLaws.{on-err, round-done, round-cash, round-card, round-keys}
use Rattle.xfs_load.proofs.resting.round.Goals as goal

pub returns-in_err-cash-clause-memory : goal.returns-in_err-cash-clause-memory
returns-in_err-cash-clause-memory g c = on-err _ _ (round-cash _ _ _ c.in_err-cash.ensures.memory)

pub returns-in_err-card-clause-memory : goal.returns-in_err-card-clause-memory
returns-in_err-card-clause-memory g c = on-err _ _ (round-card _ _ _ _ _ _ c.in_ok-cash.ensures.turns c.in_err-card.ensures.needed c.in_err-card.ensures.memory)

pub returns-in_err-card-clause-proceeds : goal.returns-in_err-card-clause-proceeds
returns-in_err-card-clause-proceeds g c = Proceeds-trans g.D.Disk _ _ _ g.met.D.Disk.counts_now c.turn.ensures.proceeds c.turn-2.ensures.proceeds

pub returns-in_err-keys-clause-memory : goal.returns-in_err-keys-clause-memory
returns-in_err-keys-clause-memory g c =
    on-err _ _ (round-keys _ _ _ _ _ _ _ _ c.in_ok-cash.ensures.turns c.in_ok-card.ensures.turns c.in_err-keys.ensures.needed c.in_err-keys.ensures.memory)

pub returns-in_err-keys-clause-proceeds : goal.returns-in_err-keys-clause-proceeds
returns-in_err-keys-clause-proceeds g c =
    Proceeds-trans g.D.Disk _ _ _ g.met.D.Disk.counts_now (Proceeds-trans g.D.Disk _ _ _ g.met.D.Disk.counts_now c.turn.ensures.proceeds c.turn-2.ensures.proceeds) c.turn-3.ensures.proceeds

pub returns-clause-turns : goal.returns-clause-turns
returns-clause-turns g c = round-done _ _ _ _ _ _ _ _ _ c.in_ok-cash.ensures.turns c.in_ok-card.ensures.turns c.in_ok-keys.ensures.turns

pub returns-clause-proceeds : goal.returns-clause-proceeds
returns-clause-proceeds g c =
    Proceeds-trans g.D.Disk _ _ _ g.met.D.Disk.counts_now (Proceeds-trans g.D.Disk _ _ _ g.met.D.Disk.counts_now c.turn.ensures.proceeds c.turn-2.ensures.proceeds) c.turn-3.ensures.proceeds
