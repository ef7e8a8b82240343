use Rattle.std.proofs.Common.{◌++◌}
use Rattle.std.proofs.lemmas.Result.{on_err_weaker, on_ok_weaker}
use Rattle.xfs_guard.proofs.KeepsLaws.{Proceeds-trans}
use Rattle.xfs_load.specs.Generator.{refill, refill_behind, round_of}
use Rattle.xfs_load.specs.Plays.{Plays, PlaysInPart}
use Rattle.xfs_load.proofs.RestLaws.{on-err}
use Rattle.xfs_load.proofs.PlayLaws.{part-before, round-alone, round-eighth, round-part}
use Rattle.xfs_load.proofs.client.Client.round.Goals as goal

pub returns-in_err-withdraw-clause-memory : goal.returns-in_err-withdraw-clause-memory
returns-in_err-withdraw-clause-memory g c = on-err _ _ (part-before _ _ _ _ _ (rw c.amount_of.ensures.amount at c.in_err-withdraw.ensures.memory))

pub returns-then-i-ne0-clause-plays : goal.returns-then-i-ne0-clause-plays
returns-then-i-ne0-clause-plays g c = round-alone c.args.i _ _ _ _ c.if-i-ne0.true (rw c.amount_of.ensures.amount at c.in_ok-withdraw.ensures.plays)

pub returns-clause-plays : goal.returns-clause-plays
returns-clause-plays g c =
    let both : Plays refill c.withdraw.new.self c.withdraw.new.machine.state c.refill.new.self c.refill.new.machine.state → Plays (round_of c.args.i ++ refill_behind c.args.i) c.args.self.now c.args.machine.now.state c.refill.new.self c.refill.new.machine.state
    = λ plays. round-eighth c.args.i _ _ _ _ _ _ c.if-i-ne0.false (rw c.amount_of.ensures.amount at c.in_ok-withdraw.ensures.plays) plays in
    on_ok_weaker c.refill.result both c.refill.ensures.plays

pub returns-clause-memory : goal.returns-clause-memory
returns-clause-memory g c =
    let both : PlaysInPart refill c.withdraw.new.self c.withdraw.new.machine.state c.refill.new.machine.state → PlaysInPart (round_of c.args.i ++ refill_behind c.args.i) c.args.self.now c.args.machine.now.state c.refill.new.machine.state
    = λ part. round-part c.args.i _ _ _ _ _ c.if-i-ne0.false (rw c.amount_of.ensures.amount at c.in_ok-withdraw.ensures.plays) part in
    on_err_weaker c.refill.result both c.refill.ensures.memory

pub returns-clause-proceeds : goal.returns-clause-proceeds
returns-clause-proceeds g c = Proceeds-trans g.D.Disk _ _ _ g.met.D.Disk.counts_now c.withdraw.ensures.proceeds c.refill.ensures.proceeds
