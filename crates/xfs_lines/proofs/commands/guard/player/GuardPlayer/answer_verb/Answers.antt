use Rattle.std.proofs.Common.{inl}
use Rattle.xfs_guard.proofs.KeepsLaws.{Proceeds-same}
use Rattle.xfs_lines.proofs.BegunLaws.{tells-line, verb-leaves}
use Rattle.xfs_lines.proofs.GuardStateLaws.{fault-through}
use Rattle.xfs_lines.proofs.LinedLaws.{lined-answer, lined-booted, lined-leaves, lined-whole}
use Rattle.xfs_lines.proofs.commands.guard.player.GuardPlayer.answer_verb.Goals as goal

pub returns-in-Skip-clause-proceeds : goal.returns-in-Skip-clause-proceeds
returns-in-Skip-clause-proceeds g c = Proceeds-same g.D.Disk _ g.met.D.Disk.only_now

pub returns-in-Mint-clause-proceeds : goal.returns-in-Mint-clause-proceeds
returns-in-Mint-clause-proceeds g c = rw c.mint.ensures.same (Proceeds-same g.D.Disk _ g.met.D.Disk.only_now)

pub returns-in_err-show-in-Show-clause-proceeds : goal.returns-in_err-show-in-Show-clause-proceeds
returns-in_err-show-in-Show-clause-proceeds g c = rw c.show.ensures.same (Proceeds-same g.D.Disk _ g.met.D.Disk.only_now)

pub returns-in_ok-show-in-Show-clause-proceeds : goal.returns-in_ok-show-in-Show-clause-proceeds
returns-in_ok-show-in-Show-clause-proceeds g c = rw c.show.ensures.same (Proceeds-same g.D.Disk _ g.met.D.Disk.only_now)

pub returns-in-Issue-clause-answer : goal.returns-in-Issue-clause-answer
returns-in-Issue-clause-answer g c = lined-answer _ _ _ _ _ _ _ c.in-Issue.is c.issue.ensures.answer c.as_line.ensures

pub returns-in-Issue-clause-memory : goal.returns-in-Issue-clause-memory
returns-in-Issue-clause-memory g c = λ is. lined-whole _ _ _ _ _ _ c.in-Issue.is c.issue.ensures.answer c.issue.ensures.memory

pub returns-in-Issue-clause-unbooted : goal.returns-in-Issue-clause-unbooted
returns-in-Issue-clause-unbooted g c = lined-booted _ _ _ _ c.as_line.ensures

pub returns-in-Clear-clause-answer : goal.returns-in-Clear-clause-answer
returns-in-Clear-clause-answer g c = lined-answer _ _ _ _ _ _ _ c.in-Clear.is c.clear.ensures.answer c.as_line-in-Clear.ensures

pub returns-in-Clear-clause-memory : goal.returns-in-Clear-clause-memory
returns-in-Clear-clause-memory g c = λ is. lined-whole _ _ _ _ _ _ c.in-Clear.is c.clear.ensures.answer c.clear.ensures.memory

pub returns-in-Clear-clause-unbooted : goal.returns-in-Clear-clause-unbooted
returns-in-Clear-clause-unbooted g c = lined-booted _ _ _ _ c.as_line-in-Clear.ensures

pub returns-in-Mint-clause-answer : goal.returns-in-Mint-clause-answer
returns-in-Mint-clause-answer g c = lined-answer _ _ _ _ _ _ _ c.in-Mint.is c.mint.ensures.answer c.as_line-in-Mint.ensures

pub returns-in-Mint-clause-memory : goal.returns-in-Mint-clause-memory
returns-in-Mint-clause-memory g c = λ is. lined-whole _ _ _ _ _ _ c.in-Mint.is c.mint.ensures.answer c.mint.ensures.memory

pub returns-in-Mint-clause-unbooted : goal.returns-in-Mint-clause-unbooted
returns-in-Mint-clause-unbooted g c = lined-booted _ _ _ _ c.as_line-in-Mint.ensures

pub returns-in-Dispense-clause-answer : goal.returns-in-Dispense-clause-answer
returns-in-Dispense-clause-answer g c = lined-answer _ _ _ _ _ _ _ c.in-Dispense.is c.dispense.ensures.answer c.as_line-in-Dispense.ensures

pub returns-in-Dispense-clause-memory : goal.returns-in-Dispense-clause-memory
returns-in-Dispense-clause-memory g c = λ is. lined-leaves _ _ _ _ _ _ c.in-Dispense.is c.dispense.ensures.answer c.dispense.ensures.memory

pub returns-in-Dispense-clause-unbooted : goal.returns-in-Dispense-clause-unbooted
returns-in-Dispense-clause-unbooted g c = lined-booted _ _ _ _ c.as_line-in-Dispense.ensures

pub returns-in-Present-clause-answer : goal.returns-in-Present-clause-answer
returns-in-Present-clause-answer g c = lined-answer _ _ _ _ _ _ _ c.in-Present.is c.move_all.ensures.answer c.as_line-in-Present.ensures

pub returns-in-Present-clause-memory : goal.returns-in-Present-clause-memory
returns-in-Present-clause-memory g c = λ is. lined-whole _ _ _ _ _ _ c.in-Present.is c.move_all.ensures.answer c.move_all.ensures.memory

pub returns-in-Present-clause-unbooted : goal.returns-in-Present-clause-unbooted
returns-in-Present-clause-unbooted g c = lined-booted _ _ _ _ c.as_line-in-Present.ensures

pub returns-in-Reject-clause-answer : goal.returns-in-Reject-clause-answer
returns-in-Reject-clause-answer g c = lined-answer _ _ _ _ _ _ _ c.in-Reject.is c.move_all-in-Reject.ensures.answer c.as_line-in-Reject.ensures

pub returns-in-Reject-clause-memory : goal.returns-in-Reject-clause-memory
returns-in-Reject-clause-memory g c = λ is. lined-whole _ _ _ _ _ _ c.in-Reject.is c.move_all-in-Reject.ensures.answer c.move_all-in-Reject.ensures.memory

pub returns-in-Reject-clause-unbooted : goal.returns-in-Reject-clause-unbooted
returns-in-Reject-clause-unbooted g c = lined-booted _ _ _ _ c.as_line-in-Reject.ensures

pub returns-in-Retract-clause-answer : goal.returns-in-Retract-clause-answer
returns-in-Retract-clause-answer g c = lined-answer _ _ _ _ _ _ _ c.in-Retract.is c.move_all-in-Retract.ensures.answer c.as_line-in-Retract.ensures

pub returns-in-Retract-clause-memory : goal.returns-in-Retract-clause-memory
returns-in-Retract-clause-memory g c = λ is. lined-whole _ _ _ _ _ _ c.in-Retract.is c.move_all-in-Retract.ensures.answer c.move_all-in-Retract.ensures.memory

pub returns-in-Retract-clause-unbooted : goal.returns-in-Retract-clause-unbooted
returns-in-Retract-clause-unbooted g c = lined-booted _ _ _ _ c.as_line-in-Retract.ensures

pub returns-in-Take-clause-answer : goal.returns-in-Take-clause-answer
returns-in-Take-clause-answer g c = lined-answer _ _ _ _ _ _ _ c.in-Take.is c.take.ensures.answer c.as_line-in-Take.ensures

pub returns-in-Take-clause-memory : goal.returns-in-Take-clause-memory
returns-in-Take-clause-memory g c = λ is. lined-whole _ _ _ _ _ _ c.in-Take.is c.take.ensures.answer c.take.ensures.memory

pub returns-in-Take-clause-unbooted : goal.returns-in-Take-clause-unbooted
returns-in-Take-clause-unbooted g c = lined-booted _ _ _ _ c.as_line-in-Take.ensures

pub returns-in-Fill-clause-answer : goal.returns-in-Fill-clause-answer
returns-in-Fill-clause-answer g c = lined-answer _ _ _ _ _ _ _ c.in-Fill.is c.fill.ensures.answer c.as_line-in-Fill.ensures

pub returns-in-Fill-clause-memory : goal.returns-in-Fill-clause-memory
returns-in-Fill-clause-memory g c = λ is. lined-leaves _ _ _ _ _ _ c.in-Fill.is c.fill.ensures.answer c.fill.ensures.memory

pub returns-in-Fill-clause-unbooted : goal.returns-in-Fill-clause-unbooted
returns-in-Fill-clause-unbooted g c = lined-booted _ _ _ _ c.as_line-in-Fill.ensures

pub returns-in_err-restart-in-Restart-clause-unbooted : goal.returns-in_err-restart-in-Restart-clause-unbooted
returns-in_err-restart-in-Restart-clause-unbooted g c = λ fault is. (c.in-Restart.is, c.in_err-restart-in-Restart.ensures.unbooted fault (fault-through _ _ _ c.from_residual-in_err-restart-in-Restart.ensures.1 is))

pub returns-in_ok-with_line_feed-in-Restart-clause-answer : goal.returns-in_ok-with_line_feed-in-Restart-clause-answer
returns-in_ok-with_line_feed-in-Restart-clause-answer g c = tells-line _ _ _ _ _ _ c.in-Restart.is c.in_ok-restart-in-Restart.ensures.answer c.in_ok-with_line_feed-in-Restart.ensures

pub returns-in_err-restart-in-Restart-clause-memory : goal.returns-in_err-restart-in-Restart-clause-memory
returns-in_err-restart-in-Restart-clause-memory g c = λ is. verb-leaves _ _ _ _ c.in-Restart.is (inl (c.in_err-restart-in-Restart.ensures.memory (fault-through _ _ _ c.from_residual-in_err-restart-in-Restart.ensures.1 is)))
