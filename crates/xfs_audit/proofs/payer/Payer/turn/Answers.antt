use Rattle.std.proofs.Common.{None, refl, arith}
use Rattle.xfs_audit.proofs.Choices.{equal, unequal}
use Rattle.xfs_audit.proofs.PayingLaws.{turn-same, turn-other}
use Rattle.xfs_audit.proofs.payer.Payer.turn.Goals as goal

pub returns-then-ne-clause-same : goal.returns-then-ne-clause-same
returns-then-ne-clause-same c = λ k u done paying. turn-other k u c.args.records.now done c.args.self.now (record { read = c.advance.new.self; claim = None }) paying c.advance.ensures.read (omega (arith, c.advance.ensures.count)) c.advance.ensures.newer (unequal _ _ c.if-ne.ensures) refl

pub returns-else-ne-clause-same : goal.returns-else-ne-clause-same
returns-else-ne-clause-same c = λ k u done paying. turn-same k u c.args.records.now done c.args.self.now (record { read = c.advance.new.self; claim = c.args.self.now.claim }) paying c.advance.ensures.read (omega (arith, c.advance.ensures.count)) (equal _ _ c.if-ne.ensures) refl
