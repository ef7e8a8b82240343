use Rattle.std.proofs.Common.{◌≡◌}
use Rattle.xfs_withdraw.specs.Talks.{IsUnderWay}
use Rattle.xfs_withdraw.proofs.talk.go_on.Given as goal

-- the withdrawal goes on, over the same terms
abbrev pub invariant-loop : goal.invariant-loop
invariant-loop g l = IsUnderWay l.withdrawal l.quiets (g.L.Link.log l.link) × (l.withdrawal.terms ≡ l.initial.withdrawal.terms)
