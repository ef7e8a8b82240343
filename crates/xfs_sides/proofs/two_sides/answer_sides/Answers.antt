use Rattle.xfs_script.proofs.Due.{told_map}
use Rattle.xfs_sides.proofs.ReadLaws.{fleet-lines}
use Rattle.xfs_sides.proofs.SideLaws.{are-alone}
use Rattle.xfs_sides.proofs.two_sides.answer_sides.Goals as goal

pub returns-clause-alone : goal.returns-clause-alone
returns-clause-alone g c = λ end.
    told_map (g.S.Source.left c.args.source.now) _ _ (λ text answers. are-alone g.A.Answerer.command _ _ _ _ _ text (rw end at answers)) c.answer_lines.ensures.answers

pub returns-clause-fleet : goal.returns-clause-fleet
returns-clause-fleet g c = λ replay. fleet-lines g.A.Answerer.command replay
