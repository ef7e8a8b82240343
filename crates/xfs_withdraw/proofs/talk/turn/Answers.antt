use Rattle.std.proofs.Common.{refl, rules}
use Rattle.xfs_withdraw.proofs.TalkLaws.{closed_end, failed_end, memory_end, quiet_end}
use Rattle.xfs_withdraw.proofs.talk.turn.Goals as goal

pub returns-then-quiets-eq-MOST_QUIETS : goal.returns-then-quiets-eq-MOST_QUIETS
returns-then-quiets-eq-MOST_QUIETS g c = record { goes_on = search rules; ends = quiet_end _ _ _ _ _ c.requires c.in-Quiet.ensures.log refl c.if-quiets-eq-MOST_QUIETS.true; terms = search rules }

pub returns-in-Closed : goal.returns-in-Closed
returns-in-Closed g c = record { goes_on = search rules; ends = closed_end _ _ _ _ c.requires c.in-Closed.ensures.log; terms = search rules }

pub returns-in-Failed : goal.returns-in-Failed
returns-in-Failed g c = record { goes_on = search rules; ends = failed_end _ _ _ _ c.requires c.in-Failed.ensures.log; terms = search rules }

pub returns-in-Memory : goal.returns-in-Memory
returns-in-Memory g c = record { goes_on = search rules; ends = memory_end _ _ _ _ c.requires c.in-Memory.ensures.log; terms = search rules }
