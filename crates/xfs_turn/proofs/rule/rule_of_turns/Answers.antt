use Rattle.xfs_turn.specs.Turns.{knows}
use Rattle.xfs_turn.proofs.Laws.{has_parts}
use Rattle.xfs_turn.proofs.Moves.{takes_turn, stores_count, gives_turn, splits_seat, joins_seats, learns_both}
use Rattle.xfs_turn.proofs.rule.rule_of_turns.Goals as goal

pub returns-clause-parts : goal.returns-clause-parts
returns-clause-parts g c = has_parts g.T.Chronicle.list

pub returns-clause-take : goal.returns-clause-take
returns-clause-take g c = λ slots id seen. takes_turn g.T.Chronicle.list slots id (knows seen)

pub returns-clause-count : goal.returns-clause-count
returns-clause-count g c = stores_count g.T.Chronicle.list

pub returns-clause-give : goal.returns-clause-give
returns-clause-give g c = gives_turn g.T.Chronicle.list

pub returns-clause-split : goal.returns-clause-split
returns-clause-split g c = splits_seat g.T.Chronicle.list

pub returns-clause-join : goal.returns-clause-join
returns-clause-join g c = joins_seats g.T.Chronicle.list

pub returns-clause-learn : goal.returns-clause-learn
returns-clause-learn g c = learns_both g.T.Chronicle.list
