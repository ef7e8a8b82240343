use Rattle.xfs_audit.proofs.Adding.{adds-told, adds-untold}
use Rattle.xfs_audit.proofs.way.Way.before_told.Goals as goal

pub returns-in_ok-add : goal.returns-in_ok-add
returns-in_ok-add c = adds-told c.args.ids.now c.args.id c.args.self c.args.ways.now.items c.add.new.ways.items (λ within. (c.has_id.ensures within).0 c.if-has_id.true) c.in_ok-add.ensures

pub returns-else-has_id : goal.returns-else-has_id
returns-else-has_id c = adds-untold c.args.ids.now c.args.id c.args.self c.args.ways.now.items (λ within has. let yes = (c.has_id.ensures within).1 has in let no = c.if-has_id.false in cc)
