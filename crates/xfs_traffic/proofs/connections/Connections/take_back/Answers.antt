use Rattle.std.proofs.Common.{◌≡◌, length, map, ap, arith, ◌∙◌}
use Rattle.xfs_traffic.specs.TakenBack.{taken_back}
use Rattle.xfs_traffic.proofs.Announced.{back_all, map_back}
use Rattle.xfs_traffic.proofs.Places.{rising_back}
use Rattle.xfs_traffic.proofs.connections.Connections.take_back.Goals as goal

pub invariant_of-self : goal.invariant_of-self
invariant_of-self c =
    let whole : c.len-count.result ≡ length c.self.inside.list.items = omega arith in
    rw (c.take_back.ensures, back_all c.args.service c.len-count.result c.self.inside.list.items whole) (rising_back c.args.service c.self.inside.list.items c.self.invariant)

pub returns : goal.returns
returns c = λ before frame e.
    let whole : c.len-count.result ≡ length c.self.inside.list.items = omega arith in
    c.take_back.ensures ∙ back_all c.args.service c.len-count.result c.self.inside.list.items whole ∙ ap (map (taken_back c.args.service)) (c.self.view_is ∙ e) ∙ map_back c.args.service frame before
