use Rattle.std.proofs.Common.{arith, ap, length}
use Rattle.xfs_cli.specs.Replay.States.{is_above}
use Rattle.xfs_cli.proofs.ClientLaws.{within}
use Rattle.xfs_cli.proofs.commands.replay.clients.Clients.add.Goals as goal

pub insert-requires : goal.insert-requires
insert-requires c =
    let fits = within (is_above c.args.number) c.args.self.now in
    let same = ap (λ l. length l) c.self.view_is in
    omega (arith, c.below-place.ensures, fits, same, c.self.inside.list.ok.0)
