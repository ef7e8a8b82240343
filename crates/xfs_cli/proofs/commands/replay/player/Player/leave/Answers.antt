use Rattle.std.proofs.Common.{ap, refl, sym, ◌∙◌}
use Rattle.std.specs.Option.{option_map}
use Rattle.std.proofs.lemmas.Result.{IfOk-weaker}
use Rattle.xfs_guard.proofs.KeepsLaws.{Proceeds-same}
use Rattle.xfs_model.specs.Events.{leave}
use Rattle.xfs_cli.specs.Replay.States.{played}
use Rattle.xfs_cli.proofs.VerbLaws.{tells-event, tells-none}
use Rattle.xfs_cli.proofs.commands.replay.player.Player.leave.Goals as goal
use Rattle.xfs_load.proofs.PlayLaws.{proceeds-kept}

pub returns-in-Some-clause-answer : goal.returns-in-Some-clause-answer
returns-in-Some-clause-answer g c =
    let s = played c.args.self.now in
    tells-event s _ _ _ _ _ _ _ _ (ap (option_map leave) (sym c.take.ensures.found ∙ c.in-Some.is)) c.leave.ensures.step refl
    (ap (λ clients. record s { machine = c.leave.new.self.state; clients = clients }) c.take.ensures.left) c.new.ensures.items

pub returns-in-Some-clause-proceeds : goal.returns-in-Some-clause-proceeds
returns-in-Some-clause-proceeds g c = proceeds-kept g.D.Disk _ _ g.met.D.Disk.only_now c.leave.ensures.guard

pub returns-in-None-clause-answer : goal.returns-in-None-clause-answer
returns-in-None-clause-answer g c =
    let s = played c.args.self.now in
    IfOk-weaker c.no_client.result _ _ (λ text told. rw c.in-None.ensures.none (tells-none s _ _ text.items (ap (option_map leave) (sym c.take.ensures.found ∙ c.in-None.is)) told)) c.no_client.ensures

pub returns-in-None-clause-proceeds : goal.returns-in-None-clause-proceeds
returns-in-None-clause-proceeds g c = Proceeds-same g.D.Disk _ g.met.D.Disk.only_now
