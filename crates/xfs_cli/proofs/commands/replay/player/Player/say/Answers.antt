use Rattle.std.proofs.Common.{refl}
use Rattle.std.proofs.lemmas.Result.{IfOk-weaker}
use Rattle.xfs_guard.proofs.KeepsLaws.{Proceeds-same}
use Rattle.xfs_script.specs.declared.replay_line.ReplayLine.TheVariants.{Say}
use Rattle.xfs_cli.specs.Replay.Events.{event_of}
use Rattle.xfs_cli.specs.Replay.States.{played}
use Rattle.xfs_cli.proofs.VerbLaws.{pass-none, pass-some, tells-event, tells-none}
use Rattle.xfs_cli.proofs.commands.replay.player.Player.say.Goals as goal
use Rattle.xfs_load.proofs.PlayLaws.{proceeds-kept}

pub returns-in_default-clause-answer : goal.returns-in_default-clause-answer
returns-in_default-clause-answer g c =
    let s = played c.args.self.now in
    let verb = Say c.args.number c.args.message.now in
    let none = pass-none _ _ _ c.pass.ensures c.in_default.is in
    IfOk-weaker c.no_client.result _ _ (λ text told. tells-none s verb (event_of s verb) text.items (rw none refl) told) c.no_client.ensures

pub returns-in_default-clause-proceeds : goal.returns-in_default-clause-proceeds
returns-in_default-clause-proceeds g c = Proceeds-same g.D.Disk _ g.met.D.Disk.only_now

pub returns-in_err-message-clause-proceeds : goal.returns-in_err-message-clause-proceeds
returns-in_err-message-clause-proceeds g c = Proceeds-same g.D.Disk _ g.met.D.Disk.only_now

pub returns-in_err-post-clause-proceeds : goal.returns-in_err-post-clause-proceeds
returns-in_err-post-clause-proceeds g c = proceeds-kept g.D.Disk _ _ g.met.D.Disk.only_now c.post.ensures.guard

pub returns-clause-answer : goal.returns-clause-answer
returns-clause-answer g c =
    let s = played c.args.self.now in
    let verb = Say c.args.number c.args.message.now in
    let some = pass-some _ _ _ _ c.pass.ensures c.in-Some.is in
    let step = rw (c.in_ok-post.was, c.in_ok-message.ensures, c.token_bytes.ensures) at c.post.ensures.step in
    tells-event s _ verb (event_of s verb) _ _ _ _ _ (rw some refl) step refl refl c.new.ensures.items

pub returns-clause-proceeds : goal.returns-clause-proceeds
returns-clause-proceeds g c = proceeds-kept g.D.Disk _ _ g.met.D.Disk.only_now c.post.ensures.guard
