use Rattle.std.proofs.Common.{ap, refl, sym, ◌∙◌}
use Rattle.std.proofs.lemmas.Result.{IfOk-weaker}
use Rattle.xfs_guard.proofs.KeepsLaws.{Proceeds-same}
use Rattle.xfs_cli.specs.Replay.States.{played}
use Rattle.xfs_script.proofs.LastLaws.{on-err}
use Rattle.xfs_cli.proofs.VerbLaws.{join-none, join-some, joined-as, part-event, tells-event, tells-none}
use Rattle.xfs_cli.proofs.commands.replay.player.Player.join.Goals as goal
use Rattle.xfs_load.proofs.PlayLaws.{proceeds-kept}

pub returns-then-is_some-clause-answer : goal.returns-then-is_some-clause-answer
returns-then-is_some-clause-answer g c =
    let is = joined-as _ _ _ _ c.pass.ensures (sym c.is_some.ensures ∙ c.if-is_some.true) in
    IfOk-weaker c.no_client.result _ _ (λ text told. tells-none _ _ _ text.items (join-none (played c.args.self.now) c.args.number c.args.service is) told) c.no_client.ensures

pub returns-then-is_some-clause-proceeds : goal.returns-then-is_some-clause-proceeds
returns-then-is_some-clause-proceeds g c = Proceeds-same g.D.Disk _ g.met.D.Disk.only_now

pub returns-in_err-add-in-Ok-clause-memory : goal.returns-in_err-add-in-Ok-clause-memory
returns-in_err-add-in-Ok-clause-memory g c =
    let is = joined-as _ _ _ _ c.pass.ensures (sym c.is_some.ensures ∙ c.if-is_some.false) in
    on-err _ _ (part-event _ _ _ _ _ (join-some (played c.args.self.now) c.args.number c.args.service is) c.join.ensures.step)

pub returns-in_err-add-in-Ok-clause-proceeds : goal.returns-in_err-add-in-Ok-clause-proceeds
returns-in_err-add-in-Ok-clause-proceeds g c = proceeds-kept g.D.Disk _ _ g.met.D.Disk.only_now c.join.ensures.guard

pub returns-in_ok-add-in-Ok-clause-answer : goal.returns-in_ok-add-in-Ok-clause-answer
returns-in_ok-add-in-Ok-clause-answer g c =
    let is = joined-as _ _ _ _ c.pass.ensures (sym c.is_some.ensures ∙ c.if-is_some.false) in
    let s = played c.args.self.now in
    IfOk-weaker c.line.result _ _ (λ text told. tells-event s _ _ _ _ _ _ _ text.items (join-some s c.args.number c.args.service is) (rw c.in-Ok.is at c.join.ensures.step) refl
    (ap (λ clients. record s { machine = c.join.new.self.state; clients = clients }) c.in_ok-add-in-Ok.ensures.ok) told) (rw (c.as_bytes.ensures.value, c.format.ensures.text) at c.line.ensures)

pub returns-in_ok-add-in-Ok-clause-memory : goal.returns-in_ok-add-in-Ok-clause-memory
returns-in_ok-add-in-Ok-clause-memory g c =
    let is = joined-as _ _ _ _ c.pass.ensures (sym c.is_some.ensures ∙ c.if-is_some.false) in
    on-err _ _ (part-event _ _ _ _ _ (join-some (played c.args.self.now) c.args.number c.args.service is) c.join.ensures.step)

pub returns-in_ok-add-in-Ok-clause-proceeds : goal.returns-in_ok-add-in-Ok-clause-proceeds
returns-in_ok-add-in-Ok-clause-proceeds g c = proceeds-kept g.D.Disk _ _ g.met.D.Disk.only_now c.join.ensures.guard

pub returns-in-Err-Full-clause-answer : goal.returns-in-Err-Full-clause-answer
returns-in-Err-Full-clause-answer g c =
    let is = joined-as _ _ _ _ c.pass.ensures (sym c.is_some.ensures ∙ c.if-is_some.false) in
    let s = played c.args.self.now in
    IfOk-weaker c.line-in-Err-Full.result _ _ (λ text told. tells-event s _ _ _ _ _ _ _ text.items (join-some s c.args.number c.args.service is) (rw (c.in-Err-Full.is, c.in-Err-Full.field-0-is) at c.join.ensures.step) refl refl told) c.line-in-Err-Full.ensures

pub returns-in-Err-Full-clause-proceeds : goal.returns-in-Err-Full-clause-proceeds
returns-in-Err-Full-clause-proceeds g c = proceeds-kept g.D.Disk _ _ g.met.D.Disk.only_now c.join.ensures.guard

pub returns-in-Err-Memory-clause-proceeds : goal.returns-in-Err-Memory-clause-proceeds
returns-in-Err-Memory-clause-proceeds g c = proceeds-kept g.D.Disk _ _ g.met.D.Disk.only_now c.join.ensures.guard
