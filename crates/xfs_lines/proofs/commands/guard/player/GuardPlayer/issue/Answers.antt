use Rattle.std.proofs.lemmas.Result.{IfOk-weaker}
use Rattle.xfs_guard.specs.declared.nonce.Nonce.{Nonce}
use Rattle.xfs_lines.proofs.GuardStateLaws.{issue-done, wrote-err}
use Rattle.std.proofs.Common.{◌++◌, inr, refl}
use Rattle.std.specs.Prelude.{codes}
use Rattle.xfs_lines.specs.Guard.States.{guard_state}
use Rattle.xfs_lines.specs.Guard.Verbs.{Issues}
use Rattle.xfs_lines.proofs.BegunLaws.{denied-or-nothing}
use Rattle.xfs_script.proofs.LastLaws.{on-err}
use Rattle.xfs_lines.proofs.commands.guard.player.GuardPlayer.issue.Goals as goal

pub returns-in-Ok-clause-answer : goal.returns-in-Ok-clause-answer
returns-in-Ok-clause-answer g c =
    let e = c.in-Ok.ensures in
    IfOk-weaker c.join_parts.result _ _ (λ text told. issue-done g.D.Disk.faults c.args.self.now.guard c.issue.new.self c.args.self.now.last c.in-Ok.nonce text.items e.refused e.number e.live e.ok e.writes.keeps.proceeds.disk_faults told) c.join_parts.ensures

pub returns-in-Err-clause-answer : goal.returns-in-Err-clause-answer
returns-in-Err-clause-answer g c =
    let e = c.in-Err.ensures in
    IfOk-weaker c.refusal_text.result _ _ (λ text told. wrote-err Nonce g.D.Disk.faults c.args.self.now.guard c.issue.new.self c.args.self.now.last _ _ _ _ text.items c.in-Err.deny e.refused e.writes.disk e.writes.keeps.proceeds.disk_faults e.writes.cause e.writes.same told) c.refusal_text.ensures

pub returns-in-Ok-clause-memory : goal.returns-in-Ok-clause-memory
returns-in-Ok-clause-memory g c =
    let e = c.in-Ok.ensures in
    on-err c.join_parts.result _ (inr (
      codes "nonce " ++ c.in-Ok.nonce.text,
      issue-done g.D.Disk.faults c.args.self.now.guard c.issue.new.self c.args.self.now.last c.in-Ok.nonce (codes "nonce " ++ c.in-Ok.nonce.text) e.refused e.number e.live e.ok e.writes.keeps.proceeds.disk_faults refl,
    ))

pub returns-in-Err-clause-memory : goal.returns-in-Err-clause-memory
returns-in-Err-clause-memory g c =
    let e = c.in-Err.ensures in
    on-err c.refusal_text.result _ (denied-or-nothing g.D.Disk.faults c.args.self.now.guard c.issue.new.self c.args.self.now.last (Issues (guard_state g.D.Disk.faults c.args.self.now.guard c.args.self.now.last)) c.in-Err.deny e.writes.same
    (λ line told. wrote-err Nonce g.D.Disk.faults c.args.self.now.guard c.issue.new.self c.args.self.now.last _ _ _ _ line c.in-Err.deny e.refused e.writes.disk e.writes.keeps.proceeds.disk_faults e.writes.cause e.writes.same told))
