use Rattle.std.proofs.lemmas.Result.{IfOk-weaker}
use Rattle.xfs_lines.proofs.GuardStateLaws.{clear-err}
use Rattle.std.proofs.Common.{ap, inr}
use Rattle.std.specs.Prelude.{Ok, codes}
use Rattle.xfs_guard.specs.Nonce.{live_nonce}
use Rattle.xfs_lines.specs.Guard.States.{guard_state}
use Rattle.xfs_lines.specs.Guard.Verbs.{Clears}
use Rattle.xfs_lines.proofs.BegunLaws.{clear-done, denied-or-nothing}
use Rattle.xfs_script.proofs.LastLaws.{on-err}
use Rattle.xfs_lines.proofs.commands.guard.player.GuardPlayer.clear.Goals as goal

pub returns-in-Err-clause-answer : goal.returns-in-Err-clause-answer
returns-in-Err-clause-answer g c =
    let e = c.in-Err.ensures in
    IfOk-weaker c.refusal_text.result _ _ (λ text told. clear-err g.D.Disk.faults c.args.self.now.guard c.clear.new.self c.args.self.now.last _ text.items c.in-Err.deny e.refused e.unwritten e.writes.disk e.writes.keeps.proceeds.disk_faults e.writes.cause e.writes.same told) c.refusal_text.ensures

pub returns-in-Ok-true-clause-memory : goal.returns-in-Ok-true-clause-memory
returns-in-Ok-true-clause-memory g c =
    let e = c.in-Ok-true.ensures in
    on-err c.join_parts.result _ (inr (codes "cleared", clear-done g.D.Disk.faults c.args.self.now.guard c.clear.new.self c.args.self.now.last _ (e.dead.0 c.in-Ok-true.field-0-test) e.refused (e.cleared (ap (λ b. Ok b) c.in-Ok-true.field-0-test)) e.writes.keeps.proceeds.disk_faults))

pub returns-in-Err-clause-memory : goal.returns-in-Err-clause-memory
returns-in-Err-clause-memory g c =
    let e = c.in-Err.ensures in
    on-err c.refusal_text.result _ (denied-or-nothing g.D.Disk.faults c.args.self.now.guard c.clear.new.self c.args.self.now.last (Clears (live_nonce c.args.self.now.guard.state.records) (guard_state g.D.Disk.faults c.args.self.now.guard c.args.self.now.last)) c.in-Err.deny e.writes.same
    (λ line told. clear-err g.D.Disk.faults c.args.self.now.guard c.clear.new.self c.args.self.now.last _ line c.in-Err.deny e.refused e.unwritten e.writes.disk e.writes.keeps.proceeds.disk_faults e.writes.cause e.writes.same told))
