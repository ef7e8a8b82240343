use Rattle.std.proofs.Common.{◌++◌, inr, subst, sym, ◌∙◌}
use Rattle.std.proofs.lemmas.Result.{IfOk-weaker}
use Rattle.std.specs.Prelude.{codes, Some}
use Rattle.xfs_guard.specs.Nonce.{live_in}
use Rattle.xfs_lines.specs.Guard.States.{guard_state}
use Rattle.xfs_lines.specs.Guard.Verbs.{Mints}
use Rattle.xfs_lines.proofs.BegunLaws.{mints-none, mints-made}
use Rattle.xfs_script.proofs.LastLaws.{on-err}
use Rattle.xfs_lines.proofs.commands.guard.player.GuardPlayer.mint.Goals as goal

pub returns-in_default-clause-memory : goal.returns-in_default-clause-memory
returns-in_default-clause-memory g c =
    let v = c.args.self.now.guard.state in
    on-err _ _ (inr (codes "token none", mints-none (guard_state g.D.Disk.faults c.args.self.now.guard c.args.self.now.last) (live_in v.boot_missing v.records) c.args.amounts.now (sym c.live.ensures ∙ c.in_default.is)))

pub returns-clause-memory : goal.returns-clause-memory
returns-clause-memory g c =
    let v = c.args.self.now.guard.state in
    on-err _ _ (inr (
      codes "token " ++ c.in-Ok.token.items,
      mints-made (guard_state g.D.Disk.faults c.args.self.now.guard c.args.self.now.last) (live_in v.boot_missing v.records) c.in-Some.nonce c.args.amounts.now c.args.self.now.key c.in-Ok.token.items c.new.result (sym c.live.ensures ∙ c.in-Some.is) c.args.self.now.keyed c.in-Ok.ensures.ok c.new.ensures,
    ))

pub returns-clause-answer : goal.returns-clause-answer
returns-clause-answer g c =
    let v = c.args.self.now.guard.state in
    let s = guard_state g.D.Disk.faults c.args.self.now.guard c.args.self.now.last in
    let live = live_in v.boot_missing v.records in
    IfOk-weaker c.join_parts-text.result _ _ (λ text told.
    subst (λ line. Mints live s c.args.amounts.now line (record s { last = Some c.new.result })) (sym told)
    (mints-made s live c.in-Some.nonce c.args.amounts.now c.args.self.now.key c.in-Ok.token.items c.new.result (sym c.live.ensures ∙ c.in-Some.is) c.args.self.now.keyed c.in-Ok.ensures.ok c.new.ensures))
    (rw c.deref.ensures.value at c.join_parts-text.ensures)
