use Rattle.std.proofs.Common.{Ok, Err, inr, refl, ap}
use Rattle.std.specs.Prelude.{codes}
use Rattle.xfs_lines.specs.Guard.Texts.{outcome_text}
use Rattle.xfs_lines.specs.Guard.Moves.{Moves}
use Rattle.xfs_lines.specs.Guard.States.{guard_state}
use Rattle.xfs_dispenser.specs.declared.refusal.Refusal.TheVariants.{Deny as Denied}
use Rattle.xfs_lines.proofs.GuardStateLaws.{told-some}
use Rattle.xfs_dispenser.proofs.CarryLaws.{err-same}
use Rattle.xfs_lines.proofs.BegunLaws.{denied-or-nothing}
use Rattle.xfs_script.proofs.LastLaws.{on-err}
use Rattle.xfs_lines.proofs.commands.guard.player.GuardPlayer.move_all.Goals as goal

pub returns-in-Ok-clause-memory : goal.returns-in-Ok-clause-memory
returns-in-Ok-clause-memory g c = on-err _ _ (inr (outcome_text (codes "moved") c.in-Ok.outcome, record { result = Ok c.in-Ok.outcome; carried = c.in-Ok.ensures.carried (λ e. cc); last_is = refl; told = refl }))

pub returns-in-Err-clause-memory : goal.returns-in-Err-clause-memory
returns-in-Err-clause-memory g c =
    let old = guard_state g.D.Disk.faults c.args.self.now.guard c.args.self.now.last in
    on-err _ _ (denied-or-nothing g.D.Disk.faults c.args.self.now.guard c.carry_out.new.guard c.args.self.now.last (Moves old c.args.ask) c.in-Err.deny c.in-Err.ensures.same
    (λ line told. record { result = Err c.in-Err.deny; carried = c.in-Err.ensures.carried (λ e. told-some (Denied c.in-Err.deny) line told (ap (λ d. Denied d) (err-same e))); last_is = refl; told = told }))
