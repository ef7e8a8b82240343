use Rattle.std.proofs.Common.{Ok, Err, inl, inr, refl, ap}
use Rattle.std.specs.Prelude.{codes}
use Rattle.std.proofs.lemmas.Result.{IfOk-weaker}
use Rattle.xfs_guard.proofs.KeepsLaws.{Proceeds-trans}
use Rattle.xfs_dispenser.specs.declared.refusal.Refusal.TheVariants.{Deny as Denied}
use Rattle.xfs_lines.proofs.DispenseLaws.{few-allowed}
use Rattle.xfs_lines.proofs.GuardStateLaws.{told-kept, told-some}
use Rattle.xfs_dispenser.proofs.CarryLaws.{err-same}
use Rattle.xfs_lines.specs.Guard.States.{guard_state}
use Rattle.xfs_lines.specs.Guard.Dispenses.{Dispenses, named}
use Rattle.xfs_lines.specs.Guard.Texts.{outcome_text}
use Rattle.xfs_lines.proofs.BegunLaws.{ordered-or-part, refused-or-nothing, seen-both}
use Rattle.xfs_script.proofs.LastLaws.{on-err}
use Rattle.xfs_lines.proofs.commands.guard.player.GuardPlayer.dispense.Goals as goal

pub returns-in-Err-clause-answer : goal.returns-in-Err-clause-answer
returns-in-Err-clause-answer g c =
    IfOk-weaker c.refusal_text.result _ _ (λ text told. inl (record { refusal = c.in-Err.refusal; refused = c.in-Err.ensures.allowed (λ e. told-kept c.in-Err.refusal text.items told cc); text = told })) c.refusal_text.ensures

pub stack_all-requires-clause-few : goal.stack_all-requires-clause-few
stack_all-requires-clause-few g c = rw c.allow.ensures.proceeds.continues.units (few-allowed _ _ c.args.counts.now c.in-Ok.grant _ (c.in-Ok.ensures.allowed (λ e. cc)))

pub returns-in-Ok-stack_all-clause-proceeds : goal.returns-in-Ok-stack_all-clause-proceeds
returns-in-Ok-stack_all-clause-proceeds g c = Proceeds-trans g.D.Disk _ _ _ g.met.D.Disk.counts_now c.allow.ensures.proceeds c.stack_all.ensures.leaves.proceeds

pub returns-in-Err-stack_all-clause-proceeds : goal.returns-in-Err-stack_all-clause-proceeds
returns-in-Err-stack_all-clause-proceeds g c = Proceeds-trans g.D.Disk _ _ _ g.met.D.Disk.counts_now c.allow.ensures.proceeds c.stack_all.ensures.leaves.proceeds

pub returns-in-Err-clause-memory : goal.returns-in-Err-clause-memory
returns-in-Err-clause-memory g c =
    let old = (guard_state g.D.Disk.faults c.args.self.now.guard c.args.self.now.last) in
    let new = guard_state g.D.Disk.faults c.allow.new.self.guard c.allow.new.self.last in
    on-err c.refusal_text.result _ (inl (refused-or-nothing (Dispenses old (named c.args.self.now.last c.args.token.now) c.args.counts.now) old new c.in-Err.refusal
    (λ other. seen-both g.D.Disk.faults c.args.self.now.guard c.allow.new.self.guard c.args.self.now.last c.allow.new.self.last (c.in-Err.ensures.same other) c.allow.ensures.last)
    (λ line told. inl (record { refusal = c.in-Err.refusal; refused = c.in-Err.ensures.allowed (λ e. told-kept c.in-Err.refusal line told cc); text = told }))))

pub returns-in-Ok-stack_all-clause-answer : goal.returns-in-Ok-stack_all-clause-answer
returns-in-Ok-stack_all-clause-answer g c = IfOk-weaker c.outcome_text.result _ _ (λ text told. inr (record {
  grant = c.in-Ok.grant;
  bound = guard_state g.D.Disk.faults c.allow.new.self.guard c.allow.new.self.last;
  allowed = c.in-Ok.ensures.allowed (λ e. cc);
  result = Ok c.in-Ok-stack_all.outcome;
  stacked = c.in-Ok-stack_all.ensures.stacked (λ e. cc);
  last_is = refl;
  told = told;
})) c.outcome_text.ensures

pub returns-in-Ok-stack_all-clause-memory : goal.returns-in-Ok-stack_all-clause-memory
returns-in-Ok-stack_all-clause-memory g c = on-err _ _ (inl (inr (
  outcome_text (codes "moved") c.in-Ok-stack_all.outcome,
  inr (record {
    grant = c.in-Ok.grant;
    bound = guard_state g.D.Disk.faults c.allow.new.self.guard c.allow.new.self.last;
    allowed = c.in-Ok.ensures.allowed (λ e. cc);
    result = Ok c.in-Ok-stack_all.outcome;
    stacked = c.in-Ok-stack_all.ensures.stacked (λ e. cc);
    last_is = refl;
    told = refl;
  }),
)))

pub returns-in-Err-stack_all-clause-answer : goal.returns-in-Err-stack_all-clause-answer
returns-in-Err-stack_all-clause-answer g c =
    IfOk-weaker c.refusal_text-in-Err-stack_all.result _ _ (λ text told. inr (record {
      grant = c.in-Ok.grant;
      bound = guard_state g.D.Disk.faults c.allow.new.self.guard c.allow.new.self.last;
      allowed = c.in-Ok.ensures.allowed (λ e. cc);
      result = Err c.in-Err-stack_all.deny;
      stacked = c.in-Err-stack_all.ensures.stacked (λ e. told-some (Denied c.in-Err-stack_all.deny) text.items told (ap (λ d. Denied d) (err-same e)));
      last_is = refl;
      told = told;
    })) c.refusal_text-in-Err-stack_all.ensures

pub returns-in-Err-stack_all-clause-memory : goal.returns-in-Err-stack_all-clause-memory
returns-in-Err-stack_all-clause-memory g c =
    on-err _ _ (ordered-or-part (guard_state g.D.Disk.faults c.args.self.now.guard c.args.self.now.last) (guard_state g.D.Disk.faults c.allow.new.self.guard c.allow.new.self.last) (guard_state g.D.Disk.faults c.stack_all.new.guard c.allow.new.self.last) (named c.args.self.now.last c.args.token.now) c.args.counts.now c.in-Ok.grant c.in-Err-stack_all.deny
    (c.in-Ok.ensures.allowed (λ e. cc)) refl c.in-Err-stack_all.ensures.memory c.in-Err-stack_all.ensures.stacked)
