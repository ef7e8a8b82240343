use Rattle.std.proofs.Common.{subst, sym}
use Rattle.std.specs.Prelude.{OnOk, Ok, Err}
use Rattle.std.specs.declared.result.Result.{Result}
use Rattle.std.proofs.lemmas.Result.{on_ok_weaker}
use Rattle.xfs_envelope.specs.declared.command.Refuse.{Refuse}
use Rattle.xfs_envelope.specs.Commands.{Command}
use Rattle.xfs_audit.specs.Ways.{AnswersText}
use Rattle.xfs_audit.proofs.rest.Rest.answer.Goals as goal

both : {T E : Type 0} (r : Result T E) (P Q : Type 0) → OnOk r P → OnOk r Q → OnOk r (P × Q)
both (Ok x) P Q p q = (p, q)
both (Err e) P Q p q = p

pub returns-in-Ok-clause-ways : goal.returns-in-Ok-clause-ways
returns-in-Ok-clause-ways c =
    on_ok_weaker c.answer_command.result (λ answers. subst (λ (asked : Result Command Refuse). AnswersText c.args.ids.now asked c.args.status c.args.self.now.ways.items c.answer_command.new.self.ways.items) (sym c.in-Ok.ensures.ok) answers) c.answer_command.ensures.ways

pub returns-in-Err-clause-ways : goal.returns-in-Err-clause-ways
returns-in-Err-clause-ways c =
    on_ok_weaker c.answer_refused.result (λ both. subst (λ (asked : Result Command Refuse). AnswersText c.args.ids.now asked c.args.status c.args.self.now.ways.items c.answer_refused.new.self.ways.items) (sym (c.in-Err.ensures.refused both.0)) (both.1 c.args.ids.now)) (both c.answer_refused.result _ _ c.answer_refused.ensures.known c.answer_refused.ensures.ways)
