use Rattle.std.proofs.Common.{subst, sym}
use Rattle.std.specs.Prelude.{Ok}
use Rattle.std.specs.declared.option.Option.{Option}
use Rattle.std.proofs.lemmas.Result.{on_ok_weaker}
use Rattle.xfs_envelope.specs.declared.code.Status.{Status}
use Rattle.xfs_envelope.specs.Commands.{said}
use Rattle.xfs_audit.specs.Ways.{AnswersText}
use Rattle.xfs_audit.proofs.Stepping.{command-accepted}
use Rattle.xfs_audit.proofs.rest.Rest.answer_command.Goals as goal

pub returns-in-None-clause-ways : goal.returns-in-None-clause-ways
returns-in-None-clause-ways c =
    on_ok_weaker c.step.result (λ leads. subst (λ (s : Option Status). AnswersText c.args.ids.now (Ok (said c.args.envelope)) s c.args.self.now.ways.items c.step.new.self.ways.items) (sym c.in-None.is)
    (command-accepted c.args.ids.now (said c.args.envelope) c.args.self.now.ways.items c.step.new.self.ways.items leads)) c.step.ensures.ways

pub returns-clause-ways : goal.returns-clause-ways
returns-clause-ways c =
    subst (λ (s : Option Status). AnswersText c.args.ids.now (Ok (said c.args.envelope)) s c.args.self.now.ways.items c.refuse_command.new.self.ways.items) (sym c.in-Some.is) (c.refuse_command.ensures.ways c.args.ids.now (said c.args.envelope))
