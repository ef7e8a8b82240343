use Rattle.std.proofs.Common.{Some, refl, subst, sym}
use Rattle.std.proofs.lemmas.Result.{on_ok_weaker}
use Rattle.serde_json.specs.View.{view}
use Rattle.xfs_envelope.specs.declared.answer.Answer.{Answer}
use Rattle.xfs_envelope.specs.Replies.{told}
use Rattle.xfs_audit.specs.Ways.{Extends}
use Rattle.xfs_audit.proofs.Resting.{heard-more, told-back-more, completed-back-more, announced-back}
use Rattle.xfs_audit.proofs.rest.Rest.hear.Goals as goal

pub returns-in-Acknowledge : goal.returns-in-Acknowledge
returns-in-Acknowledge c =
    on_ok_weaker c.acknowledge.result (λ more. subst (λ (a : Answer). Extends c.args.ids.now c.args.texts.now (Some (told a)) c.args.self.now c.acknowledge.new.self) (sym c.in-Acknowledge.is) (more c.in-Acknowledge.id c.in-Acknowledge.name)) c.acknowledge.ensures

pub returns-in-Event : goal.returns-in-Event
returns-in-Event c =
    on_ok_weaker c.step.result (λ leads. subst (λ (a : Answer). Extends c.args.ids.now c.args.texts.now (Some (told a)) c.args.self.now c.step.new.self) (sym c.in-Event.is)
    (heard-more c.args.ids.now c.args.texts.now _ c.args.self.now c.step.new.self c.step.ensures.left (λ id name status e. cc)
    (told-back-more c.args.ids.now c.in-Event.id c.in-Event.name (view c.in-Event.payload) c.args.self.now.ways.items c.step.new.self.ways.items leads))) c.step.ensures.ways

pub returns-in-Completion : goal.returns-in-Completion
returns-in-Completion c =
    on_ok_weaker c.step-in-Completion.result (λ leads. subst (λ (a : Answer). Extends c.args.ids.now c.args.texts.now (Some (told a)) c.args.self.now c.step-in-Completion.new.self) (sym c.in-Completion.is)
    (heard-more c.args.ids.now c.args.texts.now _ c.args.self.now c.step-in-Completion.new.self c.step-in-Completion.ensures.left (λ id name status e. cc)
    (completed-back-more c.args.ids.now record { id = c.in-Completion.id; name = c.in-Completion.name } c.in-Completion.code (view c.in-Completion.payload) c.args.self.now.ways.items c.step-in-Completion.new.self.ways.items leads))) c.step-in-Completion.ensures.ways

pub returns : goal.returns
returns c =
    subst (λ (a : Answer). Extends c.args.ids.now c.args.texts.now (Some (told a)) c.args.self.now c.args.self.now) (sym c.in-Unsolicited.is)
    (heard-more c.args.ids.now c.args.texts.now _ c.args.self.now c.args.self.now refl (λ id name status e. cc)
    (announced-back c.args.ids.now c.in-Unsolicited.name (view c.in-Unsolicited.payload) c.args.self.now.ways.items))
