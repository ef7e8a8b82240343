use Rattle.std.proofs.Common.{ap, refl, subst, sym}
use Rattle.std.specs.Prelude.{Err}
use Rattle.std.specs.declared.option.Option.{Option}
use Rattle.std.proofs.lemmas.Result.{on_ok_weaker}
use Rattle.xfs_envelope.specs.Replies.{Reply}
use Rattle.xfs_audit.specs.Ways.{Extends}
use Rattle.xfs_audit.proofs.Resting.{unread}
use Rattle.xfs_audit.proofs.rest.Rest.read.Goals as goal

pub returns-in-Ok : goal.returns-in-Ok
returns-in-Ok c =
    on_ok_weaker c.hear.result (λ more. subst (λ (r : Option Reply). Extends c.args.ids.now c.args.texts.now r c.args.self.now c.hear.new.self) (sym c.in-Ok.ensures.ok) more) c.hear.ensures

pub returns-in-Err-Shape : goal.returns-in-Err-Shape
returns-in-Err-Shape c =
    subst (λ (r : Option Reply). Extends c.args.ids.now c.args.texts.now r c.args.self.now record { left = c.args.self.now.left; ways = c.clear.new.self }) (sym (c.in-Err-Shape.ensures.shape (ap Err c.in-Err-Shape.field-0-is)))
    (unread c.args.ids.now c.args.texts.now c.args.self.now record { left = c.args.self.now.left; ways = c.clear.new.self } refl c.clear.ensures.items)
