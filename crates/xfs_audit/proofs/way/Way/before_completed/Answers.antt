use Rattle.std.proofs.Common.{[], ◌∷◌, ◌++◌, ap, refl, ◌∙◌}
use Rattle.std.proofs.lemmas.Result.{on_ok_weaker}
use Rattle.xfs_audit.proofs.Adding.{adds-completed}
use Rattle.xfs_audit.proofs.way.Way.before_completed.Goals as goal

pub returns : goal.returns
returns c = on_ok_weaker c.add.result (λ more ids. adds-completed ids c.args.asked.now c.args.self record { stays = c.args.self.stays; due = c.push.new.self } c.args.ways.now.items c.add.new.ways.items refl (c.in_ok-push.ensures.items ∙ ap (λ p. c.args.self.due.items ++ p ∷ []) c.in_ok-copy.ensures) more) c.add.ensures
