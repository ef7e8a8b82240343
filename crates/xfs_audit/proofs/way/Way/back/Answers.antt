use Rattle.std.proofs.Common.{subst, sym}
use Rattle.std.specs.Result.{OnOk}
use Rattle.std.proofs.lemmas.Result.{on_ok_weaker}
use Rattle.xfs_audit.specs.declared.way.Step.{Step}
use Rattle.xfs_audit.specs.Ways.{Adds}
use Rattle.xfs_audit.proofs.way.Way.back.Goals as goal

pub returns-in-Completed : goal.returns-in-Completed
returns-in-Completed c =
    on_ok_weaker c.before_completed.result (λ adds. subst (λ (s : Step). Adds c.args.ids.now s c.args.self c.args.ways.now.items c.before_completed.new.ways.items) (sym c.in-Completed.is) (adds c.args.ids.now)) c.before_completed.ensures

pub returns-in-Told : goal.returns-in-Told
returns-in-Told c =
    subst (λ (s : Step). OnOk c.before_told.result (Adds c.args.ids.now s c.args.self c.args.ways.now.items c.before_told.new.ways.items)) (sym c.in-Told.is) c.before_told.ensures
