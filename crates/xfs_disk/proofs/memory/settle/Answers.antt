use Rattle.std.proofs.Common.{◌∙◌, [], ◌∷◌, ◌++◌, ap, ap₂}
use Rattle.xfs_disk.specs.Steps.{history}
use Rattle.xfs_disk.specs.declared.step.Step.TheVariants.{Sync}
use Rattle.xfs_disk.proofs.Settled.{settles}
use Rattle.xfs_disk.proofs.memory.settle.Goals as goal

pub returns-clause-ok : goal.returns-clause-ok
returns-clause-ok c =
    ap₂ history (c.push_reserved.ensures.items ∙ ap (λ l. l ++ c.of.result ∷ []) c.reserve.ensures.items) c.clear.ensures.items
    ∙ settles c.args.settled.now.items c.of.result
    ∙ ap (λ v. history c.args.settled.now.items v.items ++ Sync ∷ []) c.of.ensures
