use Rattle.std.proofs.Common.{◌≡◌, [], ◌∷◌, ◌++◌, rules}
use Rattle.xfs_disk.specs.declared.step.Step.TheVariants.{Resize}
use Rattle.xfs_disk.proofs.memory.resize.Goals as goal

pub returns-clause-noted : goal.returns-clause-noted
returns-clause-noted c =
    let moved : c.replace-was.result.items ≡ c.args.all.now.items = search rules in
    let noted : c.push_reserved.new.self.items ≡ c.args.steps.now.items ++ Resize c.args.len c.replace-was.result ∷ [] = search rules in
    (c.replace-was.result, moved, noted)
