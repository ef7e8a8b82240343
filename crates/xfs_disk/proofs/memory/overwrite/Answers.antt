use Rattle.std.proofs.Common.{◌≡◌, [], ◌∷◌, ◌++◌, ◌-◌, min, take, drop, length, rules}
use Rattle.xfs_disk.proofs.memory.overwrite.Goals as goal
use Rattle.xfs_disk.specs.declared.step.Step.TheVariants.{Write}

pub returns-clause-noted : goal.returns-clause-noted
returns-clause-noted c =
    let copied : c.in_ok-was.was'.items ≡ take (min (length c.args.bytes.now) (length c.args.all.now.items - c.args.at)) (drop c.args.at c.args.all.now.items) = search rules in
    let noted : c.push_reserved.new.self.items ≡ c.args.steps.now.items ++ Write c.args.at (length c.args.bytes.now) c.in_ok-was.was' ∷ [] = search rules in
    (c.in_ok-was.was', copied, noted)
