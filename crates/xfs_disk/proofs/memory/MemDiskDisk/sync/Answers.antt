use Rattle.std.proofs.Common.{rules, ⊎_elim, ap₂}
use Rattle.xfs_disk.specs.Steps.{history}
use Rattle.xfs_disk.proofs.Changes.{syncs, unchanged}
use Rattle.xfs_disk.proofs.Outcomes.{by_outcome}
use Rattle.xfs_disk.proofs.memory.MemDiskDisk.sync.Goals as goal

pub returns-clause-keeps : goal.returns-clause-keeps
returns-clause-keeps c =
    let m = c.args.self.now in
    let old = history m.settled.items m.steps.items in
    let new = history c.settle.new.settled.items c.settle.new.steps.items in
    record { same = search rules; crash = ⊎_elim (λ ok. syncs m.bytes.items old new ok) (λ same. unchanged m.bytes.items old new (ap₂ history same.1 same.0)) (by_outcome _ _ c.settle.result c.settle.ensures.ok c.settle.ensures.err) }
