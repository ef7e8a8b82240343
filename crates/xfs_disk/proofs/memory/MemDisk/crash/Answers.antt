use Rattle.std.proofs.Common.{◌∙◌, List, [], subst, sym, reverse}
use Rattle.xfs_disk.specs.MemDisk.{IsImage}
use Rattle.xfs_disk.specs.Steps.{LeftNow, history, crashed}
use Rattle.xfs_disk.specs.declared.step.Step.{Step}
use Rattle.xfs_disk.proofs.Crash.{crashed_image}
use Rattle.xfs_disk.proofs.Settled.{newest, crashed-since}
use Rattle.xfs_disk.proofs.memory.MemDisk.crash.Goals as goal

pub returns-clause-image : goal.returns-clause-image
returns-clause-image c =
    let m = c.args.self in
    let left = crashed c.args.pick m.bytes.items (reverse m.steps.items) in
    let is = crashed_image c.args.pick (reverse (history m.settled.items [])) m.bytes.items (reverse m.steps.items) m.sound in
    subst (IsImage m) (sym c.leave.ensures ∙ sym c.new.ensures.bytes) (subst (λ (l : List Step). LeftNow m.bytes.items l left) (sym (newest m.settled.items m.steps.items)) is)

pub returns-clause-picked : goal.returns-clause-picked
returns-clause-picked c =
    let m = c.args.self in
    c.new.ensures.bytes ∙ c.leave.ensures ∙ sym (crashed-since c.args.pick m.bytes.items m.settled.items m.steps.items)
