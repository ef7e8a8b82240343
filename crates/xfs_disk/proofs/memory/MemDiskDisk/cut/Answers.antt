use Rattle.std.proofs.Common.{rules}
use Rattle.xfs_disk.specs.Steps.{history}
use Rattle.xfs_disk.proofs.Outcomes.{by_outcome, both, resized_since, cut_images, cut_time}
use Rattle.xfs_disk.proofs.memory.MemDiskDisk.cut.Goals as goal

pub returns-clause-crash : goal.returns-clause-crash
returns-clause-crash c =
    let m = c.args.self.now in
    let o = c.resize in
    let past = m.settled.items in
    cut_images m.bytes.items (history past m.steps.items) o.new.all.items (history past o.new.steps.items) c.args.len
    (resized_since past m.bytes.items m.steps.items o.new.all.items o.new.steps.items c.args.len (by_outcome _ _ o.result (both _ _ o.result o.ensures.cut o.ensures.noted) o.ensures.err))

pub returns-clause-acts : goal.returns-clause-acts
returns-clause-acts c =
    let m = c.args.self.now in
    let o = c.resize in
    let past = m.settled.items in
    record { time = cut_time m.bytes.items (history past m.steps.items) o.new.all.items (history past o.new.steps.items) c.args.len (resized_since past m.bytes.items m.steps.items o.new.all.items o.new.steps.items c.args.len (by_outcome _ _ o.result (both _ _ o.result o.ensures.cut o.ensures.noted) o.ensures.err)); cause = search rules; unread = search rules; refused = search rules }
