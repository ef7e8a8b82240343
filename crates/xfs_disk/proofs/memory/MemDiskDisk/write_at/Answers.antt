use Rattle.std.proofs.Common.{rules}
use Rattle.xfs_disk.specs.Steps.{history}
use Rattle.xfs_disk.proofs.Outcomes.{by_outcome, both, wrote_since, write_time, write_images, write_sound}
use Rattle.xfs_disk.proofs.memory.MemDiskDisk.write_at.Goals as goal

pub invariant_of-self-else-is_err : goal.invariant_of-self-else-is_err
invariant_of-self-else-is_err c =
    let m = c.args.self.now in
    let o = c.overwrite in
    record { sound = write_sound m.bytes.items m.steps.items o.new.all.items o.new.steps.items c.args.at c.args.bytes.now c.requires.within (by_outcome _ _ o.result (both _ _ o.result o.ensures.written o.ensures.noted) o.ensures.err) m.sound }

pub returns-clause-crash : goal.returns-clause-crash
returns-clause-crash c =
    let m = c.args.self.now in
    let o = c.overwrite in
    let past = m.settled.items in
    write_images m.bytes.items (history past m.steps.items) o.new.all.items (history past o.new.steps.items) c.args.at c.args.bytes.now c.requires.within
    (wrote_since past m.bytes.items m.steps.items o.new.all.items o.new.steps.items c.args.at c.args.bytes.now (by_outcome _ _ o.result (both _ _ o.result o.ensures.written o.ensures.noted) o.ensures.err))

pub returns-clause-acts : goal.returns-clause-acts
returns-clause-acts c =
    let m = c.args.self.now in
    let o = c.overwrite in
    let past = m.settled.items in
    record { time = write_time m.bytes.items (history past m.steps.items) o.new.all.items (history past o.new.steps.items) c.args.at c.args.bytes.now c.requires.within (wrote_since past m.bytes.items m.steps.items o.new.all.items o.new.steps.items c.args.at c.args.bytes.now (by_outcome _ _ o.result (both _ _ o.result o.ensures.written o.ensures.noted) o.ensures.err)); cause = search rules; unread = search rules; refused = search rules }
