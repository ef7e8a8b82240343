use Rattle.std.proofs.Common.{length}
use Rattle.xfs_journal.specs.Gate.{MayBecome}
use Rattle.xfs_journal.proofs.Moments.{started, goes_on}
use Rattle.xfs_disk.proofs.Crash.{torn_same}
use Rattle.xfs_journal.proofs.gate.write_synced.Goals as goal

pub returns-in_err-write_at-clause-any_moment : goal.returns-in_err-write_at-clause-any_moment
returns-in_err-write_at-clause-any_moment g c =
    let d = c.args.disk.now in
    let P = MayBecome (g.D.Disk.images d) c.args.at (length c.args.bytes.now) in
    let start = started g.D.Disk d P (λ f left. (f, g.met.D.Disk.only_now d f left, torn_same _ _ f)) in
    goes_on g.D.Disk d d c.write_at.new.self P _ start c.write_at.ensures.time c.write_at.ensures.crash

pub returns-clause-any_moment : goal.returns-clause-any_moment
returns-clause-any_moment g c =
    let d = c.args.disk.now in
    let P = MayBecome (g.D.Disk.images d) c.args.at (length c.args.bytes.now) in
    let start = started g.D.Disk d P (λ f left. (f, g.met.D.Disk.only_now d f left, torn_same _ _ f)) in
    let written = goes_on g.D.Disk d d c.write_at.new.self P _ start c.write_at.ensures.time c.write_at.ensures.crash in
    goes_on g.D.Disk d c.write_at.new.self c.sync.new.self P _ written c.sync.ensures.time (λ f left. c.write_at.ensures.crash f (c.sync.ensures.crash f left))
