use Rattle.std.proofs.Common.{arith}
use Rattle.xfs_script.proofs.Blocks.{gives_from}
use Rattle.xfs_script.proofs.feed.read_behind.Goals as goal

pub returns-clause-gives : goal.returns-clause-gives
returns-clause-gives g c =
    gives_from c.read.result c.args.block.now c.read.new.into c.args.place _ (g.S.Source.left c.args.source.now) (g.S.Source.left c.read.new.self) (omega arith) c.read.ensures.bound c.read.ensures.bytes
