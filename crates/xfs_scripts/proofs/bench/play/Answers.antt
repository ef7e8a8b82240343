use Rattle.std.proofs.Common.{refl}
use Rattle.xfs_lines.specs.Returns.{Return}
use Rattle.xfs_lines.proofs.KeptLaws.{upholds-kept}
use Rattle.xfs_scripts.proofs.bench.play.Goals as goal

pub returns-in_default : goal.returns-in_default
returns-in_default g c =
    let kept : Return g.row.M.Denot g.row.D.Denot = record { status = 2; mech = c.args.bench.core.mech; disk = c.args.bench.core.disk } in
    record {
      upholds = rw c.tell_usage.ensures.ended (upholds-kept g.M.Mechanism g.D.Disk c.args.bench.core kept (record { mech = refl; disk = refl }) c.requires.starts.recorded c.requires.starts.at_rest);
    }
