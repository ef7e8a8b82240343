use Rattle.std.proofs.Common.{◌<◌, length, length-set, arith, ◌∙◌}
use Rattle.std.proofs.lemmas.List.Edits.{map_over_more}
use Rattle.xfs_traffic.specs.TakenBack.{taken_back}
use Rattle.xfs_traffic.proofs.connections.take_back.Goals as goal

pub loop-i-preserved : goal.loop-i-preserved
loop-i-preserved c =
    let ks = c.args.connections.now.items in
    let within : c.loop-i.i < length ks = omega arith in
    record {
      size = length-set _ _ _ ∙ c.loop-i.invariant.size;
      written = rw (c.drop_last.ensures) (map_over_more (taken_back c.args.service) ks c.loop-i.connections.items c.loop-i.i c.index_mut.result.now within c.loop-i.invariant.written c.index_mut.ensures.value);
    }
