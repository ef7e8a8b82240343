use Rattle.xfs_serving.proofs.Prefixes.{begins_itself}
use Rattle.xfs_serving.proofs.staff.join_ended.Goals as goal

pub loop-init : goal.loop-init
loop-init g c = begins_itself _
