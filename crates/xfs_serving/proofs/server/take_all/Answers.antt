use Rattle.std.proofs.Common.{◌+◌, arith}
use Rattle.xfs_serving.proofs.Prefixes.{begins_longer}
use Rattle.xfs_serving.proofs.Takings.{one_more, quiet_more, stopped}
use Rattle.xfs_serving.proofs.server.take_all.Goals as goal

pub loop-preserved-in-Ok-true : goal.loop-preserved-in-Ok-true
loop-preserved-in-Ok-true g c =
    let le = c.loop.invariant.0 in
    let ne = c.if-taken-count.false in
    let so_far = c.loop.invariant.1 in
    (omega (arith, le, ne), (so_far.0, one_more c.loop.taken so_far.0 _ _ _ _ c.in-Ok-true.field-0-test so_far.1 c.in-Ok-true.ensures.ok), begins_longer _ _ _ c.loop.invariant.2 c.door_turn.ensures.seen)

pub loop-preserved : goal.loop-preserved
loop-preserved g c =
    let so_far = c.loop.invariant.1 in
    (c.loop.invariant.0, (so_far.0 + 1, quiet_more c.loop.taken so_far.0 _ _ _ _ c.in-Ok-false.field-0-test so_far.1 c.in-Ok-false.ensures.ok), begins_longer _ _ _ c.loop.invariant.2 c.door_turn.ensures.seen)

pub returns-in-Err-clause-doors : goal.returns-in-Err-clause-doors
returns-in-Err-clause-doors g c =
    let le = c.loop.invariant.0 in
    let ne = c.if-taken-count.false in
    let so_far = c.loop.invariant.1 in
    stopped _ c.loop.taken so_far.0 _ _ _ _ (omega (arith, le, ne)) so_far.1 c.in-Err.ensures.err
