use Rattle.std.proofs.Common.{◌≡◌, refl, arith}
use Rattle.xfs_server.proofs.Turns.{session_ends, session_whole, turns_more}
use Rattle.xfs_server.proofs.session.serve_client.Goals as goal

pub loop-init : goal.loop-init
loop-init g c = (refl, refl)

pub returns-in-Err : goal.returns-in-Err
returns-in-Err g c = session_ends c.loop.counter _ _ _ _ _ _ _ c.loop.invariant c.in-Err.ensures.err

pub loop-preserved : goal.loop-preserved
loop-preserved g c = turns_more c.loop.counter _ _ _ _ _ _ c.loop.invariant c.in-Ok.ensures.ok

pub returns : goal.returns
returns g c =
    let all : c.loop.counter ≡ 4294967296 = omega (arith, c.loop-test.false, c.loop.auto.counter-end) in
    session_whole c.loop.counter _ _ _ _ all c.loop.invariant
