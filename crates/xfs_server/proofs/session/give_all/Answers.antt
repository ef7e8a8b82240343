use Rattle.std.proofs.Common.{◌≡◌, Err, subst}
use Rattle.xfs_server.specs.Links.{after_give}
use Rattle.xfs_server.proofs.Turns.{gave_front}
use Rattle.xfs_server.proofs.session.give_all.Goals as goal

pub returns-in-Err : goal.returns-in-Err
returns-in-Err g c =
    gave_front _ _ _ c.args.frames.now c.loop-frame.frame-index c.frame-item.result c.in-Err.fault c.loop-frame-test.true c.frame-item.is c.loop-frame.invariant
    (subst (λ text. g.L.Link.log c.give.new.self ≡ after_give (g.L.Link.log c.loop-frame.link) text (Err c.in-Err.fault)) c.list.ensures c.in-Err.ensures)
