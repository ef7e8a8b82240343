use Rattle.std.proofs.Common.{◌≡◌, take}
use Rattle.xfs_server.specs.Counted.{grown}
use Rattle.xfs_server.proofs.session.give_all.Given as goal

-- the frames before this one were given
abbrev pub invariant-loop-frame : goal.invariant-loop-frame
invariant-loop-frame g l = g.L.Link.log l.link ≡ record (g.L.Link.log l.initial.link) { sent = grown (take l.frame-index l.frames) (g.L.Link.log l.initial.link).sent }
