use Rattle.std.proofs.Common.{◌≡◌, ◌++◌, [], ◌∷◌, map, take, drop, length}
use Rattle.xfs_model.specs.Connections.{is_service, with_mail}
use Rattle.xfs_traffic.proofs.connections.announce.Given as goal

abbrev pub invariant-loop-i : goal.invariant-loop-i
invariant-loop-i l = record {
  size : length l.connections.items ≡ length l.initial.connections.items;
  written : l.connections.items ≡ map (λ k. with_mail (is_service l.service k.service) (l.frame ∷ []) k) (take l.i l.initial.connections.items) ++ drop l.i l.initial.connections.items;
}
