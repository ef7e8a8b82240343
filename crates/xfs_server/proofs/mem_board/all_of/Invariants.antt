use Rattle.std.proofs.Common.{◌≡◌, take, map}
use Rattle.xfs_server.specs.Memories.{joined}
use Rattle.xfs_server.proofs.mem_board.all_of.Given as goal

abbrev pub invariant-loop-list : goal.invariant-loop-list
invariant-loop-list l = l.copy.items ≡ joined (map (λ list. list.items) (take l.list-index l.lists))
