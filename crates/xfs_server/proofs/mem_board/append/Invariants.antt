use Rattle.std.proofs.Common.{◌≡◌, ◌++◌, take}
use Rattle.xfs_server.proofs.mem_board.append.Given as goal

abbrev pub invariant-loop-bytes : goal.invariant-loop-bytes
invariant-loop-bytes l = l.copy.items ≡ l.initial.copy.items ++ take l.bytes-index l.list
