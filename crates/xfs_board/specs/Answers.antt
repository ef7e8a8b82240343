-- What a board's turn answers, among the answers of the machine.
use Rattle.std.specs.Prelude.{Result, Ok, Err}
use Rattle.xfs_base.specs.declared.faults.Memory.{Memory}
use Rattle.xfs_model.specs.Events.{Answer, did, idle, memory}
use Rattle.xfs_server.specs.declared.board.Work2.{Work2}
use Rattle.xfs_server.specs.declared.board.Work2.TheVariants.{Did, Idle}

abbrev pub turned : Result Work2 Memory → Answer
turned (Ok Did) = did
turned (Ok Idle) = idle
turned (Err want) = memory
