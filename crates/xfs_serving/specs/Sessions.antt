-- What the thread of a session does: it serves its connection to the end, and then the connection leaves.
use Rattle.xfs_server.specs.Boards.{BoardLog}
use Rattle.xfs_server.specs.Links.{LinkLog}
use Rattle.xfs_server.specs.Sessions.{Session}
use Rattle.xfs_server.specs.declared.session.Over.{Over}

pub record ServesAndLeaves {B T : Type 0} (log : B → BoardLog) (Leaves : B → T → Type 0) (link : LinkLog) (board : B) (left : T) : Type 0 where
  pub over : Over
  pub link_after : LinkLog
  pub board_after : B
  pub serves : Session over link link_after (log board) (log board_after)
  pub leaves : Leaves board_after left
