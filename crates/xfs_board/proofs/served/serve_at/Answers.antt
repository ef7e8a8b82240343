use denote.Param.Send.{sendable}
use Rattle.xfs_board.proofs.Sent.{caller_send, client_send, device_send}
use Rattle.xfs_board.proofs.Sent.{backend_send}
use Rattle.xfs_board.proofs.served.serve_at.Goals as goal

pub serve-ending-requires-send-H : goal.serve-ending-requires-send-H
serve-ending-requires-send-H g c κs within =
    let b = c.type_bounds in let m = b.send-M in let d = b.send-D in let r = b.sync-R in let k = b.sync-C in
    search (backend_send, sendable) depth 20

pub serve-ending-requires-send-H-Board : goal.serve-ending-requires-send-H-Board
serve-ending-requires-send-H-Board g c κs within =
    let b = c.type_bounds in let m = b.send-M in let d = b.send-D in let r = b.sync-R in let k = b.sync-C in
    search (client_send, sendable) depth 20

pub serve-ending-requires-send-H-Tended : goal.serve-ending-requires-send-H-Tended
serve-ending-requires-send-H-Tended g c κs within =
    let b = c.type_bounds in let m = b.send-M in let d = b.send-D in let r = b.sync-R in let k = b.sync-C in
    search (device_send, sendable) depth 20

pub serve-ending-requires-send-H-Left : goal.serve-ending-requires-send-H-Left
serve-ending-requires-send-H-Left g c κs within =
    let b = c.type_bounds in let m = b.send-M in let d = b.send-D in let r = b.sync-R in
    search (caller_send, sendable) depth 20
