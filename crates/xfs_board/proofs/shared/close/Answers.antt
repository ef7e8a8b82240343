use Rattle.xfs_board.proofs.shared.close.Goals as goal

pub returns : goal.returns
returns g c =
    let back = c.close-2.ensures in
    record { start = c.close.result.start; begins = rw back.same c.close.ensures.seen; proceeds = back.proceeds }
