use Rattle.std.proofs.Common.{rules}
use Rattle.std.proofs.lemmas.List.{map_more}
use Rattle.xfs_server.proofs.Frames.{joined-snoc}
use Rattle.xfs_server.proofs.mem_board.all_of.Goals as goal

pub loop-list-preserved : goal.loop-list-preserved
loop-list-preserved c =
    let item = c.list-item.result in
    rw (c.in_ok-append.ensures, c.loop-list.invariant, c.deref.ensures.value)
    (rw (map_more (λ v. v.items) c.args.lists.now c.loop-list.list-index item c.loop-list-test.true, joined-snoc, ← c.list-item.is) (search rules))
