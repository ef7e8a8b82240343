use Rattle.std.specs.Prelude.{codes, decimal}
use Rattle.xfs_load.proofs.TextLaws.{five-pieces}
use Rattle.xfs_load.proofs.text.text_head.Goals as goal

pub returns : goal.returns
returns c =
    five-pieces (codes "{\"header\":{\"name\":\"") c.args.name.now (codes "\",\"requestId\":") (decimal c.args.id) (codes ",\"type\":\"command\"},\"payload\":") _ _ _ _ _ _
    c.in_ok-text.ensures.items c.in_ok-extend_from_slice.ensures.items c.in_ok-extend_from_slice-2.ensures.items c.in_ok-extend_from_slice-3.ensures.items
    (rw (c.as_bytes.ensures.value, c.format.ensures.text) at c.in_ok-extend_from_slice-4.ensures.items) c.in_ok-extend_from_slice-5.ensures.items
