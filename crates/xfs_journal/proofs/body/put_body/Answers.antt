use Rattle.std.proofs.Common.{◌∙◌, ◌++◌, sym, ap}
use Rattle.xfs_journal.specs.Image.{body}
use Rattle.xfs_journal.proofs.Pieces.{behind}
use Rattle.xfs_journal.proofs.body.put_body.Goals as goal

pub returns-in-Issue-clause-items : goal.returns-in-Issue-clause-items
returns-in-Issue-clause-items c =
    let o = c.args.out.now in
    let two = behind o _ _ _ _ c.put.ensures c.put_whole.ensures.items in
    let three = behind o _ _ _ _ two c.put_whole-in-Issue.ensures.items in
    three ∙ ap (λ r. o ++ body r) (sym c.in-Issue.is)
