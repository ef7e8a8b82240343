use Rattle.std.proofs.Common.{◌≡◌, ◌++◌, ◌∙◌, ap, length, rules}
use Rattle.xfs_journal.proofs.Pieces.{behind, each_count}
use Rattle.xfs_journal.proofs.body.put_counts.Goals as goal

pub returns-clause-items : goal.returns-clause-items
returns-clause-items c =
    let o = c.args.out.now in
    let two = behind o _ _ _ _ c.put_count.ensures.items c.put_count-2.ensures.items in
    let three = behind o _ _ _ _ two c.put_count-3.ensures.items in
    let four = behind o _ _ _ _ three c.put_count-4.ensures.items in
    let five = behind o _ _ _ _ four c.put_count-5.ensures.items in
    let six = behind o _ _ _ _ five c.put_count-6.ensures.items in
    let seven = behind o _ _ _ _ six c.put_count-7.ensures.items in
    let all = behind o _ _ _ _ seven c.put_count-8.ensures.items in
    let eight_of : length c.args.counts.now.0 ≡ 8 = search rules in
    all ∙ ap (λ l. o ++ l) (each_count c.args.counts.now.0 eight_of)
