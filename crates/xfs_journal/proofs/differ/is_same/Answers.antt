use Rattle.std.proofs.Common.{◌≡◌, rules}
use Rattle.xfs_journal.proofs.Differing.{same_bytes}
use Rattle.xfs_journal.proofs.differ.is_same.Goals as goal

pub returns-clause-yes : goal.returns-clause-yes
returns-clause-yes c = λ e.
    let same : c.fill.new.out ≡ c.fill-2.new.out = search rules in
    same_bytes c.args.one.now c.args.other.now c.fill.new.out c.fill-2.new.out c.requires.of_table.0 c.requires.of_table.1 c.fill.ensures.items c.fill-2.ensures.items same
