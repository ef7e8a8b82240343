use Rattle.std.proofs.lemmas.List.{take_rest}
use Rattle.xfs_script.proofs.Parts.{split_at, split_none}
use Rattle.xfs_script.proofs.word.cut.Goals as goal

pub returns-in-Some-clause-parts : goal.returns-in-Some-clause-parts
returns-in-Some-clause-parts c = rw take_rest (split_at c.args.byte c.args.text.now c.in-Some.place c.in-Some.ensures)

pub returns-in-None-clause-parts : goal.returns-in-None-clause-parts
returns-in-None-clause-parts c = split_none c.args.byte c.args.text.now c.in-None.ensures
