use Rattle.xfs_json.proofs.ReadingLaws.{reading-Some}
use Rattle.xfs_json.proofs.texts.text.Goals as goal

pub returns-in-Ok-clause-reads_back : goal.returns-in-Ok-clause-reads_back
returns-in-Ok-clause-reads_back c = reading-Some _ _ c.in-Ok.ensures.utf8 (c.in-Ok.ensures.reads_back c.requires.depth)
