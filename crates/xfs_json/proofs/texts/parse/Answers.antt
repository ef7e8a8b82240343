use Rattle.std.proofs.Common.{rules}
use Rattle.xfs_json.proofs.ReadingLaws.{reading-Some, reading-None}
use Rattle.xfs_json.proofs.texts.parse.Goals as goal

pub returns-in-Ok-clause-ok : goal.returns-in-Ok-clause-ok
returns-in-Ok-clause-ok c = reading-Some _ _ c.in-Ok.ensures.ok.0 c.in-Ok.ensures.ok.1

pub returns-in-Err-2-clause-not_json : goal.returns-in-Err-2-clause-not_json
returns-in-Err-2-clause-not_json c = λ _. reading-None _ (c.in-Err-2.ensures.err (search rules))
