use Rattle.std.proofs.Common.{inl, inr, refl}
use Rattle.xfs_cli.proofs.LoadLaws.{told-ends}
use Rattle.xfs_cli.proofs.commands.load.play_on.Goals as goal

pub returns-in-Ok-clause-ends : goal.returns-in-Ok-clause-ends
returns-in-Ok-clause-ends g c = told-ends _ _ _ _ _ _ c.in-Ok.summary c.in-Ok.ensures.plays c.tell.ensures

pub returns-in-Err-clause-ends : goal.returns-in-Err-clause-ends
returns-in-Err-clause-ends g c = inr (record { silent = record { status_is = refl; silent = refl }; played = inl c.in-Err.ensures.memory })
