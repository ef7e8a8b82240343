use Rattle.xfs_lines.proofs.HostTexts.{small-line}
use Rattle.xfs_lines.proofs.commands.host.answer.BankAnswerer.answer.Goals as goal

pub verb_text-requires : goal.verb_text-requires
verb_text-requires c = small-line c.args.line.now c.in-Ok.verb c.in-Ok.ensures.ok
