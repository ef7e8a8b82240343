use Rattle.xfs_script.proofs.WordLines.{no_line}
use Rattle.xfs_script.proofs.guard_line.read_guard.Goals as goal

pub returns-in_default-read_dispense-clause-not_a_line : goal.returns-in_default-read_dispense-clause-not_a_line
returns-in_default-read_dispense-clause-not_a_line c = λ e. no_line c.args.text.now c.in_default.ensures.none c.in_default-read_mint.ensures.none c.in_default-read_fill.ensures.none c.in_default-read_dispense.ensures.none
