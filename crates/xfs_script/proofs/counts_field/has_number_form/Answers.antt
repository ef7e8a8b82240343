use Rattle.std.proofs.Common.{arith}
use Rattle.xfs_script.proofs.Numerals.{no_count_empty, no_count_not_short, no_count_leading}
use Rattle.xfs_script.proofs.counts_field.has_number_form.Goals as goal

pub returns-in-empty-clause-other : goal.returns-in-empty-clause-other
returns-in-empty-clause-other c = λ e. no_count_empty c.args.digits.now (omega (arith, c.in-empty.len_below))

pub returns-then-first-ne48-clause-other : goal.returns-then-first-ne48-clause-other
returns-then-first-ne48-clause-other c = λ e. no_count_not_short c.args.digits.now e

pub returns-else-first-ne48-clause-other : goal.returns-else-first-ne48-clause-other
returns-else-first-ne48-clause-other c = λ e. no_count_leading c.args.digits.now c.if-first-ne48.false (omega (arith, c.in-len1-up.len_at_least))
