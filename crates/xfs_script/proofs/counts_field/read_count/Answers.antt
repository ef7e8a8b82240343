use Rattle.std.proofs.Common.{ℕ, arith, sym, refl}
use Rattle.xfs_script.specs.Counts.{IsCount}
use Rattle.xfs_token.proofs.AmountReading.{IfNone_from}
use Rattle.xfs_script.proofs.Numerals.{count_is, no_count_other, no_count_more}
use Rattle.xfs_script.proofs.counts_field.read_count.Goals as goal

pub returns-in_err-count-clause-none : goal.returns-in_err-count-clause-none
returns-in_err-count-clause-none c =
    IfNone_from _ ((count : ℕ) → IsCount c.args.digits.now count → ⊥) (no_count_other c.args.digits.now c.in_err-count.ensures.found)

pub returns-then-count-gt-MOST_NOTES-clause-none : goal.returns-then-count-gt-MOST_NOTES-clause-none
returns-then-count-gt-MOST_NOTES-clause-none c = no_count_more c.args.digits.now c.in_ok-count.count c.in_ok-count.ensures.value c.if-count-gt-MOST_NOTES.true

pub returns-clause-found : goal.returns-clause-found
returns-clause-found c =
    count_is c.args.digits.now c.in_ok-count.count (c.if-not-has_number_form.ensures.length refl).0 (c.if-not-has_number_form.ensures.leading refl)
    (sym c.in_ok-count.ensures.found) c.in_ok-count.ensures.value (omega (arith, c.if-count-gt-MOST_NOTES.false))
