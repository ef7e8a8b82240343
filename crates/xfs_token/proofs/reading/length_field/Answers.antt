use Rattle.std.proofs.Common.{◌≡◌, ◌∙◌, ℕ, List, sym, ap, subst, take}
use Rattle.std.specs.List.{prefix_len}
use Rattle.xfs_token.specs.Token.{is_digit}
use Rattle.xfs_token.specs.Reading.{IsLengthAt}
use Rattle.xfs_token.proofs.Runs.{Run, run_of}
use Rattle.xfs_token.proofs.Length.{length_few, length_stuck, length_ends}
use Rattle.xfs_token.proofs.reading.length_field.Goals as goal

run_is : (text front : List ℕ) (n : ℕ) → n ≡ prefix_len is_digit front → front ≡ take 4 text → Run is_digit 4 text n
run_is text front n e cut = subst (Run is_digit 4 text) (sym (e ∙ ap (prefix_len is_digit) cut)) (run_of is_digit 4 text)

pub split_at-requires : goal.split_at-requires
split_at-requires c = (run_is c.args.text.now c.cut.result.now c.run_len-n.result c.run_len-n.ensures c.cut.ensures).within

pub returns-then-n-lt4-clause-err : goal.returns-then-n-lt4-clause-err
returns-then-n-lt4-clause-err c = length_few c.args.text.now c.split_at.result.1.now c.run_len-n.result (run_is c.args.text.now c.cut.result.now c.run_len-n.result c.run_len-n.ensures c.cut.ensures) c.if-n-lt4.true c.split_at.ensures.back

pub returns-then-not-begins-clause-err : goal.returns-then-not-begins-clause-err
returns-then-not-begins-clause-err c =
    length_stuck c.args.text.now c.split_at.result.1.now c.run_len-n.result (run_is c.args.text.now c.cut.result.now c.run_len-n.result c.run_len-n.ensures c.cut.ensures) c.if-n-lt4.false c.split_at.ensures.back (sym c.begins.ensures ∙ c.if-not-begins.true)

pub returns-clause-ok : goal.returns-clause-ok
returns-clause-ok c =
    subst (IsLengthAt c.args.text.now) (sym c.number_in.ensures)
    (length_ends c.args.text.now c.split_at.result.0.now c.split_at.result.1.now c.run_len-n.result (run_is c.args.text.now c.cut.result.now c.run_len-n.result c.run_len-n.ensures c.cut.ensures) c.if-n-lt4.false c.split_at.ensures.front c.split_at.ensures.back (sym c.begins.ensures ∙ c.if-not-begins.false))
