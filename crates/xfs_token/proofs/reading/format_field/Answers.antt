use Rattle.std.proofs.Common.{arith}
use Rattle.xfs_token.proofs.Length.{format_within, format_short, format_stuck, format_ends}
use Rattle.xfs_token.proofs.reading.format_field.Goals as goal

pub overflow_sub-result : goal.overflow_sub-result
overflow_sub-result c = format_within c.args.text.now c.common_len-n.result c.common_len-n.ensures

pub returns-then-n-lt26-clause-err : goal.returns-then-n-lt26-clause-err
returns-then-n-lt26-clause-err c = format_short c.args.text.now c.common_len-n.result c.common_len-n.ensures c.if-n-lt26.true

pub split_at-requires : goal.split_at-requires
split_at-requires c = let h = format_within c.args.text.now c.common_len-n.result c.common_len-n.ensures in let k = c.if-n-lt26.false in omega (arith, h, k)

pub returns-in-Ok-clause-ok : goal.returns-in-Ok-clause-ok
returns-in-Ok-clause-ok c = format_ends c.args.text.now c.split_at.result.1.now c.common_len-n.result c.in-Ok.number c.common_len-n.ensures c.if-n-lt26.false c.split_at.ensures.back c.in-Ok.ensures.ok

pub returns-in-Err-clause-err : goal.returns-in-Err-clause-err
returns-in-Err-clause-err c = format_stuck c.args.text.now c.split_at.result.1.now c.common_len-n.result c.in-Err.left c.common_len-n.ensures c.if-n-lt26.false c.split_at.ensures.back c.in-Err.ensures.err
