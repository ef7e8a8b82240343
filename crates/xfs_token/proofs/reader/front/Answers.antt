use Rattle.std.proofs.Common.{rules, arith}
use Rattle.xfs_token.specs.Reading.{IsStuck, Loose}
use Rattle.xfs_token.proofs.Joined.{first_within, first_short, first_stuck, format_stuck_whole}
use Rattle.xfs_token.proofs.reader.front.Goals as goal

pub overflow_sub-result : goal.overflow_sub-result
overflow_sub-result c = first_within c.args.bytes.now c.common_len-n.result c.common_len-n.ensures

pub returns-then-n-lt6-clause-err : goal.returns-then-n-lt6-clause-err
returns-then-n-lt6-clause-err c = first_short c.args.bytes.now c.common_len-n.result c.common_len-n.ensures c.if-n-lt6.true

pub split_at-requires : goal.split_at-requires
split_at-requires c = let h = first_within c.args.bytes.now c.common_len-n.result c.common_len-n.ensures in let k = c.if-n-lt6.false in omega (arith, h, k)

pub returns-in_err-nonce-clause-err : goal.returns-in_err-nonce-clause-err
returns-in_err-nonce-clause-err c =
    let h : IsStuck Loose c.args.bytes.now c.in_err-nonce.field-0.0 = first_stuck c.args.bytes.now c.split_at.result.1.now c.common_len-n.result c.in_err-nonce.field-0.0 c.common_len-n.ensures c.if-n-lt6.false c.split_at.ensures.back c.in_err-nonce.ensures.err in
    search rules

pub returns-in_err-number-clause-err : goal.returns-in_err-number-clause-err
returns-in_err-number-clause-err c =
    let h : IsStuck Loose c.args.bytes.now c.in_err-number.field-0.0 =
    format_stuck_whole c.args.bytes.now c.split_at.result.1.now c.in_ok-nonce.nonce.now c.in_ok-nonce.rest.now c.common_len-n.result c.in_err-number.field-0.0 c.common_len-n.ensures c.if-n-lt6.false c.split_at.ensures.back c.in_ok-nonce.ensures.ok c.in_err-number.ensures.err in
    search rules
