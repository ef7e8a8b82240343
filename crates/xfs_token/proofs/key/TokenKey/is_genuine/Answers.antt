use Rattle.std.proofs.Common.{length, ap, arith}
use Rattle.xfs_token.proofs.Written.{length-form}
use Rattle.xfs_token.proofs.key.TokenKey.is_genuine.Goals as goal

pub overflow_sub-bytes : goal.overflow_sub-bytes
overflow_sub-bytes c =
    let l = length-form c.args.token.now (length c.args.bytes.now) c.requires.formed.mac.long in
    let e = ap length c.requires.text in
    omega (arith, l, e)
