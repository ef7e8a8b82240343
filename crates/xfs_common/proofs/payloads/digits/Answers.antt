use Rattle.xfs_common.proofs.DigitLaws.{digits-IsUtf8}
use Rattle.xfs_common.proofs.payloads.digits.Goals as goal

pub unreachable-requires : goal.unreachable-requires
unreachable-requires c = c.in-Err.ensures.cases.0 (digits-IsUtf8 c.args.text.now c.requires)
