use Rattle.std.proofs.Common.{◌∙◌, ap, map}
use Rattle.std.specs.Char.{to_ascii_uppercase}
use Rattle.xfs_guard.proofs.DigitLaws.{upper-encoded}
use Rattle.xfs_audit.proofs.nonce.upper.Goals as goal

pub returns : goal.returns
returns c = c.make_ascii_uppercase.ensures.after ∙ (ap (map to_ascii_uppercase) c.in-Ok.ensures.written ∙ upper-encoded c.args.bytes.now c.fits-bytes)
