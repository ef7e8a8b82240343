use Rattle.std.proofs.Common.{List, ◌++◌, ℕ, ap, ◌∙◌}
use Rattle.sha2.specs.Sha256.{sha256}
use Rattle.xfs_hmac.specs.Hmac.{hmac, masked}
use Rattle.xfs_hmac.proofs.pieces.Mac.finish.Goals as goal

pub returns : goal.returns
unfolding hmac
returns c k m held =
    let first = c.finalize.ensures (masked 0x36 k ++ m) held.0 in
    let last = c.finalize-2.ensures (masked 0x5c k ++ c.finalize.result) (c.update.ensures (masked 0x5c k) held.1) in
    last ∙ ap (λ (d : List ℕ). sha256 (masked 0x5c k ++ d)) first
