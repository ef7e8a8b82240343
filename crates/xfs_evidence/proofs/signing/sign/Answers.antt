use Rattle.std.proofs.Common.{◌+◌, ◌++◌, List, ℕ, length, ap, ◌∙◌, arith}
use Rattle.std.specs.Prelude.{codes}
use Rattle.hex.specs.Hex.{encode_upper}
use Rattle.xfs_hmac.specs.Hmac.{hmac}
use Rattle.xfs_token.proofs.Written.{nonce_within}
use Rattle.xfs_evidence.proofs.Spelling.{signed}
use Rattle.xfs_evidence.proofs.signing.sign.Goals as goal

pub overflow_cast-total : goal.overflow_cast-total
overflow_cast-total c = let within = nonce_within c.args.nonce.now c.requires.nonce in omega (arith, within, c.requires.short)

pub returns : goal.returns
returns c t written =
    let within = nonce_within c.args.nonce.now c.requires.nonce in
    let front = c.in_ok-text.ensures t.pairs written.text in
    let long = ap length written.text in
    signed c.args.key.now c.args.nonce.now c.mac-code.result _ t (length c.args.nonce.now + length c.args.pairs.now + 113) written.nonce_is c.requires.nonce written.follow c.push_mac.ensures.mac (omega (arith, long)) (omega (arith, within, c.requires.short))
    (c.mac-code.ensures ∙ ap (hmac c.args.key.now) (c.deref.ensures.value ∙ front)) (c.in_ok-push_mac.ensures.items ∙ ap (λ (l : List ℕ). l ++ codes ",HMACSHA256=" ++ encode_upper c.mac-code.result) front)
