use Rattle.std.proofs.Common.{◌≡◌, ◌++◌, arith, List, ℕ, true, length, ap, ◌∙◌}
use Rattle.std.specs.Prelude.{codes}
use Rattle.hex.specs.Hex.{encode_upper}
use Rattle.xfs_hmac.specs.Hmac.{hmac}
use Rattle.xfs_token.specs.Token.{is_nonce}
use Rattle.xfs_token.specs.Amounts.{IsAmounts, dispense_pairs}
use Rattle.xfs_token.proofs.Written.{made, nonce_within}
use Rattle.xfs_token.proofs.Minted.{length-dispense_pairs}
use Rattle.xfs_token.proofs.key.TokenKey.make.Goals as goal

pub overflow_cast-total : goal.overflow_cast-total
overflow_cast-total c =
    let valid : IsAmounts c.args.amounts.now = c.dispense_text.ensures.valid in
    let good : is_nonce c.args.nonce.now ≡ true = cc in
    let within = nonce_within c.args.nonce.now good in
    let short = length-dispense_pairs 1 c.args.amounts.now valid.payable in
    let text = ap length c.in_ok-pairs.ensures.text in
    let ok = c.in_ok-pairs.pairs.ok in
    omega (arith, within, short, text, ok, valid.high)

pub returns-clause-ok : goal.returns-clause-ok
returns-clause-ok c =
    let valid : IsAmounts c.args.amounts.now = c.dispense_text.ensures.valid in
    let good : is_nonce c.args.nonce.now ≡ true = cc in
    let ok = c.in_ok-pairs.pairs.ok in
    let text = ap length c.in_ok-pairs.ensures.text in
    let front = c.in_ok-text.ensures (dispense_pairs 1 c.args.amounts.now) (c.deref.ensures.value ∙ c.in_ok-pairs.ensures.text) in
    made c.args.self.now c.args.nonce.now c.mac-code.result _ c.args.amounts.now _ good valid c.push_mac.ensures.mac (omega (arith, ok, text)) (c.mac-code.ensures ∙ ap (hmac c.args.self.now) (c.deref-2.ensures.value ∙ front))
    (c.in_ok-push_mac.ensures.items ∙ ap (λ (l : List ℕ). l ++ codes ",HMACSHA256=" ++ encode_upper c.mac-code.result) front)
