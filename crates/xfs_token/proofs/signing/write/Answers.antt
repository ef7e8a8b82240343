use Rattle.std.proofs.Common.{◌+◌, ◌++◌, ℕ, List, length, ap, arith, ◌∙◌}
use Rattle.std.specs.Prelude.{codes}
use Rattle.hex.specs.Hex.{encode_upper}
use Rattle.xfs_token.specs.Token.{covered, pairs_text}
use Rattle.xfs_token.proofs.Written.{length-form, spelled, one_text}
use Rattle.xfs_token.proofs.signing.write.Goals as goal

pub returns-then-total-gt1024-clause-too_long : goal.returns-then-total-gt1024-clause-too_long
returns-then-total-gt1024-clause-too_long c e n =
    let l = length-form c.args.token.now n c.pairs.ensures.formed.mac.long in
    let p = ap length (c.in_ok-pairs.ensures ∙ ap pairs_text c.pairs.ensures.pairs) in
    let k = ap length c.nonce.ensures in
    let ok = c.in_ok-pairs.pairs.ok in
    omega (arith, l, p, k, ok)

pub returns-clause-short : goal.returns-clause-short
returns-clause-short c n =
    let l = length-form c.args.token.now n c.pairs.ensures.formed.mac.long in
    let p = ap length (c.in_ok-pairs.ensures ∙ ap pairs_text c.pairs.ensures.pairs) in
    let k = ap length c.nonce.ensures in
    let ok = c.in_ok-pairs.pairs.ok in
    omega (arith, l, p, k, ok)

pub returns-clause-ok : goal.returns-clause-ok
returns-clause-ok c =
    let t = c.args.token.now in
    let pairs = c.in_ok-pairs.ensures ∙ ap pairs_text c.pairs.ensures.pairs in
    let p = ap length pairs in
    let k = ap length c.nonce.ensures in
    let ok = c.in_ok-pairs.pairs.ok in
    let front = c.in_ok-text.ensures t.pairs (c.deref.ensures.value ∙ pairs) in
    spelled t _ (length c.nonce.result.now + c.len.result + 113) c.pairs.ensures.formed (omega (arith, p, k, ok)) (omega arith)
    (c.in_ok-push_mac.ensures.items ∙ ap (λ (l : List ℕ). l ++ codes ",HMACSHA256=" ++ encode_upper c.mac.result) (front ∙ ap (λ (l : List ℕ). covered l t.pairs (length c.nonce.result.now + c.len.result + 113)) c.nonce-2.ensures)
    ∙ ap (λ (l : List ℕ). covered t.nonce t.pairs (length c.nonce.result.now + c.len.result + 113) ++ codes ",HMACSHA256=" ++ encode_upper l) c.mac.ensures)

pub returns-clause-one : goal.returns-clause-one
returns-clause-one c bytes s = one_text c.args.token.now bytes c.push_mac.new.text.items s (returns-clause-ok c)
