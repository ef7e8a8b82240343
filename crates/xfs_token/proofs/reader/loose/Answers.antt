use Rattle.std.proofs.Common.{rules, List, ℕ, [], ap, subst}
use Rattle.xfs_token.specs.Token.{Parts}
use Rattle.xfs_token.specs.Reading.{IsFront, IsStopped, IsTailOf, Loose, Tail}
use Rattle.xfs_token.proofs.Joined.{stopped, front_stuck, loose_as}
use Rattle.xfs_token.proofs.reader.loose.Goals as goal

pub returns-clause-ok : goal.returns-clause-ok
returns-clause-ok c =
    let f : IsFront c.args.bytes.now c.in_ok-nonce.nonce.now c.in_ok-nonce.number c.in_ok-nonce.rest.now = search rules in
    loose_as c.args.bytes.now c.in_ok-nonce.nonce.now c.in_ok-nonce.rest.now c.in_ok-nonce.number c.in_ok-token-2.token f
    (subst (λ (n : List ℕ). IsTailOf c.in_ok-nonce.rest.now n c.in_ok-token-2.token) (ap (λ (t : Parts). t.nonce) c.in_ok-token.ensures) c.in_ok-token-2.ensures.ok)

pub returns-in_err-token-2-clause-err : goal.returns-in_err-token-2-clause-err
returns-in_err-token-2-clause-err c =
    let f : IsFront c.args.bytes.now c.in_ok-nonce.nonce.now c.in_ok-nonce.number c.in_ok-nonce.rest.now = search rules in
    let s = c.in_err-token-2.field-0.0 in
    let h : IsStopped Loose c.args.bytes.now s = stopped (Tail []) Loose c.in_ok-nonce.rest.now c.args.bytes.now s (λ left. front_stuck c.args.bytes.now c.in_ok-nonce.nonce.now c.in_ok-nonce.rest.now c.in_ok-nonce.number left f) c.in_err-token-2.ensures.err in
    search rules
