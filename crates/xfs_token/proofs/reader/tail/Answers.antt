use Rattle.std.proofs.Common.{rules, ◌≤◌, ◌∙◌, ℕ, List, [], ◌++◌, sym, ap, subst, length}
use Rattle.xfs_token.specs.Token.{Parts, pairs_text}
use Rattle.xfs_token.specs.Reading.{IsStopped, IsKeyThen, IsTailOf, MacEnd, Tail, ValueThen}
use Rattle.xfs_token.proofs.Tails.{front_text}
use Rattle.xfs_token.proofs.Joined.{stopped, pairs_within, pairs_stuck, mac_stuck, value_stuck_whole, pair_read, tail_of}
use Rattle.xfs_token.proofs.reader.tail.Goals as goal

pub key_at-requires : goal.key_at-requires
key_at-requires c = subst (λ (ps : List (List ℕ × List ℕ)). length (pairs_text ps) ≤ 1024) (sym c.pairs.ensures.pairs) (pairs_within c.args.text.now c.loop-token.rest.now c.loop-token.token.pairs c.loop-token.invariant.is c.requires.short)

pub returns-in_err-key-clause-err : goal.returns-in_err-key-clause-err
returns-in_err-key-clause-err c =
    let ps : List (List ℕ × List ℕ) = c.loop-token.token.pairs in
    let s = c.in_err-key.field-0.0 in
    let inner : IsStopped (Tail ps) c.loop-token.rest.now s = subst (λ (l : List (List ℕ × List ℕ)). IsStopped (Tail l) c.loop-token.rest.now s) c.pairs.ensures.pairs c.in_err-key.ensures.err in
    let h : IsStopped (Tail []) c.args.text.now s = stopped (Tail ps) (Tail []) c.loop-token.rest.now c.args.text.now s (λ left. pairs_stuck c.args.text.now c.loop-token.rest.now ps left c.loop-token.invariant.is c.pairs.ensures.formed.pairs) inner in
    search rules

pub returns-in_err-mac_at-clause-err : goal.returns-in_err-mac_at-clause-err
returns-in_err-mac_at-clause-err c =
    let ps : List (List ℕ × List ℕ) = c.loop-token.token.pairs in
    let rest : List ℕ = c.loop-token.rest.now in
    let s = c.in_err-mac_at.field-0.0 in
    let key : IsKeyThen ps rest c.in_ok-key.key.now c.in_ok-key.behind.now = subst (λ (l : List (List ℕ × List ℕ)). IsKeyThen l rest c.in_ok-key.key.now c.in_ok-key.behind.now) c.pairs.ensures.pairs c.in_ok-key.ensures.ok in
    let h : IsStopped (Tail []) c.args.text.now s =
    stopped MacEnd (Tail []) c.in_ok-key.behind.now c.args.text.now s
    (λ left m. pairs_stuck c.args.text.now rest ps left c.loop-token.invariant.is c.pairs.ensures.formed.pairs
    (mac_stuck ps rest c.in_ok-key.key.now c.in_ok-key.behind.now left key (sym c.is_mac_key.ensures ∙ c.if-is_mac_key.true) m))
    c.in_err-mac_at.ensures.err in
    search rules

pub returns-then-is_mac_key-clause-ok : goal.returns-then-is_mac_key-clause-ok
returns-then-is_mac_key-clause-ok c =
    let t : Parts = c.loop-token.token in
    let rest : List ℕ = c.loop-token.rest.now in
    let key : IsKeyThen t.pairs rest c.in_ok-key.key.now c.in_ok-key.behind.now = subst (λ (l : List (List ℕ × List ℕ)). IsKeyThen l rest c.in_ok-key.key.now c.in_ok-key.behind.now) c.pairs.ensures.pairs c.in_ok-key.ensures.ok in
    subst (IsTailOf c.args.text.now c.args.token.nonce) (sym c.set_mac.ensures)
    (tail_of c.args.text.now rest c.in_ok-key.key.now c.in_ok-key.behind.now c.in_ok-mac_at.field-0 c.args.token.nonce t c.loop-token.invariant.is key (sym c.is_mac_key.ensures ∙ c.if-is_mac_key.true) c.in_ok-mac_at.ensures.ok.0 c.in_ok-mac_at.ensures.ok.1
    c.pairs.ensures.formed c.loop-token.invariant.nonce_kept)

pub returns-in_err-value-clause-err : goal.returns-in_err-value-clause-err
returns-in_err-value-clause-err c =
    let ps : List (List ℕ × List ℕ) = c.loop-token.token.pairs in
    let rest : List ℕ = c.loop-token.rest.now in
    let s = c.in_err-value.field-0.0 in
    let key : IsKeyThen ps rest c.in_ok-key.key.now c.in_ok-key.behind.now = subst (λ (l : List (List ℕ × List ℕ)). IsKeyThen l rest c.in_ok-key.key.now c.in_ok-key.behind.now) c.pairs.ensures.pairs c.in_ok-key.ensures.ok in
    let h : IsStopped (Tail []) c.args.text.now s =
    stopped (ValueThen ps c.in_ok-key.key.now) (Tail []) c.in_ok-key.behind.now c.args.text.now s
    (λ left m. pairs_stuck c.args.text.now rest ps left c.loop-token.invariant.is c.pairs.ensures.formed.pairs
    (value_stuck_whole ps rest c.in_ok-key.key.now c.in_ok-key.behind.now left key (sym c.is_mac_key.ensures ∙ c.if-is_mac_key.false) m))
    (c.in_err-value.ensures.err ps c.in_ok-key.key.now) in
    search rules

pub loop-token-preserved : goal.loop-token-preserved
loop-token-preserved c = record {
  nonce_kept = ap (λ (t : Parts). t.nonce) c.in_ok-push.ensures.ok ∙ c.loop-token.invariant.nonce_kept;
  is = pair_read c.args.text.now c.loop-token.rest.now c.in_ok-key.key.now c.in_ok-key.behind.now c.in_ok-value.value.now c.in_ok-value.after.now c.loop-token.token.pairs c.loop-token.invariant.is c.in_ok-key.ensures.ok.is c.in_ok-value.ensures.ok.is
      ∙ ap (λ (t : Parts). front_text t.pairs ++ c.in_ok-value.after.now) (sym c.in_ok-push.ensures.ok);
}
