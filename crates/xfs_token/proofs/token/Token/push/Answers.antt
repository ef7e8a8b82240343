use Rattle.std.proofs.Common.{◌≡◌, List, ℕ, [], ◌∷◌, ◌++◌, Bool, sym, ap, subst, true, not, map, ◌∙◌}
use Rattle.std.specs.Result.{is_ok}
use Rattle.std.specs.Prelude.{if◌then◌else◌}
use Rattle.std.proofs.lemmas.List.{map-append}
use Rattle.xfs_token.specs.Token.{Parts, IsWellFormed, is_free_key, is_value, may_follow}
use Rattle.xfs_token.specs.Pairs.{pair_of, parts}
use Rattle.xfs_token.specs.declared.pair.Pair.{Pair}
use Rattle.xfs_token.proofs.Tails.{may_follow-push}
use Rattle.xfs_token.proofs.token.Token.push.Goals as goal

formed : (nonce mac : List ℕ) (xs : List Pair) (p : Pair) (key value : List ℕ) → IsWellFormed (parts nonce xs mac) → p.key.items ≡ key → p.value.items ≡ value → is_free_key key (map pair_of xs) ≡ true → is_value value ≡ true
    → IsWellFormed (parts nonce (xs ++ p ∷ []) mac)
formed nonce mac xs p key value h ek ev free good = record {
  nonce = h.nonce;
  pairs = ap (may_follow []) (map-append pair_of xs (p ∷ [])) ∙ may_follow-push [] (map pair_of xs) (pair_of p) h.pairs (ap (λ (k : List ℕ). is_free_key k (map pair_of xs)) ek ∙ free) (ap is_value ev ∙ good);
  mac = h.mac;
}

pub invariant_of-self-2 : goal.invariant_of-self-2
invariant_of-self-2 c =
    let inside = c.self.inside in
    let pair : Pair = record { key = c.in_ok-key.key; value = c.in_ok-value.value } in
    let ok : is_ok c.push.result ≡ true = c.is_err.ensures.negation ∙ ap not c.if-is_err.false in
    let items : c.push.new.self.items ≡ inside.pairs.items ++ pair ∷ [] = c.push.ensures.items ∙ ap (λ (b : Bool). if b then inside.pairs.items ++ pair ∷ [] else inside.pairs.items) ok in
    let view : c.args.self.now.pairs ≡ map pair_of inside.pairs.items = ap (λ (t : Parts). t.pairs) (sym c.self.view_is) in
    subst (λ (l : List Pair). IsWellFormed (parts inside.nonce.items l inside.mac)) (sym items)
    (formed inside.nonce.items inside.mac inside.pairs.items pair c.args.key.now c.args.value.now c.self.invariant c.in_ok-key.ensures.items c.in_ok-value.ensures.items
    (ap (is_free_key c.args.key.now) (sym view) ∙ c.requires.key) c.requires.value)
