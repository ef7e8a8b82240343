-- A key, a nonce and amounts have one token and one text, so what is made again is the same.
use Rattle.std.proofs.Common.{◌≡◌, ℕ, ◌+◌, ◌-◌, List, length, take, ◌∙◌, ap, ap₂, subst}
use Rattle.xfs_hmac.specs.Hmac.{hmac}
use Rattle.xfs_token.specs.Token.{Parts, Spells, covered, pairs_text}
use Rattle.xfs_token.specs.Amounts.{IsMade, dispense_pairs}
use Rattle.xfs_token.proofs.Written.{length-form, one_text, take-form}

-- the token with these, and the HMAC of what stands before it
abbrev whole : List ℕ → List ℕ → List (List ℕ × List ℕ) → Parts
whole key nonce pairs = record { nonce = nonce; pairs = pairs; mac = hmac key (covered nonce pairs (length nonce + length (pairs_text pairs) + 113)) }

is_whole : (key nonce : List ℕ) (amounts : List (List ℕ × ℕ)) (text : List ℕ) → (m : IsMade key nonce amounts text) → m.token ≡ whole key nonce (dispense_pairs 1 amounts)
is_whole key nonce amounts text m =
    let t = m.token in
    let long = m.genuine.spelled.formed.mac.long in
    let spelled = m.genuine.spelled.text in
    let size : length text ≡ length t.nonce + length (pairs_text t.pairs) + 113 = ap length spelled ∙ length-form t (length text) long in
    let front : take (length text - 76) text ≡ covered t.nonce t.pairs (length text) = ap (λ z. take (length z - 76) z) spelled ∙ take-form t (length text) long in
    let mac : t.mac ≡ hmac key (covered t.nonce t.pairs (length t.nonce + length (pairs_text t.pairs) + 113)) =
    m.genuine.mac ∙ ap (hmac key) front ∙ ap (λ n. hmac key (covered t.nonce t.pairs n)) size in
    ap (λ code. record { nonce = t.nonce; pairs = t.pairs; mac = code }) mac ∙ ap₂ (whole key) m.nonce_kept m.pairs

pub same_text : (key nonce : List ℕ) (amounts : List (List ℕ × ℕ)) (a b : List ℕ) → IsMade key nonce amounts a → IsMade key nonce amounts b → a ≡ b
same_text key nonce amounts a b m n =
    one_text (whole key nonce (dispense_pairs 1 amounts)) a b
    (subst (λ t. Spells t a) (is_whole key nonce amounts a m) m.genuine.spelled)
    (subst (λ t. Spells t b) (is_whole key nonce amounts b n) n.genuine.spelled)
