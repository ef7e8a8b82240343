-- Texts that are written piece by piece.
use Rattle.std.proofs.Common.{◌≡◌, ℕ, zero, suc, ◌+◌, ◌≤◌, ◌-◌, true, ◌&&◌, List, [], ◌∷◌, ◌++◌, length, take, drop, arith, length-append, refl, sym, ◌∙◌, ap, append_assoc}
use Rattle.std.specs.Prelude.{codes, slice_get, Some, nat_le}
use Rattle.std.specs.List.{list_all}
use Rattle.std.proofs.Math.Seq.{take-append_seam}
use Rattle.std.proofs.lemmas.Bool.{and_parts, leb-true}
use Rattle.hex.specs.Hex.{encode_upper, upper_digits}
use Rattle.hex.proofs.HexLemmas.{length-encode_with}
use Rattle.xfs_hmac.specs.Hmac.{hmac}
use Rattle.xfs_token.proofs.Minted.{may_follow-dispense_pairs, amounts_of-dispense_pairs, length-dispense_pairs}
use Rattle.xfs_token.specs.Token.{Parts, IsMac, IsWellFormed, Spells, covered, form, four_digits, pairs_text, is_nonce, is_upper_hex}
use Rattle.xfs_token.specs.Amounts.{dispense_key, dispense_pairs, amount_text, IsAmounts, IsMade}

-- what the HMAC covers, one piece behind the other
pub covered-chain : (v0 v1 v2 v3 v4 v5 nonce digits text : List ℕ) (pairs : List (List ℕ × List ℕ)) (n : ℕ) → v0 ≡ [] → v1 ≡ v0 ++ codes "NONCE=" → v2 ≡ v1 ++ nonce → v3 ≡ v2 ++ codes ",TOKENFORMAT=1,TOKENLENGTH="
    → v4 ≡ v3 ++ digits → v5 ≡ v4 ++ text → digits ≡ four_digits n → text ≡ pairs_text pairs → v5 ≡ covered nonce pairs n
unfolding covered
covered-chain v0 v1 v2 v3 v4 v5 nonce digits text pairs n h0 h1 h2 h3 h4 h5 hd ht = rw (h5, h4, h3, h2, h1, h0, hd, ht) refl

-- a pair of a dispense key, one piece behind the other
pub pair-chain : (v0 v1 v2 v3 v4 v5 x3 x4 x5 whole part letters : List ℕ) (k : ℕ) → v1 ≡ v0 ++ codes ",DISPENSE" → v2 ≡ v1 ++ (48 + k) ∷ 61 ∷ [] → v3 ≡ v2 ++ x3 → v4 ≡ v3 ++ x4 → v5 ≡ v4 ++ x5
    → x3 ≡ whole → x4 ≡ part → x5 ≡ letters → v5 ≡ v0 ++ (codes "," ++ dispense_key k ++ codes "=" ++ (whole ++ part ++ letters))
pair-chain v0 v1 v2 v3 v4 v5 x3 x4 x5 whole part letters k h1 h2 h3 h4 h5 e3 e4 e5 = rw (h5, h4, h3, h2, h1, e3, e4, e5) (order v0 whole part letters)
  where
    order : (v0 whole part letters : List ℕ) → v0 ++ codes ",DISPENSE" ++ (48 + k) ∷ 61 ∷ [] ++ whole ++ part ++ letters ≡ v0 ++ (codes "," ++ dispense_key k ++ codes "=" ++ (whole ++ part ++ letters))
    order v0 whole part letters = simp append_assoc

pub drop_at : {X : Type 0} (xs : List X) (i : ℕ) (x : X) → slice_get xs i ≡ Some x → drop i xs ≡ x ∷ drop (i + 1) xs
drop_at [] i x h = absurd (cc)
drop_at (y ∷ ys) zero x h = cc
drop_at (y ∷ ys) (suc i) x h = let e : suc i + 1 ≡ suc (i + 1) = omega arith in rw e (drop_at ys i x h)

-- the pair of one more amount is written
pub dispense-step : (v w all : List ℕ) (amounts : List (List ℕ × ℕ)) (i : ℕ) (a : List ℕ × ℕ) → slice_get amounts i ≡ Some a → w ≡ v ++ (codes "," ++ dispense_key (i + 1) ++ codes "=" ++ amount_text a.0 a.1)
    → v ++ pairs_text (dispense_pairs (i + 1) (drop i amounts)) ≡ all → w ++ pairs_text (dispense_pairs (i + 1 + 1) (drop (i + 1) amounts)) ≡ all
dispense-step v w all amounts i a got pushed inv =
    let rest : List ℕ = pairs_text (dispense_pairs (i + 1 + 1) (drop (i + 1) amounts)) in
    let one : List ℕ = codes "," ++ dispense_key (i + 1) ++ codes "=" ++ amount_text a.0 a.1 in
    let d = drop_at amounts i a got in
    ap (λ (l : List ℕ). l ++ rest) pushed ∙ append_assoc v one rest ∙ sym (ap (λ (l : List (List ℕ × ℕ)). v ++ pairs_text (dispense_pairs (i + 1) l)) d) ∙ inv

pub length-covered : (nonce : List ℕ) (pairs : List (List ℕ × List ℕ)) (n : ℕ) → length (covered nonce pairs n) ≡ length nonce + length (pairs_text pairs) + 37
unfolding covered
length-covered nonce pairs n =
    let a = length-append (codes "NONCE=" ++ nonce ++ codes ",TOKENFORMAT=1,TOKENLENGTH=" ++ four_digits n) (pairs_text pairs) in
    let b = length-append (codes "NONCE=" ++ nonce ++ codes ",TOKENFORMAT=1,TOKENLENGTH=") (four_digits n) in
    let d = length-append (codes "NONCE=" ++ nonce) (codes ",TOKENFORMAT=1,TOKENLENGTH=") in
    let e = length-append (codes "NONCE=") nonce in
    omega (arith, a, b, d, e)

pub length-form : (t : Parts) (n : ℕ) → length t.mac ≡ 32 → length (form t n) ≡ length t.nonce + length (pairs_text t.pairs) + 113
unfolding form
length-form t n len =
    let a = length-append (covered t.nonce t.pairs n ++ codes ",HMACSHA256=") (encode_upper t.mac) in
    let b = length-append (covered t.nonce t.pairs n) (codes ",HMACSHA256=") in
    let d = length-covered t.nonce t.pairs n in
    let e = length-encode_with upper_digits t.mac in
    omega (arith, a, b, d, e, len)

-- what the HMAC covers is the text without its last 76 bytes
pub take-form : (t : Parts) (n : ℕ) → length t.mac ≡ 32 → take (length (form t n) - 76) (form t n) ≡ covered t.nonce t.pairs n
unfolding form
take-form t n len =
    let l = length-form t n len in
    let d = length-covered t.nonce t.pairs n in
    let e : length (form t n) - 76 ≡ length (covered t.nonce t.pairs n) = omega (arith, l, d) in
    ap (λ (m : ℕ). take m (form t n)) e
    ∙ ap (λ (l : List ℕ). take (length (covered t.nonce t.pairs n)) l) (append_assoc (covered t.nonce t.pairs n) (codes ",HMACSHA256=") (encode_upper t.mac))
    ∙ take-append_seam (covered t.nonce t.pairs n) (codes ",HMACSHA256=" ++ encode_upper t.mac)

pub form_is_covered : (t : Parts) (n : ℕ) → form t n ≡ covered t.nonce t.pairs n ++ codes ",HMACSHA256=" ++ encode_upper t.mac
unfolding form
form_is_covered t n = refl

-- how long a nonce is
pub nonce_within : (nonce : List ℕ) → is_nonce nonce ≡ true → (1 ≤ length nonce) × (length nonce ≤ 128)
nonce_within nonce h =
    let ends = and_parts (nat_le 1 (length nonce)) (nat_le (length nonce) 128) (and_parts (nat_le 1 (length nonce) && nat_le (length nonce) 128) (list_all is_upper_hex nonce) h).0 in
    (leb-true 1 (length nonce) ends.0, leb-true (length nonce) 128 ends.1)

-- a text that was built with its own length and the HMAC of what stands before is made of these amounts
pub made : (key nonce code text : List ℕ) (amounts : List (List ℕ × ℕ)) (total : ℕ) → is_nonce nonce ≡ true → IsAmounts amounts → IsMac code → total ≡ length nonce + length (pairs_text (dispense_pairs 1 amounts)) + 113
    → code ≡ hmac key (covered nonce (dispense_pairs 1 amounts) total) → text ≡ covered nonce (dispense_pairs 1 amounts) total ++ codes ",HMACSHA256=" ++ encode_upper code → IsMade key nonce amounts text
made key nonce code text amounts total good valid is_mac sum coded built =
    let t : Parts = record { nonce = nonce; pairs = dispense_pairs 1 amounts; mac = code } in
    let form_is : text ≡ form t total = built ∙ sym (form_is_covered t total) in
    let len : length text ≡ total = ap length form_is ∙ length-form t total is_mac.long ∙ sym sum in
    let spelled : Spells t text = record {
      formed = record { nonce = good; pairs = may_follow-dispense_pairs 1 [] amounts (λ k le. refl) (let h = valid.high in omega arith) valid.payable; mac = is_mac };
      text = form_is ∙ ap (λ (n : ℕ). form t n) (sym len);
      short = (let w = nonce_within nonce good in let s = length-dispense_pairs 1 amounts valid.payable in let h = valid.high in omega (arith, len, sum, w, s, h));
    } in record {
      token = t;
      genuine = record { spelled = spelled; mac = coded ∙ ap (λ (l : List ℕ). hmac key l) (sym (ap (λ (l : List ℕ). take (length l - 76) l) form_is ∙ take-form t total is_mac.long)) };
      nonce_kept = refl;
      pairs = refl;
      amounts_kept = amounts_of-dispense_pairs nonce code amounts valid;
    }

-- a text that was built with its own length spells the token
pub spelled : (t : Parts) (text : List ℕ) (total : ℕ) → IsWellFormed t → total ≡ length t.nonce + length (pairs_text t.pairs) + 113 → total ≤ 1024 → text ≡ covered t.nonce t.pairs total ++ codes ",HMACSHA256=" ++ encode_upper t.mac → Spells t text
spelled t text total formed sum few built =
    let form_is : text ≡ form t total = built ∙ sym (form_is_covered t total) in
    let len : length text ≡ total = ap length form_is ∙ length-form t total formed.mac.long ∙ sym sum in
    record { formed = formed; text = form_is ∙ ap (λ (n : ℕ). form t n) (sym len); short = omega arith }

-- a token has one text
pub one_text : (t : Parts) (a b : List ℕ) → Spells t a → Spells t b → a ≡ b
one_text t a b x y =
    let la : length a ≡ length t.nonce + length (pairs_text t.pairs) + 113 = ap length x.text ∙ length-form t (length a) x.formed.mac.long in
    let lb : length b ≡ length t.nonce + length (pairs_text t.pairs) + 113 = ap length y.text ∙ length-form t (length b) y.formed.mac.long in
    x.text ∙ ap (λ (n : ℕ). form t n) (la ∙ sym lb) ∙ sym y.text
