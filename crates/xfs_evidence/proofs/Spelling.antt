-- A token is written once, its pairs as they are told, and its HMAC behind what it covers.
use Rattle.std.proofs.Common.{◌≡◌, ℕ, ◌+◌, ◌-◌, ◌<◌, ◌≤◌, ◌^◌, true, List, [], ◌∷◌, ◌++◌, length, take, drop, map, Some, refl, sym, ◌∙◌, ap, arith, append_assoc}
use Rattle.std.specs.Prelude.{slice_get, codes, decimal}
use Rattle.std.proofs.lemmas.List.{append-nil}
use Rattle.hex.specs.Hex.{encode_upper}
use Rattle.xfs_hmac.specs.Hmac.{hmac}
use Rattle.xfs_token.specs.Token.{Parts, IsMac, Spells, covered, is_nonce, may_follow, pairs_text}
use Rattle.xfs_token.proofs.Written.{length-form, take-form, spelled, drop_at}
use Rattle.xfs_evidence.specs.Evidence.{IsSigned, unless_none}
use Rattle.xfs_evidence.specs.Told.{presented_key, presented_pairs, told_pairs, told_text, AreTold, AreEvidencePairs}

-- how long a spelled text is, and what its HMAC covers
spelled-long : (t : Parts) (bytes : List ℕ) → Spells t bytes → length bytes ≡ length t.nonce + length (pairs_text t.pairs) + 113
spelled-long t bytes s = ap length s.text ∙ length-form t (length bytes) s.formed.mac.long

spelled-front : (t : Parts) (bytes : List ℕ) → Spells t bytes → take (length bytes - 76) bytes ≡ covered t.nonce t.pairs (length bytes)
spelled-front t bytes s = ap (λ (l : List ℕ). take (length l - 76) l) s.text ∙ take-form t (length bytes) s.formed.mac.long

-- a text that was built with its own length and the HMAC of what stands before is signed
pub signed : (key nonce code text : List ℕ) (t : Parts) (total : ℕ) → t.nonce ≡ nonce → is_nonce nonce ≡ true → may_follow [] t.pairs ≡ true → IsMac code → total ≡ length nonce + length (pairs_text t.pairs) + 113 → total ≤ 1024
    → code ≡ hmac key (covered nonce t.pairs total) → text ≡ covered nonce t.pairs total ++ codes ",HMACSHA256=" ++ encode_upper code → IsSigned key t text
signed key nonce code text t total kept good follow is_mac sum few coded built =
    let token : Parts = record { nonce = nonce; pairs = t.pairs; mac = code } in
    let s : Spells token text = spelled token text total record { nonce = good; pairs = follow; mac = is_mac } sum few built in
    let long : length text ≡ total = spelled-long token text s ∙ sym sum in record {
      token = token;
      genuine = record { spelled = s; mac = coded ∙ ap (hmac key) (ap (covered nonce t.pairs) (sym long) ∙ sym (spelled-front token text s)) };
      carried = sym kept;
      pairs = refl;
    }

-- an amount's pair, one piece behind the other
pub pair-chain : (v0 v1 v2 v3 v4 v5 x3 x4 x5 whole part letters : List ℕ) (k : ℕ) → v1 ≡ v0 ++ codes ",PRESENTED" → v2 ≡ v1 ++ (48 + k) ∷ 61 ∷ [] → v3 ≡ v2 ++ x3 → v4 ≡ v3 ++ x4 → v5 ≡ v4 ++ x5
    → x3 ≡ whole → x4 ≡ part → x5 ≡ letters → v5 ≡ v0 ++ (codes "," ++ presented_key k ++ codes "=" ++ (whole ++ part ++ letters))
pair-chain v0 v1 v2 v3 v4 v5 x3 x4 x5 whole part letters k h1 h2 h3 h4 h5 e3 e4 e5 = rw (h5, h4, h3, h2, h1, e3, e4, e5) (order v0 whole part letters)
  where
    order : (v0 whole part letters : List ℕ) → v0 ++ codes ",PRESENTED" ++ (48 + k) ∷ 61 ∷ [] ++ whole ++ part ++ letters ≡ v0 ++ (codes "," ++ presented_key k ++ codes "=" ++ (whole ++ part ++ letters))
    order v0 whole part letters = simp append_assoc

-- one more amount's pair is written
pub pair-step : (v w all : List ℕ) (amounts : List (List ℕ × ℕ)) (i : ℕ) (a : List ℕ × ℕ) → slice_get amounts i ≡ Some a → w ≡ v ++ (codes "," ++ presented_key (i + 1) ++ codes "=" ++ told_text a)
    → v ++ pairs_text (presented_pairs (i + 1) (map told_text (drop i amounts))) ≡ all → w ++ pairs_text (presented_pairs (i + 1 + 1) (map told_text (drop (i + 1) amounts))) ≡ all
pair-step v w all amounts i a got pushed inv =
    let rest : List ℕ = pairs_text (presented_pairs (i + 1 + 1) (map told_text (drop (i + 1) amounts))) in
    let one : List ℕ = codes "," ++ presented_key (i + 1) ++ codes "=" ++ told_text a in
    ap (λ (l : List ℕ). l ++ rest) pushed ∙ append_assoc v one rest ∙ sym (ap (λ (l : List (List ℕ × ℕ)). v ++ pairs_text (presented_pairs (i + 1) (map told_text l))) (drop_at amounts i a got)) ∙ inv

pub pair-end : (v all : List ℕ) (amounts : List (List ℕ × ℕ)) (i : ℕ) → drop i amounts ≡ [] → v ++ pairs_text (presented_pairs (i + 1) (map told_text (drop i amounts))) ≡ all → v ≡ all
pair-end v all amounts i none inv = sym (append-nil v) ∙ sym (ap (λ (l : List (List ℕ × ℕ)). v ++ pairs_text (presented_pairs (i + 1) (map told_text l))) none) ∙ inv

-- the pair of the Issue's number stands in front
pub pairs-chain : (v0 v1 v2 v3 digits : List ℕ) (issue : ℕ) (amounts : List (List ℕ × ℕ)) → v0 ≡ [] → v1 ≡ v0 ++ codes ",ISSUE=" → v2 ≡ v1 ++ digits → v3 ≡ v2 ++ pairs_text (presented_pairs 1 (map told_text amounts)) → digits ≡ decimal issue
    → v3 ≡ pairs_text (told_pairs issue amounts)
pairs-chain v0 v1 v2 v3 digits issue amounts h0 h1 h2 h3 hd = rw (h3, h2, h1, h0, hd) refl

-- what these pairs tell
pub told : (issue : ℕ) (amounts : List (List ℕ × ℕ)) (pairs : List (List ℕ × List ℕ)) → 1 ≤ issue → issue < 2 ^ 64 → AreTold amounts → pairs ≡ told_pairs issue amounts → AreEvidencePairs pairs issue amounts
told issue amounts pairs low high t is = record {
  low = low;
  high = omega (arith, high);
  texts = map told_text amounts;
  pairs_are = is;
  amounts_are = t.texts;
  few = t.few;
  rising = t.rising;
}

-- amounts that are there are some
pub listed-some : (amounts : List (List ℕ × ℕ)) → 1 ≤ length amounts → Some amounts ≡ unless_none amounts
listed-some [] some = absurd (omega (arith, some))
listed-some (a ∷ rest) some = refl
