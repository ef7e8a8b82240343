-- From where a text is stuck to its fault; a text spells at most one token, and has at most one fault.
use Rattle.std.proofs.Common.{◌≡◌, ℕ, suc, ◌+◌, ◌-◌, ◌/◌, ◌%◌, ◌<◌, ◌≤◌, true, not, ◌&&◌, List, [], ◌∷◌, ◌++◌, length, take, refl, sym, ◌∙◌, ap, subst, arith, inl, inr, length-append, append_assoc}
use Rattle.std.specs.Prelude.{◌⊎◌, codes, Ok}
use Rattle.std.specs.declared.result.Result.{Result}
use Rattle.std.specs.List.{list_all}
use Rattle.std.proofs.Math.Seq.{take-append_seam, take-append-add}
use Rattle.std.proofs.lemmas.Bool.{and_parts, cases_lt}
use Rattle.std.proofs.lemmas.List.{append-nil}
use Rattle.hex.specs.Hex.{encode_upper}
use Rattle.xfs_token.specs.Token.{Parts, IsMac, IsWellFormed, Spells, form, four_digits, is_upper_hex, is_key, is_key_byte, is_free_key, is_reserved, has_key, is_value, is_value_byte, may_follow}
use Rattle.xfs_token.specs.Fault.{IsLoose, IsStuckAt, HasWrongLength, LacksValue, IsFault}
use Rattle.xfs_token.specs.declared.faults.TokenFault.{TokenFault}
use Rattle.xfs_token.specs.declared.faults.TokenFault.TheVariants.{TooLong, KeyNoValue, Format, Memory}
use Rattle.xfs_token.specs.Reading.{Stops, IsStuck, WordThen, Tail, LengthThen, NonceThen, Loose, IsLooseAs, tail_text}
use Rattle.xfs_token.proofs.Stuck.{both_ways, same_run}
use Rattle.xfs_token.proofs.Words.{cancel}
use Rattle.xfs_token.proofs.Front.{nonce_digits}
use Rattle.xfs_token.proofs.Tails.{key_bytes, value_bytes}
use Rattle.xfs_token.proofs.Ends.{decoded}
use Rattle.xfs_token.proofs.Joined.{form_is}

pub loose_into : (text : List ℕ) → IsLoose text → Loose text
loose_into text l =
    let t : Parts = l.token in
    let n : ℕ = l.number in record {
      rest = t.nonce ++ 44 ∷ (codes "TOKENFORMAT=1,TOKENLENGTH=" ++ (four_digits n ++ 44 ∷ tail_text t.pairs t.mac));
      is = l.text ∙ form_is t n;
      then = record {
        nonce = t.nonce;
        rest = codes "TOKENFORMAT=1,TOKENLENGTH=" ++ (four_digits n ++ 44 ∷ tail_text t.pairs t.mac);
        good = l.formed.nonce;
        is = refl;
        then = record {
          rest = four_digits n ++ 44 ∷ tail_text t.pairs t.mac;
          is = refl;
          then = record {
            number = n;
            rest = tail_text t.pairs t.mac;
            small = l.small;
            is = refl;
            then = record { pairs = t.pairs; mac = t.mac; follow = l.formed.pairs; is_mac = l.formed.mac; is = refl };
          };
        };
      };
    }

pub loose_from : (text : List ℕ) → Loose text → IsLoose text
loose_from text m =
    let a : NonceThen m.rest = m.then in
    let f : WordThen (codes "TOKENFORMAT=1,TOKENLENGTH=") LengthThen a.rest = a.then in
    let l : LengthThen f.rest = f.then in
    let e : Tail [] l.rest = l.then in
    let t : Parts = record { nonce = a.nonce; pairs = e.pairs; mac = e.mac } in record {
      token = t;
      number = l.number;
      formed = record { nonce = a.good; pairs = e.follow; mac = e.is_mac };
      small = l.small;
      text = m.is ∙ ap (λ (x : List ℕ). codes "NONCE=" ++ x) a.is ∙ ap (λ (x : List ℕ). codes "NONCE=" ++ (a.nonce ++ 44 ∷ x)) f.is
          ∙ ap (λ (x : List ℕ). codes "NONCE=" ++ (a.nonce ++ 44 ∷ (codes "TOKENFORMAT=1,TOKENLENGTH=" ++ x))) l.is
          ∙ ap (λ (x : List ℕ). codes "NONCE=" ++ (a.nonce ++ 44 ∷ (codes "TOKENFORMAT=1,TOKENLENGTH=" ++ (four_digits l.number ++ 44 ∷ x)))) e.is ∙ sym (form_is t l.number);
    }

pub left_within : (L : List ℕ → Type 0) (text : List ℕ) (left : ℕ) → IsStuck L text left → left ≤ length text
left_within L text left s = let a = ap length s.cut in let b = length-append s.good s.bad in let d = s.left_is in omega (arith, a, b, d)

-- where the text is stuck is its longest front that begins a loose token
pub stuck_at : (text : List ℕ) (left : ℕ) → IsStuck Loose text left → IsStuckAt text (length text - left)
stuck_at text left s = subst (IsStuckAt text) place (record {
  no_token = λ l. none s.bad s.stops (subst Loose s.cut (loose_into text l));
  within = (let b = length-append s.good s.bad in omega (arith, b, len));
  begins = record { rest = s.more; loose = loose_from _ (subst (λ (l : List ℕ). Loose (l ++ s.more)) (sym front) s.begins) };
  longest = λ n within b. farthest n b.rest s.bad s.stops (subst (λ (k : ℕ). n ≤ k) len within) (subst (λ (l : List ℕ). Loose (take n l ++ b.rest)) s.cut (loose_into _ b.loose));
})
  where
    len : length text ≡ length (s.good ++ s.bad)
    len = ap length s.cut

    place : length s.good ≡ length text - left
    place = (let b = length-append s.good s.bad in let d = s.left_is in omega (arith, b, d, len))

    front : take (length s.good) text ≡ s.good
    front = ap (take (length s.good)) s.cut ∙ take-append_seam s.good s.bad

    none : (bad : List ℕ) → Stops Loose s.good bad → Loose (s.good ++ bad) → ⊥
    none [] h l = h (subst Loose (append-nil s.good) l)
    none (b ∷ bs) h l = h bs l

    farthest : (n : ℕ) (rest bad : List ℕ) → Stops Loose s.good bad → n ≤ length (s.good ++ bad) → Loose (take n (s.good ++ bad) ++ rest) → n ≤ length s.good
    farthest n rest [] h within l = let e = ap length (append-nil s.good) in omega (arith, e, within)
    farthest n rest (b ∷ bs) h within l = go (cases_lt (length s.good) n)
      where
        go : (length s.good < n) ⊎ (n ≤ length s.good) → n ≤ length s.good
        go (inr le) = le
        go (inl lt) =
            let k : ℕ = n - length s.good - 1 in
            let e : n ≡ length s.good + suc k = omega arith in
            let cut : take n (s.good ++ b ∷ bs) ≡ s.good ++ b ∷ take k bs = ap (λ (m : ℕ). take m (s.good ++ b ∷ bs)) e ∙ take-append-add s.good (b ∷ bs) (suc k) in
            absurd (h (take k bs ++ rest) (subst Loose (append_assoc s.good (b ∷ take k bs) rest) (subst (λ (x : List ℕ). Loose (x ++ rest)) cut l)))

-- four digits are those of one number
same_number : (m n : ℕ) → m ≤ 9999 → n ≤ 9999 → four_digits m ≡ four_digits n → m ≡ n
same_number m n a b e = go (m / 1000 % 10) (m / 100 % 10) (m / 10 % 10) (m % 10) (n / 1000 % 10) (n / 100 % 10) (n / 10 % 10) (n % 10) refl refl refl refl refl refl refl refl e
  where
    go : (p q r s p' q' r' s' : ℕ) → m / 1000 % 10 ≡ p → m / 100 % 10 ≡ q → m / 10 % 10 ≡ r → m % 10 ≡ s → n / 1000 % 10 ≡ p' → n / 100 % 10 ≡ q' → n / 10 % 10 ≡ r' → n % 10 ≡ s' → (48 + p) ∷ (48 + q) ∷ (48 + r) ∷ (48 + s) ∷ [] ≡ (48 + p') ∷ (48 + q') ∷ (48 + r') ∷ (48 + s') ∷ [] → m ≡ n
    go p q r s p' q' r' s' h1 h2 h3 h4 k1 k2 k3 k4 e =
        let e1 : 48 + p ≡ 48 + p' = cc in
        let e2 : 48 + q ≡ 48 + q' = cc in
        let e3 : 48 + r ≡ 48 + r' = cc in
        let e4 : 48 + s ≡ 48 + s' = cc in
        omega arith

-- the digits of an HMAC are those of one
same_mac : (x y : List ℕ) → IsMac x → IsMac y → encode_upper x ≡ encode_upper y → x ≡ y
same_mac x y hx hy e =
    let a = decoded (encode_upper x) (record { mac = x; is_mac = hx; is = refl }) in
    let b = decoded (encode_upper x) (record { mac = y; is_mac = hy; is = e }) in
    inside (sym a ∙ b)
  where
    inside : {E : Type 0} → ◌≡◌ {A = Result (List ℕ) E} (Ok x) (Ok y) → x ≡ y
    inside h = cc

same_pair : (p q : List ℕ × List ℕ) → p.0 ≡ q.0 → p.1 ≡ q.1 → p ≡ q
same_pair p q a b = both p.0 q.0 p.1 q.1 a b
  where
    both : (k l v w : List ℕ) → k ≡ l → v ≡ w → ◌≡◌ {A = List ℕ × List ℕ} (k, v) (l, w)
    both k l v w a b = cc

-- no pair has the HMAC's key
no_mac_pair : (earlier : List (List ℕ × List ℕ)) (key rest behind : List ℕ) → is_free_key key earlier ≡ true → codes "HMACSHA256" ++ 61 ∷ rest ≡ key ++ 61 ∷ behind → ⊥
no_mac_pair earlier key rest behind free e =
    let r = same_run is_key_byte (codes "HMACSHA256") key rest behind 61 61 refl (key_bytes key (and_parts (is_key key) (not (is_reserved key)) (and_parts (is_key key && not (is_reserved key)) (not (has_key key earlier)) free).0).0) refl refl e in
    both_ways (is_free_key (codes "HMACSHA256") earlier) (ap (λ (k : List ℕ). is_free_key k earlier) r.0 ∙ free) refl

-- pairs and an HMAC have a text of their own
same_tail : (earlier ps qs : List (List ℕ × List ℕ)) (x y : List ℕ) → may_follow earlier ps ≡ true → may_follow earlier qs ≡ true → IsMac x → IsMac y → tail_text ps x ≡ tail_text qs y → (ps ≡ qs) × (x ≡ y)
same_tail earlier [] [] x y hp hq hx hy e = (refl, same_mac x y hx hy (cancel (codes "HMACSHA256=") (encode_upper x) (encode_upper y) e))
same_tail earlier [] (q ∷ qs) x y hp hq hx hy e =
    let good = and_parts (is_free_key q.0 earlier) (is_value q.1) (and_parts (is_free_key q.0 earlier && is_value q.1) (may_follow (earlier ++ q ∷ []) qs) hq).0 in
    absurd (no_mac_pair earlier q.0 (encode_upper x) (q.1 ++ 44 ∷ tail_text qs y) good.0 e)
same_tail earlier (p ∷ ps) [] x y hp hq hx hy e =
    let good = and_parts (is_free_key p.0 earlier) (is_value p.1) (and_parts (is_free_key p.0 earlier && is_value p.1) (may_follow (earlier ++ p ∷ []) ps) hp).0 in
    absurd (no_mac_pair earlier p.0 (encode_upper y) (p.1 ++ 44 ∷ tail_text ps x) good.0 (sym e))
same_tail earlier (p ∷ ps) (q ∷ qs) x y hp hq hx hy e =
    let a = and_parts (is_free_key p.0 earlier && is_value p.1) (may_follow (earlier ++ p ∷ []) ps) hp in
    let b = and_parts (is_free_key q.0 earlier && is_value q.1) (may_follow (earlier ++ q ∷ []) qs) hq in
    let ga = and_parts (is_free_key p.0 earlier) (is_value p.1) a.0 in
    let gb = and_parts (is_free_key q.0 earlier) (is_value q.1) b.0 in
    let k = same_run is_key_byte p.0 q.0 (p.1 ++ 44 ∷ tail_text ps x) (q.1 ++ 44 ∷ tail_text qs y) 61 61 (free_bytes p.0 ga.0) (free_bytes q.0 gb.0) refl refl e in
    let v = same_run is_value_byte p.1 q.1 (tail_text ps x) (tail_text qs y) 44 44 (value_bytes p.1 ga.1) (value_bytes q.1 gb.1) refl refl k.2 in
    let pq : p ≡ q = same_pair p q k.0 v.0 in
    let r = same_tail (earlier ++ p ∷ []) ps qs x y a.1 (subst (λ (z : List ℕ × List ℕ). may_follow (earlier ++ z ∷ []) qs ≡ true) (sym pq) b.1) hx hy v.2 in
    (joined pq r.0, r.1)
  where
    free_bytes : (key : List ℕ) → is_free_key key earlier ≡ true → list_all is_key_byte key ≡ true
    free_bytes key free = key_bytes key (and_parts (is_key key) (not (is_reserved key)) (and_parts (is_key key && not (is_reserved key)) (not (has_key key earlier)) free).0).0

    joined : p ≡ q → ps ≡ qs → p ∷ ps ≡ q ∷ qs
    joined a b = cc

-- a token and a number have a form of their own
pub same_form : (s t : Parts) (m n : ℕ) → IsWellFormed s → IsWellFormed t → m ≤ 9999 → n ≤ 9999 → form s m ≡ form t n → (s ≡ t) × (m ≡ n)
same_form s t m n hs ht hm hn e =
    let whole = cancel (codes "NONCE=") (s.nonce ++ 44 ∷ (codes "TOKENFORMAT=1,TOKENLENGTH=" ++ (four_digits m ++ 44 ∷ tail_text s.pairs s.mac))) (t.nonce ++ 44 ∷ (codes "TOKENFORMAT=1,TOKENLENGTH=" ++ (four_digits n ++ 44 ∷ tail_text t.pairs t.mac))) (sym (form_is s m) ∙ e ∙ form_is t n) in
    let k = same_run is_upper_hex s.nonce t.nonce (codes "TOKENFORMAT=1,TOKENLENGTH=" ++ (four_digits m ++ 44 ∷ tail_text s.pairs s.mac)) (codes "TOKENFORMAT=1,TOKENLENGTH=" ++ (four_digits n ++ 44 ∷ tail_text t.pairs t.mac)) 44 44 (nonce_digits s.nonce hs.nonce) (nonce_digits t.nonce ht.nonce) refl refl whole in
    let l = cancel (codes "TOKENFORMAT=1,TOKENLENGTH=") (four_digits m ++ 44 ∷ tail_text s.pairs s.mac) (four_digits n ++ 44 ∷ tail_text t.pairs t.mac) k.2 in
    let d = split_four (tail_text s.pairs s.mac) (tail_text t.pairs t.mac) l in
    let r = same_tail [] s.pairs t.pairs s.mac t.mac hs.pairs ht.pairs hs.mac ht.mac d.1 in
    (parts_same s.nonce t.nonce s.pairs t.pairs s.mac t.mac k.0 r.0 r.1, same_number m n hm hn d.0)
  where
    split_four : (x y : List ℕ) → four_digits m ++ 44 ∷ x ≡ four_digits n ++ 44 ∷ y → (four_digits m ≡ four_digits n) × (x ≡ y)
    split_four x y h = (cc, cc)

    parts_same : (a b : List ℕ) (ps qs : List (List ℕ × List ℕ)) (x y : List ℕ) → a ≡ b → ps ≡ qs → x ≡ y → ◌≡◌ {A = Parts} (record { nonce = a; pairs = ps; mac = x }) (record { nonce = b; pairs = qs; mac = y })
    parts_same a b ps qs x y h k l = cc

-- a text spells at most one token
pub one_token : (s t : Parts) (b : List ℕ) → Spells s b → Spells t b → s ≡ t
one_token s t b x y = (same_form s t (length b) (length b) x.formed y.formed (let h = x.short in omega arith) (let h = y.short in omega arith) (sym x.text ∙ y.text)).0

-- a token whose number is not its length has no text
pub wrong_length : (text : List ℕ) (t : Parts) (n : ℕ) → IsLooseAs text t n → ¬ (n ≡ length text) → length text ≤ 1024 → HasWrongLength text (length t.nonce + 33)
wrong_length text t n l other short = record {
  loose = record { token = t; number = n; formed = l.formed; small = l.small; text = l.is };
  no_token = λ s x. other (same_form t s n (length text) l.formed x.formed l.small (omega arith) (sym l.is ∙ x.text)).1;
  place = (let a = length-append (codes "NONCE=" ++ t.nonce) (codes ",TOKENFORMAT=1,TOKENLENGTH=") in let b = length-append (codes "NONCE=") t.nonce in omega (arith, a, b));
}

pub spells_from : (text : List ℕ) (t : Parts) (n : ℕ) → IsLooseAs text t n → n ≡ length text → length text ≤ 1024 → Spells t text
spells_from text t n l e short = record { formed = l.formed; text = l.is ∙ ap (form t) e; short = short }

loose_of : (t : Parts) (b : List ℕ) → Spells t b → IsLoose b
loose_of t b x = record { token = t; number = length b; formed = x.formed; small = (let h = x.short in omega arith); text = x.text }

-- a text that spells a token has no fault but want of memory
pub no_fault : (t : Parts) (b : List ℕ) (e : TokenFault) → Spells t b → IsFault b e → e ≡ Memory
no_fault t b TooLong x f = let h = x.short in absurd (omega arith)
no_fault t b (KeyNoValue at) x f = absurd (f.1.no_token (loose_of t b x))
no_fault t b (Format at) x f = absurd (either f.1)
  where
    either : HasWrongLength b at ⊎ (IsStuckAt b at × ¬ (LacksValue b at)) → ⊥
    either (inl w) = w.no_token t x
    either (inr s) = s.0.no_token (loose_of t b x)
no_fault t b Memory x f = refl

stuck_place : (b : List ℕ) (m n : ℕ) → IsStuckAt b m → IsStuckAt b n → m ≡ n
stuck_place b m n x y =
    let le = x.longest n y.within y.begins in
    let ge = y.longest m x.within x.begins in
    omega arith

digits_place : (b : List ℕ) (m n : ℕ) → HasWrongLength b m → HasWrongLength b n → m ≡ n
digits_place b m n x y =
    let same = same_form x.loose.token y.loose.token x.loose.number y.loose.number x.loose.formed y.loose.formed x.loose.small y.loose.small (sym x.loose.text ∙ y.loose.text) in
    x.place ∙ ap (λ (t : Parts). length (codes "NONCE=" ++ t.nonce ++ codes ",TOKENFORMAT=1,TOKENLENGTH=")) same.0 ∙ sym y.place

not_both : (b : List ℕ) (m n : ℕ) → IsStuckAt b m → LacksValue b m → HasWrongLength b n ⊎ (IsStuckAt b n × ¬ (LacksValue b n)) → ⊥
not_both b m n x l (inl w) = x.no_token w.loose
not_both b m n x l (inr s) = s.1 (subst (LacksValue b) (stuck_place b m n x s.0) l)

-- a text has at most one fault beside want of memory
pub one_fault : (b : List ℕ) (e f : TokenFault) → IsFault b e → IsFault b f → ¬ (e ≡ Memory) → ¬ (f ≡ Memory) → e ≡ f
one_fault b Memory f x y he hf = absurd (he refl)
one_fault b TooLong Memory x y he hf = absurd (hf refl)
one_fault b TooLong TooLong x y he hf = refl
one_fault b TooLong (KeyNoValue n) x y he hf = let h = y.0 in absurd (omega arith)
one_fault b TooLong (Format n) x y he hf = let h = y.0 in absurd (omega arith)
one_fault b (KeyNoValue m) Memory x y he hf = absurd (hf refl)
one_fault b (KeyNoValue m) TooLong x y he hf = let h = x.0 in absurd (omega arith)
one_fault b (KeyNoValue m) (KeyNoValue n) x y he hf = ap KeyNoValue (stuck_place b m n x.1 y.1)
one_fault b (KeyNoValue m) (Format n) x y he hf = absurd (not_both b m n x.1 x.2 y.1)
one_fault b (Format m) Memory x y he hf = absurd (hf refl)
one_fault b (Format m) TooLong x y he hf = let h = x.0 in absurd (omega arith)
one_fault b (Format m) (KeyNoValue n) x y he hf = absurd (not_both b n m y.1 y.2 x.1)
one_fault b (Format m) (Format n) x y he hf = ap Format (same x.1 y.1)
  where
    same : HasWrongLength b m ⊎ (IsStuckAt b m × ¬ (LacksValue b m)) → HasWrongLength b n ⊎ (IsStuckAt b n × ¬ (LacksValue b n)) → m ≡ n
    same (inl v) (inl w) = digits_place b m n v w
    same (inl v) (inr s) = absurd (s.0.no_token v.loose)
    same (inr s) (inl w) = absurd (s.0.no_token w.loose)
    same (inr r) (inr s) = stuck_place b m n r.0 s.0
