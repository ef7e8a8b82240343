-- A text's parts joined: where one part is stuck, the whole is; and the whole is the token's form.
use Rattle.std.proofs.Common.{◌≡◌, ℕ, ◌-◌, ◌<◌, ◌≤◌, true, false, not, ◌&&◌, List, [], ◌∷◌, ◌++◌, length, drop, refl, sym, ◌∙◌, ap, subst, arith, inl, inr, length-append, append_assoc, nat_eq}
use Rattle.std.specs.Prelude.{◌⊎◌, codes}
use Rattle.std.specs.List.{common_prefix_len}
use Rattle.std.specs.Str.{bytes_eq}
use Rattle.std.proofs.lemmas.Bool.{and_parts, or_cases}
use Rattle.std.proofs.lemmas.List.Sums.{common_prefix_len-le}
use Rattle.std.proofs.lemmas.Slice.Eq.{bytes_eq-Decides}
use Rattle.hex.specs.Hex.{encode_upper}
use Rattle.xfs_token.specs.Token.{Parts, IsMac, IsWellFormed, covered, form, four_digits, is_nonce, is_key, is_free_key, is_reserved, has_key, may_follow, pairs_text}
use Rattle.xfs_token.specs.declared.faults.Stop.{Stop}
use Rattle.xfs_token.specs.declared.faults.Stop.TheVariants.{Left, Memory}
use Rattle.xfs_token.specs.Reading.{IsStopped, IsStuck, WordThen, Tail, LengthThen, NonceThen, MacEnd, ValueThen, Loose, IsFront, IsFormatAt, IsNonceThen, IsKeyThen, IsTailOf, IsLooseAs, tail_text}
use Rattle.xfs_token.proofs.Stuck.{both_ways, stuck_behind, stuck_word}
use Rattle.xfs_token.proofs.Words.{stuck_behind_word, word_in_front}
use Rattle.xfs_token.proofs.Front.{nonce_into, nonce_back, some_nonce}
use Rattle.xfs_token.proofs.Tails.{value_into, value_back, mac_into, mac_back, tail_into, tail_back, front_text, front_text-push, tail_text-front}

pub nonce_behind : (nonce rest : List ℕ) (left : ℕ) → is_nonce nonce ≡ true → IsStuck (WordThen (codes "TOKENFORMAT=1,TOKENLENGTH=") LengthThen) rest left → IsStuck NonceThen (nonce ++ 44 ∷ rest) left
nonce_behind nonce rest left good s =
    subst (λ (l : List ℕ). IsStuck NonceThen l left) (append_assoc nonce (44 ∷ []) rest)
    (stuck_behind (WordThen (codes "TOKENFORMAT=1,TOKENLENGTH=") LengthThen) NonceThen (nonce ++ 44 ∷ []) rest left
    (λ r m. subst NonceThen (sym (append_assoc nonce (44 ∷ []) r)) (nonce_into nonce r good m))
    (λ r m. nonce_back nonce r good (subst NonceThen (append_assoc nonce (44 ∷ []) r) m)) s)

pub length_behind : (number : ℕ) (rest : List ℕ) (left : ℕ) → number ≤ 9999 → IsStuck (Tail []) rest left → IsStuck LengthThen (four_digits number ++ 44 ∷ rest) left
length_behind number rest left small s =
    stuck_behind (Tail []) LengthThen (four_digits number ++ 44 ∷ []) rest left
    (λ r t. record { number = number; rest = r; small = small; is = refl; then = t })
    (λ r m. subst (Tail []) (sym (same r m.rest m.number m.is)) m.then) s
  where
    same : (r s : List ℕ) (n : ℕ) → four_digits number ++ 44 ∷ r ≡ four_digits n ++ 44 ∷ s → r ≡ s
    same r s n e = cc

-- what is stuck behind the front is stuck in the whole
pub front_stuck : (text nonce rest : List ℕ) (number left : ℕ) → IsFront text nonce number rest → IsStuck (Tail []) rest left → IsStuck Loose text left
front_stuck text nonce rest number left f s =
    subst (λ (l : List ℕ). IsStuck Loose l left) (sym f.is)
    (stuck_behind_word NonceThen (codes "NONCE=") (nonce ++ 44 ∷ (codes "TOKENFORMAT=1,TOKENLENGTH=" ++ (four_digits number ++ 44 ∷ rest))) left
    (nonce_behind nonce (codes "TOKENFORMAT=1,TOKENLENGTH=" ++ (four_digits number ++ 44 ∷ rest)) left f.good
    (stuck_behind_word LengthThen (codes "TOKENFORMAT=1,TOKENLENGTH=") (four_digits number ++ 44 ∷ rest) left (length_behind number rest left f.small s))))

pub first_cut : (text rest : List ℕ) (n : ℕ) → n ≡ common_prefix_len nat_eq text (codes "NONCE=") → 6 ≤ n → rest ≡ drop 6 text → codes "NONCE=" ++ rest ≡ text
first_cut text rest n e le r = ap (λ (l : List ℕ). codes "NONCE=" ++ l) r ∙ sym (word_in_front (codes "NONCE=") text (subst (λ (k : ℕ). 6 ≤ k) e le))

pub first_within : (text : List ℕ) (n : ℕ) → n ≡ common_prefix_len nat_eq text (codes "NONCE=") → n ≤ length text
first_within text n e = subst (λ (k : ℕ). k ≤ length text) (sym e) (common_prefix_len-le nat_eq text (codes "NONCE=")).0

pub first_short : (text : List ℕ) (n : ℕ) → n ≡ common_prefix_len nat_eq text (codes "NONCE=") → n < 6 → IsStuck Loose text (length text - n)
first_short text n e lt = subst (λ (k : ℕ). IsStuck Loose text (length text - k)) (sym e) (stuck_word NonceThen (codes "NONCE=") text _ some_nonce (subst (λ (k : ℕ). k < 6) e lt))

pub first_stuck : (text rest : List ℕ) (n left : ℕ) → n ≡ common_prefix_len nat_eq text (codes "NONCE=") → 6 ≤ n → rest ≡ drop 6 text → IsStuck NonceThen rest left → IsStuck Loose text left
first_stuck text rest n left e le r s = subst (λ (l : List ℕ). IsStuck Loose l left) (first_cut text rest n e le r) (stuck_behind_word NonceThen (codes "NONCE=") rest left s)

pub format_stuck_whole : (text behind nonce rest : List ℕ) (n left : ℕ) → n ≡ common_prefix_len nat_eq text (codes "NONCE=") → 6 ≤ n → behind ≡ drop 6 text → IsNonceThen behind nonce rest → IsStuck (WordThen (codes "TOKENFORMAT=1,TOKENLENGTH=") LengthThen) rest left → IsStuck Loose text left
format_stuck_whole text behind nonce rest n left e le r a s = first_stuck text behind n left e le r (subst (λ (l : List ℕ). IsStuck NonceThen l left) (sym a.is) (nonce_behind nonce rest left a.good s))

pub front_from : (text behind nonce rest : List ℕ) (n number : ℕ) → n ≡ common_prefix_len nat_eq text (codes "NONCE=") → 6 ≤ n → behind ≡ drop 6 text → IsNonceThen behind nonce rest → IsFormatAt rest number → IsFront text nonce number (drop 31 rest)
front_from text behind nonce rest n number e le r a f = record {
  good = a.good;
  small = f.small;
  is = sym (first_cut text behind n e le r) ∙ ap (λ (l : List ℕ). codes "NONCE=" ++ l) a.is ∙ ap (λ (l : List ℕ). codes "NONCE=" ++ (nonce ++ 44 ∷ l)) f.is;
}

pub format_room : (rest : List ℕ) (number : ℕ) → IsFormatAt rest number → 31 ≤ length rest
format_room rest number f = let e = ap length f.is in omega (arith, e)

-- the pairs that were read, and where the rest is stuck
pub pairs_stuck : (text rest : List ℕ) (ps : List (List ℕ × List ℕ)) (left : ℕ) → text ≡ front_text ps ++ rest → may_follow [] ps ≡ true → IsStuck (Tail ps) rest left → IsStuck (Tail []) text left
pairs_stuck text rest ps left e follow s =
    subst (λ (l : List ℕ). IsStuck (Tail []) l left) (sym e)
    (stuck_behind (Tail ps) (Tail []) (front_text ps) rest left (λ r t. tail_into [] ps r follow t) (λ r t. tail_back [] ps r follow t) s)

pub mac_stuck : (earlier : List (List ℕ × List ℕ)) (text key rest : List ℕ) (left : ℕ) → IsKeyThen earlier text key rest → bytes_eq key (codes "HMACSHA256") ≡ true → IsStuck MacEnd rest left → IsStuck (Tail earlier) text left
mac_stuck earlier text key rest left k is s =
    subst (λ (l : List ℕ). IsStuck (Tail earlier) l left) (sym (k.is ∙ ap (λ (l : List ℕ). l ++ 61 ∷ rest) ((bytes_eq-Decides key (codes "HMACSHA256")).0 is)))
    (stuck_behind MacEnd (Tail earlier) (codes "HMACSHA256=") rest left (mac_into earlier) (mac_back earlier) s)

pub free_key : (earlier : List (List ℕ × List ℕ)) (text key rest : List ℕ) → IsKeyThen earlier text key rest → bytes_eq key (codes "HMACSHA256") ≡ false → is_free_key key earlier ≡ true
free_key earlier text key rest k other = go (or_cases (bytes_eq key (codes "HMACSHA256")) (is_free_key key earlier) k.good)
  where
    go : (bytes_eq key (codes "HMACSHA256") ≡ true) ⊎ (is_free_key key earlier ≡ true) → is_free_key key earlier ≡ true
    go (inl t) = absurd (both_ways (bytes_eq key (codes "HMACSHA256")) t other)
    go (inr f) = f

key_is : (key : List ℕ) (earlier : List (List ℕ × List ℕ)) → is_free_key key earlier ≡ true → is_key key ≡ true
key_is key earlier free = (and_parts (is_key key) (not (is_reserved key)) (and_parts (is_key key && not (is_reserved key)) (not (has_key key earlier)) free).0).0

pub value_stuck_whole : (earlier : List (List ℕ × List ℕ)) (text key rest : List ℕ) (left : ℕ) → IsKeyThen earlier text key rest → bytes_eq key (codes "HMACSHA256") ≡ false → IsStuck (ValueThen earlier key) rest left → IsStuck (Tail earlier) text left
value_stuck_whole earlier text key rest left k other s =
    subst (λ (l : List ℕ). IsStuck (Tail earlier) l left) (append_assoc key (61 ∷ []) rest ∙ sym k.is)
    (stuck_behind (ValueThen earlier key) (Tail earlier) (key ++ 61 ∷ []) rest left
    (λ r v. subst (Tail earlier) (sym (append_assoc key (61 ∷ []) r)) (value_into earlier key r (free_key earlier text key rest k other) v))
    (λ r t. value_back earlier key r (key_is key earlier (free_key earlier text key rest k other)) other (subst (Tail earlier) (append_assoc key (61 ∷ []) r) t)) s)

-- one more pair is read
pub pair_read : (text rest key behind value after : List ℕ) (ps : List (List ℕ × List ℕ)) → text ≡ front_text ps ++ rest → rest ≡ key ++ 61 ∷ behind → behind ≡ value ++ 44 ∷ after → text ≡ front_text (ps ++ (key, value) ∷ []) ++ after
pair_read text rest key behind value after ps e k v =
    e ∙ ap (λ (l : List ℕ). front_text ps ++ l) (k ∙ ap (λ (l : List ℕ). key ++ 61 ∷ l) v) ∙ regroup (front_text ps) key value after ∙ ap (λ (l : List ℕ). l ++ after) (sym (front_text-push ps (key, value)))
  where
    regroup : (f k v r : List ℕ) → f ++ (k ++ 61 ∷ (v ++ 44 ∷ r)) ≡ (f ++ (k ++ 61 ∷ (v ++ 44 ∷ []))) ++ r
    regroup f k v r = simp append_assoc

-- the HMAC is read
pub mac_read : (text rest key behind mac : List ℕ) (ps : List (List ℕ × List ℕ)) → text ≡ front_text ps ++ rest → rest ≡ key ++ 61 ∷ behind → bytes_eq key (codes "HMACSHA256") ≡ true → behind ≡ encode_upper mac → text ≡ tail_text ps mac
mac_read text rest key behind mac ps e k is m =
    e ∙ ap (λ (l : List ℕ). front_text ps ++ l) (k ∙ ap (λ (l : List ℕ). l ++ 61 ∷ behind) ((bytes_eq-Decides key (codes "HMACSHA256")).0 is) ∙ ap (λ (l : List ℕ). codes "HMACSHA256=" ++ l) m) ∙ sym (tail_text-front ps mac)

length-front_text : (ps : List (List ℕ × List ℕ)) → length (pairs_text ps) ≡ length (front_text ps)
length-front_text [] = refl
length-front_text (p ∷ ps) =
    let ih = length-front_text ps in
    let a = length-append (codes "," ++ p.0 ++ codes "=" ++ p.1) (pairs_text ps) in
    let b = length-append (codes "," ++ p.0 ++ codes "=") p.1 in
    let d = length-append (codes "," ++ p.0) (codes "=") in
    let e = length-append p.0 (61 ∷ (p.1 ++ 44 ∷ front_text ps)) in
    let f = length-append p.1 (44 ∷ front_text ps) in
    omega (arith, ih, a, b, d, e, f)

pub pairs_within : (text rest : List ℕ) (ps : List (List ℕ × List ℕ)) → text ≡ front_text ps ++ rest → length text ≤ 1024 → length (pairs_text ps) ≤ 1024
pairs_within text rest ps e short = let a = ap length e in let b = length-append (front_text ps) rest in let d = length-front_text ps in omega (arith, a, b, d)

-- each pair behind a comma, or before one
pairs_tail : (ps : List (List ℕ × List ℕ)) (mac : List ℕ) → pairs_text ps ++ codes ",HMACSHA256=" ++ encode_upper mac ≡ 44 ∷ tail_text ps mac
pairs_tail [] mac = refl
pairs_tail (p ∷ ps) mac = regroup p.0 p.1 (pairs_text ps) (encode_upper mac) ∙ ap (λ (l : List ℕ). 44 ∷ (p.0 ++ 61 ∷ (p.1 ++ l))) (pairs_tail ps mac)
  where
    regroup : (k v r m : List ℕ) → (codes "," ++ k ++ codes "=" ++ v ++ r) ++ codes ",HMACSHA256=" ++ m ≡ 44 ∷ (k ++ 61 ∷ (v ++ (r ++ codes ",HMACSHA256=" ++ m)))
    regroup k v r m = simp append_assoc

-- the form of a token, part by part
pub form_is : (t : Parts) (n : ℕ) → form t n ≡ codes "NONCE=" ++ (t.nonce ++ 44 ∷ (codes "TOKENFORMAT=1,TOKENLENGTH=" ++ (four_digits n ++ 44 ∷ tail_text t.pairs t.mac)))
unfolding form covered
form_is t n =
    regroup t.nonce (pairs_text t.pairs) (encode_upper t.mac) ∙ ap (λ (l : List ℕ). codes "NONCE=" ++ (t.nonce ++ 44 ∷ (codes "TOKENFORMAT=1,TOKENLENGTH=" ++ (four_digits n ++ l)))) (pairs_tail t.pairs t.mac)
  where
    regroup : (k r m : List ℕ) → (codes "NONCE=" ++ k ++ codes ",TOKENFORMAT=1,TOKENLENGTH=" ++ four_digits n ++ r) ++ codes ",HMACSHA256=" ++ m ≡ codes "NONCE=" ++ (k ++ 44 ∷ (codes "TOKENFORMAT=1,TOKENLENGTH=" ++ (four_digits n ++ (r ++ codes ",HMACSHA256=" ++ m))))
    regroup k r m = simp append_assoc

pub loose_as : (text nonce rest : List ℕ) (number : ℕ) (t : Parts) → IsFront text nonce number rest → IsTailOf rest nonce t → IsLooseAs text t number
loose_as text nonce rest number t f a = record {
  formed = a.formed;
  small = f.small;
  is = f.is ∙ ap (λ (l : List ℕ). codes "NONCE=" ++ (l ++ 44 ∷ (codes "TOKENFORMAT=1,TOKENLENGTH=" ++ (four_digits number ++ 44 ∷ rest)))) (sym a.nonce_kept)
      ∙ ap (λ (l : List ℕ). codes "NONCE=" ++ (t.nonce ++ 44 ∷ (codes "TOKENFORMAT=1,TOKENLENGTH=" ++ (four_digits number ++ 44 ∷ l)))) a.is ∙ sym (form_is t number);
}

-- what ends the reading of a part ends that of the whole
pub stopped : (L M : List ℕ → Type 0) (text whole : List ℕ) (s : Stop) → ((left : ℕ) → IsStuck L text left → IsStuck M whole left) → IsStopped L text s → IsStopped M whole s
stopped L M text whole (Left left) f h = f left h
stopped L M text whole Memory f h = tt

pub tail_of : (text rest key behind mac nonce : List ℕ) (t : Parts) → text ≡ front_text t.pairs ++ rest → IsKeyThen t.pairs rest key behind → bytes_eq key (codes "HMACSHA256") ≡ true → IsMac mac → behind ≡ encode_upper mac → IsWellFormed t → t.nonce ≡ nonce → IsTailOf text nonce (record t { mac = mac })
tail_of text rest key behind mac nonce t e k is is_mac m formed kept = record {
  formed = record { nonce = formed.nonce; pairs = formed.pairs; mac = is_mac };
  nonce_kept = kept;
  is = mac_read text rest key behind mac t.pairs e k.is is m;
}
