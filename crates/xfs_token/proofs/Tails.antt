-- What may stand behind a comma of a token: a pair and a tail again, or the HMAC.
use Rattle.std.proofs.Common.{◌≡◌, ℕ, zero, suc, ◌<◌, ◌==◌, Bool, true, false, not, ◌&&◌, ◌||◌, List, [], ◌∷◌, ◌++◌, length, replicate, refl, sym, ◌∙◌, ap, subst, arith, append_assoc, inl, inr}
use Rattle.std.specs.Prelude.{codes, nat_le, ◌⊎◌, slice_index}
use Rattle.std.specs.List.{list_all}
use Rattle.std.specs.Str.{bytes_eq}
use Rattle.std.proofs.lemmas.Bool.{and_parts, and_from, eqb-false, or_parts, not-true}
use Rattle.std.proofs.lemmas.List.{append-nil}
use Rattle.std.proofs.lemmas.Slice.Eq.{bytes_eq-Decides}
use Rattle.hex.specs.Hex.{encode_upper}
use Rattle.xfs_token.specs.Token.{IsMac, is_key, is_key_byte, is_letter, is_free_key, is_reserved, has_key, is_value, is_value_byte, may_follow}
use Rattle.xfs_token.specs.Reading.{Stops, IsStuck, Tail, MacEnd, ValueThen, tail_text}
use Rattle.xfs_token.proofs.Stuck.{both_ways, stuck_now, same_run, no_stop}

pub key_bytes : (key : List ℕ) → is_key key ≡ true → list_all is_key_byte key ≡ true
key_bytes key h = (and_parts (nat_le 1 (length key) && nat_le (length key) 32 && is_letter (slice_index key 0)) (list_all is_key_byte key) h).1

pub value_bytes : (value : List ℕ) → is_value value ≡ true → list_all is_value_byte value ≡ true
value_bytes value h = (and_parts (nat_le 1 (length value)) (list_all is_value_byte value) h).1

-- the tail of these pairs begins with a key and its equals sign
pub record KeyFront (earlier : List (List ℕ × List ℕ)) (text : List ℕ) : Type 0 where
  pub key : List ℕ
  pub rest : List ℕ
  pub good : is_key key ≡ true
  pub is : text ≡ key ++ 61 ∷ rest
  pub next : ((key ≡ codes "HMACSHA256") × MacEnd rest) ⊎ ((is_free_key key earlier ≡ true) × ValueThen earlier key rest)

pub key_front : (earlier : List (List ℕ × List ℕ)) (text : List ℕ) → Tail earlier text → KeyFront earlier text
key_front earlier text t = front t.pairs t.follow t.is
  where
    front : (pairs : List (List ℕ × List ℕ)) → may_follow earlier pairs ≡ true → text ≡ tail_text pairs t.mac → KeyFront earlier text
    front [] follow is = record { key = codes "HMACSHA256"; rest = encode_upper t.mac; good = refl; is = is; next = inl (refl, record { mac = t.mac; is_mac = t.is_mac; is = refl }) }
    front (p ∷ ps) follow is =
        let parts = and_parts (is_free_key p.0 earlier && is_value p.1) (may_follow (earlier ++ p ∷ []) ps) follow in
        let good = and_parts (is_free_key p.0 earlier) (is_value p.1) parts.0 in
        record {
          key = p.0;
          rest = p.1 ++ 44 ∷ tail_text ps t.mac;
          good = (and_parts (is_key p.0) (not (is_reserved p.0)) (and_parts (is_key p.0 && not (is_reserved p.0)) (not (has_key p.0 earlier)) good.0).0).0;
          is = is;
          next = inr (good.0, record { value = p.1; rest = tail_text ps t.mac; good = good.1; is = refl; then = record { pairs = ps; mac = t.mac; follow = parts.1; is_mac = t.is_mac; is = refl } });
        }

-- the key that stands there is the tail's
pub key_is : (earlier : List (List ℕ × List ℕ)) (key rest : List ℕ) → list_all is_key_byte key ≡ true → (t : KeyFront earlier (key ++ 61 ∷ rest)) → (t.key ≡ key) × (t.rest ≡ rest)
key_is earlier key rest h t = let r = same_run is_key_byte key t.key rest t.rest 61 61 h (key_bytes t.key t.good) refl refl t.is in (sym r.0, sym r.2)

-- behind a free key and its equals sign stands a value
pub value_into : (earlier : List (List ℕ × List ℕ)) (key rest : List ℕ) → is_free_key key earlier ≡ true → ValueThen earlier key rest → Tail earlier (key ++ 61 ∷ rest)
value_into earlier key rest free v = record {
  pairs = (key, v.value) ∷ v.then.pairs;
  mac = v.then.mac;
  follow = and_from (is_free_key key earlier && is_value v.value) (may_follow (earlier ++ (key, v.value) ∷ []) v.then.pairs) (and_from (is_free_key key earlier) (is_value v.value) free v.good) v.then.follow;
  is_mac = v.then.is_mac;
  is = ap (λ (l : List ℕ). key ++ 61 ∷ l) (v.is ∙ ap (λ (l : List ℕ). v.value ++ 44 ∷ l) v.then.is);
}

pub value_back : (earlier : List (List ℕ × List ℕ)) (key rest : List ℕ) → is_key key ≡ true → bytes_eq key (codes "HMACSHA256") ≡ false → Tail earlier (key ++ 61 ∷ rest) → ValueThen earlier key rest
value_back earlier key rest good other t = cases front.next
  where
    front : KeyFront earlier (key ++ 61 ∷ rest)
    front = key_front earlier (key ++ 61 ∷ rest) t

    same : (front.key ≡ key) × (front.rest ≡ rest)
    same = key_is earlier key rest (key_bytes key good) front

    cases : ((front.key ≡ codes "HMACSHA256") × MacEnd front.rest) ⊎ ((is_free_key front.key earlier ≡ true) × ValueThen earlier front.key front.rest) → ValueThen earlier key rest
    cases (inl h) = absurd (both_ways (bytes_eq key (codes "HMACSHA256")) ((bytes_eq-Decides key (codes "HMACSHA256")).1 (sym same.0 ∙ h.0)) other)
    cases (inr h) = subst (λ (r : List ℕ). ValueThen earlier key r) same.1 (subst (λ (k : List ℕ). ValueThen earlier k front.rest) same.0 h.1)

-- a key that isn't free has no tail behind it
pub key_is_free : (earlier : List (List ℕ × List ℕ)) (key rest : List ℕ) → is_key key ≡ true → bytes_eq key (codes "HMACSHA256") ≡ false → Tail earlier (key ++ 61 ∷ rest) → is_free_key key earlier ≡ true
key_is_free earlier key rest good other t = cases front.next
  where
    front : KeyFront earlier (key ++ 61 ∷ rest)
    front = key_front earlier (key ++ 61 ∷ rest) t

    same : (front.key ≡ key) × (front.rest ≡ rest)
    same = key_is earlier key rest (key_bytes key good) front

    cases : ((front.key ≡ codes "HMACSHA256") × MacEnd front.rest) ⊎ ((is_free_key front.key earlier ≡ true) × ValueThen earlier front.key front.rest) → is_free_key key earlier ≡ true
    cases (inl h) = absurd (both_ways (bytes_eq key (codes "HMACSHA256")) ((bytes_eq-Decides key (codes "HMACSHA256")).1 (sym same.0 ∙ h.0)) other)
    cases (inr h) = subst (λ (k : List ℕ). is_free_key k earlier ≡ true) same.0 h.0

pub mac_into : (earlier : List (List ℕ × List ℕ)) (rest : List ℕ) → MacEnd rest → Tail earlier (codes "HMACSHA256=" ++ rest)
mac_into earlier rest m = record { pairs = []; mac = m.mac; follow = refl; is_mac = m.is_mac; is = ap (λ (l : List ℕ). codes "HMACSHA256=" ++ l) m.is }

pub mac_back : (earlier : List (List ℕ × List ℕ)) (rest : List ℕ) → Tail earlier (codes "HMACSHA256=" ++ rest) → MacEnd rest
mac_back earlier rest t = cases front.next
  where
    front : KeyFront earlier (codes "HMACSHA256" ++ 61 ∷ rest)
    front = key_front earlier (codes "HMACSHA256" ++ 61 ∷ rest) t

    same : (front.key ≡ codes "HMACSHA256") × (front.rest ≡ rest)
    same = key_is earlier (codes "HMACSHA256") rest refl front

    cases : ((front.key ≡ codes "HMACSHA256") × MacEnd front.rest) ⊎ ((is_free_key front.key earlier ≡ true) × ValueThen earlier front.key front.rest) → MacEnd rest
    cases (inl h) = subst MacEnd same.1 h.1
    cases (inr h) = absurd (both_ways (is_free_key (codes "HMACSHA256") earlier) (subst (λ (k : List ℕ). is_free_key k earlier ≡ true) same.0 h.0) refl)

-- behind a value and its comma stands the tail of one pair more
pub comma_into : (earlier : List (List ℕ × List ℕ)) (key value rest : List ℕ) → is_value value ≡ true → Tail (earlier ++ (key, value) ∷ []) rest → ValueThen earlier key (value ++ 44 ∷ rest)
comma_into earlier key value rest good t = record { value = value; rest = rest; good = good; is = refl; then = t }

pub comma_back : (earlier : List (List ℕ × List ℕ)) (key value rest : List ℕ) → is_value value ≡ true → ValueThen earlier key (value ++ 44 ∷ rest) → Tail (earlier ++ (key, value) ∷ []) rest
comma_back earlier key value rest good v =
    let r = same_run is_value_byte value v.value rest v.rest 44 44 (value_bytes value good) (value_bytes v.value v.good) refl refl v.is in
    subst (λ (l : List ℕ). Tail (earlier ++ (key, value) ∷ []) l) (sym r.2) (subst (λ (l : List ℕ). Tail (earlier ++ (key, l) ∷ []) v.rest) (sym r.0) v.then)

pub zeros_mac : IsMac (replicate 32 0)
zeros_mac = record { long = refl; bytes = bytes 32 }
  where
    bytes : (n i : ℕ) → slice_index (replicate n 0) i < 256
    bytes zero i = omega arith
    bytes (suc n) zero = omega arith
    bytes (suc n) (suc i) = bytes n i

-- an HMAC of zeros
zeros : MacEnd (encode_upper (replicate 32 0))
zeros = record { mac = replicate 32 0; is_mac = zeros_mac; is = refl }

-- something may always follow
abbrev pub ending : List ℕ
ending = codes "HMACSHA256=" ++ encode_upper (replicate 32 0)

pub some_tail : (earlier : List (List ℕ × List ℕ)) → Tail earlier ending
some_tail earlier = mac_into earlier (encode_upper (replicate 32 0)) zeros

-- this byte, if there is one, fails the test
abbrev pub FirstFails : (ℕ → Bool) → List ℕ → Type 0
FirstFails p [] = Unit {0}
FirstFails p (b ∷ bs) = p b ≡ false

-- without a value the text is stuck behind the equals sign
pub stuck_no_value : (earlier : List (List ℕ × List ℕ)) (key text : List ℕ) → FirstFails is_value_byte text → IsStuck (ValueThen earlier key) text (length text)
stuck_no_value earlier key text fails = stuck_now (ValueThen earlier key) text (codes "A" ++ 44 ∷ ending) (comma_into earlier key (codes "A") ending refl (some_tail (earlier ++ (key, codes "A") ∷ []))) (stops text fails)
  where
    none : (value rest more : List ℕ) (b : ℕ) → is_value_byte b ≡ false → is_value value ≡ true → b ∷ more ≡ value ++ 44 ∷ rest → ⊥
    none [] rest more b f good e = both_ways true refl (sym good)
    none (x ∷ xs) rest more b f good e = let h : b ≡ x = cc in both_ways (is_value_byte x) (and_parts (is_value_byte x) (list_all is_value_byte xs) (value_bytes (x ∷ xs) good)).0 (sym (ap is_value_byte h) ∙ f)

    stops : (text : List ℕ) → FirstFails is_value_byte text → Stops (ValueThen earlier key) [] text
    stops [] f = λ v. no_stop is_value_byte [] v.value v.rest 44 refl refl v.is
    stops (b ∷ bs) f = λ more v. none v.value v.rest more b f v.good v.is

-- a value that no comma follows is where the text is stuck
pub stuck_value : (earlier : List (List ℕ × List ℕ)) (key value rest : List ℕ) → is_value value ≡ true → FirstFails is_value_byte rest → FirstFails (λ b. b == 44) rest → IsStuck (ValueThen earlier key) (value ++ rest) (length rest)
stuck_value earlier key value rest good fails comma = record {
  good = value;
  bad = rest;
  cut = refl;
  left_is = refl;
  more = 44 ∷ ending;
  begins = comma_into earlier key value ending good (some_tail (earlier ++ (key, value) ∷ []));
  stops = stops rest fails comma;
}
  where
    stops : (rest : List ℕ) → FirstFails is_value_byte rest → FirstFails (λ b. b == 44) rest → Stops (ValueThen earlier key) value rest
    stops [] f k = λ v. no_stop is_value_byte value v.value v.rest 44 (value_bytes value good) refl v.is
    stops (b ∷ bs) f k = λ more v. eqb-false b 44 k (same_run is_value_byte value v.value more v.rest b 44 (value_bytes value good) (value_bytes v.value v.good) f refl v.is).1

-- pairs with one more that is free behind them
pub may_follow-push : (earlier ps : List (List ℕ × List ℕ)) (p : List ℕ × List ℕ) → may_follow earlier ps ≡ true → is_free_key p.0 (earlier ++ ps) ≡ true → is_value p.1 ≡ true → may_follow earlier (ps ++ p ∷ []) ≡ true
may_follow-push earlier [] p h free value = let e = rw append-nil at free in and_from (is_free_key p.0 earlier && is_value p.1) true (and_from (is_free_key p.0 earlier) (is_value p.1) e value) refl
may_follow-push earlier (x ∷ ps) p h free value =
    let parts = and_parts (is_free_key x.0 earlier && is_value x.1) (may_follow (earlier ++ x ∷ []) ps) h in
    and_from (is_free_key x.0 earlier && is_value x.1) (may_follow (earlier ++ x ∷ []) (ps ++ p ∷ [])) parts.0 (may_follow-push (earlier ++ x ∷ []) ps p parts.1 (rw append_assoc free) value)

-- pairs with their keys and commas, as far as the next comma
abbrev pub front_text : List (List ℕ × List ℕ) → List ℕ
front_text [] = []
front_text (p ∷ ps) = p.0 ++ 61 ∷ (p.1 ++ 44 ∷ front_text ps)

pub tail_into : (earlier ps : List (List ℕ × List ℕ)) (rest : List ℕ) → may_follow earlier ps ≡ true → Tail (earlier ++ ps) rest → Tail earlier (front_text ps ++ rest)
tail_into earlier [] rest h t = subst (λ (l : List (List ℕ × List ℕ)). Tail l rest) (append-nil earlier) t
tail_into earlier (p ∷ ps) rest h t =
    let parts = and_parts (is_free_key p.0 earlier && is_value p.1) (may_follow (earlier ++ p ∷ []) ps) h in
    let good = and_parts (is_free_key p.0 earlier) (is_value p.1) parts.0 in
    let moved : Tail (earlier ++ p ∷ [] ++ ps) rest = subst (λ (l : List (List ℕ × List ℕ)). Tail l rest) (sym (append_assoc earlier (p ∷ []) ps)) t in
    let whole = value_into earlier p.0 (p.1 ++ 44 ∷ (front_text ps ++ rest)) good.0 (comma_into earlier p.0 p.1 (front_text ps ++ rest) good.1 (tail_into (earlier ++ p ∷ []) ps rest parts.1 moved)) in
    subst (Tail earlier) (regroup p.0 p.1 (front_text ps) rest) whole
  where
    regroup : (k v f r : List ℕ) → k ++ 61 ∷ (v ++ 44 ∷ (f ++ r)) ≡ k ++ 61 ∷ (v ++ 44 ∷ f) ++ r
    regroup k v f r = simp append_assoc

pub tail_back : (earlier ps : List (List ℕ × List ℕ)) (rest : List ℕ) → may_follow earlier ps ≡ true → Tail earlier (front_text ps ++ rest) → Tail (earlier ++ ps) rest
tail_back earlier [] rest h t = subst (λ (l : List (List ℕ × List ℕ)). Tail l rest) (sym (append-nil earlier)) t
tail_back earlier (p ∷ ps) rest h t =
    let parts = and_parts (is_free_key p.0 earlier && is_value p.1) (may_follow (earlier ++ p ∷ []) ps) h in
    let good = and_parts (is_free_key p.0 earlier) (is_value p.1) parts.0 in
    let half = and_parts (is_key p.0 && not (is_reserved p.0)) (not (has_key p.0 earlier)) good.0 in
    let two = and_parts (is_key p.0) (not (is_reserved p.0)) half.0 in
    let other : bytes_eq p.0 (codes "HMACSHA256") ≡ false = (or_parts (bytes_eq p.0 (codes "NONCE") || bytes_eq p.0 (codes "TOKENFORMAT") || bytes_eq p.0 (codes "TOKENLENGTH")) (bytes_eq p.0 (codes "HMACSHA256")) (not-true (is_reserved p.0) two.1)).1 in
    let whole : Tail earlier (p.0 ++ 61 ∷ (p.1 ++ 44 ∷ (front_text ps ++ rest))) = subst (Tail earlier) (sym (regroup p.0 p.1 (front_text ps) rest)) t in
    let after = comma_back earlier p.0 p.1 (front_text ps ++ rest) good.1 (value_back earlier p.0 (p.1 ++ 44 ∷ (front_text ps ++ rest)) two.0 other whole) in
    subst (λ (l : List (List ℕ × List ℕ)). Tail l rest) (append_assoc earlier (p ∷ []) ps) (tail_back (earlier ++ p ∷ []) ps rest parts.1 after)
  where
    regroup : (k v f r : List ℕ) → k ++ 61 ∷ (v ++ 44 ∷ (f ++ r)) ≡ k ++ 61 ∷ (v ++ 44 ∷ f) ++ r
    regroup k v f r = simp append_assoc

pub front_text-push : (ps : List (List ℕ × List ℕ)) (p : List ℕ × List ℕ) → front_text (ps ++ p ∷ []) ≡ front_text ps ++ (p.0 ++ 61 ∷ (p.1 ++ 44 ∷ []))
front_text-push [] p = refl
front_text-push (x ∷ ps) p = ap (λ (l : List ℕ). x.0 ++ 61 ∷ (x.1 ++ 44 ∷ l)) (front_text-push ps p) ∙ regroup x.0 x.1 (front_text ps) (p.0 ++ 61 ∷ (p.1 ++ 44 ∷ []))
  where
    regroup : (k v f r : List ℕ) → k ++ 61 ∷ (v ++ 44 ∷ (f ++ r)) ≡ k ++ 61 ∷ (v ++ 44 ∷ f) ++ r
    regroup k v f r = simp append_assoc

pub tail_text-front : (ps : List (List ℕ × List ℕ)) (mac : List ℕ) → tail_text ps mac ≡ front_text ps ++ (codes "HMACSHA256=" ++ encode_upper mac)
tail_text-front [] mac = refl
tail_text-front (x ∷ ps) mac = ap (λ (l : List ℕ). x.0 ++ 61 ∷ (x.1 ++ 44 ∷ l)) (tail_text-front ps mac) ∙ regroup x.0 x.1 (front_text ps) (codes "HMACSHA256=" ++ encode_upper mac)
  where
    regroup : (k v f r : List ℕ) → k ++ 61 ∷ (v ++ 44 ∷ (f ++ r)) ≡ k ++ 61 ∷ (v ++ 44 ∷ f) ++ r
    regroup k v f r = simp append_assoc
