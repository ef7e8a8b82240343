-- Where a key is stuck: a key that may not stand there can mostly be made longer to one that may.
use Rattle.std.proofs.Common.{◌≡◌, ℕ, ◌≤◌, ◌==◌, true, false, not, ◌&&◌, List, [], ◌∷◌, ◌++◌, length, refl, sym, ◌∙◌, ap, subst, arith, length-append, append_assoc, inl, inr}
use Rattle.std.specs.Prelude.{codes, nat_le, ◌⊎◌, slice_index}
use Rattle.std.specs.List.{list_all}
use Rattle.std.specs.Str.{bytes_eq}
use Rattle.std.proofs.lemmas.Bool.{and_parts, cases_Bool, eqb-false, leb-true, not-true}
use Rattle.std.proofs.lemmas.List.{append-nil}
use Rattle.std.proofs.lemmas.Slice.Eq.{bytes_eq-Decides}
use Rattle.xfs_token.specs.Token.{is_key, is_key_byte, is_letter, is_free_key, is_reserved, has_key}
use Rattle.xfs_token.specs.Reading.{Stops, IsStuck, Tail}
use Rattle.xfs_token.proofs.Stuck.{both_ways, stuck_now, same_run, no_longer, no_stop}
use Rattle.xfs_token.proofs.Tails.{FirstFails, KeyFront, key_front, key_is_free, value_into, comma_into, some_tail, ending, key_bytes}

-- the parts of a key of the grammar
record KeyParts (key : List ℕ) : Type 0 where
  low : 1 ≤ length key
  high : length key ≤ 32
  first : is_letter (slice_index key 0) ≡ true
  bytes : list_all is_key_byte key ≡ true

key_parts : (key : List ℕ) → is_key key ≡ true → KeyParts key
key_parts key h =
    let a = and_parts (nat_le 1 (length key) && nat_le (length key) 32 && is_letter (slice_index key 0)) (list_all is_key_byte key) h in
    let b = and_parts (nat_le 1 (length key) && nat_le (length key) 32) (is_letter (slice_index key 0)) a.0 in
    let d = and_parts (nat_le 1 (length key)) (nat_le (length key) 32) b.0 in
    record { low = leb-true 1 (length key) d.0; high = leb-true (length key) 32 d.1; first = b.1; bytes = a.1 }

-- some end of a key makes it free
pub record Frees (earlier : List (List ℕ × List ℕ)) (key : List ℕ) : Type 0 where
  pub end : List ℕ
  pub free : is_free_key (key ++ end) earlier ≡ true

-- a tail begins with a front of a key that can be made free
pub frees_tail : (earlier : List (List ℕ × List ℕ)) (key : List ℕ) → (f : Frees earlier key) → Tail earlier (key ++ (f.end ++ (61 ∷ (codes "A" ++ 44 ∷ ending))))
frees_tail earlier key f =
    subst (Tail earlier) (append_assoc key f.end (61 ∷ (codes "A" ++ 44 ∷ ending)))
    (value_into earlier (key ++ f.end) (codes "A" ++ 44 ∷ ending) f.free (comma_into earlier (key ++ f.end) (codes "A") ending refl (some_tail (earlier ++ (key ++ f.end, codes "A") ∷ []))))

-- without a letter the text is stuck behind the comma
pub stuck_no_key : (earlier : List (List ℕ × List ℕ)) (text : List ℕ) → FirstFails is_letter text → IsStuck (Tail earlier) text (length text)
stuck_no_key earlier text fails = stuck_now (Tail earlier) text ending (some_tail earlier) (stops text fails)
  where
    none : (key rest more : List ℕ) (b : ℕ) → is_letter b ≡ false → is_key key ≡ true → b ∷ more ≡ key ++ 61 ∷ rest → ⊥
    none [] rest more b f good e = both_ways true refl (sym good)
    none (x ∷ xs) rest more b f good e = let h : b ≡ x = cc in both_ways (is_letter x) (key_parts (x ∷ xs) good).first (sym (ap is_letter h) ∙ f)

    stops : (text : List ℕ) → FirstFails is_letter text → Stops (Tail earlier) [] text
    stops [] f = λ t. let k = key_front earlier [] t in no_stop is_key_byte [] k.key k.rest 61 refl refl k.is
    stops (b ∷ bs) f = λ more t. let k = key_front earlier (b ∷ more) t in none k.key k.rest more b f k.good k.is

-- a key that no equals sign follows is where the text is stuck: another byte of a key follows only where there are 32
pub stuck_key : (earlier : List (List ℕ × List ℕ)) (key rest : List ℕ) → is_key key ≡ true → Frees earlier key → (length key ≡ 32) ⊎ FirstFails is_key_byte rest → FirstFails (λ b. b == 61) rest → IsStuck (Tail earlier) (key ++ rest) (length rest)
stuck_key earlier key rest good f full equals = record {
  good = key;
  bad = rest;
  cut = refl;
  left_is = refl;
  more = f.end ++ (61 ∷ (codes "A" ++ 44 ∷ ending));
  begins = frees_tail earlier key f;
  stops = stops rest full equals;
}
  where
    stop : (b : ℕ) (more : List ℕ) → (length key ≡ 32) ⊎ (is_key_byte b ≡ false) → (b == 61) ≡ false → (k : KeyFront earlier (key ++ b ∷ more)) → (is_key_byte b ≡ true) ⊎ (is_key_byte b ≡ false) → ⊥
    stop b more full e k (inr f) = eqb-false b 61 e (same_run is_key_byte key k.key more k.rest b 61 (key_bytes key good) (key_bytes k.key k.good) f refl k.is).1
    stop b more (inl long) e k (inl t) = no_longer is_key_byte key k.key more k.rest b 61 (key_bytes key good) t refl (let h = (key_parts k.key k.good).high in omega arith) k.is
    stop b more (inr f) e k (inl t) = both_ways (is_key_byte b) t f

    stops : (rest : List ℕ) → (length key ≡ 32) ⊎ FirstFails is_key_byte rest → FirstFails (λ b. b == 61) rest → Stops (Tail earlier) key rest
    stops [] full e = λ t. let k = key_front earlier key t in no_stop is_key_byte key k.key k.rest 61 (key_bytes key good) refl k.is
    stops (b ∷ bs) full e = λ more t. stop b more full e (key_front earlier (key ++ b ∷ more) t) (cases_Bool (is_key_byte b))

-- a key that is reserved or there already is stuck at its equals sign
pub stuck_taken : (earlier : List (List ℕ × List ℕ)) (key rest : List ℕ) → is_key key ≡ true → bytes_eq key (codes "HMACSHA256") ≡ false → is_free_key key earlier ≡ false → Frees earlier key → IsStuck (Tail earlier) (key ++ 61 ∷ rest) (length (61 ∷ rest))
stuck_taken earlier key rest good other taken f = record {
  good = key;
  bad = 61 ∷ rest;
  cut = refl;
  left_is = refl;
  more = f.end ++ (61 ∷ (codes "A" ++ 44 ∷ ending));
  begins = frees_tail earlier key f;
  stops = λ more t. both_ways (is_free_key key earlier) (key_is_free earlier key more good other t) taken;
}

-- a key of 32 bytes that is there already is stuck at its last byte
pub stuck_last : (earlier : List (List ℕ × List ℕ)) (key rest : List ℕ) (b : ℕ) → is_key (key ++ b ∷ []) ≡ true → length key ≡ 31 → has_key (key ++ b ∷ []) earlier ≡ true → Frees earlier key → IsStuck (Tail earlier) (key ++ b ∷ rest) (length (b ∷ rest))
stuck_last earlier key rest b good long taken f = record {
  good = key;
  bad = b ∷ rest;
  cut = refl;
  left_is = refl;
  more = f.end ++ (61 ∷ (codes "A" ++ 44 ∷ ending));
  begins = frees_tail earlier key f;
  stops = λ more t. none more (subst (Tail earlier) (sym (append_assoc key (b ∷ []) more)) t);
}
  where
    whole : List ℕ
    whole = key ++ b ∷ []

    len : length (key ++ b ∷ []) ≡ 32
    len = let l = length-append key (b ∷ []) in omega (arith, l)

    other : bytes_eq (key ++ b ∷ []) (codes "HMACSHA256") ≡ false
    other = elim (cases_Bool (bytes_eq (key ++ b ∷ []) (codes "HMACSHA256"))) [
      | inl same ↦ (let e = ap length ((bytes_eq-Decides (key ++ b ∷ []) (codes "HMACSHA256")).0 same) in absurd (omega (arith, e, len)))
      | inr no_same ↦ no_same
    ]

    no_free : is_free_key (key ++ b ∷ []) earlier ≡ true → ⊥
    no_free h = both_ways (has_key (key ++ b ∷ []) earlier) taken (not-true (has_key (key ++ b ∷ []) earlier) (and_parts (is_key (key ++ b ∷ []) && not (is_reserved (key ++ b ∷ []))) (not (has_key (key ++ b ∷ []) earlier)) h).1)

    next : (d : ℕ) (more : List ℕ) → Tail earlier (key ++ b ∷ [] ++ d ∷ more) → (k : KeyFront earlier (key ++ b ∷ [] ++ d ∷ more)) → (is_key_byte d ≡ true) ⊎ (is_key_byte d ≡ false) → ⊥
    next d more t k (inl key_byte) = no_longer is_key_byte (key ++ b ∷ []) k.key more k.rest d 61 (key_bytes (key ++ b ∷ []) good) key_byte refl (let h = (key_parts k.key k.good).high in omega (arith, len)) k.is
    next d more t k (inr stop) =
        let r = same_run is_key_byte (key ++ b ∷ []) k.key more k.rest d 61 (key_bytes (key ++ b ∷ []) good) (key_bytes k.key k.good) stop refl k.is in
        no_free (key_is_free earlier (key ++ b ∷ []) more good other (subst (λ (x : ℕ). Tail earlier (key ++ b ∷ [] ++ x ∷ more)) r.1 t))

    none : (more : List ℕ) → Tail earlier (key ++ b ∷ [] ++ more) → ⊥
    none [] t = let k = key_front earlier (key ++ b ∷ [] ++ []) t in no_stop is_key_byte (key ++ b ∷ []) k.key k.rest 61 (key_bytes (key ++ b ∷ []) good) refl (sym (append-nil (key ++ b ∷ [])) ∙ k.is)
    none (d ∷ more) t = next d more t (key_front earlier (key ++ b ∷ [] ++ d ∷ more) t) (cases_Bool (is_key_byte d))
