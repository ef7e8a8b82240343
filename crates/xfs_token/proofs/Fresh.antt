-- A key of fewer than 32 bytes can be made longer to one that is free, since a token of 1,024 bytes has no room for 36 keys of 32 bytes.
use Rattle.std.proofs.Common.{◌≡◌, ℕ, zero, suc, ◌+◌, ◌-◌, ◌*◌, ◌<◌, ◌≤◌, ◌==◌, Bool, true, false, not, ◌||◌, List, [], ◌∷◌, ◌++◌, length, replicate, refl, sym, ◌∙◌, ap, subst, arith, length-append, append_assoc, inl, inr}
use Rattle.std.specs.Prelude.{codes, nat_le, slice_index, if◌then◌else◌}
use Rattle.std.specs.List.{list_all}
use Rattle.std.specs.Str.{bytes_eq}
use Rattle.std.proofs.lemmas.Bool.{and_from, cases_Bool, cases_lt, le-leb, lt-leb, eqb-true, eqb-false}
use Rattle.std.proofs.lemmas.List.{append-nil}
use Rattle.std.proofs.lemmas.List.Folds.{list_all-append}
use Rattle.std.proofs.lemmas.Slice.Eq.{bytes_eq-Decides}
use Rattle.xfs_token.specs.Token.{is_key, is_key_byte, is_letter, is_free_key, is_reserved, has_key, pairs_text}
use Rattle.xfs_token.proofs.HexText.{below-at}
use Rattle.xfs_token.proofs.Keys.{Frees}

-- at how many numbers below n the test passes
abbrev count : (ℕ → Bool) → ℕ → ℕ
count f zero = 0
count f (suc n) = (if f n then 1 else 0) + count f n

count_or : (f g : ℕ → Bool) (n : ℕ) → count (λ m. f m || g m) n ≤ count f n + count g n
count_or f g zero = omega arith
count_or f g (suc n) = let ih = count_or f g n in let k = either (f n) (g n) in omega (arith, ih, k)
  where
    either : (x y : Bool) → (if x || y then 1 else 0) ≤ (if x then 1 else 0) + (if y then 1 else 0)
    either true y = omega arith
    either false true = omega arith
    either false false = omega arith

count_none : (f : ℕ → Bool) (n : ℕ) → ((m : ℕ) → m < n → f m ≡ true → ⊥) → count f n ≡ 0
count_none f zero h = refl
count_none f (suc n) h = let ih = count_none f n (λ m lt. h m (omega arith)) in elim (cases_Bool (f n)) [ inl t ↦ absurd (h n (omega arith) t) | inr fa ↦ rw fa (omega (arith, ih)) ]

-- a test that passes at most once
count_once : (f : ℕ → Bool) (n : ℕ) → ((m k : ℕ) → m < k → f m ≡ true → f k ≡ true → ⊥) → count f n ≤ 1
count_once f zero h = omega arith
count_once f (suc n) h = elim (cases_Bool (f n)) [
  | inl t ↦ (let none = count_none f n (λ m lt s. h m n lt s t) in rw t (omega (arith, none)))
  | inr fa ↦ (let ih = count_once f n h in rw fa (omega (arith, ih)))
]

record Missing (f : ℕ → Bool) (n : ℕ) : Type 0 where
  at : ℕ
  below : at < n
  fails : f at ≡ false

missing : (f : ℕ → Bool) (n : ℕ) → count f n < n → Missing f n
missing f zero h = absurd (omega arith)
missing f (suc n) h = elim (cases_Bool (f n)) [
  | inl t ↦ (let r = missing f n (let k = rw t at h in omega arith) in record { at = r.at; below = (let b = r.below in omega arith); fails = r.fails })
  | inr fa ↦ record { at = n; below = omega arith; fails = fa }
]

-- the 36 bytes that may end a key
abbrev last_byte : ℕ → ℕ
last_byte m = if nat_le m 9 then 48 + m else 55 + m

last_other : (m k : ℕ) → m < k → last_byte m ≡ last_byte k → ⊥
last_other m k lt e = elim (cases_lt m 10) [
  | inl a ↦ elim (cases_lt k 10) [
    | inl b ↦ (let x = le-leb m 9 (omega arith) in let y = le-leb k 9 (omega arith) in let h = rw (x, y) at e in absurd (omega arith))
    | inr b ↦ (let x = le-leb m 9 (omega arith) in let y = lt-leb k 9 (omega arith) in let h = rw (x, y) at e in absurd (omega arith))
  ]
  | inr a ↦ (let x = lt-leb m 9 (omega arith) in let y = lt-leb k 9 (omega arith) in let h = rw (x, y) at e in absurd (omega arith))
]

last_key_byte : (m : ℕ) → m < 36 → is_key_byte (last_byte m) ≡ true
last_key_byte m lt = below-at (λ (m : ℕ). is_key_byte (last_byte m)) 36 m refl lt

ended : List ℕ → ℕ → List ℕ
ended base m = base ++ last_byte m ∷ []

same_end : (base : List ℕ) (a b : ℕ) → base ++ a ∷ [] ≡ base ++ b ∷ [] → a ≡ b
same_end [] a b e = cc
same_end (x ∷ xs) a b e = let t : xs ++ a ∷ [] ≡ xs ++ b ∷ [] = cc in same_end xs a b t

length-ended : (base : List ℕ) (m : ℕ) → length (ended base m) ≡ length base + 1
unfolding ended
length-ended base m = length-append base (last_byte m ∷ [])

-- one key is at most one of these
one_key : (base key : List ℕ) (n : ℕ) → length base ≡ 31 → 34 * count (λ m. bytes_eq key (ended base m)) n ≤ length key + 2
unfolding ended
one_key base key n long = elim (cases_Bool (length key == 32)) [
  | inl same ↦ (
      let e : length key ≡ 32 = eqb-true (length key) 32 same in
      let once = count_once (λ m. bytes_eq key (ended base m)) n (λ m k lt x y. last_other m k lt (same_end base (last_byte m) (last_byte k) (sym ((bytes_eq-Decides key (ended base m)).0 x) ∙ (bytes_eq-Decides key (ended base k)).0 y))) in
      omega (arith, once, e))
  | inr other ↦ (
      let none = count_none (λ m. bytes_eq key (ended base m)) n (λ m lt x. eqb-false (length key) 32 other (ap length ((bytes_eq-Decides key (ended base m)).0 x) ∙ length-ended base m ∙ (omega (arith, long)))) in
      omega (arith, none))
]

-- each of these keys that is there takes its room
room : (base : List ℕ) (ps : List (List ℕ × List ℕ)) (n : ℕ) → length base ≡ 31 → 34 * count (λ m. has_key (ended base m) ps) n ≤ length (pairs_text ps)
room base [] n long = let none = count_none (λ m. has_key (ended base m) []) n (λ m lt x. absurd (cc)) in omega (arith, none)
room base (p ∷ ps) n long =
    let ih = room base ps n long in
    let one = one_key base p.0 n long in
    let both = count_or (λ m. bytes_eq p.0 (ended base m)) (λ m. has_key (ended base m) ps) n in
    let a = length-append (codes "," ++ p.0 ++ codes "=" ++ p.1) (pairs_text ps) in
    let b = length-append (codes "," ++ p.0 ++ codes "=") p.1 in
    let d = length-append (codes "," ++ p.0) (codes "=") in
    let e = length-append (codes ",") p.0 in
    omega (arith, ih, one, both, a, b, d, e)

pub longer_no_reserved : (key : List ℕ) → length key ≡ 32 → is_reserved key ≡ false
longer_no_reserved key long = or_from (or_from (or_from (other (codes "NONCE") (omega arith)) (other (codes "TOKENFORMAT") (omega arith))) (other (codes "TOKENLENGTH") (omega arith))) (other (codes "HMACSHA256") (omega arith))
  where
    or_from : {x y : Bool} → x ≡ false → y ≡ false → (x || y) ≡ false
    or_from {x} {y} a b = ap (λ (z : Bool). z || y) a ∙ b

    other : (word : List ℕ) → length word < 32 → bytes_eq key word ≡ false
    other word lt = elim (cases_Bool (bytes_eq key word)) [
      | inl same ↦ (let e = ap length ((bytes_eq-Decides key word).0 same) in absurd (omega (arith, e, long)))
      | inr differs ↦ differs
    ]

first_kept : (key more : List ℕ) → 1 ≤ length key → slice_index (key ++ more) 0 ≡ slice_index key 0
first_kept [] more h = absurd (omega arith)
first_kept (x ∷ xs) more h = refl

-- a key of 31 bytes has a free end
free_end : (earlier : List (List ℕ × List ℕ)) (base : List ℕ) → length base ≡ 31 → is_letter (slice_index base 0) ≡ true → list_all is_key_byte base ≡ true → length (pairs_text earlier) ≤ 1024 → (m : ℕ) × (is_free_key (base ++ last_byte m ∷ []) earlier ≡ true)
unfolding ended
free_end earlier base long first bytes few =
    let r = room base earlier 36 long in
    let x = missing (λ m. has_key (ended base m) earlier) 36 (omega (arith, r)) in
    let key : List ℕ = base ++ last_byte x.at ∷ [] in
    let len : length (base ++ last_byte x.at ∷ []) ≡ 32 = (let l = length-append base (last_byte x.at ∷ []) in omega (arith, l)) in
    let all = list_all-append is_key_byte base (last_byte x.at ∷ []) ∙ and_from _ _ bytes (and_from _ _ (last_key_byte x.at x.below) refl) in
    let letter : is_letter (slice_index (base ++ last_byte x.at ∷ []) 0) ≡ true = ap is_letter (first_kept base (last_byte x.at ∷ []) (omega arith)) ∙ first in
    let good : is_key (base ++ last_byte x.at ∷ []) ≡ true = and_from _ _ (and_from _ _ (and_from _ _ (le-leb 1 (length (base ++ last_byte x.at ∷ [])) (omega arith)) (le-leb (length (base ++ last_byte x.at ∷ [])) 32 (omega arith))) letter) all in
    (x.at, and_from _ _ (and_from _ _ good (ap not (longer_no_reserved (base ++ last_byte x.at ∷ []) len))) (ap not x.fails))

length-pad : (n : ℕ) → length {A = ℕ} (replicate n 65) ≡ n
length-pad zero = refl
length-pad (suc n) = ap suc (length-pad n)

all-pad : (n : ℕ) → list_all is_key_byte (replicate n 65) ≡ true
all-pad zero = refl
all-pad (suc n) = all-pad n

-- a shorter key has a free end
pub frees_short : (earlier : List (List ℕ × List ℕ)) (key : List ℕ) → 1 ≤ length key → length key ≤ 31 → is_letter (slice_index key 0) ≡ true → list_all is_key_byte key ≡ true → length (pairs_text earlier) ≤ 1024 → Frees earlier key
frees_short earlier key low high first bytes few =
    let pad : List ℕ = replicate (31 - length key) 65 in
    let l = length-append key pad in
    let k = length-pad (31 - length key) in
    let all = list_all-append is_key_byte key pad ∙ and_from _ _ bytes (all-pad (31 - length key)) in
    let x = free_end earlier (key ++ pad) (omega (arith, l, k)) (ap is_letter (first_kept key pad low) ∙ first) all few in
    record { end = pad ++ last_byte x.0 ∷ []; free = subst (λ (w : List ℕ). is_free_key w earlier ≡ true) (append_assoc key pad (last_byte x.0 ∷ [])) x.1 }

pub frees_free : (earlier : List (List ℕ × List ℕ)) (key : List ℕ) → is_free_key key earlier ≡ true → Frees earlier key
frees_free earlier key free = record { end = []; free = subst (λ (w : List ℕ). is_free_key w earlier ≡ true) (sym (append-nil key)) free }
