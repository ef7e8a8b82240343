-- Where the front of a token is stuck: its nonce and its length field.
use Rattle.std.proofs.Common.{◌≡◌, ℕ, ◌+◌, ◌-◌, ◌*◌, ◌≤◌, ◌==◌, true, false, ◌&&◌, List, [], ◌∷◌, ◌++◌, length, refl, sym, ◌∙◌, ap, subst, arith, inl, inr}
use Rattle.std.specs.Prelude.{codes, nat_le, ◌⊎◌}
use Rattle.std.specs.List.{list_all}
use Rattle.std.proofs.lemmas.Bool.{and_parts, cases_Bool, eqb-false, leb-true}
use Rattle.xfs_token.specs.Token.{is_digit, is_nonce, is_upper_hex, four_digits}
use Rattle.xfs_token.specs.Reading.{Stops, IsStuck, WordThen, NonceThen, LengthThen}
use Rattle.xfs_token.proofs.Stuck.{both_ways, stuck_now, same_run, no_longer, no_stop}
use Rattle.xfs_token.proofs.Tails.{FirstFails, some_tail, ending}

pub some_length : LengthThen (four_digits 0 ++ 44 ∷ ending)
some_length = record { number = 0; rest = ending; small = omega arith; is = refl; then = some_tail [] }

some_format : WordThen (codes "TOKENFORMAT=1,TOKENLENGTH=") LengthThen (codes "TOKENFORMAT=1,TOKENLENGTH=" ++ (four_digits 0 ++ 44 ∷ ending))
some_format = record { rest = four_digits 0 ++ 44 ∷ ending; is = refl; then = some_length }

pub some_nonce : NonceThen (codes "0" ++ 44 ∷ (codes "TOKENFORMAT=1,TOKENLENGTH=" ++ (four_digits 0 ++ 44 ∷ ending)))
some_nonce = record { nonce = codes "0"; rest = codes "TOKENFORMAT=1,TOKENLENGTH=" ++ (four_digits 0 ++ 44 ∷ ending); good = refl; is = refl; then = some_format }

pub nonce_digits : (nonce : List ℕ) → is_nonce nonce ≡ true → list_all is_upper_hex nonce ≡ true
nonce_digits nonce h = (and_parts (nat_le 1 (length nonce) && nat_le (length nonce) 128) (list_all is_upper_hex nonce) h).1

pub nonce_most : (nonce : List ℕ) → is_nonce nonce ≡ true → length nonce ≤ 128
nonce_most nonce h = leb-true (length nonce) 128 (and_parts (nat_le 1 (length nonce)) (nat_le (length nonce) 128) (and_parts (nat_le 1 (length nonce) && nat_le (length nonce) 128) (list_all is_upper_hex nonce) h).0).1

-- behind a nonce and its comma
pub nonce_into : (nonce rest : List ℕ) → is_nonce nonce ≡ true → WordThen (codes "TOKENFORMAT=1,TOKENLENGTH=") LengthThen rest → NonceThen (nonce ++ 44 ∷ rest)
nonce_into nonce rest good m = record { nonce = nonce; rest = rest; good = good; is = refl; then = m }

pub nonce_back : (nonce rest : List ℕ) → is_nonce nonce ≡ true → NonceThen (nonce ++ 44 ∷ rest) → WordThen (codes "TOKENFORMAT=1,TOKENLENGTH=") LengthThen rest
nonce_back nonce rest good m =
    let r = same_run is_upper_hex nonce m.nonce rest m.rest 44 44 (nonce_digits nonce good) (nonce_digits m.nonce m.good) refl refl m.is in
    subst (WordThen (codes "TOKENFORMAT=1,TOKENLENGTH=") LengthThen) (sym r.2) m.then

-- without a digit the text is stuck at once
pub stuck_no_nonce : (text : List ℕ) → FirstFails is_upper_hex text → IsStuck NonceThen text (length text)
stuck_no_nonce text fails = stuck_now NonceThen text _ some_nonce (stops text fails)
  where
    none : (nonce rest more : List ℕ) (b : ℕ) → is_upper_hex b ≡ false → is_nonce nonce ≡ true → b ∷ more ≡ nonce ++ 44 ∷ rest → ⊥
    none [] rest more b f good e = both_ways true refl (sym good)
    none (x ∷ xs) rest more b f good e = let h : b ≡ x = cc in both_ways (is_upper_hex x) (and_parts (is_upper_hex x) (list_all is_upper_hex xs) (nonce_digits (x ∷ xs) good)).0 (sym (ap is_upper_hex h) ∙ f)

    stops : (text : List ℕ) → FirstFails is_upper_hex text → Stops NonceThen [] text
    stops [] f = λ v. no_stop is_upper_hex [] v.nonce v.rest 44 refl refl v.is
    stops (b ∷ bs) f = λ more v. none v.nonce v.rest more b f v.good v.is

-- a nonce that no comma follows is where the text is stuck: another digit follows only where there are 128
pub stuck_nonce : (nonce rest : List ℕ) → is_nonce nonce ≡ true → (length nonce ≡ 128) ⊎ FirstFails is_upper_hex rest → FirstFails (λ b. b == 44) rest → IsStuck NonceThen (nonce ++ rest) (length rest)
stuck_nonce nonce rest good full comma = record {
  good = nonce;
  bad = rest;
  cut = refl;
  left_is = refl;
  more = 44 ∷ _;
  begins = nonce_into nonce _ good some_format;
  stops = stops rest full comma;
}
  where
    stop : (b : ℕ) (more : List ℕ) → (length nonce ≡ 128) ⊎ (is_upper_hex b ≡ false) → (b == 44) ≡ false → (v : NonceThen (nonce ++ b ∷ more)) → (is_upper_hex b ≡ true) ⊎ (is_upper_hex b ≡ false) → ⊥
    stop b more full k v (inr f) = eqb-false b 44 k (same_run is_upper_hex nonce v.nonce more v.rest b 44 (nonce_digits nonce good) (nonce_digits v.nonce v.good) f refl v.is).1
    stop b more (inl long) k v (inl t) = no_longer is_upper_hex nonce v.nonce more v.rest b 44 (nonce_digits nonce good) t refl (let h = nonce_most v.nonce v.good in omega arith) v.is
    stop b more (inr f) k v (inl t) = both_ways (is_upper_hex b) t f

    stops : (rest : List ℕ) → (length nonce ≡ 128) ⊎ FirstFails is_upper_hex rest → FirstFails (λ b. b == 44) rest → Stops NonceThen nonce rest
    stops [] f k = λ v. no_stop is_upper_hex nonce v.nonce v.rest 44 (nonce_digits nonce good) refl v.is
    stops (b ∷ bs) f k = λ more v. stop b more f k v (cases_Bool (is_upper_hex b))

-- four digits, one after the other
record IsNumber (a b d e : ℕ) : Type 0 where
  number : ℕ
  small : number ≤ 9999
  is : a ∷ b ∷ d ∷ e ∷ [] ≡ four_digits number

digit_between : (b : ℕ) → is_digit b ≡ true → (48 ≤ b) × (b ≤ 57)
digit_between b h = let parts = and_parts (nat_le 48 b) (nat_le b 57) h in (leb-true 48 b parts.0, leb-true b 57 parts.1)

-- the number of four digits
abbrev pub number_from : ℕ → ℕ → ℕ → ℕ → ℕ
number_from a b d e = 1000 * (a - 48) + 100 * (b - 48) + 10 * (d - 48) + (e - 48)

pub number_of_digits : (a b d e : ℕ) → is_digit a ≡ true → is_digit b ≡ true → is_digit d ≡ true → is_digit e ≡ true → (number_from a b d e ≤ 9999) × (a ∷ b ∷ d ∷ e ∷ [] ≡ four_digits (number_from a b d e))
number_of_digits a b d e ha hb hd he =
    let x = digit_between a ha in let y = digit_between b hb in let z = digit_between d hd in let w = digit_between e he in
    let n : ℕ = number_from a b d e in
    (omega (arith, x, y, z, w), four a b d e _ _ _ _ (omega (arith, x, y, z, w)) (omega (arith, x, y, z, w)) (omega (arith, x, y, z, w)) (omega (arith, x, y, z, w)))
  where
    four : (a b d e a' b' d' e' : ℕ) → a ≡ a' → b ≡ b' → d ≡ d' → e ≡ e' → a ∷ b ∷ d ∷ e ∷ [] ≡ a' ∷ b' ∷ d' ∷ e' ∷ []
    four a b d e a' b' d' e' p q r s = cc
