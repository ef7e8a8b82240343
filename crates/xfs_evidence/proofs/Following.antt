-- The pairs of an evidence are pairs of a token, and they are short.
use Rattle.std.proofs.Common.{◌≡◌, ℕ, ◌+◌, ◌*◌, ◌/◌, ◌%◌, ◌<◌, ◌≤◌, ◌^◌, ◌==◌, Bool, true, false, not, ◌&&◌, ◌||◌, List, [], ◌∷◌, ◌++◌, length, map, refl, ◌∙◌, ap, arith, length-append}
use Rattle.std.specs.Prelude.{codes, decimal, nat_le}
use Rattle.std.specs.List.{list_all}
use Rattle.std.specs.Str.{bytes_eq}
use Rattle.std.proofs.lemmas.Bool.{and_parts, and_from, le-leb, lt-leb, leb-true, eqb-true, ne_eqb}
use Rattle.std.proofs.lemmas.List.Folds.{list_any-append, list_all-append}
use Rattle.std.proofs.lemmas.Fmt.{decimal_by_steps, length-decimal-le}
use Rattle.xfs_token.specs.Token.{has_key, is_free_key, is_key, is_reserved, is_key_byte, is_digit, is_letter, is_value_byte, is_value, may_follow, pairs_text}
use Rattle.xfs_token.specs.Amounts.{is_currency, is_payable}
use Rattle.xfs_evidence.specs.Told.{presented_key, presented_pairs, told_pairs, told_text}

-- the digits of a number are a value
record IsValued (n : ℕ) (ds : List ℕ) : Type 0 where
  bytes : list_all is_value_byte ds ≡ true
  some : 1 ≤ length ds

digit-value : (m : ℕ) → m < 10 → is_value_byte (48 + m) ≡ true
digit-value m small = and_from _ _ (and_from _ _ (and_from _ _ (le-leb 33 (48 + m) (omega arith)) (le-leb (48 + m) 126 (omega arith))) (ap not (ne_eqb (48 + m) 44 (λ e. absurd (omega arith))))) (ap not (ne_eqb (48 + m) 61 (λ e. absurd (omega arith))))

valued : (n : ℕ) → n < 2 ^ 64 → IsValued n (decimal n)
valued n h = decimal_by_steps IsValued
    (λ m lt. record { bytes = and_from _ _ (digit-value m lt) refl; some = omega arith })
    (λ m ds big w. record {
      bytes = list_all-append is_value_byte ds ((48 + m % 10) ∷ []) ∙ and_from _ _ w.bytes (and_from _ _ (digit-value (m % 10) (omega arith)) refl);
      some = (let l = length-append ds ((48 + m % 10) ∷ []) in omega (arith, l));
    }) n h

number-value : (n : ℕ) → n < 2 ^ 64 → is_value (decimal n) ≡ true
number-value n h = let w = valued n h in and_from _ _ (le-leb 1 (length (decimal n)) w.some) w.bytes

letters-value : (c : List ℕ) → list_all is_letter c ≡ true → list_all is_value_byte c ≡ true
letters-value [] h = refl
letters-value (b ∷ bs) h = let parts = and_parts (is_letter b) (list_all is_letter bs) h in and_from (is_value_byte b) (list_all is_value_byte bs) (one b parts.0) (letters-value bs parts.1)
  where
    one : (b : ℕ) → is_letter b ≡ true → is_value_byte b ≡ true
    one b h = grind arith

letters-are : (c : List ℕ) → is_currency c ≡ true → (length c ≡ 3) × (list_all is_letter c ≡ true)
letters-are c h = let parts = and_parts (length c == 3) (list_all is_letter c) h in (eqb-true (length c) 3 parts.0, parts.1)

-- so is the text of an amount
text-value : (c : List ℕ) (n : ℕ) → is_currency c ≡ true → n ≤ 999999999999 → is_value (told_text (c, n)) ≡ true
text-value c n letters small =
    let digits : List ℕ = decimal (n / 1000) in
    let part : List ℕ = 46 ∷ (48 + n / 100 % 10) ∷ (48 + n / 10 % 10) ∷ [] in
    let w = valued (n / 1000) (omega arith) in
    let l = length-append (digits ++ part) c in
    let m = length-append digits part in
    let decimals : list_all is_value_byte part ≡ true = and_from _ _ refl (and_from _ _ (digit-value (n / 100 % 10) (omega arith)) (and_from _ _ (digit-value (n / 10 % 10) (omega arith)) refl)) in
    let front : list_all is_value_byte (digits ++ part) ≡ true = list_all-append is_value_byte digits part ∙ and_from _ _ w.bytes decimals in
    and_from _ _ (le-leb 1 (length (told_text (c, n))) (omega (arith, l, m))) (list_all-append is_value_byte (digits ++ part) c ∙ and_from _ _ front (letters-value c (letters-are c letters).1))

-- no key of these pairs is that of an amount from the number n on
abbrev AreBelow : ℕ → List (List ℕ × List ℕ) → Type 0
AreBelow n pairs = (k : ℕ) → n ≤ k → has_key (presented_key k) pairs ≡ false

other-key : (n k : ℕ) → n < k → bytes_eq (presented_key n) (presented_key k) ≡ false
other-key n k lt = let e : (48 + n == 48 + k) ≡ false = ne_eqb (48 + n) (48 + k) (λ e. absurd (omega arith)) in rw e refl

below-push : (n : ℕ) (pairs : List (List ℕ × List ℕ)) (value : List ℕ) → AreBelow n pairs → AreBelow (n + 1) (pairs ++ (presented_key n, value) ∷ [])
below-push n pairs value h k le =
    list_any-append (λ (p : List ℕ × List ℕ). bytes_eq p.0 (presented_key k)) pairs ((presented_key n, value) ∷ [])
    ∙ (let old = h k (omega arith) in let new = other-key n k (omega arith) in rw (old, new) refl)

free-key : (n : ℕ) (pairs : List (List ℕ × List ℕ)) → n ≤ 9 → AreBelow n pairs → is_free_key (presented_key n) pairs ≡ true
free-key n pairs le below =
    let letter : is_letter (48 + n) ≡ false = ap (λ (b : Bool). b && nat_le (48 + n) 90) (lt-leb 65 (48 + n) (omega arith)) in
    let digit : is_digit (48 + n) ≡ true = and_from _ _ (le-leb 48 (48 + n) (omega arith)) (le-leb (48 + n) 57 (omega arith)) in
    let last : is_key_byte (48 + n) ≡ true = ap (λ (b : Bool). b || is_digit (48 + n)) letter ∙ digit in
    let key : is_key (presented_key n) ≡ true = ap (λ (b : Bool). b && true) last in
    and_from (is_key (presented_key n) && not (is_reserved (presented_key n))) (not (has_key (presented_key n) pairs)) (and_from (is_key (presented_key n)) (not (is_reserved (presented_key n))) key refl) (ap not (below n (omega arith)))

follow-amounts : (n : ℕ) (earlier : List (List ℕ × List ℕ)) (amounts : List (List ℕ × ℕ)) → AreBelow n earlier → n + length amounts ≤ 10 → list_all (λ a. is_payable a.0 a.1) amounts ≡ true → may_follow earlier (presented_pairs n (map told_text amounts)) ≡ true
follow-amounts n earlier [] below few pay = refl
follow-amounts n earlier (a ∷ rest) below few pay =
    let parts = and_parts (is_payable a.0 a.1) (list_all (λ (a : List ℕ × ℕ). is_payable a.0 a.1) rest) pay in
    let both = and_parts (is_currency a.0) (nat_le a.1 999999999999) parts.0 in
    let text = told_text a in
    and_from (is_free_key (presented_key n) earlier && is_value text) (may_follow (earlier ++ (presented_key n, text) ∷ []) (presented_pairs (n + 1) (map told_text rest)))
    (and_from (is_free_key (presented_key n) earlier) (is_value text) (free-key n earlier (omega arith) below) (text-value a.0 a.1 both.0 (leb-true a.1 999999999999 both.1)))
    (follow-amounts (n + 1) (earlier ++ (presented_key n, text) ∷ []) rest (below-push n earlier text below) (omega arith) parts.1)

-- the pairs of an evidence are of the grammar
pub follow-told : (issue : ℕ) (amounts : List (List ℕ × ℕ)) → issue < 2 ^ 64 → length amounts ≤ 8 → list_all (λ a. is_payable a.0 a.1) amounts ≡ true → may_follow [] (told_pairs issue amounts) ≡ true
follow-told issue amounts small few pay =
    let first : is_free_key (codes "ISSUE") [] ≡ true = refl in
    and_from (is_free_key (codes "ISSUE") [] && is_value (decimal issue)) (may_follow ((codes "ISSUE", decimal issue) ∷ []) (presented_pairs 1 (map told_text amounts)))
    (and_from (is_free_key (codes "ISSUE") []) (is_value (decimal issue)) first (number-value issue small))
    (follow-amounts 1 ((codes "ISSUE", decimal issue) ∷ []) amounts (λ k le. refl) (omega (arith, few)) pay)

length-amounts : (n : ℕ) (amounts : List (List ℕ × ℕ)) → list_all (λ a. is_payable a.0 a.1) amounts ≡ true → length (pairs_text (presented_pairs n (map told_text amounts))) ≤ 27 * length amounts
length-amounts n [] pay = omega arith
length-amounts n (a ∷ rest) pay =
    let parts = and_parts (is_payable a.0 a.1) (list_all (λ (a : List ℕ × ℕ). is_payable a.0 a.1) rest) pay in
    let both = and_parts (is_currency a.0) (nat_le a.1 999999999999) parts.0 in
    let small = leb-true a.1 999999999999 both.1 in
    let three = (letters-are a.0 both.0).0 in
    let nine = length-decimal-le 9 (a.1 / 1000) (omega arith) (omega arith) (omega arith) in
    let part : List ℕ = 46 ∷ (48 + a.1 / 100 % 10) ∷ (48 + a.1 / 10 % 10) ∷ [] in
    let l = length-append (told_text a) (pairs_text (presented_pairs (n + 1) (map told_text rest))) in
    let m = length-append (decimal (a.1 / 1000) ++ part) a.0 in
    let k = length-append (decimal (a.1 / 1000)) part in
    let ih = length-amounts (n + 1) rest parts.1 in
    omega (arith, l, m, k, ih, nine, three)

-- and at most 256 bytes
pub length-told : (issue : ℕ) (amounts : List (List ℕ × ℕ)) → issue < 2 ^ 64 → length amounts ≤ 8 → list_all (λ a. is_payable a.0 a.1) amounts ≡ true → length (pairs_text (told_pairs issue amounts)) ≤ 256
length-told issue amounts small few pay =
    let twenty = length-decimal-le 20 issue (omega arith) (omega arith) small in
    let l = length-append (decimal issue) (pairs_text (presented_pairs 1 (map told_text amounts))) in
    let rest = length-amounts 1 amounts pay in
    omega (arith, twenty, l, rest, few)
