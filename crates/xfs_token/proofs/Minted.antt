-- The pairs of amounts are pairs of a token, and give the amounts back.
use Rattle.std.proofs.Common.{◌≡◌, ℕ, zero, suc, ◌+◌, ◌*◌, ◌/◌, ◌%◌, ◌<◌, ◌≤◌, ◌==◌, Bool, true, false, not, ◌&&◌, ◌||◌, List, [], ◌∷◌, ◌++◌, length, map, refl, sym, ◌∙◌, ap, arith, length-append, append_assoc, inl, inr}
use Rattle.std.specs.Prelude.{decimal, Some, None, find, is_some, nat_le, ◌⊎◌}
use Rattle.std.specs.Option.{option_map}
use Rattle.std.specs.declared.option.Option.{Option}
use Rattle.std.specs.List.{list_all, list_any}
use Rattle.std.specs.Str.{bytes_eq}
use Rattle.std.proofs.lemmas.Bool.{and_parts, and_from, le-leb, lt-leb, leb-true, eqb-true, ne_eqb, eq-eqb, or_parts, cases_Bool}
use Rattle.std.proofs.lemmas.List.Folds.{find-append, list_any-append, list_all-append}
use Rattle.std.proofs.lemmas.List.{append-nil}
use Rattle.std.proofs.lemmas.Fmt.{length-decimal-le}
use Rattle.xfs_token.proofs.AmountText.{read_amount-amount_text, is_whole-decimal, is_part-decimals}
use Rattle.xfs_token.specs.Token.{has_key, is_free_key, is_key, is_reserved, is_key_byte, is_digit, is_letter, is_value_byte, is_value, may_follow, pairs_text}
use Rattle.xfs_token.specs.Amounts.{dispense_key, dispense_pairs, value_under, dispense_values, without_gap, read_amounts, amounts_of, amount_text, decimals, is_part, is_currency, is_payable, are_new, IsAmounts}

-- no key of these pairs is the dispense key of a number from n on
abbrev pub AreBelow : ℕ → List (List ℕ × List ℕ) → Type 0
AreBelow n pairs = (k : ℕ) → n ≤ k → has_key (dispense_key k) pairs ≡ false

other_key : (n k : ℕ) → n < k → bytes_eq (dispense_key n) (dispense_key k) ≡ false
other_key n k lt = let e : (48 + n == 48 + k) ≡ false = ne_eqb (48 + n) (48 + k) (λ e. absurd (omega arith)) in rw e refl

same_key : (n : ℕ) → bytes_eq (dispense_key n) (dispense_key n) ≡ true
same_key n = let e : (48 + n == 48 + n) ≡ true = eq-eqb (48 + n) (48 + n) refl in rw e refl

pub AreBelow-push : (n : ℕ) (pairs : List (List ℕ × List ℕ)) (value : List ℕ) → AreBelow n pairs → AreBelow (n + 1) (pairs ++ (dispense_key n, value) ∷ [])
AreBelow-push n pairs value h k le =
    list_any-append (λ (p : List ℕ × List ℕ). bytes_eq p.0 (dispense_key k)) pairs ((dispense_key n, value) ∷ [])
    ∙ (let old = h k (omega arith) in let new = other_key n k (omega arith) in rw (old, new) refl)

-- no key among these: nothing is found
find_none : (pairs : List (List ℕ × List ℕ)) (key : List ℕ) → has_key key pairs ≡ false → find (λ (p : List ℕ × List ℕ). bytes_eq p.0 key) pairs ≡ None
find_none [] key h = refl
find_none (p ∷ ps) key h = let parts = or_parts (bytes_eq p.0 key) (has_key key ps) h in rw parts.0 (find_none ps key parts.1)

free_key : (n : ℕ) (pairs : List (List ℕ × List ℕ)) → n ≤ 9 → AreBelow n pairs → is_free_key (dispense_key n) pairs ≡ true
free_key n pairs le below =
    let letter : is_letter (48 + n) ≡ false = ap (λ (b : Bool). b && nat_le (48 + n) 90) (lt-leb 65 (48 + n) (omega arith)) in
    let digit : is_digit (48 + n) ≡ true = and_from _ _ (le-leb 48 (48 + n) (omega arith)) (le-leb (48 + n) 57 (omega arith)) in
    let last : is_key_byte (48 + n) ≡ true = ap (λ (b : Bool). b || is_digit (48 + n)) letter ∙ digit in
    let key : is_key (dispense_key n) ≡ true = ap (λ (b : Bool). b && true) last in
    and_from (is_key (dispense_key n) && not (is_reserved (dispense_key n))) (not (has_key (dispense_key n) pairs)) (and_from (is_key (dispense_key n)) (not (is_reserved (dispense_key n))) key refl) (ap not (below n (omega arith)))

all_imply : (p q : ℕ → Bool) (xs : List ℕ) → ((b : ℕ) → p b ≡ true → q b ≡ true) → list_all p xs ≡ true → list_all q xs ≡ true
all_imply p q [] f h = refl
all_imply p q (x ∷ xs) f h = let parts = and_parts (p x) (list_all p xs) h in and_from (q x) (list_all q xs) (f x parts.0) (all_imply p q xs f parts.1)

value_byte : (b : ℕ) → 45 ≤ b → b ≤ 60 ⊎ (62 ≤ b) × (b ≤ 126) → is_value_byte b ≡ true
value_byte b low high = and_from _ _ (and_from _ _ (and_from _ _ (le-leb 33 b (omega arith)) (le-leb b 126 (top high))) (ap not (ne_eqb b 44 (λ e. absurd (omega arith))))) (ap not (ne_eqb b 61 (λ e. absurd (other high e))))
  where
    top : b ≤ 60 ⊎ (62 ≤ b) × (b ≤ 126) → b ≤ 126
    top (inl h) = omega arith
    top (inr h) = omega arith

    other : b ≤ 60 ⊎ (62 ≤ b) × (b ≤ 126) → b ≡ 61 → ⊥
    other (inl h) e = absurd (omega arith)
    other (inr h) e = absurd (omega arith)

digit_is_value : (b : ℕ) → is_digit b ≡ true → is_value_byte b ≡ true
digit_is_value b h = let parts = and_parts (nat_le 48 b) (nat_le b 57) h in let low = leb-true 48 b parts.0 in let high = leb-true b 57 parts.1 in value_byte b (omega arith) (inl (omega arith))

letter_is_value : (b : ℕ) → is_letter b ≡ true → is_value_byte b ≡ true
letter_is_value b h = let parts = and_parts (nat_le 65 b) (nat_le b 90) h in let low = leb-true 65 b parts.0 in let high = leb-true b 90 parts.1 in value_byte b (omega arith) (inr (omega arith, omega arith))

part_is_value : (part : List ℕ) → is_part part ≡ true → list_all is_value_byte part ≡ true
part_is_value [] h = refl
part_is_value (b ∷ ds) h =
    let parts = and_parts (b == 46 && nat_le 1 (length ds) && nat_le (length ds) 3) (list_all is_digit ds) h in
    let point : b ≡ 46 = eqb-true b 46 (and_parts (b == 46) (nat_le 1 (length ds)) (and_parts (b == 46 && nat_le 1 (length ds)) (nat_le (length ds) 3) parts.0).0).0 in
    and_from (is_value_byte b) (list_all is_value_byte ds) (value_byte b (omega arith) (inl (omega arith))) (all_imply is_digit is_value_byte ds digit_is_value parts.1)

text_is_value : (currency : List ℕ) (n : ℕ) → is_currency currency ≡ true → n ≤ 999999999999 → is_value (amount_text currency n) ≡ true
text_is_value currency n c h =
    let w = is_whole-decimal (n / 1000) (omega arith) in
    let parts = and_parts (nat_le 1 (length (decimal (n / 1000))) && nat_le (length (decimal (n / 1000))) 9) (list_all is_digit (decimal (n / 1000))) w in
    let some = leb-true 1 (length (decimal (n / 1000))) (and_parts (nat_le 1 (length (decimal (n / 1000)))) (nat_le (length (decimal (n / 1000))) 9) parts.0).0 in
    let letters = (and_parts (length currency == 3) (list_all is_letter currency) c).1 in
    let l = length-append (decimal (n / 1000) ++ decimals n) currency in
    let m = length-append (decimal (n / 1000)) (decimals n) in
    let front : list_all is_value_byte (decimal (n / 1000) ++ decimals n) ≡ true =
    list_all-append is_value_byte (decimal (n / 1000)) (decimals n)
    ∙ and_from _ _ (all_imply is_digit is_value_byte (decimal (n / 1000)) digit_is_value parts.1) (part_is_value (decimals n) (is_part-decimals n)) in
    and_from _ _ (le-leb 1 (length (amount_text currency n)) (omega (arith, l, m)))
    (list_all-append is_value_byte (decimal (n / 1000) ++ decimals n) currency ∙ and_from _ _ front (all_imply is_letter is_value_byte currency letter_is_value letters))

-- the pairs of amounts may follow where their numbers are free
pub may_follow-dispense_pairs : (n : ℕ) (earlier : List (List ℕ × List ℕ)) (amounts : List (List ℕ × ℕ)) → AreBelow n earlier → n + length amounts ≤ 10 → list_all (λ a. is_payable a.0 a.1) amounts ≡ true → may_follow earlier (dispense_pairs n amounts) ≡ true
may_follow-dispense_pairs n earlier [] below few pay = refl
may_follow-dispense_pairs n earlier (a ∷ rest) below few pay =
    let parts = and_parts (is_payable a.0 a.1) (list_all (λ (a : List ℕ × ℕ). is_payable a.0 a.1) rest) pay in
    let both = and_parts (is_currency a.0) (nat_le a.1 999999999999) parts.0 in
    let text = amount_text a.0 a.1 in
    and_from (is_free_key (dispense_key n) earlier && is_value text) (may_follow (earlier ++ (dispense_key n, text) ∷ []) (dispense_pairs (n + 1) rest))
    (and_from (is_free_key (dispense_key n) earlier) (is_value text) (free_key n earlier (omega arith) below) (text_is_value a.0 a.1 both.0 (leb-true a.1 999999999999 both.1)))
    (may_follow-dispense_pairs (n + 1) (earlier ++ (dispense_key n, text) ∷ []) rest (AreBelow-push n earlier text below) (omega arith) parts.1)

-- k numbers from n on
abbrev numbers : ℕ → ℕ → List ℕ
numbers n zero = []
numbers n (suc k) = n ∷ numbers (n + 1) k

abbrev values : List (List ℕ × List ℕ) → List ℕ → List (Option (List ℕ))
values pairs ns = map (λ i. value_under (dispense_key i) pairs) ns

none_there : (n k : ℕ) (pairs : List (List ℕ × List ℕ)) → AreBelow n pairs → list_any is_some (values pairs (numbers n k)) ≡ false
none_there n zero pairs below = refl
none_there n (suc k) pairs below = let e = find_none pairs (dispense_key n) (below n (omega arith)) in rw e (none_there (n + 1) k pairs (λ j le. below j (omega arith)))

nothing_there : (n k : ℕ) (pairs : List (List ℕ × List ℕ)) → AreBelow n pairs → without_gap (values pairs (numbers n k)) ≡ Some []
nothing_there n zero pairs below = refl
nothing_there n (suc k) pairs below =
    let e = find_none pairs (dispense_key n) (below n (omega arith)) in
    let rest = none_there (n + 1) k pairs (λ j le. below j (omega arith)) in
    rw (e, rest) refl

texts : List (List ℕ × ℕ) → List (List ℕ)
texts amounts = map (λ a. amount_text a.0 a.1) amounts

all_there : (n k : ℕ) (earlier : List (List ℕ × List ℕ)) (amounts : List (List ℕ × ℕ)) → AreBelow n earlier → length amounts ≤ k → without_gap (values (earlier ++ dispense_pairs n amounts) (numbers n k)) ≡ Some (texts amounts)
unfolding texts
all_there n k earlier [] below few = rw append-nil (nothing_there n k earlier below)
all_there n zero earlier (a ∷ rest) below few = absurd (omega arith)
all_there n (suc k) earlier (a ∷ rest) below few =
    let text : List ℕ = amount_text a.0 a.1 in
    let more : List (List ℕ × List ℕ) = dispense_pairs (n + 1) rest in
    let front : List (List ℕ × List ℕ) = earlier ++ (dispense_key n, text) ∷ [] in
    let ns : List ℕ = numbers (n + 1) k in
    let absent = find_none earlier (dispense_key n) (below n (omega arith)) in
    let same = same_key n in
    let found : find (λ (p : List ℕ × List ℕ). bytes_eq p.0 (dispense_key n)) (earlier ++ (dispense_key n, text) ∷ more) ≡ Some (dispense_key n, text) =
    find-append (λ (p : List ℕ × List ℕ). bytes_eq p.0 (dispense_key n)) earlier ((dispense_key n, text) ∷ more) ∙ (rw (absent, same) refl) in
    let shifted : earlier ++ (dispense_key n, text) ∷ more ≡ front ++ more = sym (append_assoc earlier ((dispense_key n, text) ∷ []) more) in
    let ih = all_there (n + 1) k front rest (AreBelow-push n earlier text below) (omega arith) in
    ap (λ (o : Option (List ℕ × List ℕ)). without_gap (option_map (λ p. p.1) o ∷ values (earlier ++ (dispense_key n, text) ∷ more) ns)) found
    ∙ ap (λ (l : List (List ℕ × List ℕ)). option_map (λ vs. text ∷ vs) (without_gap (values l ns))) shifted
    ∙ ap (λ (o : Option (List (List ℕ))). option_map (λ vs. text ∷ vs) o) ih

read_texts : (amounts : List (List ℕ × ℕ)) → list_all (λ a. is_payable a.0 a.1) amounts ≡ true → read_amounts (texts amounts) ≡ Some amounts
unfolding texts
read_texts [] pay = refl
read_texts (a ∷ rest) pay =
    let parts = and_parts (is_payable a.0 a.1) (list_all (λ (a : List ℕ × ℕ). is_payable a.0 a.1) rest) pay in
    let both = and_parts (is_currency a.0) (nat_le a.1 999999999999) parts.0 in
    let one = read_amount-amount_text a.0 a.1 both.0 (leb-true a.1 999999999999 both.1) in
    let ih = read_texts rest parts.1 in
    rw (one, ih) refl

-- a token with these pairs has these amounts
pub amounts_of-dispense_pairs : (nonce mac : List ℕ) (amounts : List (List ℕ × ℕ)) → IsAmounts amounts → amounts_of (record { nonce = nonce; pairs = dispense_pairs 1 amounts; mac = mac }) ≡ Some amounts
unfolding amounts_of
amounts_of-dispense_pairs nonce mac amounts valid =
    let there : without_gap (dispense_values (dispense_pairs 1 amounts)) ≡ Some (texts amounts) = all_there 1 9 [] amounts (λ k le. refl) valid.high in
    let read = read_texts amounts valid.payable in
    let good = and_from (nat_le 1 (length amounts)) (are_new [] amounts) (le-leb 1 (length amounts) valid.low) valid.different in
    rw (there, read, good) refl

length-decimals : (n : ℕ) → length (decimals n) ≤ 4
length-decimals n = elim (cases_Bool (n % 10 == 0)) [ inl two ↦ rw two (omega arith) | inr three ↦ rw three (omega arith) ]

-- the pairs of amounts are short
pub length-dispense_pairs : (n : ℕ) (amounts : List (List ℕ × ℕ)) → list_all (λ a. is_payable a.0 a.1) amounts ≡ true → length (pairs_text (dispense_pairs n amounts)) ≤ 27 * length amounts
length-dispense_pairs n [] pay = omega arith
length-dispense_pairs n (a ∷ rest) pay =
    let parts = and_parts (is_payable a.0 a.1) (list_all (λ (a : List ℕ × ℕ). is_payable a.0 a.1) rest) pay in
    let both = and_parts (is_currency a.0) (nat_le a.1 999999999999) parts.0 in
    let small = leb-true a.1 999999999999 both.1 in
    let three = eqb-true (length a.0) 3 (and_parts (length a.0 == 3) (list_all is_letter a.0) both.0).0 in
    let nine = length-decimal-le 9 (a.1 / 1000) (omega arith) (omega arith) (omega arith) in
    let four = length-decimals a.1 in
    let l = length-append (decimal (a.1 / 1000) ++ decimals a.1 ++ a.0) (pairs_text (dispense_pairs (n + 1) rest)) in
    let m = length-append (decimal (a.1 / 1000) ++ decimals a.1) a.0 in
    let k = length-append (decimal (a.1 / 1000)) (decimals a.1) in
    let ih = length-dispense_pairs (n + 1) rest parts.1 in
    omega (arith, l, m, k, ih, nine, four, three)
