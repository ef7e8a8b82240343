-- The text of an amount reads back as the amount.
use Rattle.std.proofs.Common.{◌≡◌, ℕ, ◌+◌, ◌-◌, ◌*◌, ◌/◌, ◌%◌, ◌^◌, ◌<◌, ◌≤◌, ◌==◌, Bool, true, false, ◌&&◌, List, [], ◌∷◌, ◌++◌, length, drop, refl, ◌∙◌, ap, arith, length-append, inl, inr}
use Rattle.std.specs.Prelude.{decimal, Some, None, nat_le, if◌then◌else◌}
use Rattle.std.specs.List.{list_all, before_first, position_or_len}
use Rattle.std.proofs.Math.Seq.{take-append_seam, drop-append_seam}
use Rattle.std.proofs.lemmas.Bool.{and_parts, and_from, le-leb, leb-true, eqb-true, ne_eqb, cases_Bool}
use Rattle.std.proofs.lemmas.List.Folds.{list_all-append}
use Rattle.std.proofs.lemmas.Fmt.{decimal_by_steps, length-decimal-le}
use Rattle.std.proofs.lemmas.Grind.{fold-append}
use Rattle.xfs_token.specs.Token.{is_digit, is_letter}
use Rattle.xfs_token.specs.Amounts.{number_of, is_whole, is_part, is_currency, thousandths, read_amount, decimals, amount_text, amount_from, amount_before}

-- the digits that a number is written with
record IsWritten (n : ℕ) (ds : List ℕ) : Type 0 where
  number : number_of ds ≡ n
  digits : list_all is_digit ds ≡ true
  some : 1 ≤ length ds

pub digit_is : (m : ℕ) → m < 10 → is_digit (48 + m) ≡ true
digit_is m lt = and_from _ _ (le-leb 48 (48 + m) (omega arith)) (le-leb (48 + m) 57 (omega arith))

number_of-push : (ds : List ℕ) (b : ℕ) → number_of (ds ++ b ∷ []) ≡ 10 * number_of ds + (b - 48)
number_of-push ds b = fold-append (λ (n b : ℕ). 10 * n + (b - 48)) 0 ds (b ∷ [])

written : (n : ℕ) → n < 2 ^ 64 → IsWritten n (decimal n)
written n h = decimal_by_steps IsWritten
    (λ m lt. record { number = omega arith; digits = and_from _ _ (digit_is m lt) refl; some = omega arith })
    (λ m ds big w. record {
      number = number_of-push ds (48 + m % 10) ∙ (let e = w.number in omega arith);
      digits = list_all-append is_digit ds ((48 + m % 10) ∷ []) ∙ and_from _ _ w.digits (and_from _ _ (digit_is (m % 10) (omega arith)) refl);
      some = (let l = length-append ds ((48 + m % 10) ∷ []) in omega (arith, l));
    }) n h

pub is_whole-decimal : (n : ℕ) → n < 1000000000 → is_whole (decimal n) ≡ true
is_whole-decimal n h =
    let w = written n (omega arith) in
    and_from _ _ (and_from _ _ (le-leb 1 (length (decimal n)) w.some) (le-leb (length (decimal n)) 9 (length-decimal-le 9 n (omega arith) h (omega arith)))) w.digits

pub number_of-decimal : (n : ℕ) → n < 2 ^ 64 → number_of (decimal n) ≡ n
number_of-decimal n h = (written n h).number

-- a digit is no point
no_point : (b : ℕ) → is_digit b ≡ true → (b == 46) ≡ false
no_point b h = let parts = and_parts _ _ h in let low : 48 ≤ b = leb-true 48 b parts.0 in ne_eqb b 46 (λ e. absurd (omega arith))

point_place : (whole part : List ℕ) → list_all is_digit whole ≡ true → is_part part ≡ true → position_or_len (λ (b : ℕ). b == 46) (whole ++ part) ≡ length whole
point_place [] [] h p = refl
point_place [] (b ∷ ds) h p = let point = (and_parts (b == 46) (nat_le 1 (length ds)) (and_parts (b == 46 && nat_le 1 (length ds)) (nat_le (length ds) 3) (and_parts (b == 46 && nat_le 1 (length ds) && nat_le (length ds) 3) (list_all is_digit ds) p).0).0).0 in rw point refl
point_place (x ∷ xs) part h p =
    let parts = and_parts (is_digit x) (list_all is_digit xs) h in
    let e = no_point x parts.0 in
    let ih = point_place xs part parts.1 p in
    rw e (omega (arith, ih))

before_part : (whole part : List ℕ) → list_all is_digit whole ≡ true → is_part part ≡ true → before_first (λ (b : ℕ). b == 46) (whole ++ part) ≡ whole
before_part whole part h p = rw (point_place whole part h p) (take-append_seam whole part)

when_all : (whole part currency : List ℕ) → is_whole whole ≡ true → is_part part ≡ true → is_currency currency ≡ true → amount_from whole part currency ≡ Some (currency, thousandths whole part)
when_all whole part currency w p c = ap (λ (b : Bool). if b then Some (currency, thousandths whole part) else None) (and_from (is_whole whole && is_part part) (is_currency currency) (and_from (is_whole whole) (is_part part) w p) c)

when_cut : (whole part currency : List ℕ) → is_whole whole ≡ true → is_part part ≡ true → is_currency currency ≡ true → amount_before (whole ++ part) currency ≡ Some (currency, thousandths whole part)
when_cut whole part currency w p c =
    let digits = (and_parts (nat_le 1 (length whole) && nat_le (length whole) 9) (list_all is_digit whole) w).1 in
    let e = before_part whole part digits p in
    let tail : drop (length (before_first (λ (b : ℕ). b == 46) (whole ++ part))) (whole ++ part) ≡ part = ap (λ (l : List ℕ). drop (length l) (whole ++ part)) e ∙ drop-append_seam whole part in
    ap (λ (l : List ℕ). amount_from l (drop (length (before_first (λ (b : ℕ). b == 46) (whole ++ part))) (whole ++ part)) currency) e
    ∙ ap (λ (l : List ℕ). amount_from whole l currency) tail ∙ when_all whole part currency w p c

-- whole digits, a part and a currency are found again
pub read_amount-joined : (whole part currency : List ℕ) → is_whole whole ≡ true → is_part part ≡ true → is_currency currency ≡ true → read_amount (whole ++ part ++ currency) ≡ Some (currency, thousandths whole part)
unfolding read_amount
read_amount-joined whole part currency w p c =
    let three : length currency ≡ 3 = eqb-true (length currency) 3 (and_parts (length currency == 3) (list_all is_letter currency) c).0 in
    let l = length-append (whole ++ part) currency in
    let len : length (whole ++ part ++ currency) - 3 ≡ length (whole ++ part) = omega (arith, l) in
    rw (len, take-append_seam (whole ++ part) currency, drop-append_seam (whole ++ part) currency) (when_cut whole part currency w p c)

pub is_part-decimals : (n : ℕ) → is_part (decimals n) ≡ true
is_part-decimals n = elim (cases_Bool (n % 10 == 0)) [
  | inl two ↦ rw two (and_from _ _ refl (both (n / 100 % 10) (n / 10 % 10) [] (omega arith) (omega arith) refl))
  | inr three ↦ rw three (and_from _ _ refl (both (n / 100 % 10) (n / 10 % 10) ((48 + n % 10) ∷ []) (omega arith) (omega arith) (and_from _ _ (digit_is (n % 10) (omega arith)) refl)))
]
  where
    both : (a b : ℕ) (rest : List ℕ) → a < 10 → b < 10 → list_all is_digit rest ≡ true → list_all is_digit ((48 + a) ∷ (48 + b) ∷ rest) ≡ true
    both a b rest ha hb hr = and_from _ _ (digit_is a ha) (and_from _ _ (digit_is b hb) hr)

thousandths-decimals : (n : ℕ) → n < 1000000000000 → thousandths (decimal (n / 1000)) (decimals n) ≡ n
thousandths-decimals n h =
    let e = number_of-decimal (n / 1000) (omega arith) in
    elim (cases_Bool (n % 10 == 0)) [
      | inl two ↦ (let z : n % 10 ≡ 0 = eqb-true (n % 10) 0 two in rw (two, e) (omega arith))
      | inr three ↦ rw (three, e) (omega arith)
    ]

-- the text of an amount reads back as the amount
pub read_amount-amount_text : (currency : List ℕ) (n : ℕ) → is_currency currency ≡ true → n ≤ 999999999999 → read_amount (amount_text currency n) ≡ Some (currency, n)
read_amount-amount_text currency n c h =
    read_amount-joined (decimal (n / 1000)) (decimals n) currency (is_whole-decimal (n / 1000) (omega arith)) (is_part-decimals n) c
    ∙ ap (λ (m : ℕ). Some (currency, m)) (thousandths-decimals n (omega arith))
