-- Numbers without leading zeros: what `decimal` writes, read back.
use Rattle.std.proofs.Common.{◌≡◌, ℕ, zero, suc, ◌+◌, ◌-◌, ◌*◌, ◌<◌, ◌≤◌, true, false, List, length, get_or, refl, ap, sym, ◌∙◌, arith, inl, inr, ◌⊎◌}
use Rattle.std.specs.Prelude.{decimal, fold, nat_le}
use Rattle.std.specs.List.{list_all}
use Rattle.std.proofs.lemmas.Bool.{and_parts, and_from, leb-true, le-leb}
use Rattle.std.proofs.lemmas.Fmt.{decimal-digits_value, decimal_nonempty, length-decimal-le, first_decimal, decimal_digit}
use Rattle.std.proofs.lemmas.Str.Parse.{IsNumeralModel, IsDigitsTest, FoldsDigits, numerals_by_fold}
use Rattle.xfs_token.specs.Token.{is_digit}
use Rattle.xfs_token.specs.Amounts.{number_of}
use Rattle.xfs_token.proofs.AmountText.{is_whole-decimal, number_of-decimal}
use Rattle.xfs_script.specs.Counts.{IsCount}

abbrev HasDigits : List ℕ → Type 0
HasDigits ds = list_all is_digit ds ≡ true

tells : IsDigitsTest HasDigits
tells = record {
  empty = refl;
  parts = λ c cs e. let k = and_parts (is_digit c) (list_all is_digit cs) e in let m = and_parts (nat_le 48 c) (nat_le c 57) k.0 in ((leb-true 48 c m.0, leb-true c 57 m.1), k.1);
  more = λ c cs k e. and_from (is_digit c) (list_all is_digit cs) (and_from (nat_le 48 c) (nat_le c 57) (le-leb 48 c k.0) (le-leb c 57 k.1)) e;
}

abbrev number_behind : ℕ → List ℕ → ℕ
number_behind n ds = fold (λ n b. 10 * n + (b - 48)) n ds

folds : FoldsDigits number_behind
folds = record { empty = λ n. refl; more = λ n c cs k. (let e : 10 * n + (c - 48) ≡ n * 10 + (c - 48) = omega arith in ap (λ m. number_behind m cs) e) }

numerals : IsNumeralModel HasDigits number_of
numerals = numerals_by_fold HasDigits tells number_behind folds

pub zero_or_some : (c : ℕ) → (c ≡ 0) ⊎ (0 < c)
zero_or_some zero = inl refl
zero_or_some (suc c) = inr (omega arith)

pub count_is : (ds : List ℕ) (n : ℕ) → 1 ≤ length ds → (get_or ds 0 0 ≡ 48 → length ds ≡ 1) → list_all is_digit ds ≡ true → n ≡ number_of ds → n ≤ 1000000 → IsCount ds n
count_is ds n some leading digits is most = record {
  digits = sym (ap decimal is ∙ decimal-digits_value numerals ds digits (omega arith) leading (omega (arith, is)));
  most = most;
}

pub no_count_empty : (ds : List ℕ) → length ds < 1 → (n : ℕ) → IsCount ds n → ⊥
no_count_empty ds empty n k = omega (arith, ap length k.digits, decimal_nonempty n (let m = k.most in omega arith))

pub no_count_leading : (ds : List ℕ) → get_or ds 0 0 ≡ 48 → 1 < length ds → (n : ℕ) → IsCount ds n → ⊥
no_count_leading ds leading long n k =
    let m = k.most in
    elim (zero_or_some n) [
      | inl none ↦ omega (arith, ap length (k.digits ∙ decimal_digit n (omega arith)))
      | inr some ↦ omega (arith, ap (λ d. get_or d 0 0) k.digits, first_decimal n some (omega arith))
    ]

pub no_count_other : (ds : List ℕ) → false ≡ list_all is_digit ds → (n : ℕ) → IsCount ds n → ⊥
no_count_other ds other n k =
    let m = k.most in
    let all = (and_parts _ (list_all is_digit (decimal n)) (is_whole-decimal n (omega arith))).1 in
    let same : list_all is_digit ds ≡ true = ap (list_all is_digit) k.digits ∙ all in
    let bad : ⊥ = cc in bad

pub no_count_more : (ds : List ℕ) (m : ℕ) → m ≡ number_of ds → 1000000 < m → (n : ℕ) → IsCount ds n → ⊥
no_count_more ds m is more n k =
    let most = k.most in
    omega (arith, ap number_of k.digits, number_of-decimal n (omega arith))

pub no_count_not_short : (ds : List ℕ) → nat_le (length ds) 7 ≡ false → (n : ℕ) → IsCount ds n → ⊥
no_count_not_short ds not_short n k =
    let m = k.most in
    let short : length ds ≤ 7 = omega (arith, ap length k.digits, length-decimal-le 7 n (omega arith) (omega arith) (omega arith)) in
    let bad : true ≡ false = sym (le-leb (length ds) 7 short) ∙ not_short in
    absurd (let worse : ⊥ = cc in worse)
