-- The text of an amount with two decimals tells it.
use Rattle.std.proofs.Common.{◌≡◌, ℕ, ◌+◌, ◌-◌, ◌/◌, ◌%◌, ◌<◌, ◌≤◌, ◌==◌, true, List, [], ◌∷◌, ◌++◌, length, None, Some, refl, ◌∙◌, ap, arith, length-append, append_assoc}
use Rattle.std.specs.Prelude.{decimal, nat_le, slice_index}
use Rattle.std.specs.declared.option.Option.{Option}
use Rattle.std.specs.Option.{option_map, option_and_then}
use Rattle.std.specs.List.{list_all}
use Rattle.std.proofs.lemmas.Bool.{and_parts, le-leb, lt-ltb, eqb-true, eq-eqb}
use Rattle.xfs_token.specs.Token.{is_letter}
use Rattle.xfs_token.specs.Amounts.{is_currency, amount_text, read_amount}
use Rattle.xfs_token.proofs.AmountText.{read_amount-amount_text}
use Rattle.xfs_evidence.specs.Told.{told_amount, told_amounts, told_text}
use Rattle.xfs_evidence.proofs.Valued.{IsRound}

round-ten : (n : ℕ) → IsRound n → n % 10 ≡ 0
round-ten n r = let e = r.is in omega (arith, e)

-- it is the text of the amount
pub text-is : (c : List ℕ) (n : ℕ) → n % 10 ≡ 0 → told_text (c, n) ≡ amount_text c n
text-is c n round = rw (eq-eqb (n % 10) 0 round) refl

index-behind : (xs : List ℕ) (y : ℕ) (ys : List ℕ) → slice_index (xs ++ y ∷ ys) (length xs) ≡ y
index-behind [] y ys = refl
index-behind (x ∷ xs) y ys = index-behind xs y ys

pub tells : (c : List ℕ) (n : ℕ) → is_currency c ≡ true → 0 < n → n ≤ 999999999999 → IsRound n → told_amount (told_text (c, n)) ≡ Some (c, n)
tells c n letters some small round =
    let digits : List ℕ = decimal (n / 1000) in
    let part : List ℕ = 46 ∷ (48 + n / 100 % 10) ∷ (48 + n / 10 % 10) ∷ [] in
    let three : length c ≡ 3 = eqb-true (length c) 3 (and_parts (length c == 3) (list_all is_letter c) letters).0 in
    let l = length-append (digits ++ part) c in
    let m = length-append digits part in
    let place : length (told_text (c, n)) - 6 ≡ length digits = omega (arith, l, m, three) in
    let point : slice_index (told_text (c, n)) (length (told_text (c, n)) - 6) ≡ 46 =
    ap (λ (i : ℕ). slice_index (told_text (c, n)) i) place ∙ ap (λ (t : List ℕ). slice_index t (length digits)) (append_assoc digits part c) ∙ index-behind digits 46 ((48 + n / 100 % 10) ∷ (48 + n / 10 % 10) ∷ c) in
    let long : nat_le 6 (length (told_text (c, n))) ≡ true = le-leb 6 (length (told_text (c, n))) (omega (arith, l, m, three)) in
    let there = eq-eqb (slice_index (told_text (c, n)) (length (told_text (c, n)) - 6)) 46 point in
    let read : read_amount (told_text (c, n)) ≡ Some (c, n) = ap read_amount (text-is c n (round-ten n round)) ∙ read_amount-amount_text c n letters small in
    rw (long, there, read, lt-ltb 0 n some) refl

-- and so with one more behind others
more-first : (t : List ℕ) (ts : List (List ℕ)) (amounts : List (List ℕ × ℕ)) (text : List ℕ) (a : List ℕ × ℕ) (o : Option (List ℕ × ℕ)) (rest : Option (List (List ℕ × ℕ))) → told_amount t ≡ o → told_amounts ts ≡ rest
    → ((xs : List (List ℕ × ℕ)) → told_amounts ts ≡ Some xs → told_amounts (ts ++ text ∷ []) ≡ Some (xs ++ a ∷ []))
    → option_and_then (λ x. option_map (λ xs. x ∷ xs) rest) o ≡ Some amounts → told_amounts (t ∷ ts ++ text ∷ []) ≡ Some (amounts ++ a ∷ [])
more-first t ts amounts text a None rest e f ih all = cc
more-first t ts amounts text a (Some x) None e f ih all = cc
more-first t ts amounts text a (Some x) (Some xs) e f ih all = let same : x ∷ xs ≡ amounts = cc in let more = ih xs f in rw (e, more, ← same) refl

pub tells-more : (texts : List (List ℕ)) (amounts : List (List ℕ × ℕ)) (text : List ℕ) (a : List ℕ × ℕ) → told_amounts texts ≡ Some amounts → told_amount text ≡ Some a → told_amounts (texts ++ text ∷ []) ≡ Some (amounts ++ a ∷ [])
tells-more [] amounts text a all one = let none : [] ≡ amounts = cc in rw (one, ← none) refl
tells-more (t ∷ ts) amounts text a all one = more-first t ts amounts text a (told_amount t) (told_amounts ts) refl refl (λ xs e. tells-more ts xs text a e one) all
