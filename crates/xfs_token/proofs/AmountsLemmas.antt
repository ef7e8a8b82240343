-- Amounts stay valid where one that may be added is added.
use Rattle.std.proofs.Common.{◌≡◌, ℕ, ◌<◌, ◌≤◌, true, false, not, List, [], ◌∷◌, ◌++◌, length, refl, ◌∙◌, arith, length-append, append_assoc}
use Rattle.std.proofs.lemmas.Bool.{and_parts, and_from, le-leb}
use Rattle.std.proofs.lemmas.List.Folds.{list_all-append}
use Rattle.std.proofs.lemmas.List.{append-nil}
use Rattle.xfs_token.specs.Amounts.{are_new, has_currency, is_currency, is_payable, IsAmounts}

pub are_new-push : (earlier xs : List (List ℕ × ℕ)) (a : List ℕ × ℕ) → are_new earlier xs ≡ true → has_currency a.0 (earlier ++ xs) ≡ false → are_new earlier (xs ++ a ∷ []) ≡ true
are_new-push earlier [] a h fresh = let e = rw append-nil at fresh in rw e refl
are_new-push earlier (x ∷ xs) a h fresh =
    let parts = and_parts (not (has_currency x.0 earlier)) (are_new (earlier ++ x ∷ []) xs) h in
    and_from (not (has_currency x.0 earlier)) (are_new (earlier ++ x ∷ []) (xs ++ a ∷ [])) parts.0
    (are_new-push (earlier ++ x ∷ []) xs a parts.1 (rw append_assoc fresh))

pub IsAmounts-push : (xs : List (List ℕ × ℕ)) (currency : List ℕ) (n : ℕ) → IsAmounts xs → length xs < 9 → is_currency currency ≡ true → n ≤ 999999999999 → has_currency currency xs ≡ false → IsAmounts (xs ++ (currency, n) ∷ [])
IsAmounts-push xs currency n valid few letters small fresh =
    let l = length-append xs ((currency, n) ∷ []) in record {
      low = omega (arith, l);
      high = omega (arith, l);
      payable = list_all-append (λ (a : List ℕ × ℕ). is_payable a.0 a.1) xs ((currency, n) ∷ []) ∙ and_from _ _ valid.payable (and_from _ _ (and_from _ _ letters (le-leb n 999999999999 small)) refl);
      different = are_new-push [] xs (currency, n) valid.different fresh;
    }
