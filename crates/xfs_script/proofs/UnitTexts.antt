-- The texts of units, one behind the other.
use Rattle.std.proofs.Common.{◌≡◌, ℕ, ◌+◌, ◌<◌, ◌==◌, inl, inr, List, [], ◌∷◌, ◌++◌, length, refl, ap, sym, ◌∙◌, arith, append_assoc}
use Rattle.std.specs.Prelude.{codes}
use Rattle.std.proofs.lemmas.Bool.{cond-true, cond-false, eq-eqb, ne_eqb}
use Rattle.xfs_script.proofs.Numerals.{zero_or_some}
use Rattle.xfs_script.specs.Counts.{unit_text, filled_units, joined_units, units_or_none}

-- one more is joined
pub joined_push : (us : List (ℕ × ℕ)) (u : ℕ × ℕ) → 0 < length us → joined_units (us ++ u ∷ []) ≡ joined_units us ++ 44 ∷ unit_text u
joined_push [] u some = absurd (omega arith)
joined_push (x ∷ []) u some = refl
joined_push (x ∷ y ∷ us) u some =
    ap (λ v. unit_text x ++ 44 ∷ v) (joined_push (y ∷ us) u (omega arith)) ∙ sym (append_assoc (unit_text x) (44 ∷ joined_units (y ∷ us)) (44 ∷ unit_text u))

pub joined_some : (u : ℕ × ℕ) (us : List (ℕ × ℕ)) → 0 < length (joined_units (u ∷ us))
joined_some u [] = omega arith
joined_some u (y ∷ us) = omega arith

filled_without : (n c : ℕ) (counts : List ℕ) → c ≡ 0 → filled_units n (c ∷ counts) ≡ filled_units (n + 1) counts
filled_without n c counts z = cond-true (c == 0) _ _ (eq-eqb c 0 z)

filled_with : (n c : ℕ) (counts : List ℕ) → 0 < c → filled_units n (c ∷ counts) ≡ (n, c) ∷ filled_units (n + 1) counts
filled_with n c counts some = cond-false (c == 0) _ _ (ne_eqb c 0 (λ z. absurd (omega arith)))

filled_zero : (n c : ℕ) (counts : List ℕ) → c ≡ 0 → filled_units n (counts ++ c ∷ []) ≡ filled_units n counts
filled_zero n c [] z = filled_without n c [] z
filled_zero n c (x ∷ counts) z = elim (zero_or_some x) [
  | inl none ↦ filled_without n x (counts ++ c ∷ []) none ∙ (filled_zero (n + 1) c counts z ∙ sym (filled_without n x counts none))
  | inr some ↦ filled_with n x (counts ++ c ∷ []) some ∙ (ap (λ us. (n, x) ∷ us) (filled_zero (n + 1) c counts z) ∙ sym (filled_with n x counts some))
]

filled_more : (n c : ℕ) (counts : List ℕ) → 0 < c → filled_units n (counts ++ c ∷ []) ≡ filled_units n counts ++ (n + length counts, c) ∷ []
filled_more n c [] more =
    let unit : ℕ → List (ℕ × ℕ) = λ m. (m, c) ∷ [] in
    let e : n ≡ n + 0 = omega arith in
    filled_with n c [] more ∙ ap unit e
filled_more n c (x ∷ counts) more =
    let later : ℕ → List (ℕ × ℕ) = λ m. filled_units (n + 1) counts ++ (m, c) ∷ [] in
    let e : n + 1 + length counts ≡ n + length (x ∷ counts) = omega arith in
    let rest = filled_more (n + 1) c counts more ∙ ap later e in
    elim (zero_or_some x) [
      | inl none ↦ filled_without n x (counts ++ c ∷ []) none ∙ (rest ∙ ap (λ us. us ++ (n + length (x ∷ counts), c) ∷ []) (sym (filled_without n x counts none)))
      | inr some ↦ filled_with n x (counts ++ c ∷ []) some ∙ (ap (λ us. (n, x) ∷ us) rest ∙ ap (λ us. us ++ (n + length (x ∷ counts), c) ∷ []) (sym (filled_with n x counts some)))
    ]

-- a count of 0 adds nothing
pub text_kept : (counts text : List ℕ) (c : ℕ) → c ≡ 0 → text ≡ joined_units (filled_units 1 counts) → text ≡ joined_units (filled_units 1 (counts ++ c ∷ []))
text_kept counts text c z is = is ∙ ap joined_units (sym (filled_zero 1 c counts z))

-- another adds its unit's text
pub text_more : (counts text text' : List ℕ) (unit c : ℕ) → 0 < c → unit ≡ 1 + length counts → text ≡ joined_units (filled_units 1 counts)
    → (text ≡ [] → text' ≡ unit_text (unit, c)) → (0 < length text → text' ≡ text ++ 44 ∷ unit_text (unit, c)) → text' ≡ joined_units (filled_units 1 (counts ++ c ∷ []))
text_more counts text text' unit c more unit_is is first further = behind (filled_units 1 counts) is ∙ sym (ap joined_units (filled_more 1 c counts more))
  where
    text_at : ℕ → List ℕ
    text_at n = unit_text (n, c)

    behind : (us : List (ℕ × ℕ)) → text ≡ joined_units us → text' ≡ joined_units (us ++ (1 + length counts, c) ∷ [])
    behind [] e = first e ∙ ap text_at unit_is
    behind (u ∷ us) e =
        let some : 0 < length text = omega (arith, ap length e, joined_some u us) in
        further some ∙ (ap (λ t. t ++ 44 ∷ text_at unit) e
        ∙ (ap (λ n. joined_units (u ∷ us) ++ 44 ∷ text_at n) unit_is ∙ sym (joined_push (u ∷ us) (1 + length counts, c) (omega arith))))

pub none_is : (us : List (ℕ × ℕ)) (text : List ℕ) → text ≡ joined_units us → length text ≡ 0 → codes "none" ≡ units_or_none us
none_is [] text is empty = refl
none_is (u ∷ us) text is empty = absurd (let bad : ⊥ = omega (arith, ap length is, joined_some u us) in bad)

pub some_is : (us : List (ℕ × ℕ)) (text : List ℕ) → text ≡ joined_units us → 0 < length text → text ≡ units_or_none us
some_is [] text is some = absurd (let bad : ⊥ = omega (arith, ap length is) in bad)
some_is (u ∷ us) text is some = is
