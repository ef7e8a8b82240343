-- The line `fill`, by its parts: a unit's digit, a space and a count.
use Rattle.std.proofs.Common.{◌≡◌, ℕ, ◌+◌, ◌≤◌, ◌<◌, ◌⊎◌, inl, inr, List, ◌∷◌, ◌++◌, drop, ap, sym, ◌∙◌, arith}
use Rattle.std.specs.Prelude.{codes, decimal}
use Rattle.std.proofs.lemmas.Fmt.{decimal_digit, decimal_injective}
use Rattle.xfs_script.specs.Counts.{IsCount}
use Rattle.xfs_script.specs.Guard.{IsFill}

fill_text_is : (u n : ℕ) → u ≤ 8 → codes "fill unit" ++ decimal u ++ codes " " ++ decimal n ≡ codes "fill unit" ++ (48 + u) ∷ 32 ∷ decimal n
fill_text_is u n high = ap (λ d. codes "fill unit" ++ d ++ codes " " ++ decimal n) (decimal_digit u (omega arith))

pub fill_is : (text field digits : List ℕ) (u n : ℕ) → text ≡ codes "fill unit" ++ field → field ≡ (48 + u) ∷ 32 ∷ digits → (1 ≤ u) × (u ≤ 8) → IsCount digits n → 1 ≤ n → n ≤ 10000 → IsFill text u n
fill_is text field digits u n line head within count low high = record {
  line = line ∙ (ap (λ f. codes "fill unit" ++ f) (head ∙ ap (λ d. (48 + u) ∷ 32 ∷ d) count.digits) ∙ sym (fill_text_is u n within.1));
  first = within.0;
  last = within.1;
  low = low;
  high = high;
}

fill_field : (text field : List ℕ) (u n : ℕ) → text ≡ codes "fill unit" ++ field → IsFill text u n → field ≡ (48 + u) ∷ 32 ∷ decimal n
fill_field text field u n line k = ap (drop 9) (sym line ∙ (k.line ∙ fill_text_is u n k.last))

pub no_fill_prefix : (text : List ℕ) → ((field : List ℕ) → text ≡ codes "fill unit" ++ field → ⊥) → (u n : ℕ) → IsFill text u n → ⊥
no_fill_prefix text other u n k = other ((48 + u) ∷ 32 ∷ decimal n) (k.line ∙ fill_text_is u n k.last)

pub no_fill_head : (text field : List ℕ) → text ≡ codes "fill unit" ++ field → ((u : ℕ) (digits : List ℕ) → 1 ≤ u → u ≤ 8 → field ≡ (48 + u) ∷ 32 ∷ digits → ⊥) → (u n : ℕ) → IsFill text u n → ⊥
no_fill_head text field line other u n k = other u (decimal n) k.first k.last (fill_field text field u n line k)

digits_are : (text field digits : List ℕ) (v u n : ℕ) → text ≡ codes "fill unit" ++ field → field ≡ (48 + v) ∷ 32 ∷ digits → IsFill text u n → digits ≡ decimal n
digits_are text field digits v u n line head k = ap (drop 2) (sym head ∙ fill_field text field u n line k)

pub no_fill_digits : (text field digits : List ℕ) (v : ℕ) → text ≡ codes "fill unit" ++ field → field ≡ (48 + v) ∷ 32 ∷ digits → ((n : ℕ) → IsCount digits n → ⊥) → (u n : ℕ) → IsFill text u n → ⊥
no_fill_digits text field digits v line head other u n k =
    let high = k.high in
    other n (record { digits = digits_are text field digits v u n line head k; most = omega arith })

pub no_fill_count : (text field digits : List ℕ) (v m : ℕ) → text ≡ codes "fill unit" ++ field → field ≡ (48 + v) ∷ 32 ∷ digits → IsCount digits m → (m ≡ 0) ⊎ (10000 < m) → (u n : ℕ) → IsFill text u n → ⊥
no_fill_count text field digits v m line head count outside u n k =
    let low = k.low in
    let high = k.high in
    let most = count.most in
    let same : m ≡ n = decimal_injective m n (omega arith) (omega arith) (sym count.digits ∙ digits_are text field digits v u n line head k) in
    elim outside [
      | inl none ↦ (let bad : ⊥ = omega arith in bad)
      | inr more ↦ (let bad : ⊥ = omega arith in bad)
    ]
