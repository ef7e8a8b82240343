-- Units between commas: each that is read is set behind those before.
use Rattle.std.proofs.Common.{◌≡◌, ℕ, ◌+◌, ◌-◌, ◌<◌, ◌≤◌, List, [], ◌∷◌, ◌++◌, length, get_or, drop, set, replicate, ap, sym, subst, ◌∙◌, arith, refl}
use Rattle.std.specs.Prelude.{codes, decimal, map, fold}
use Rattle.std.proofs.lemmas.Fmt.{decimal_digit, decimal_injective}
use Rattle.xfs_base.specs.declared.counts.Counts.{Counts}
use Rattle.xfs_script.specs.Fields.{parts}
use Rattle.xfs_script.specs.Counts.{unit_text, AreRising, with_unit, IsCount, IsUnit, SpellsCounts}

unit_text_is : (u n : ℕ) → u ≤ 8 → unit_text (u, n) ≡ codes "unit" ++ (48 + u) ∷ 58 ∷ decimal n
unit_text_is u n high = ap (λ d. codes "unit" ++ d ++ codes ":" ++ decimal n) (decimal_digit u (omega arith))

pub unit_is : (part field digits : List ℕ) (u n : ℕ) → part ≡ codes "unit" ++ field → field ≡ (48 + u) ∷ 58 ∷ digits → (1 ≤ u) × (u ≤ 8) → IsCount digits n → IsUnit part u n
unit_is part field digits u n line head within count = record {
  text = line ∙ (ap (λ f. codes "unit" ++ f) (head ∙ ap (λ d. (48 + u) ∷ 58 ∷ d) count.digits) ∙ sym (unit_text_is u n within.1));
  low = within.0;
  high = within.1;
  most = count.most;
}

unit_field : (part field : List ℕ) (u n : ℕ) → part ≡ codes "unit" ++ field → IsUnit part u n → field ≡ (48 + u) ∷ 58 ∷ decimal n
unit_field part field u n line k = ap (drop 4) (sym line ∙ (k.text ∙ unit_text_is u n k.high))

pub no_prefix : (part : List ℕ) → ((field : List ℕ) → part ≡ codes "unit" ++ field → ⊥) → (u n : ℕ) → IsUnit part u n → ⊥
no_prefix part other u n k = other ((48 + u) ∷ 58 ∷ decimal n) (k.text ∙ unit_text_is u n k.high)

pub no_head : (part field : List ℕ) → part ≡ codes "unit" ++ field → ((u : ℕ) (digits : List ℕ) → 1 ≤ u → u ≤ 8 → field ≡ (48 + u) ∷ 58 ∷ digits → ⊥) → (u n : ℕ) → IsUnit part u n → ⊥
no_head part field line other u n k = other u (decimal n) k.low k.high (unit_field part field u n line k)

pub no_digits : (part field digits : List ℕ) (v : ℕ) → part ≡ codes "unit" ++ field → field ≡ (48 + v) ∷ 58 ∷ digits → ((n : ℕ) → IsCount digits n → ⊥) → (u n : ℕ) → IsUnit part u n → ⊥
no_digits part field digits v line head other u n k = other n (record { digits = ap (drop 2) (sym head ∙ unit_field part field u n line k); most = k.most })

unit_same : (part : List ℕ) (u n v m : ℕ) → IsUnit part u n → IsUnit part v m → (u ≡ v) × (n ≡ m)
unit_same part u n v m a b =
    let same = sym (unit_text_is u n a.high) ∙ (sym a.text ∙ (b.text ∙ unit_text_is v m b.high)) in
    let few = a.most in
    let less = b.most in
    (omega (arith, ap (λ t. get_or t 4 0) same), decimal_injective n m (omega arith) (omega arith) (ap (drop 6) same))

-- the texts are units above the last one, and these counts with theirs set are all
pub record SpellsOn (last : ℕ) (counts : List ℕ) (texts : List (List ℕ)) (all : List ℕ) : Type 0 where
  pub units : List (ℕ × ℕ)
  pub each : texts ≡ map unit_text units
  pub rising : AreRising last units
  pub is : all ≡ fold with_unit counts units

pub on_here : (last u n : ℕ) (counts part : List ℕ) (texts : List (List ℕ)) (all : List ℕ) → last < u → IsUnit part u n → SpellsOn u (set counts (u - 1) n) texts all → SpellsOn last counts (part ∷ texts) all
on_here last u n counts part texts all above k s = record {
  units = (u, n) ∷ s.units;
  each = (λ i. k.text i ∷ s.each i);
  rising = (above, k.high, k.most, s.rising);
  is = s.is;
}

pub on_there : (last u n : ℕ) (counts part : List ℕ) (texts : List (List ℕ)) (all : List ℕ) → IsUnit part u n → SpellsOn last counts (part ∷ texts) all → (last < u) × SpellsOn u (set counts (u - 1) n) texts all
on_there last u n counts part texts all k s = there s.units s.each s.rising s.is
  where
    there : (units : List (ℕ × ℕ)) → part ∷ texts ≡ map unit_text units → AreRising last units → all ≡ fold with_unit counts units → (last < u) × SpellsOn u (set counts (u - 1) n) texts all
    there [] each rising is = absurd (let bad : ⊥ = omega (arith, ap length each) in bad)
    there (v ∷ units) each rising is =
        let text : part ≡ unit_text v = ap (λ l. get_or l 0 part) each in
        let above = rising.0 in
        let here : IsUnit part v.0 v.1 = record { text = text; low = omega arith; high = rising.1; most = rising.2 } in
        let same = unit_same part v.0 v.1 u n here k in
        let P : ℕ → Type 0 = λ w. AreRising w units in (
          omega (arith, same.0),
          record {
            units = units;
            each = ap (drop 1) each;
            rising = subst P same.0 rising.3;
            is = is ∙ (ap (λ w. fold with_unit (set counts (w - 1) v.1) units) same.0 ∙ ap (λ w. fold with_unit (set counts (u - 1) w) units) same.1);
          },
        )

pub no_unit : (last : ℕ) (counts part : List ℕ) (texts : List (List ℕ)) (all : List ℕ) → ((u n : ℕ) → IsUnit part u n → ⊥) → SpellsOn last counts (part ∷ texts) all → ⊥
no_unit last counts part texts all other s = there s.units s.each s.rising
  where
    there : (units : List (ℕ × ℕ)) → part ∷ texts ≡ map unit_text units → AreRising last units → ⊥
    there [] each rising = omega (arith, ap length each)
    there (v ∷ units) each rising =
        let text : part ≡ unit_text v = ap (λ l. get_or l 0 part) each in
        let above = rising.0 in
        other v.0 v.1 (record { text = text; low = omega arith; high = rising.1; most = rising.2 })

pub on_none : (last : ℕ) (counts : List ℕ) → SpellsOn last counts [] counts
on_none last counts = record { units = []; each = refl; rising = tt; is = refl }

pub counts_spelled : (text : List ℕ) (counts : Counts) → SpellsOn 0 (replicate 8 0) (parts text) counts.0 → SpellsCounts text counts
counts_spelled text counts s = record { units = s.units; each = s.each; rising = s.rising; is = s.is }

pub no_counts : (text : List ℕ) → ((all : List ℕ) → SpellsOn 0 (replicate 8 0) (parts text) all → ⊥) → (counts : Counts) → SpellsCounts text counts → ⊥
no_counts text none counts s = none counts.0 (record { units = s.units; each = s.each; rising = s.rising; is = s.is })
