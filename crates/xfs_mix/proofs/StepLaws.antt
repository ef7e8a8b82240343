-- Amounts counted in steps have the same mixes, and an amount between two steps has none.
use Rattle.std.proofs.Common.{◌≡◌, ℕ, zero, suc, ◌+◌, ◌*◌, ◌/◌, ◌%◌, ◌≤◌, ◌<◌, Bool, true, false, List, [], ◌∷◌, ◌++◌, length, get_or, slice_get, take, if◌then◌else◌, refl, sym, ◌∙◌, ap, arith, inl, inr}
use Rattle.std.specs.Prelude.{All, map, Ok, Err}
use Rattle.std.specs.Int.{◌∣◌, IsGcd}
use Rattle.std.specs.Option.{option_map_or}
use Rattle.std.specs.Str.{bytes_eq}
use Rattle.std.proofs.Math.Nat.{div-mul_cancel, div-le_self, mul-div_cancel_left, mul-mod_right, div-add-mod}
use Rattle.std.proofs.lemmas.Bool.{cases_lt, cases_Bool}
use Rattle.std.proofs.lemmas.List.{map-append, take_more, get_or_default}
use Rattle.std.proofs.lemmas.List.Elements.{All-map}
use Rattle.std.proofs.lemmas.Nat.Gcd.{dvd_trans}
use Rattle.xfs_base.specs.declared.counts.Counts.{Counts}
use Rattle.xfs_base.specs.declared.money.NoteKind.{NoteKind}
use Rattle.xfs_base.specs.Counts.{at}
use Rattle.xfs_base.specs.Money.{value, value_at, value_from}
use Rattle.xfs_base.specs.Values.{IsNoteValue}
use Rattle.std.specs.declared.result.Result.{Result}
use Rattle.xfs_mix.specs.declared.mix.MixFault.{MixFault}
use Rattle.xfs_mix.specs.declared.mix.MixFault.TheVariants.{Nothing, TooMany, Memory}
use Rattle.xfs_mix.specs.Mix.{IsMix, IsAnswer, AreMany}
use Rattle.xfs_mix.specs.Steps.{AreMultiples, in_steps}

-- a divisor of the currency's values among the first kinds
abbrev pub AreMultiplesBelow : ℕ → ℕ → List ℕ → List NoteKind → Type 0
AreMultiplesBelow n step cur ks = (w : ℕ) (k : NoteKind) → w < n → bytes_eq (get_or ks w k).currency cur ≡ true → step ∣ (get_or ks w k).value

pub multiples-more : (ks : List NoteKind) (cur : List ℕ) (i step g : ℕ) (kind : NoteKind) → i < length ks → kind ≡ get_or ks i kind → IsGcd step kind.value g
    → AreMultiplesBelow i step cur ks → AreMultiplesBelow (i + 1) g cur ks
multiples-more ks cur i step g kind lt at_i gcd before w k within of = elim (cases_lt w i) [
  | inl l ↦ dvd_trans g gcd.0 (before w k l of)
  | inr ge ↦
      let e : w ≡ i = omega arith in
      let here : get_or ks w k ≡ kind = ap (λ x. get_or ks x k) e ∙ get_or_default ks i k kind lt ∙ sym at_i in
      rw here gcd.1
]

pub multiples-same : (ks : List NoteKind) (cur : List ℕ) (i step : ℕ) (kind : NoteKind) → i < length ks → kind ≡ get_or ks i kind → bytes_eq kind.currency cur ≡ false
    → AreMultiplesBelow i step cur ks → AreMultiplesBelow (i + 1) step cur ks
multiples-same ks cur i step kind lt at_i other before w k within of = elim (cases_lt w i) [
  | inl l ↦ before w k l of
  | inr ge ↦
      let e : w ≡ i = omega arith in
      let here : get_or ks w k ≡ kind = ap (λ x. get_or ks x k) e ∙ get_or_default ks i k kind lt ∙ sym at_i in
      let its = rw here at of in
      absurd cc
]

pub greatest-more : (ks : List NoteKind) (cur : List ℕ) (i step g : ℕ) (kind : NoteKind) → i < length ks → kind ≡ get_or ks i kind → bytes_eq kind.currency cur ≡ true → IsGcd step kind.value g
    → ((d : ℕ) → AreMultiplesBelow i d cur ks → d ∣ step) → (d : ℕ) → AreMultiplesBelow (i + 1) d cur ks → d ∣ g
greatest-more ks cur i step g kind lt at_i of gcd before d all =
    let here = all i kind (omega arith) (rw (← at_i) of) in
    gcd.2 d (before d (λ w k l. all w k (omega (arith, l)))) (rw at_i here)

pub in_steps-more : (step : ℕ) (cur : List ℕ) (ks done : List NoteKind) (i : ℕ) (k : NoteKind) → i < length ks → k ≡ get_or ks i k → done ≡ map (in_steps step cur) (take i ks)
    → done ++ in_steps step cur k ∷ [] ≡ map (in_steps step cur) (take (i + 1) ks)
in_steps-more step cur ks done i k lt at_i there =
    let more : take (i + 1) ks ≡ take i ks ++ k ∷ [] = take_more ks i k lt ∙ ap (λ x. take i ks ++ x ∷ []) (sym at_i) in
    ap (λ x. x ++ in_steps step cur k ∷ []) there ∙ sym (map-append (in_steps step cur) (take i ks) (k ∷ [])) ∙ ap (map (in_steps step cur)) (sym more)

same_currency : (step : ℕ) (cur : List ℕ) (k : NoteKind) → bytes_eq (in_steps step cur k).currency cur ≡ bytes_eq k.currency cur
same_currency step cur k = go (bytes_eq k.currency cur)
  where
    go : (b : Bool) → bytes_eq (if b then record { currency = k.currency; value = k.value / step } else k).currency cur ≡ bytes_eq k.currency cur
    go true = refl
    go false = refl

-- a note's value is one still
pub values_in_steps : (step : ℕ) (cur : List ℕ) (ks : List NoteKind) → AreMultiples step cur ks → All (λ k. IsNoteValue k.value) ks → All (λ k. IsNoteValue k.value) (map (in_steps step cur) ks)
values_in_steps step cur ks multiples values = All-map (λ k. IsNoteValue k.value) (in_steps step cur) ks (λ w d lt. one (get_or ks w d) (multiples w d lt) (values w d lt))
  where
    one : (k : NoteKind) → (bytes_eq k.currency cur ≡ true → step ∣ k.value) → IsNoteValue k.value → IsNoteValue (in_steps step cur k).value
    one k divides is = go (bytes_eq k.currency cur) divides
      where
        go : (b : Bool) → (b ≡ true → step ∣ k.value) → IsNoteValue (if b then record { currency = k.currency; value = k.value / step } else k).value
        go false divides = is
        go true divides =
            let whole : k.value / step * step ≡ k.value = div-mul_cancel step (divides refl) in (
              elim (cases_lt 0 (k.value / step)) [
                | inl some ↦ some
                | inr none ↦ (let nothing : k.value / step ≡ 0 = omega arith in absurd (omega (arith, rw nothing at whole, is.0)))
              ],
              omega (arith, div-le_self k.value step, is.1),
            )

-- what counts are worth, in steps and in units of the currency
record Worth (step : ℕ) (cur : List ℕ) (ks : List NoteKind) (i : ℕ) (cs : List ℕ) : Type 0 where
  steps : ℕ
  in_step : value_from (map (in_steps step cur) ks) i cs cur ≡ 1000 * steps
  in_all : value_from ks i cs cur ≡ 1000 * (step * steps)

worth_here : (step : ℕ) (cur : List ℕ) (k : NoteKind) (c : ℕ) → bytes_eq k.currency cur ≡ true → value_at (in_steps step cur k) c cur ≡ 1000 * (k.value / step) * c
worth_here step cur k c y = rw y (rw y refl)

worth_else : (step : ℕ) (cur : List ℕ) (k : NoteKind) (c : ℕ) → bytes_eq k.currency cur ≡ false → value_at (in_steps step cur k) c cur ≡ 0
worth_else step cur k c n = rw n (rw n refl)

grown : (v x step c q : ℕ) → x * step ≡ v → 1000 * v * c + 1000 * (step * q) ≡ 1000 * (step * (x * c + q))
grown v x step c q e = rw (← e) (omega arith)

worth : (step : ℕ) (cur : List ℕ) (ks : List NoteKind) (i : ℕ) (cs : List ℕ) → AreMultiples step cur ks → Worth step cur ks i cs
worth step cur [] i cs multiples = record { steps = 0; in_step = refl; in_all = omega arith }
worth step cur (k ∷ ks) i cs multiples =
    let rest = worth step cur ks (i + 1) cs (λ w d lt. multiples (suc w) d (omega (arith, lt))) in
    elim (cases_Bool (bytes_eq k.currency cur)) [
      | inl y ↦
          let whole : k.value / step * step ≡ k.value = div-mul_cancel step (multiples 0 k (omega arith) y) in
          record {
            steps = k.value / step * get_or cs i 0 + rest.steps;
            in_step = rw (worth_here step cur k (get_or cs i 0) y, rest.in_step) (omega arith);
            in_all = rw (y, rest.in_all) (grown k.value (k.value / step) step (get_or cs i 0) rest.steps whole);
          }
      | inr n ↦ record {
        steps = rest.steps;
        in_step = rw (worth_else step cur k (get_or cs i 0) n, rest.in_step) (omega arith);
        in_all = rw (n, rest.in_all) (omega arith);
      }
    ]

usable_same : (step : ℕ) (cur : List ℕ) (ks : List NoteKind) (u c : ℕ)
    → option_map_or (λ (k : NoteKind). if bytes_eq k.currency cur then c else 0) (slice_get (map (in_steps step cur) ks) u) 0 ≡ option_map_or (λ (k : NoteKind). if bytes_eq k.currency cur then c else 0) (slice_get ks u) 0
usable_same step cur [] u c = refl
usable_same step cur (k ∷ ks) zero c = ap (λ (b : Bool). if b then c else 0) (same_currency step cur k)
usable_same step cur (k ∷ ks) (suc u) c = usable_same step cur ks u c

-- an amount that has a mix is a number of steps
steps_of : (step : ℕ) (cur : List ℕ) (ks : List NoteKind) (have : Counts) (a : ℕ) (m : Counts) → AreMultiples step cur ks → IsMix ks have cur a m
    → (q : ℕ) × (a ≡ step * q) × (value (map (in_steps step cur) ks) m cur ≡ 1000 * q)
steps_of step cur ks have a m multiples is =
    let w = worth step cur ks 0 m.0 multiples in
    (w.steps, omega (arith, w.in_all, is.worth), w.in_step)

pub no_mix_between : (step : ℕ) (cur : List ℕ) (ks : List NoteKind) (have : Counts) (a : ℕ) (m : Counts) → AreMultiples step cur ks → ¬ (a % step ≡ 0) → IsMix ks have cur a m → ⊥
no_mix_between step cur ks have a m multiples between is =
    let q = steps_of step cur ks have a m multiples is in
    between (rw q.1 (mul-mod_right step q.0))

pub no_mix_without : (cur : List ℕ) (ks : List NoteKind) (have : Counts) (a : ℕ) (m : Counts) → AreMultiples 0 cur ks → 1 ≤ a → IsMix ks have cur a m → ⊥
no_mix_without cur ks have a m multiples some is =
    let q = steps_of 0 cur ks have a m multiples is in
    omega (arith, q.1, some)

mix_in_steps : (step : ℕ) (cur : List ℕ) (ks : List NoteKind) (have : Counts) (a : ℕ) (m : Counts) → 0 < step → AreMultiples step cur ks → IsMix ks have cur a m
    → IsMix (map (in_steps step cur) ks) have cur (a / step) m
mix_in_steps step cur ks have a m some multiples is =
    let q = steps_of step cur ks have a m multiples is in
    let whole : a / step ≡ q.0 = ap (λ x. x / step) q.1 ∙ mul-div_cancel_left q.0 some in
    record {
      within = λ u. rw (usable_same step cur ks u (at have u)) (is.within u);
      worth = q.2 ∙ ap (λ x. 1000 * x) (sym whole);
    }

mix_of_steps : (step : ℕ) (cur : List ℕ) (ks : List NoteKind) (have : Counts) (a : ℕ) (m : Counts) → AreMultiples step cur ks → a % step ≡ 0 → IsMix (map (in_steps step cur) ks) have cur (a / step) m
    → IsMix ks have cur a m
mix_of_steps step cur ks have a m multiples even is =
    let w = worth step cur ks 0 m.0 multiples in
    let same : w.steps ≡ a / step = omega (arith, w.in_step, is.worth) in
    let whole : step * (a / step) ≡ a = omega (arith, div-add-mod a step, even) in
    record {
      within = λ u. rw (← usable_same step cur ks u (at have u)) (is.within u);
      worth = w.in_all ∙ ap (λ x. 1000 * (step * x)) same ∙ ap (λ x. 1000 * x) whole;
    }

many_of_steps : (step : ℕ) (cur : List ℕ) (ks : List NoteKind) (have : Counts) (a : ℕ) → 0 < step → AreMultiples step cur ks
    → AreMany (map (in_steps step cur) ks) have cur (a / step) → AreMany ks have cur a
many_of_steps step cur ks have a some multiples many n is = many n (mix_in_steps step cur ks have a n some multiples is)

pub answer_of_steps : (step : ℕ) (cur : List ℕ) (ks : List NoteKind) (have : Counts) (a : ℕ) (r : Result Counts MixFault) → 0 < step → AreMultiples step cur ks → a % step ≡ 0
    → IsAnswer (map (in_steps step cur) ks) have cur (a / step) r → IsAnswer ks have cur a r
answer_of_steps step cur ks have a (Ok n) some multiples even best =
    (mix_of_steps step cur ks have a n multiples even best.0, λ m is. best.1 m (mix_in_steps step cur ks have a m some multiples is), best.2)
answer_of_steps step cur ks have a (Err Nothing) some multiples even none = λ m is. none m (mix_in_steps step cur ks have a m some multiples is)
answer_of_steps step cur ks have a (Err TooMany) some multiples even many =
    ((many.0.0, mix_of_steps step cur ks have a many.0.0 multiples even many.0.1), many_of_steps step cur ks have a some multiples many.1)
answer_of_steps step cur ks have a (Err Memory) some multiples even free = tt
