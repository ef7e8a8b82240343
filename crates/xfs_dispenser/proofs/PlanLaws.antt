-- The parts of a plan: how they are listed, and that each can be begun.
use Rattle.std.proofs.Common.{◌≡◌, ◌≤◌, ◌<◌, ◌+◌, ◌==◌, ◌⊎◌, ℕ, zero, suc, true, false, List, [], ◌∷◌, ◌++◌, length, get_or, drop, inl, inr, refl, sym, ◌∙◌, ap, arith, append_assoc}
use Rattle.std.specs.Prelude.{filter, flat_map, map, nat_lt, zip, if◌then◌else◌}
use Rattle.std.specs.List.{AllByRecursion, range_with_len}
use Rattle.std.proofs.Math.Seq.{drop-cons}
use Rattle.std.proofs.lemmas.List.{append-nil, drop_all}
use Rattle.std.proofs.lemmas.Bool.{cases_lt, lt-ltb, ne_eqb}
use Rattle.xfs_mech.specs.Mechanism.{CanLoad}
use Rattle.xfs_guard.specs.View.{View}
use Rattle.xfs_guard.specs.declared.ask.Ask.TheVariants.{Stack}
use Rattle.xfs_dispenser.specs.Plans.{stacks, loads, CanBeginAll, IsNoLoadOf}
use Rattle.xfs_dispenser.specs.declared.part.Part.{Part}
use Rattle.xfs_dispenser.specs.declared.part.Part.TheVariants.{Order, Load, Note}

-- the counts from one on, the first of which is this
pub drop-here : (counts : List ℕ) (i n : ℕ) → i < length counts → get_or counts i 0 ≡ n → drop i counts ≡ n ∷ drop (i + 1) counts
drop-here counts i n low is = (let whole = drop-cons counts i 0 low in let one : suc i ≡ i + 1 = omega arith in cc)

-- some notes are not none
some-test : (n : ℕ) → (suc n == 0) ≡ false
some-test n = ne_eqb (suc n) 0 (λ e. omega (arith, e))

some-above : (n : ℕ) → nat_lt 0 (suc n) ≡ true
some-above n = lt-ltb 0 (suc n) (omega arith)

-- the units of which there are notes, from this unit on
abbrev pub units_from : ℕ → List ℕ → List (ℕ × ℕ)
units_from unit counts = filter (λ (u : ℕ × ℕ). nat_lt 0 u.1) (zip (range_with_len unit (length counts)) counts)

pub units-some : (unit n : ℕ) (counts : List ℕ) → units_from unit (suc n ∷ counts) ≡ (unit, suc n) ∷ units_from (unit + 1) counts
units-some unit n counts = rw (some-above n) refl

-- an order for each of them, unit by unit
abbrev pub stacks_from : ℕ → ℕ → List ℕ → List Part
stacks_from issue unit [] = []
stacks_from issue unit (zero ∷ counts) = stacks_from issue (unit + 1) counts
stacks_from issue unit (suc n ∷ counts) = Order (Stack issue unit (suc n)) ∷ stacks_from issue (unit + 1) counts

pub stacks-from : (issue unit : ℕ) (counts : List ℕ) → map (λ (u : ℕ × ℕ). Order (Stack issue u.0 u.1)) (units_from unit counts) ≡ stacks_from issue unit counts
stacks-from issue unit [] = refl
stacks-from issue unit (zero ∷ counts) = stacks-from issue (unit + 1) counts
stacks-from issue unit (suc n ∷ counts) = ap (map (λ (u : ℕ × ℕ). Order (Stack issue u.0 u.1))) (units-some unit n counts) ∙ ap (λ l. Order (Stack issue unit (suc n)) ∷ l) (stacks-from issue (unit + 1) counts)

pub stacks-all : (issue : ℕ) (counts : List ℕ) → stacks issue counts ≡ stacks_from issue 1 counts
stacks-all issue counts = stacks-from issue 1 counts

-- a loading and its record for each of them, unit by unit
abbrev pub loads_from : ℕ → List ℕ → List Part
loads_from unit [] = []
loads_from unit (zero ∷ counts) = loads_from (unit + 1) counts
loads_from unit (suc n ∷ counts) = Load unit (suc n) ∷ Note unit (suc n) ∷ loads_from (unit + 1) counts

loads-from : (unit : ℕ) (counts : List ℕ) → flat_map (λ (u : ℕ × ℕ). Load u.0 u.1 ∷ Note u.0 u.1 ∷ []) (units_from unit counts) ≡ loads_from unit counts
loads-from unit [] = refl
loads-from unit (zero ∷ counts) = loads-from (unit + 1) counts
loads-from unit (suc n ∷ counts) = ap (flat_map (λ (u : ℕ × ℕ). Load u.0 u.1 ∷ Note u.0 u.1 ∷ [])) (units-some unit n counts) ∙ ap (λ l. Load unit (suc n) ∷ Note unit (suc n) ∷ l) (loads-from (unit + 1) counts)

pub loads-all : (counts : List ℕ) → loads counts ≡ loads_from 1 counts
loads-all counts = loads-from 1 counts

stacks-split : (issue unit n : ℕ) (counts : List ℕ) → stacks_from issue unit (n ∷ counts) ≡ (if n == 0 then [] else Order (Stack issue unit n) ∷ []) ++ stacks_from issue (unit + 1) counts
stacks-split issue unit zero counts = refl
stacks-split issue unit (suc n) counts = rw (some-test n) refl

-- the next unit's order stands behind those before
pub stacks-step : (issue i n : ℕ) (counts : List ℕ) (parts longer whole : List Part) → i < length counts → get_or counts i 0 ≡ n → longer ≡ parts ++ (if n == 0 then [] else Order (Stack issue (i + 1) n) ∷ [])
    → parts ++ stacks_from issue (i + 1) (drop i counts) ≡ whole → longer ++ stacks_from issue (i + 1 + 1) (drop (i + 1) counts) ≡ whole
stacks-step issue i n counts parts longer whole low is grown listed =
    let rest = stacks_from issue (i + 1 + 1) (drop (i + 1) counts) in
    let one : List Part = if n == 0 then [] else Order (Stack issue (i + 1) n) ∷ [] in
    ap (λ l. l ++ rest) grown ∙ (append_assoc parts one rest ∙ (ap (λ l. parts ++ l) (sym (ap (stacks_from issue (i + 1)) (drop-here counts i n low is) ∙ stacks-split issue (i + 1) n (drop (i + 1) counts))) ∙ listed))

loads-split : (unit n : ℕ) (counts : List ℕ) → loads_from unit (n ∷ counts) ≡ (if n == 0 then [] else Load unit n ∷ Note unit n ∷ []) ++ loads_from (unit + 1) counts
loads-split unit zero counts = refl
loads-split unit (suc n) counts = rw (some-test n) refl

-- the next unit's loading stands behind those before
pub loads-step : (i n : ℕ) (counts : List ℕ) (parts longer whole : List Part) → i < length counts → get_or counts i 0 ≡ n → longer ≡ parts ++ (if n == 0 then [] else Load (i + 1) n ∷ Note (i + 1) n ∷ [])
    → parts ++ loads_from (i + 1) (drop i counts) ≡ whole → longer ++ loads_from (i + 1 + 1) (drop (i + 1) counts) ≡ whole
loads-step i n counts parts longer whole low is grown listed =
    let rest = loads_from (i + 1 + 1) (drop (i + 1) counts) in
    let one : List Part = if n == 0 then [] else Load (i + 1) n ∷ Note (i + 1) n ∷ [] in
    ap (λ l. l ++ rest) grown ∙ (append_assoc parts one rest ∙ (ap (λ l. parts ++ l) (sym (ap (loads_from (i + 1)) (drop-here counts i n low is) ∙ loads-split (i + 1) n (drop (i + 1) counts))) ∙ listed))

-- no unit is left
pub stacks-end : (issue i : ℕ) (counts : List ℕ) (parts whole : List Part) → length counts ≤ i → parts ++ stacks_from issue (i + 1) (drop i counts) ≡ whole → parts ≡ whole
stacks-end issue i counts parts whole high listed = sym (append-nil parts) ∙ (ap (λ l. parts ++ stacks_from issue (i + 1) l) (sym (drop_all i counts high)) ∙ listed)

pub loads-end : (i : ℕ) (counts : List ℕ) (parts whole : List Part) → length counts ≤ i → parts ++ loads_from (i + 1) (drop i counts) ≡ whole → parts ≡ whole
loads-end i counts parts whole high listed = sym (append-nil parts) ∙ (ap (λ l. parts ++ loads_from (i + 1) l) (sym (drop_all i counts high)) ∙ listed)

-- counts that are 0 past the table can be stacked
pub stacks-begin : (v : View) (issue u : ℕ) (counts : List ℕ) → ((w : ℕ) → length v.units ≤ u + w → get_or counts w 0 ≡ 0) → CanBeginAll v (stacks_from issue (u + 1) counts)
stacks-begin v issue u [] past = tt
stacks-begin v issue u (zero ∷ counts) past = stacks-begin v issue (u + 1) counts (λ w high. past (suc w) (omega (arith, high)))
stacks-begin v issue u (suc n ∷ counts) past = (
  (omega arith, below (cases_lt u (length v.units)), omega arith),
  tt,
  stacks-begin v issue (u + 1) counts (λ w high. past (suc w) (omega (arith, high))),
)
  where
    below : (u < length v.units) ⊎ (length v.units ≤ u) → u + 1 ≤ length v.units
    below (inl low) = omega (arith, low)
    below (inr high) = (let none : suc n ≡ 0 = past 0 (omega (arith, high)) in absurd (omega (arith, none)))

-- the loadings of higher units are of other units
loads-apart : (unit u : ℕ) (counts : List ℕ) → unit ≤ u → AllByRecursion (IsNoLoadOf unit) (loads_from (u + 1) counts)
loads-apart unit u [] low = tt
loads-apart unit u (zero ∷ counts) low = loads-apart unit (u + 1) counts (omega (arith, low))
loads-apart unit u (suc n ∷ counts) low = (λ e. omega (arith, low, e), (tt, loads-apart unit (u + 1) counts (omega (arith, low))))

-- what the units have room for can be loaded
pub loads-begin : (v : View) (u : ℕ) (counts : List ℕ) → ((w : ℕ) → 0 < get_or counts w 0 → CanLoad v.units v.places (u + w + 1) (get_or counts w 0)) → CanBeginAll v (loads_from (u + 1) counts)
loads-begin v u [] room = tt
loads-begin v u (zero ∷ counts) room = loads-begin v (u + 1) counts (λ w some. rw (shift w) (room (suc w) some))
  where
    shift : (w : ℕ) → u + 1 + w + 1 ≡ u + suc w + 1
    shift w = omega arith
loads-begin v u (suc n ∷ counts) room = (
  here,
  (tt, loads-apart (u + 1) (u + 1) counts (omega arith)),
  ((here.low, here.high), tt, loads-begin v (u + 1) counts (λ w some. rw (shift w) (room (suc w) some))),
)
  where
    shift : (w : ℕ) → u + 1 + w + 1 ≡ u + suc w + 1
    shift w = omega arith

    here : CanLoad v.units v.places (u + 1) (suc n)
    here = (let e : u + 0 + 1 ≡ u + 1 = omega arith in rw e at (room 0 (omega arith)))
