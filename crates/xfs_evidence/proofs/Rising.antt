-- The order of currencies, and amounts in it.
use Rattle.std.proofs.Common.{◌≡◌, ℕ, Bool, true, false, List, [], ◌∷◌, ◌++◌, Some, refl, sym, ◌∙◌, ap, true≢false}
use Rattle.std.specs.Prelude.{if◌then◌else◌, unwrap_or, find}
use Rattle.std.specs.Option.{option_map}
use Rattle.std.specs.Str.{bytes_eq}
use Rattle.std.specs.Cmp.Lexicographic.{slice_cmp}
use Rattle.std.specs.Ordering.{is_lt, is_eq, nat_cmp, ordering_reverse}
use Rattle.std.specs.declared.cmp.Ordering.{Ordering}
use Rattle.std.specs.declared.cmp.Ordering.TheVariants.{Less, Equal, Greater}
use Rattle.std.proofs.lemmas.Bool.{and_parts, and_from, or_parts}
use Rattle.std.proofs.lemmas.Cmp.{nat_list_cmp_total, tied_itself}
use Rattle.std.proofs.lemmas.Map.Text.{is_eq-slice_cmp}
use Rattle.std.proofs.lemmas.Slice.Eq.{bytes_eq-Decides}
use Rattle.xfs_token.specs.Amounts.{amount_in, has_currency}
use Rattle.xfs_evidence.specs.Told.{is_before, are_rising}
use Rattle.xfs_evidence.specs.Reading.{may_end}

less : (o : Ordering) → is_lt o ≡ true → o ≡ Less
less Less e = refl
less Equal e = absurd (true≢false (sym e))
less Greater e = absurd (true≢false (sym e))

pub before-trans : (c d e : List ℕ) → is_before c d ≡ true → is_before d e ≡ true → is_before c e ≡ true
before-trans c d e one two = ap is_lt (nat_list_cmp_total.trans c d e (less (slice_cmp nat_cmp c d) one) (less (slice_cmp nat_cmp d e) two))

pub before-self : (c : List ℕ) → is_before c c ≡ false
before-self c = ap is_lt (tied_itself nat_list_cmp_total c)

-- of two that come before neither, one is the other
pub before-neither : (c d : List ℕ) → is_before c d ≡ false → is_before d c ≡ false → c ≡ d
before-neither c d one two = by (slice_cmp nat_cmp c d) (slice_cmp nat_cmp d c) refl refl
  where
    same : slice_cmp nat_cmp c d ≡ Equal → c ≡ d
    same e = (bytes_eq-Decides c d).0 (sym (is_eq-slice_cmp c d) ∙ ap is_eq e)

    by : (o p : Ordering) → slice_cmp nat_cmp c d ≡ o → slice_cmp nat_cmp d c ≡ p → c ≡ d
    by Equal p e f = same e
    by Less p e f = absurd (true≢false (sym (ap is_lt e) ∙ one))
    by Greater Less e f = absurd (true≢false (sym (ap is_lt f) ∙ two))
    by Greater Equal e f = let x : Greater ≡ Equal = sym e ∙ nat_list_cmp_total.antisymm c d ∙ ap ordering_reverse f in cc
    by Greater Greater e f = let x : Greater ≡ Less = sym e ∙ nat_list_cmp_total.antisymm c d ∙ ap ordering_reverse f in cc

-- one that comes before another isn't it
pub before-other : (c d : List ℕ) → is_before c d ≡ true → bytes_eq c d ≡ false
before-other c d before = by (bytes_eq c d) refl
  where
    by : (b : Bool) → bytes_eq c d ≡ b → b ≡ false
    by false e = refl
    by true e = absurd (true≢false (sym before ∙ ap (λ x. is_before x d) ((bytes_eq-Decides c d).0 e) ∙ before-self d))

pub may_end-push : (told : List (List ℕ × ℕ)) (a : List ℕ × ℕ) (c : List ℕ) → may_end (told ++ a ∷ []) c ≡ is_before a.0 c
may_end-push [] a c = refl
may_end-push (x ∷ []) a c = refl
may_end-push (x ∷ y ∷ rest) a c = may_end-push (y ∷ rest) a c

pub rising-push : (told : List (List ℕ × ℕ)) (a : List ℕ × ℕ) → are_rising told ≡ true → may_end told a.0 ≡ true → are_rising (told ++ a ∷ []) ≡ true
rising-push [] a r e = refl
rising-push (x ∷ []) a r e = rw e refl
rising-push (x ∷ y ∷ rest) a r e = let parts = and_parts (is_before x.0 y.0) (are_rising (y ∷ rest)) r in rw parts.0 (rising-push (y ∷ rest) a parts.1 e)

-- and the other way round
pub rising-front : (told : List (List ℕ × ℕ)) (a : List ℕ × ℕ) → are_rising (told ++ a ∷ []) ≡ true → (are_rising told ≡ true) × (may_end told a.0 ≡ true)
rising-front [] a r = (refl, refl)
rising-front (x ∷ []) a r = (refl, (and_parts (is_before x.0 a.0) true r).0)
rising-front (x ∷ y ∷ rest) a r =
    let parts = and_parts (is_before x.0 y.0) (are_rising (y ∷ rest ++ a ∷ [])) r in
    let ih = rising-front (y ∷ rest) a parts.1 in
    (and_from (is_before x.0 y.0) (are_rising (y ∷ rest)) parts.0 ih.0, ih.1)

-- the first comes before what the last comes before
first-before : (a : List ℕ × ℕ) (rest : List (List ℕ × ℕ)) (c : List ℕ) → are_rising (a ∷ rest) ≡ true → may_end (a ∷ rest) c ≡ true → is_before a.0 c ≡ true
first-before a [] c r e = e
first-before a (b ∷ rest) c r e = let parts = and_parts (is_before a.0 b.0) (are_rising (b ∷ rest)) r in before-trans a.0 b.0 c parts.0 (first-before b rest c parts.1 e)

rest-rising : (a : List ℕ × ℕ) (rest : List (List ℕ × ℕ)) → are_rising (a ∷ rest) ≡ true → are_rising rest ≡ true
rest-rising a [] r = refl
rest-rising a (b ∷ rest) r = (and_parts (is_before a.0 b.0) (are_rising (b ∷ rest)) r).1

rest-ends : (a : List ℕ × ℕ) (rest : List (List ℕ × ℕ)) (c : List ℕ) → may_end (a ∷ rest) c ≡ true → may_end rest c ≡ true
rest-ends a [] c e = refl
rest-ends a (b ∷ rest) c e = e

-- a currency behind all of them is new
pub new-behind : (told : List (List ℕ × ℕ)) (c : List ℕ) → are_rising told ≡ true → may_end told c ≡ true → has_currency c told ≡ false
new-behind [] c r e = refl
new-behind (a ∷ rest) c r e = rw (before-other a.0 c (first-before a rest c r e)) (new-behind rest c (rest-rising a rest r) (rest-ends a rest c e))

-- what is behind a currency that all come before
pub ends-further : (told : List (List ℕ × ℕ)) (c d : List ℕ) → may_end told c ≡ true → is_before c d ≡ true → may_end told d ≡ true
ends-further [] c d e before = refl
ends-further (a ∷ []) c d e before = before-trans a.0 c d e before
ends-further (a ∷ b ∷ rest) c d e before = ends-further (b ∷ rest) c d e before

-- what amounts have of a currency, with one more
pub amount_in-more : (told : List (List ℕ × ℕ)) (c : List ℕ) (w : ℕ) (d : List ℕ) → bytes_eq c d ≡ false → amount_in (told ++ (c, w) ∷ []) d ≡ amount_in told d
unfolding amount_in
amount_in-more [] c w d other = rw other refl
amount_in-more (a ∷ rest) c w d other = by (bytes_eq a.0 d) (amount_in-more rest c w d other)
  where
    by : (b : Bool) → unwrap_or (option_map (λ (x : List ℕ × ℕ). x.1) (find (λ x. bytes_eq x.0 d) (rest ++ (c, w) ∷ []))) 0 ≡ unwrap_or (option_map (λ (x : List ℕ × ℕ). x.1) (find (λ x. bytes_eq x.0 d) rest)) 0
        → unwrap_or (option_map (λ (x : List ℕ × ℕ). x.1) (if b then Some a else find (λ x. bytes_eq x.0 d) (rest ++ (c, w) ∷ []))) 0 ≡ unwrap_or (option_map (λ (x : List ℕ × ℕ). x.1) (if b then Some a else find (λ x. bytes_eq x.0 d) rest)) 0
    by true ih = refl
    by false ih = ih

pub amount_in-new : (told : List (List ℕ × ℕ)) (c : List ℕ) (w : ℕ) → has_currency c told ≡ false → amount_in (told ++ (c, w) ∷ []) c ≡ w
unfolding amount_in
amount_in-new [] c w new = rw ((bytes_eq-Decides c c).1 refl) refl
amount_in-new (a ∷ rest) c w new = let parts = or_parts (bytes_eq a.0 c) (has_currency c rest) new in rw parts.0 (amount_in-new rest c w parts.1)
