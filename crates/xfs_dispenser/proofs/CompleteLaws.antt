-- Nothing stands against a dispense that its token covers, nor against a present behind it.
use Rattle.std.proofs.Common.{◌≡◌, ◌≢◌, ◌≤◌, ◌+◌, ◌*◌, ◌==◌, ◌⊎◌, ℕ, zero, suc, Bool, true, false, List, [], ◌∷◌, ◌++◌, length, drop, get_or, None, Some, Ok, Err, inl, inr, refl, sym, subst, ◌∙◌, ap, arith, true≢false}
use Rattle.std.specs.Prelude.{IfOk, nat_lt, not, sum, zip, slice_get, if◌then◌else◌}
use Rattle.std.specs.List.{prefix_len}
use Rattle.std.specs.Str.{bytes_eq}
use Rattle.std.specs.Option.{option_map, option_map_or}
use Rattle.std.specs.declared.option.Option.{Option}
use Rattle.std.specs.declared.result.Result.{Result}
use Rattle.std.proofs.lemmas.Bool.{le-ltb, lt-ltb, ne_eqb, or_parts}
use Rattle.std.proofs.lemmas.Slice.Eq.{bytes_eq-Decides}
use Rattle.std.proofs.lemmas.List.{get_or-drop}
use Rattle.std.proofs.lemmas.List.Folds.{sum_by-zero}
use Rattle.xfs_base.specs.Counts.{at}
use Rattle.xfs_base.specs.Money.{value, value_from}
use Rattle.xfs_base.specs.declared.counts.Counts.{Counts as CountsOf}
use Rattle.xfs_base.specs.declared.money.NoteKind.{NoteKind}
use Rattle.xfs_token.proofs.Whole.{one_token, no_fault}
use Rattle.xfs_mix.specs.Asked.{count_fault, is_none}
use Rattle.xfs_mix.specs.Mix.{IsMix, usable}
use Rattle.xfs_mix.specs.declared.asked.CountFault.TheVariants.{Empty, TooMany, Short as ShortCount}
use Rattle.xfs_common.specs.declared.error.ErrorCode.TheVariants.{NotDispensable, TooManyItems}
use Rattle.xfs_journal.specs.declared.record.Rec.TheVariants.{Bind}
use Rattle.xfs_guard.specs.Covered.{CanPresent, IsBindable, IsCoveredBy, IsGood}
use Rattle.xfs_guard.specs.Fits.{unfit}
use Rattle.xfs_guard.specs.Nonce.{live_nonce}
use Rattle.xfs_guard.specs.Presented.{presented_in}
use Rattle.xfs_guard.specs.Refusals.{Binds, TokenRefused, claim_refusal}
use Rattle.xfs_guard.specs.TokenDeny.{deny_of}
use Rattle.xfs_guard.specs.View.{View}
use Rattle.xfs_guard.specs.declared.ask.Ask.TheVariants as Ask
use Rattle.xfs_guard.specs.declared.deny.Deny.{Deny}
use Rattle.xfs_guard.specs.declared.deny.Deny.TheVariants.{Memory}
use Rattle.xfs_guard.specs.declared.nonce.Nonce.{Nonce}
use Rattle.xfs_guard.specs.declared.open.Open.TheVariants.{No}
use Rattle.xfs_guard.proofs.CoveredLaws.{IsAhead, IsOpenFor, budget-none, can-fit, claim-none, nonce-push, present-free, same-amounts}
use Rattle.xfs_guard.proofs.PresentedLaws.{presented_in-push}
use Rattle.xfs_guard.proofs.RecordLaws.{length-pushed}
use Rattle.xfs_guard.proofs.SizeLaws.{size-longer}
use Rattle.xfs_dispenser.specs.Answers.{CashAnswer, Start, Went, denial, done, planned}
use Rattle.xfs_dispenser.specs.Begins.{IsDispensed, StartsRefused, StartsWith}
use Rattle.xfs_dispenser.specs.Checks.{Passed, DispenseChecks, IsPermitted, IsTokenPassed, IsUnbound, Permits, TokenChecks, active_refusal, passed_unless, unfit_refusal, within_budget}
use Rattle.xfs_dispenser.specs.Complete.{AreAsked, CanGive, IsBegunInFull, IsCalm, IsComplete, IsGiven, IsPresented, WorksTurns}
use Rattle.xfs_dispenser.specs.Plans.{dispense_plan, order_plan, stacks}
use Rattle.xfs_dispenser.specs.Seen.{Seen}
use Rattle.xfs_dispenser.specs.declared.grant.Grant.{Grant}
use Rattle.xfs_dispenser.specs.declared.part.Part.{Part}
use Rattle.xfs_dispenser.specs.declared.plan.Plan.{Plan}
use Rattle.xfs_dispenser.specs.Denominations.{FirstOf, MixGiven, NotesGiven, currency_refusal, denomination_answer, given_unless, has_currency, members_refusal}
use Rattle.xfs_dispenser.specs.declared.notes.Notes.{Notes}
use Rattle.xfs_dispenser.specs.declared.notes.Notes.TheVariants.{Least, Individual}
use Rattle.xfs_dispenser.specs.declared.refusal.Refusal.{Refusal}
use Rattle.xfs_dispenser.specs.declared.refusal.Refusal.TheVariants.{Error, Deny as Refused}
use Rattle.xfs_dispenser.proofs.BeginLaws.{none-at, mix-past, some-mix, stacks-left, worth-none}
use Rattle.xfs_dispenser.proofs.PlanLaws.{stacks-all, stacks_from}
use Rattle.xfs_dispenser.proofs.StackLaws.{TurnsOf, present-places, stacks-full}
use Rattle.xfs_dispenser.proofs.TurnLaws.{carried-full}

-- a list of counts is 0 everywhere where its sum is, and then alone
pub all-zero : (xs : List ℕ) → ((w : ℕ) → get_or xs w 0 ≡ 0) → is_none xs ≡ true
all-zero [] none = refl
all-zero (zero ∷ xs) none = all-zero xs (λ w. none (suc w))
all-zero (suc n ∷ xs) none = (let e = none zero in absurd (omega (arith, e)))

pub some-notes : (xs : List ℕ) → 1 ≤ sum xs → is_none xs ≡ false
some-notes xs low = sym (sum_by-zero (λ x. x) xs) ∙ ne_eqb (sum xs) 0 (λ e. omega (arith, e, low))

pub some-sum : (xs : List ℕ) → is_none xs ≡ false → 1 ≤ sum xs
some-sum xs some = go (sum xs) refl
  where
    go : (n : ℕ) → sum xs ≡ n → 1 ≤ sum xs
    go (suc n) e = omega (arith, e)
    go zero e = (let none : is_none xs ≡ true = sym (sum_by-zero (λ x. x) xs) ∙ ap (λ n. n == 0) e in absurd (true≢false (sym none ∙ some)))

-- notes that came to a place are some of those that lie there
pub some-gained : (before now : CountsOf) (counts : CountsOf) → 1 ≤ sum counts.0 → ((w : ℕ) → at now w ≡ at before w + at counts w) → 1 ≤ sum now.0
some-gained before now counts low gained = some-sum now.0 (go (is_none now.0) refl)
  where
    go : (b : Bool) → is_none now.0 ≡ b → is_none now.0 ≡ false
    go false e = e
    go true e =
        let all = all-zero counts.0 (λ w. let g = gained w in let z = none-at now.0 w e in omega (arith, g, z)) in
        let some = some-notes counts.0 low in
        absurd (true≢false (sym all ∙ some))

all-held : (have counts : List ℕ) → ((w : ℕ) → get_or counts w 0 ≤ get_or have w 0) → prefix_len (λ (p : ℕ × ℕ). not (nat_lt p.0 p.1)) (zip have counts) ≡ length (zip have counts)
all-held [] counts lie = refl
all-held (h ∷ hs) [] lie = refl
all-held (h ∷ hs) (c ∷ cs) lie = let first : nat_lt h c ≡ false = le-ltb h c (lie 0) in let rest = all-held hs cs (λ w. lie (suc w)) in rw (first, rest) (omega arith)

-- counts that are covered are no fault
pub fault-none : (v : View) (amounts : List (List ℕ × ℕ)) (counts : CountsOf) → IsCoveredBy v amounts counts → count_fault v.units v.places.units counts ≡ None
fault-none v amounts counts c =
    go (is_none counts.0) (is_none (drop (length v.units) counts.0)) (nat_lt 60 (sum counts.0)) (nat_lt (prefix_len test pairs) (length pairs)) (prefix_len test pairs)
    (some-notes counts.0 c.low)
    (all-zero (drop (length v.units) counts.0) (λ w. get_or-drop (length v.units) counts.0 w 0 ∙ c.table (length v.units + w) (omega arith)))
    (le-ltb 60 (sum counts.0) c.high)
    (le-ltb (prefix_len test pairs) (length pairs) (let e = all-held v.places.units.0 counts.0 c.lie in omega (arith, e)))
  where
    test : ℕ × ℕ → Bool
    test p = not (nat_lt p.0 p.1)

    pairs : List (ℕ × ℕ)
    pairs = zip v.places.units.0 counts.0

    go : (a b c d : Bool) (n : ℕ) → a ≡ false → b ≡ true → c ≡ false → d ≡ false
        → (if a then Some Empty else if not b then Some Empty else if c then Some TooMany else option_map (λ at. ShortCount (at + 1)) (if d then Some n else None)) ≡ None
    go a b c d n e f g h = rw (e, f, g, h) refl

-- a unit of another currency is worth nothing in this one
value-other : (b : Bool) (v n : ℕ) → (b ≡ true → n ≡ 0) → (if b then 1000 * v * n else 0) ≡ 0
value-other true v n none = rw (none refl) (omega arith)
value-other false v n none = refl

apart-from : (a currency other : List ℕ) → bytes_eq currency other ≡ false → bytes_eq a other ≡ true → bytes_eq a currency ≡ false
apart-from a currency other apart is = go (bytes_eq a currency) refl
  where
    go : (b : Bool) → bytes_eq a currency ≡ b → bytes_eq a currency ≡ false
    go false e = e
    go true e =
        let same : currency ≡ other = sym ((bytes_eq-Decides a currency).0 e) ∙ (bytes_eq-Decides a other).0 is in
        absurd (true≢false (sym ((bytes_eq-Decides currency other).1 same) ∙ apart))

-- counts that have notes of one currency alone are worth nothing in another
mix-other : (ks : List NoteKind) (i : ℕ) (xs currency other : List ℕ) → ((u : ℕ) (k : NoteKind) → slice_get ks u ≡ Some k → bytes_eq k.currency currency ≡ false → get_or xs (i + u) 0 ≡ 0)
    → bytes_eq currency other ≡ false → value_from ks i xs other ≡ 0
mix-other [] i xs currency other none apart = refl
mix-other (k ∷ ks) i xs currency other none apart =
    let here = value-other (bytes_eq k.currency other) k.value (get_or xs i 0) (λ e. let f = none 0 k refl (apart-from k.currency currency other apart e) in let z : i + 0 ≡ i = omega arith in rw z at f) in
    let rest = mix-other ks (i + 1) xs currency other (λ u j there away. let f = none (suc u) j there away in let z : i + suc u ≡ i + 1 + u = omega arith in rw z at f) apart in
    rw (here, rest) refl

usable-other : (units : List NoteKind) (have : CountsOf) (currency : List ℕ) (u : ℕ) (k : NoteKind) → slice_get units u ≡ Some k → bytes_eq k.currency currency ≡ false → usable units have currency u ≡ 0
usable-other units have currency u k there apart = rw (there, apart) refl

usable-within : (units : List NoteKind) (have : CountsOf) (currency : List ℕ) (u : ℕ) → usable units have currency u ≤ at have u
usable-within units have currency u = go (slice_get units u)
  where
    test : (b : Bool) → (if b then at have u else 0) ≤ at have u
    test true = omega arith
    test false = omega arith

    go : (o : Option NoteKind) → option_map_or (λ (k : NoteKind). if bytes_eq k.currency currency then at have u else 0) o 0 ≤ at have u
    go None = omega arith
    go (Some k) = test (bytes_eq k.currency currency)

-- two mixes for one amount are worth the same
mix-same : (units : List NoteKind) (have : CountsOf) (currency : List ℕ) (amount : ℕ) (n m : CountsOf) (c : List ℕ) → IsMix units have currency amount n → IsMix units have currency amount m → value units n c ≡ value units m c
mix-same units have currency amount n m c a b = go (bytes_eq currency c) refl
  where
    none : (k : CountsOf) → IsMix units have currency amount k → (u : ℕ) (j : NoteKind) → slice_get units u ≡ Some j → bytes_eq j.currency currency ≡ false → get_or k.0 (0 + u) 0 ≡ 0
    none k mix u j there apart = (let e = mix.within u in let f = usable-other units have currency u j there apart in let z : 0 + u ≡ u = omega arith in rw z (omega (arith, e, f)))

    go : (t : Bool) → bytes_eq currency c ≡ t → value units n c ≡ value units m c
    go true e = (let same = (bytes_eq-Decides currency c).0 e in rw (← same) (a.worth ∙ sym b.worth))
    go false e = mix-other units 0 n.0 currency c (none n a) e ∙ sym (mix-other units 0 m.0 currency c (none m b) e)

none-of : (ks : List NoteKind) (currency : List ℕ) → has_currency ks currency ≡ false → (u : ℕ) (k : NoteKind) → slice_get ks u ≡ Some k → bytes_eq k.currency currency ≡ false
none-of [] currency none u k there = (let e : None ≡ Some k = there in cc)
none-of (j ∷ ks) currency none zero k there = (let both = or_parts (bytes_eq j.currency currency) (has_currency ks currency) none in let e : j ≡ k = cc in rw (← e) both.0)
none-of (j ∷ ks) currency none (suc u) k there = none-of ks currency (or_parts (bytes_eq j.currency currency) (has_currency ks currency) none).1 u k there

-- an amount that has a mix is of a currency of the units
mix-currency : (units : List NoteKind) (have : CountsOf) (currency : List ℕ) (amount : ℕ) (n : CountsOf) → 1 ≤ amount → IsMix units have currency amount n → has_currency units currency ≡ true
mix-currency units have currency amount n low mix = go (has_currency units currency) refl
  where
    go : (b : Bool) → has_currency units currency ≡ b → has_currency units currency ≡ true
    go true e = e
    go false e =
        let all = all-zero n.0 (λ w. nothing e w (slice_get units w) refl) in
        let z = worth-none units 0 n.0 currency all in
        let worth = mix.worth in
        absurd (omega (arith, z, worth, low))
      where
        nothing : has_currency units currency ≡ false → (w : ℕ) (o : Option NoteKind) → slice_get units w ≡ o → get_or n.0 w 0 ≡ 0
        nothing f w None there = (let a = mix.within w in let z : usable units have currency w ≡ 0 = rw there refl in omega (arith, a, z))
        nothing f w (Some k) there = (let a = mix.within w in let z = usable-other units have currency w k there (none-of units currency f w k there) in omega (arith, a, z))

-- another mix for the amount is covered as well
mix-covered : (v : View) (amounts : List (List ℕ × ℕ)) (currency : List ℕ) (amount : ℕ) (n m : CountsOf) → IsCoveredBy v amounts n → IsMix v.units v.places.units currency amount n
    → IsMix v.units v.places.units currency amount m → is_none m.0 ≡ false → sum m.0 ≤ 60 → ((w : ℕ) → length v.units ≤ w → get_or m.0 w 0 ≡ 0) → IsCoveredBy v amounts m
mix-covered v amounts currency amount n m c a b some few past = record {
  table = past;
  low = some-sum m.0 some;
  high = few;
  lie = λ u. let e = b.within u in let f = usable-within v.units v.places.units currency u in omega (arith, e, f);
  enough = λ k. let e = c.enough k in let f = mix-same v.units v.places.units currency amount m n k b a in omega (arith, e, f);
}

-- notes are given that the amounts cover
pub record IsGivenWithin (v : View) (amounts : List (List ℕ × ℕ)) (given : Result CountsOf Refusal) : Type 0 where
  pub counts : CountsOf
  pub is : given ≡ Ok counts
  pub covered : IsCoveredBy v amounts counts

in-range : (amount : ℕ) → 1 ≤ amount → amount ≤ 1000000 → members_refusal (Least [] amount) ≡ None
in-range amount low high = rw (lt-ltb 0 amount (omega (arith, low)), lt-ltb amount 1000001 (omega (arith, high))) refl

asked-members : (v : View) (notes : Notes) (counts : CountsOf) → AreAsked v notes counts → members_refusal notes ≡ None
asked-members v (Individual named) counts asked = refl
asked-members v (Least currency amount) counts (low, high, mix) = in-range amount low high

mix-given : (v : View) (amounts : List (List ℕ × ℕ)) (currency : List ℕ) (amount : ℕ) (n : CountsOf) (given : Result CountsOf Refusal) → 1 ≤ amount → IsMix v.units v.places.units currency amount n → IsCoveredBy v amounts n
    → MixGiven v.units v.places.units currency amount given → IsGivenWithin v amounts given
mix-given v amounts currency amount n (Ok m) low mix covered (is, least, few) = record {
  counts = m;
  is = refl;
  covered = mix-covered v amounts currency amount n m covered mix is (some-mix v.units v.places.units currency amount m low is) few (λ w high. mix-past v.units v.places.units currency amount m w is high);
}
mix-given v amounts currency amount n (Err (Error NotDispensable)) low mix covered none = absurd (none n mix)
mix-given v amounts currency amount n (Err (Error TooManyItems)) low mix covered (some, many) = (let e = many n mix in let f = covered.high in absurd (omega (arith, e, f)))
mix-given v amounts currency amount n (Err other) low mix covered none = absurd none

asked-given : (v : View) (notes : Notes) (amounts : List (List ℕ × ℕ)) (n : CountsOf) (given : Result CountsOf Refusal) → AreAsked v notes n → IsCoveredBy v amounts n → NotesGiven v.units v.places.units notes given
    → IsGivenWithin v amounts given
asked-given v (Individual named) amounts n given asked covered gives = record {
  counts = n;
  is = (let g = rw asked at gives in g ∙ ap (given_unless n) (fault-none v amounts n covered));
  covered = covered;
}
asked-given v (Least currency amount) amounts n given (low, high, mix) covered gives =
    let has : currency_refusal v.units currency ≡ None = rw (mix-currency v.units v.places.units currency amount n low mix) refl in
    mix-given v amounts currency amount n given low mix covered (subst (λ r. FirstOf r (MixGiven v.units v.places.units currency amount) given) has gives)

token-unrefused : (v : View) (token : List ℕ) (amounts : List (List ℕ × ℕ)) (deny : Deny) (answer : CashAnswer) → unfit v ≡ None → IsGood v token amounts → IsBindable v token → denial deny ≡ Some answer
    → TokenRefused v token deny → ⊥
token-unrefused v token amounts deny answer fit g b due (inl e) = (let f : None ≡ Some deny = sym fit ∙ e in cc)
token-unrefused v token amounts deny answer fit g b due (inr (e, inl m)) =
    let is : deny ≡ Memory = m.denied ∙ ap deny_of (no_fault g.token token m.fault g.genuine.spelled m.is) in
    let f : None ≡ Some answer = sym (ap denial is) ∙ due in
    cc
token-unrefused v token amounts deny answer fit g b due (inr (e, inr r)) =
    let one = one_token r.token g.token token r.spelled g.genuine.spelled in
    let f : None ≡ Some deny = sym (ap (claim_refusal v token) one ∙ claim-none v token amounts g b) ∙ r.first in
    cc

-- a dispense is granted
pub record IsGranted (v : View) (notes : Notes) (token : List ℕ) (amounts : List (List ℕ × ℕ)) (result : Result Passed Refusal) : Type 0 where
  pub counts : CountsOf
  pub given : NotesGiven v.units v.places.units notes (Ok counts)
  pub covered : IsCoveredBy v amounts counts
  pub is : result ≡ Ok (record { token = token; amounts = amounts; counts = counts })

passed-granted : (v : View) (notes : Notes) (token : List ℕ) (c : CanGive v notes token) (result : Result Passed Refusal) → IsTokenPassed v notes token result → IsGranted v notes token c.can.amounts result
passed-granted v notes token c result p =
    let g = asked-given v notes c.can.amounts c.counts p.given c.asked c.can.covered p.gives in
    let amounts = same-amounts v token c.can.amounts p.amounts c.can.good p.passes in
    let free = budget-none v c.can.amounts g.counts g.covered.enough in
    record {
      counts = g.counts;
      given = subst (λ r. NotesGiven v.units v.places.units notes r) g.is p.gives;
      covered = g.covered;
      is = p.is ∙ (ap (λ a. within_budget v token a p.given) amounts ∙ (ap (within_budget v token c.can.amounts) g.is ∙ ap (passed_unless (record { token = token; amounts = c.can.amounts; counts = g.counts })) free));
    }

-- every check of a dispense against which nothing stands is passed, unless its answer is none
checked-granted : (v : View) (notes : Notes) (token : List ℕ) (c : CanGive v notes token) (result : Result Passed Refusal) → DispenseChecks v false notes (Some token) result
    → IsGranted v notes token c.can.amounts result ⊎ ((deny : Deny) × (result ≡ Err (Refused deny)) × ((answer : CashAnswer) → denial deny ≡ Some answer → ⊥))
checked-granted v notes token c result checks =
    let a = subst (λ r. FirstOf r (FirstOf (active_refusal false) (FirstOf (unfit_refusal v) (TokenChecks v notes (Some token)))) result) (asked-members v notes c.counts c.asked) checks in
    let fit = can-fit v token c.counts c.can in
    let free : unfit_refusal v ≡ None = ap (option_map (λ d. Refused d)) fit in
    go fit (subst (λ r. FirstOf r (TokenChecks v notes (Some token)) result) free a)
  where
    go : unfit v ≡ None → TokenChecks v notes (Some token) result → IsGranted v notes token c.can.amounts result ⊎ ((deny : Deny) × (result ≡ Err (Refused deny)) × ((answer : CashAnswer) → denial deny ≡ Some answer → ⊥))
    go fit (inl r) = inr (r.deny, r.is, λ answer due. token-unrefused v token c.can.amounts r.deny answer fit c.can.good c.can.binding due r.refused)
    go fit (inr p) = inl (passed-granted v notes token c result p)

ok-is : {T : Type 0} (x y : T) → ◌≡◌ {A = Result T Refusal} (Ok x) (Ok y) → x ≡ y
ok-is x y e = cc

ok-not : {T : Type 0} (x : T) (r : Refusal) → ◌≡◌ {A = Result T Refusal} (Ok x) (Err r) → ⊥
ok-not x r e = cc

-- a dispense has a grant, for the notes that passed
pub record IsLeft (s : Seen) (notes : Notes) (token : List ℕ) (amounts : List (List ℕ × ℕ)) (bound : Seen) (start : Start) : Type 0 where
  pub issue : ℕ
  pub passed : Passed
  pub given : NotesGiven s.guard.units s.guard.places.units notes (Ok passed.counts)
  pub covered : IsCoveredBy s.guard amounts passed.counts
  pub token_is : passed.token ≡ token
  pub amounts_are : passed.amounts ≡ amounts
  pub lives : option_map (λ (n : Nonce). n.number) (live_nonce s.guard.records) ≡ Some issue
  pub binds : Binds s.guard bound.guard passed.token passed.amounts
  pub later : s.disk_faults ≤ bound.disk_faults
  pub eight : length passed.counts.0 ≡ 8
  pub is : start ≡ planned (dispense_plan issue passed.counts)

dispense-left : (s bound : Seen) (notes : Notes) (token : List ℕ) (start : Start) (c : CanGive s.guard notes token) → IsCalm s bound → IsDispensed s false notes (Some token) bound start
    → IsLeft s notes token c.can.amounts bound start
dispense-left s bound notes token start c calm d = elim (checked-granted s.guard notes token c d.checked d.checks) [
  | inl g ↦ permits (record { token = token; amounts = c.can.amounts; counts = g.counts }) refl refl g.given g.covered (subst (λ r. Permits s r d.grant bound) g.is d.permits)
  | inr (deny, is, none) ↦ absurd (refused deny none (subst (λ r. Permits s r d.grant bound) is d.permits))
]
  where
    refused : (deny : Deny) → ((answer : CashAnswer) → denial deny ≡ Some answer → ⊥) → (d.grant ≡ Err (Refused deny)) × (bound ≡ s) → ⊥
    refused deny none (is, same) = (let t : StartsRefused (Refused deny) start = subst (λ r. StartsWith r (λ (l : Grant). planned (dispense_plan l.issue l.counts)) start) is d.starts in none t.answer t.due)

    permits : (passed : Passed) → passed.token ≡ token → passed.amounts ≡ c.can.amounts → NotesGiven s.guard.units s.guard.places.units notes (Ok passed.counts) → IsCoveredBy s.guard c.can.amounts passed.counts
        → IsPermitted s passed d.grant bound ⊎ IsUnbound s passed d.grant bound → IsLeft s notes token c.can.amounts bound start
    permits passed t a given covered (inr u) = absurd (calm.disk u.fails.cause)
    permits passed t a given covered (inl p) = record {
      issue = p.issue;
      passed = passed;
      given = given;
      covered = covered;
      token_is = t;
      amounts_are = a;
      lives = p.lives;
      binds = p.binds;
      later = p.later;
      eight = subst (λ r. IfOk r (λ (l : Grant). length l.counts.0 ≡ 8)) p.is d.eight;
      is = subst (λ r. StartsWith r (λ (l : Grant). planned (dispense_plan l.issue l.counts)) start) p.is d.starts;
    }

-- the guard whose token is bound takes all of the orders
bound-open : (s bound : Seen) (notes : Notes) (token : List ℕ) (start : Start) (c : CanGive s.guard notes token) (l : IsLeft s notes token c.can.amounts bound start)
    → IsOpenFor bound.guard l.issue c.can.amounts 8 × IsAhead bound.guard c.can.amounts l.passed.counts.0 × (bound.guard.places ≡ s.guard.places) × (bound.guard.units ≡ s.guard.units) × (bound.guard.open_order ≡ s.guard.open_order)
bound-open s bound notes token start c l = go c.can.binding
  where
    short : length l.passed.token ≤ 1024
    short = (let e = c.can.good.genuine.spelled.short in rw (← l.token_is) at e)

    go : IsBindable s.guard token → IsOpenFor bound.guard l.issue c.can.amounts 8 × IsAhead bound.guard c.can.amounts l.passed.counts.0 × (bound.guard.places ≡ s.guard.places) × (bound.guard.units ≡ s.guard.units) × (bound.guard.open_order ≡ s.guard.open_order)
    go (inl b) =
        let now : bound.guard ≡ s.guard = l.binds.again (λ none. let e : Some token ≡ None = sym b ∙ none in cc) in
        rw now (
          record {
            open_still = c.can.room.open_still;
            booted = c.can.room.booted;
            records = (let e = c.can.room.records in omega (arith, e));
            bytes = (let e = c.can.room.bytes in omega (arith, e));
            lives = l.lives;
            bound = sym (ap (λ (v : View). v.bound) now) ∙ (l.binds.kept ∙ ap (λ a. Some a) l.amounts_are);
          },
          record { lie = l.covered.lie; enough = l.covered.enough },
          refl,
          refl,
          refl,
        )
    go (inr f) =
        let now : bound.guard ≡ record s.guard { records = s.guard.records ++ Bind l.passed.token ∷ []; bound = Some l.passed.amounts } = l.binds.first f.none in
        let live = nonce-push s.guard.records (Bind l.passed.token) (λ count live. refl) in
        rw now (
          record {
            open_still = c.can.room.open_still;
            booted = c.can.room.booted;
            records = (let e = c.can.room.records in let k = length-pushed s.guard.records (Bind l.passed.token) in omega (arith, e, k));
            bytes = (let e = c.can.room.bytes in let k = size-longer s.guard.records (Bind l.passed.token) in let h = short in omega (arith, e, k, h));
            lives = ap (λ l. option_map (λ (n : Nonce). n.number) l) live ∙ l.lives;
            bound = ap (λ a. Some a) l.amounts_are;
          },
          record { lie = l.covered.lie; enough = λ k. let e = l.covered.enough k in let q : presented_in s.guard.units (s.guard.records ++ Bind l.passed.token ∷ []) k ≡ presented_in s.guard.units s.guard.records k = presented_in-push s.guard.units s.guard.records (Bind l.passed.token) k in omega (arith, e, q) },
          refl,
          refl,
          refl,
        )

-- fewer orders need no more room
pub less-room : (v : View) (issue many few : ℕ) (amounts : List (List ℕ × ℕ)) → few ≤ many → IsOpenFor v issue amounts many → IsOpenFor v issue amounts few
less-room v issue many few amounts le o = record { open_still = o.open_still; booted = o.booted; records = (let e = o.records in omega (arith, e, le)); bytes = (let e = o.bytes in omega (arith, e, le)); lives = o.lives; bound = o.bound }

turns-of : (parts : List Part) (s : Seen) (plan : Plan) (notes : Option CountsOf) (next : Seen) (went : Went) → parts ≢ [] → WorksTurns (3 * length parts) s plan next went → TurnsOf parts s plan notes next went
turns-of [] s plan notes next went some t = absurd (some refl)
turns-of (part ∷ parts) s plan notes next went some t = t

pub some-nonce : (l : Option Nonce) (issue : ℕ) → option_map (λ (n : Nonce). n.number) l ≡ Some issue → (n : Nonce) × (l ≡ Some n)
some-nonce None issue e = cc
some-nonce (Some n) issue e = (n, refl)

given-full : (s bound : Seen) (notes : Notes) (token : List ℕ) (start : Start) (c : CanGive s.guard notes token) (l : IsLeft s notes token c.can.amounts bound start) (next : Seen) (went : Went) → s.guard.open_order ≡ No
    → length l.passed.counts.0 ≡ 8 → IsCalm bound next → WorksTurns (3 * length (stacks l.issue l.passed.counts.0)) bound (dispense_plan l.issue l.passed.counts) next went → IsGiven s l.passed.counts next went
given-full s bound notes token start c l next went none eight calm turns =
    let ready = bound-open s bound notes token start c l in
    let some = stacks-left l.issue 1 l.passed.counts.0 (some-notes l.passed.counts.0 l.covered.low) in
    let all = stacks-full l.issue c.can.amounts (Some l.passed.counts) l.passed.counts.0 0 bound (dispense_plan l.issue l.passed.counts) next went (omega (arith, eight)) (ready.4 ∙ none) refl (stacks-all l.issue l.passed.counts.0)
    (less-room bound.guard l.issue 8 (length l.passed.counts.0) c.can.amounts (omega (arith, eight)) ready.0) ready.1 calm
    (turns-of (stacks_from l.issue 1 l.passed.counts.0) bound (dispense_plan l.issue l.passed.counts) (Some l.passed.counts) next went some
    (subst (λ parts. WorksTurns (3 * length parts) bound (dispense_plan l.issue l.passed.counts) next went) (stacks-all l.issue l.passed.counts.0) turns)) in
    let lives = some-nonce (live_nonce next.guard.records) l.issue all.open_for.lives in
    let gained : (u : ℕ) → at next.guard.places.transport u ≡ at s.guard.places.transport u + at l.passed.counts u = (λ u. rw ready.2 at (all.transport u)) in
    record {
      is = all.is ∙ ap (λ units. done (denomination_answer units l.passed.counts)) ready.3;
      gained = gained;
      given = λ u. rw ready.2 at (all.units u);
      outlet = λ u. rw ready.2 at (all.outlet u);
      ready = λ empty. record {
        room = record { open_still = all.open_for.open_still; booted = all.open_for.booted; records = (let e = all.open_for.records in omega (arith, e)); bytes = (let e = all.open_for.bytes in omega (arith, e)) };
        nonce = lives.0;
        lives = lives.1;
        amounts = c.can.amounts;
        kept = all.open_for.bound;
        low = some-gained s.guard.places.transport next.guard.places.transport l.passed.counts l.covered.low gained;
        empty = empty;
      };
    }

dispense-full : (s bound : Seen) (notes : Notes) (token : List ℕ) (start : Start) → s.guard.open_order ≡ No → (c : CanGive s.guard notes token) → IsCalm s bound → IsDispensed s false notes (Some token) bound start → IsBegunInFull s notes bound start
dispense-full s bound notes token start none c calm d =
    let l = dispense-left s bound notes token start c calm d in
    record {
      issue = l.issue;
      counts = l.passed.counts;
      given = l.given;
      plan = l.is;
      done = λ next went still turns. given-full s bound notes token start c l next went none l.eight still turns;
    }

presented-full : (s next : Seen) (went : Went) → s.guard.open_order ≡ No → CanPresent s.guard → IsCalm s next → WorksTurns 3 s (order_plan Ask.Present) next went → IsPresented s next went
presented-full s next went none can calm turns =
    let c = carried-full s (order_plan Ask.Present) Ask.Present [] 0 next went none refl (present-free s.guard can) calm turns in
    let places = present-places s.guard.places c.middle.guard.places c.full.number c.full.diverted c.full.places in
    rw c.later.0 (record { is = c.later.1; gained = λ u. (places u).0; left = λ u. (places u).1 })

-- what is done where nothing stands against it
pub complete : IsComplete
complete = record {
  dispense = λ s bound notes token after start none can calm begins. dispense-full s bound notes token start none can calm begins.1;
  present = λ s begun next after start went none can calm begins turns.
      let t : WorksTurns 3 s (order_plan Ask.Present) next went = subst (λ x. WorksTurns 3 x (order_plan Ask.Present) next went) begins.0 turns in
      (begins.2, begins.0, presented-full s next went none can calm t);
}
