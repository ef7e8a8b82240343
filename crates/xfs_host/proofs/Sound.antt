-- Every history is sound, call by call.
use Rattle.std.proofs.Common.{◌≡◌, ℕ, ◌+◌, ◌-◌, ◌≤◌, ◌==◌, ◌&&◌, Bool, true, false, true≢false, cond, List, [], ◌∷◌, ◌++◌, None, Some, Option, is_some, bytes_eq, find, fold, count_by, IfSome, refl, sym, ◌∙◌, ap, subst, arith}
use Rattle.std.specs.List.{sum_by}
use Rattle.std.specs.Cmp.Lexicographic.{bytes_decides}
use Rattle.std.proofs.lemmas.Bool.{eq-eqb, eqb-false, eqb-true, ne_eqb}
use Rattle.std.proofs.lemmas.List.Sums.{sum_by-cons, sum_by_push}
use Rattle.xfs_host.specs.Book.{Book, Call, Opened, Asked, Opening, balance_in, book_of, debits, decided, first_ask_in, first_of, is_paid, noted, opening_in, user_in, with_first, with_opening}
use Rattle.xfs_host.specs.Laws.{IsCovered, TokensArePaid, debits_in, taken, tokens_in, uses, worth}
use Rattle.xfs_host.specs.declared.first.First.{First}
use Rattle.xfs_host.proofs.Paying.{IsPaying, paying}
use Rattle.xfs_host.proofs.Steps.{debits_other, debits_paid, debits_refused, found_new, found_same, noted_again, noted_new, noted_open, noted_opening, untouched_opening, untouched_paid}
use Rattle.std.proofs.lemmas.Option.{same_Some}

abbrev has_number : ℕ → Opening → Bool
has_number account o = o.account == account

-- what is sound, with what its proof needs: nothing was taken from an account that is not open, and no number is open twice
record IsWhole (b : Book) : Type 0 where
  untouched : (account : ℕ) → opening_in b account ≡ None → debits b account ≡ 0
  alone : (account : ℕ) → count_by (has_number account) b.opened ≤ 1
  covered : (account : ℕ) → IsCovered b account
  totals : (currency : List ℕ) → tokens_in currency b ≡ debits_in currency b
  once : (nonce : List ℕ) → count_by (uses nonce) b.asked ≤ 1

-- none of those that are looked for is there
count_none : {A : Type 0} (p : A → Bool) (xs : List A) → find p xs ≡ None → count_by p xs ≡ 0
count_none p [] none = refl
count_none {A} p (x ∷ xs) none = by_test (p x) refl (count_none p xs) none
  where
    by_test : (t : Bool) → p x ≡ t → (find p xs ≡ None → count_by p xs ≡ 0) → cond t (Some x) (find p xs) ≡ None → count_by p (x ∷ xs) ≡ 0
    by_test true e rest none = absurd (true≢false (ap is_some none))
    by_test false e rest none = omega (arith, sum_by-cons (λ y. cond (p y) 1 0) x xs, ap {B = ℕ} (λ t. cond t 1 0) e, rest none)

-- one more that is looked for, where there was none
count_new : {A : Type 0} (p : A → Bool) (xs : List A) (y : A) → find p xs ≡ None → count_by p (xs ++ y ∷ []) ≤ 1
count_new p xs y none = by_test (p y) refl
  where
    by_test : (t : Bool) → p y ≡ t → count_by p (xs ++ y ∷ []) ≤ 1
    by_test true e = omega (arith, sum_by_push (λ z. cond (p z) 1 0) xs y, count_none p xs none, ap {B = ℕ} (λ t. cond t 1 0) e)
    by_test false e = omega (arith, sum_by_push (λ z. cond (p z) 1 0) xs y, count_none p xs none, ap {B = ℕ} (λ t. cond t 1 0) e)

-- one more that isn't looked for
count_same : {A : Type 0} (p : A → Bool) (xs : List A) (y : A) → p y ≡ false → count_by p (xs ++ y ∷ []) ≡ count_by p xs
count_same p xs y refused = omega (arith, sum_by_push (λ z. cond (p z) 1 0) xs y, ap {B = ℕ} (λ t. cond t 1 0) refused)

sum_same : {A : Type 0} (f g : A → ℕ) (xs : List A) → ((x : A) → f x ≡ g x) → sum_by f xs ≡ sum_by g xs
sum_same f g [] h = refl
sum_same f g (x ∷ xs) h = omega (arith, sum_by-cons f x xs, sum_by-cons g x xs, h x, sum_same f g xs h)

-- what is found passes
found_passes : {A : Type 0} (p : A → Bool) (xs : List A) (o : A) → find p xs ≡ Some o → p o ≡ true
found_passes p [] o found = absurd (true≢false (sym (ap is_some found)))
found_passes {A} p (x ∷ xs) o found = by_test (p x) refl (found_passes p xs o) found
  where
    by_test : (t : Bool) → p x ≡ t → (find p xs ≡ Some o → p o ≡ true) → cond t (Some x) (find p xs) ≡ Some o → p o ≡ true
    by_test true e rest found = subst (λ y. p y ≡ true) (same_Some x o found) e
    by_test false e rest found = rest found

swapped : (a b : ℕ) → (a == b) ≡ true → (b == a) ≡ true
swapped a b e = eq-eqb b a (sym (eqb-true a b e))

turned : (a b : ℕ) → (a == b) ≡ false → (b == a) ≡ false
turned a b e = ne_eqb b a (λ same. eqb-false a b e (sym same))

-- a share of a sum, where one at most has it
shares_none : {A : Type 0} (p : A → Bool) (f g : A → ℕ) (xs : List A) → ((x : A) → p x ≡ false → f x ≡ g x) → count_by p xs ≡ 0 → sum_by f xs ≡ sum_by g xs
shares_none p f g [] h none = refl
shares_none {A} p f g (x ∷ xs) h none = by_test (p x) refl (shares_none p f g xs h)
  where
    by_test : (t : Bool) → p x ≡ t → (count_by p xs ≡ 0 → sum_by f xs ≡ sum_by g xs) → sum_by f (x ∷ xs) ≡ sum_by g (x ∷ xs)
    by_test true e rest = absurd (omega (arith, none, sum_by-cons (λ y. cond (p y) 1 0) x xs, ap {B = ℕ} (λ t. cond t 1 0) e))
    by_test false e rest =
        let none : count_by p xs ≡ 0 = omega (arith, none, sum_by-cons (λ y. cond (p y) 1 0) x xs) in
        omega (arith, sum_by-cons f x xs, sum_by-cons g x xs, h x e, rest none)

shares_one : {A : Type 0} (p : A → Bool) (f g : A → ℕ) (n : ℕ) (o : A) (xs : List A) → ((x : A) → p x ≡ false → f x ≡ g x) → f o ≡ g o + n
    → count_by p xs ≤ 1 → find p xs ≡ Some o → sum_by f xs ≡ sum_by g xs + n
shares_one p f g n o [] h more one found = absurd (true≢false (sym (ap is_some found)))
shares_one {A} p f g n o (x ∷ xs) h more one found = by_test (p x) refl (shares_one p f g n o xs h more) found
  where
    by_test : (t : Bool) → p x ≡ t → (count_by p xs ≤ 1 → find p xs ≡ Some o → sum_by f xs ≡ sum_by g xs + n)
        → cond t (Some x) (find p xs) ≡ Some o → sum_by f (x ∷ xs) ≡ sum_by g (x ∷ xs) + n
    by_test true e rest found =
        let none : count_by p xs ≡ 0 = omega (arith, one, sum_by-cons (λ y. cond (p y) 1 0) x xs, ap {B = ℕ} (λ t. cond t 1 0) e) in
        let here : f x ≡ g x + n = subst (λ y. f y ≡ g y + n) (sym (same_Some x o found)) more in
        omega (arith, sum_by-cons f x xs, sum_by-cons g x xs, here, shares_none p f g xs h none)
    by_test false e rest found =
        let few : count_by p xs ≤ 1 = omega (arith, one, sum_by-cons (λ y. cond (p y) 1 0) x xs) in
        omega (arith, sum_by-cons f x xs, sum_by-cons g x xs, h x e, rest few found)

-- ---- an account is opened

covered_opening : (b : Book) (o : Opening) (q : ℕ) → IsWhole b → opening_in b o.account ≡ None → IsCovered (with_opening b o) q
covered_opening b o q k none = by_key (o.account == q) refl
  where
    by_key : (t : Bool) → (o.account == q) ≡ t → IsCovered (with_opening b o) q
    by_key true e =
        let same : o.account ≡ q = eqb-true o.account q e in
        let found = found_new (has_number q) b.opened o (subst (λ x. opening_in b x ≡ None) same none) e in
        let zero : debits b q ≡ 0 = subst (λ x. debits b x ≡ 0) same (k.untouched o.account none) in
        let enough : debits b q ≤ o.balance = omega (arith, zero) in
        subst (λ x. IfSome x (λ p. debits b q ≤ p.balance)) (sym found) enough
    by_key false e = subst (λ x. IfSome x (λ p. debits b q ≤ p.balance)) (sym (found_same (has_number q) b.opened o e)) (k.covered q)

alone_opening : (b : Book) (o : Opening) (q : ℕ) → IsWhole b → opening_in b o.account ≡ None → count_by (has_number q) (b.opened ++ o ∷ []) ≤ 1
alone_opening b o q k none = by_key (o.account == q) refl
  where
    by_key : (t : Bool) → (o.account == q) ≡ t → count_by (has_number q) (b.opened ++ o ∷ []) ≤ 1
    by_key true e = count_new (has_number q) b.opened o (subst (λ x. opening_in b x ≡ None) (eqb-true o.account q e) none)
    by_key false e = omega (arith, count_same (has_number q) b.opened o e, k.alone q)

totals_opening : (b : Book) (o : Opening) (c : List ℕ) → IsWhole b → opening_in b o.account ≡ None → tokens_in c b ≡ debits_in c (with_opening b o)
totals_opening b o c k none = by_currency (bytes_eq o.currency c) refl
  where
    by_currency : (t : Bool) → bytes_eq o.currency c ≡ t → tokens_in c b ≡ debits_in c (with_opening b o)
    by_currency true e = omega (arith, k.totals c, sum_by_push (taken b c) b.opened o, ap (λ t. cond t (debits b o.account) 0) e, k.untouched o.account none)
    by_currency false e = omega (arith, k.totals c, sum_by_push (taken b c) b.opened o, ap (λ t. cond t (debits b o.account) 0) e)

whole_opening : (b : Book) (o : Opening) → IsWhole b → opening_in b o.account ≡ None → IsWhole (with_opening b o)
whole_opening b o k none = record {
  untouched = untouched_opening b o k.untouched;
  alone = λ q. alone_opening b o q k none;
  covered = λ q. covered_opening b o q k none;
  totals = λ c. totals_opening b o c k none;
  once = k.once;
}

-- ---- a first ask is refused

whole_refused : (b : Book) (f : First) → IsWhole b → is_paid f.decision ≡ false → IsWhole (with_first b f)
whole_refused b f k refused = record {
  untouched = λ q h. debits_refused b f q refused ∙ k.untouched q h;
  alone = k.alone;
  covered = λ q. subst (λ n. IfSome (opening_in b q) (λ o. n ≤ o.balance)) (sym (debits_refused b f q refused)) (k.covered q);
  totals = λ c.
      let nothing : worth c f ≡ 0 = ap (λ t. cond (t && bytes_eq f.terms.currency c) f.terms.amount 0) refused in
      omega (arith, sum_by_push (worth c) b.asked f, nothing, k.totals c, sum_same (taken (with_first b f) c) (taken b c) b.opened (λ o. ap (λ n. cond (bytes_eq o.currency c) n 0) (debits_refused b f o.account refused)));
  once = λ n. omega (arith, count_same (uses n) b.asked f (ap (λ t. t && bytes_eq f.terms.nonce n) refused), k.once n);
}

-- ---- a first ask is paid

covered_paid : (b : Book) (f : First) (q : ℕ) → IsWhole b → is_paid f.decision ≡ true → IsPaying b f.terms → IsCovered (with_first b f) q
covered_paid b f q k paid p = by_key (f.terms.account == q) refl
  where
    by_key : (t : Bool) → (f.terms.account == q) ≡ t → IsCovered (with_first b f) q
    by_key true e =
        let same : f.terms.account ≡ q = eqb-true f.terms.account q e in
        let found : opening_in b q ≡ Some p.account = subst (λ x. opening_in b x ≡ Some p.account) same p.found in
        let had : debits b q ≤ p.account.balance = subst (λ x. IfSome x (λ o. debits b q ≤ o.balance)) found (k.covered q) in
        let has : f.terms.amount ≤ p.account.balance - debits b q = subst (λ x. f.terms.amount ≤ balance_in b x p.account) same p.covered in
        let enough : debits (with_first b f) q ≤ p.account.balance = omega (arith, had, has, debits_paid b f q paid e) in
        subst (λ x. IfSome x (λ o. debits (with_first b f) q ≤ o.balance)) (sym found) enough
    by_key false e = subst (λ n. IfSome (opening_in b q) (λ o. n ≤ o.balance)) (sym (debits_other b f q paid e)) (k.covered q)

once_paid : (b : Book) (f : First) (n : List ℕ) → IsWhole b → is_paid f.decision ≡ true → user_in b f.terms.nonce ≡ None → count_by (uses n) (b.asked ++ f ∷ []) ≤ 1
once_paid b f n k paid unused = by_key (bytes_eq f.terms.nonce n) refl
  where
    by_key : (t : Bool) → bytes_eq f.terms.nonce n ≡ t → count_by (uses n) (b.asked ++ f ∷ []) ≤ 1
    by_key true e = count_new (uses n) b.asked f (subst (λ x. user_in b x ≡ None) ((bytes_decides f.terms.nonce n).0 e) unused)
    by_key false e = omega (arith, count_same (uses n) b.asked f (ap (λ t. t && bytes_eq f.terms.nonce n) paid ∙ e), k.once n)

totals_paid : (b : Book) (f : First) (c : List ℕ) → IsWhole b → is_paid f.decision ≡ true → IsPaying b f.terms → tokens_in c (with_first b f) ≡ debits_in c (with_first b f)
totals_paid b f c k paid p = by_currency (bytes_eq f.terms.currency c) refl
  where
    numbered : (p.account.account == f.terms.account) ≡ true
    numbered = found_passes (has_number f.terms.account) b.opened p.account p.found

    -- the account's own currency is that of the ask
    alike : bytes_eq p.account.currency c ≡ bytes_eq f.terms.currency c
    alike = ap (λ x. bytes_eq x c) ((bytes_decides p.account.currency f.terms.currency).0 p.currency)

    others : (o : Opening) → has_number f.terms.account o ≡ false → taken (with_first b f) c o ≡ taken b c o
    others o apart = ap (λ n. cond (bytes_eq o.currency c) n 0) (debits_other b f o.account paid (turned o.account f.terms.account apart))

    by_currency : (t : Bool) → bytes_eq f.terms.currency c ≡ t → tokens_in c (with_first b f) ≡ debits_in c (with_first b f)
    by_currency true e =
        let all : worth c f ≡ f.terms.amount = ap (λ t. cond (t && bytes_eq f.terms.currency c) f.terms.amount 0) paid ∙ ap (λ t. cond t f.terms.amount 0) e in
        let own : taken (with_first b f) c p.account ≡ debits (with_first b f) p.account.account = ap (λ t. cond t (debits (with_first b f) p.account.account) 0) (alike ∙ e) in
        let before : taken b c p.account ≡ debits b p.account.account = ap (λ t. cond t (debits b p.account.account) 0) (alike ∙ e) in
        let more = debits_paid b f p.account.account paid (swapped p.account.account f.terms.account numbered) in
        omega (arith, sum_by_push (worth c) b.asked f, all, k.totals c, shares_one (has_number f.terms.account) (taken (with_first b f) c) (taken b c) f.terms.amount p.account b.opened others (omega (arith, own, before, more)) (k.alone f.terms.account) p.found)
    by_currency false e =
        let nothing : worth c f ≡ 0 = ap (λ t. cond (t && bytes_eq f.terms.currency c) f.terms.amount 0) paid ∙ ap (λ t. cond t f.terms.amount 0) e in
        let own : taken (with_first b f) c p.account ≡ 0 = ap (λ t. cond t (debits (with_first b f) p.account.account) 0) (alike ∙ e) in
        let before : taken b c p.account ≡ 0 = ap (λ t. cond t (debits b p.account.account) 0) (alike ∙ e) in
        omega (arith, sum_by_push (worth c) b.asked f, nothing, k.totals c, shares_one (has_number f.terms.account) (taken (with_first b f) c) (taken b c) 0 p.account b.opened others (omega (arith, own, before)) (k.alone f.terms.account) p.found)

whole_paid : (b : Book) (f : First) → IsWhole b → is_paid f.decision ≡ true → IsPaying b f.terms → IsWhole (with_first b f)
whole_paid b f k paid p = record {
  untouched = untouched_paid b f p.account paid p.found k.untouched;
  alone = k.alone;
  covered = λ q. covered_paid b f q k paid p;
  totals = λ c. totals_paid b f c k paid p;
  once = λ n. once_paid b f n k paid p.unused;
}

-- ---- every history

whole_noted : (b : Book) (call : Call) → IsWhole b → IsWhole (noted b call)
whole_noted b (Opened account currency balance) k = by_opening (opening_in b account) refl
  where
    by_opening : (x : Option Opening) → opening_in b account ≡ x → IsWhole (noted b (Opened account currency balance))
    by_opening (Some o) e = subst IsWhole (sym (noted_open b account currency balance (ap is_some e))) k
    by_opening None e = subst IsWhole (sym (noted_opening b account currency balance e)) (whole_opening b (record { account = account; currency = currency; balance = balance }) k e)
whole_noted b (Asked t) k = by_first (first_ask_in b t.tx) refl
  where
    by_decision : (d : Bool) → is_paid (decided b t) ≡ d → IsWhole (with_first b (first_of b t))
    by_decision true e = whole_paid b (first_of b t) k e (paying b t e)
    by_decision false e = whole_refused b (first_of b t) k e

    by_first : (x : Option First) → first_ask_in b t.tx ≡ x → IsWhole (noted b (Asked t))
    by_first (Some f) e = subst IsWhole (sym (noted_again b t (ap is_some e))) k
    by_first None e = subst IsWhole (sym (noted_new b t e)) (by_decision (is_paid (decided b t)) refl)

whole_from : (b : Book) (calls : List Call) → IsWhole b → IsWhole (fold noted b calls)
whole_from b [] k = k
whole_from b (call ∷ calls) k = whole_from (noted b call) calls (whole_noted b call k)

pub sound : (calls : List Call) → TokensArePaid (book_of calls)
sound calls =
    let k = whole_from (record { opened = []; asked = [] }) calls (record { untouched = λ q h. refl; alone = λ q. omega arith; covered = λ q. tt; totals = λ c. refl; once = λ n. omega arith }) in
    record { covered = k.covered; totals = k.totals; once = k.once }
