-- The maps keep the book of a history as the history grows by one call.
use Rattle.std.proofs.Common.{◌≡◌, ℕ, ◌+◌, ◌-◌, ◌==◌, ◌&&◌, Bool, true, false, true≢false, cond, List, [], ◌∷◌, ◌++◌, length-append, None, Some, Option, Vec, Global, BTreeMap, btree_map_len, nat_cmp, is_some, bytes_eq, option_map, find, map, refl, sym, ◌∙◌, ap, subst, arith}
use Rattle.std.specs.Option.{option_or}
use Rattle.std.specs.Cmp.Lexicographic.{bytes_decides}
use Rattle.std.specs.Map.{keys_of}
use Rattle.std.proofs.lemmas.List.{map-append}
use Rattle.std.specs.BTreeMap.{get, keys, insert_entry}
use Rattle.std.specs.BTreeSet.{insert_key}
use Rattle.std.proofs.lemmas.Bool.{eqb-true}
use Rattle.std.proofs.lemmas.List.Folds.{find-append}
use Rattle.std.proofs.lemmas.List.Sums.{fold_push, sum_by_push}
use Rattle.xfs_host.specs.Ask.{Terms}
use Rattle.xfs_host.specs.Book.{Book, Call, Opened, Asked, Opening, account_in, account_of, book_of, debit, debits, first_ask_in, first_of, is_paid, noted, opening_in, user_in, with_first, with_opening}
use Rattle.xfs_host.specs.Kept.{IsKept, less, tx_at}
use Rattle.xfs_host.specs.declared.account.Account.{Account}
use Rattle.xfs_host.specs.declared.first.First.{First}
use Rattle.xfs_host.proofs.Maps.{keys-insert_entry}
use Rattle.xfs_host.proofs.Paying.{IsPaying}

or_none : {A : Type 0} (x : Option A) → option_or x None ≡ x
or_none None = refl
or_none (Some a) = refl

map_same : {A B : Type 0} (f g : A → B) → ((a : A) → f a ≡ g a) → (x : Option A) → option_map f x ≡ option_map g x
map_same f g h None = refl
map_same f g h (Some a) = ap Some (h a)

-- what is found among elements with one more
found_more : {A : Type 0} (p : A → Bool) (xs : List A) (y : A) → find p (xs ++ y ∷ []) ≡ option_or (find p xs) (cond (p y) (Some y) None)
found_more p xs y = find-append p xs (y ∷ [])

-- one more that isn't looked for
pub found_same : {A : Type 0} (p : A → Bool) (xs : List A) (y : A) → p y ≡ false → find p (xs ++ y ∷ []) ≡ find p xs
found_same p xs y refused = found_more p xs y ∙ ap (λ t. option_or (find p xs) (cond t (Some y) None)) refused ∙ or_none (find p xs)

-- one more that is looked for, where there was none
pub found_new : {A : Type 0} (p : A → Bool) (xs : List A) (y : A) → find p xs ≡ None → p y ≡ true → find p (xs ++ y ∷ []) ≡ Some y
found_new p xs y none paid = found_more p xs y ∙ ap (λ x. option_or x (cond (p y) (Some y) None)) none ∙ ap (λ t. cond t (Some y) None) paid

-- where neither of two is there, the first is not
first_none : {A : Type 0} (x y : Option A) → option_or x y ≡ None → x ≡ None
first_none None y h = refl
first_none (Some a) y h = absurd (true≢false (ap is_some h))

-- an account is opened with all of its balance
at_opened : (b : Book) (o : Opening) (q : ℕ) → opening_in b o.account ≡ None → debits b o.account ≡ 0
    → cond (o.account == q) (Some (record { currency = o.currency; balance = o.balance })) (account_in b q) ≡ account_in (with_opening b o) q
at_opened b o q none untouched = by_key (o.account == q) refl
  where
    by_key : (t : Bool) → (o.account == q) ≡ t → cond t (Some (record { currency = o.currency; balance = o.balance })) (account_in b q) ≡ account_in (with_opening b o) q
    by_key true e =
        let same : o.account ≡ q = eqb-true o.account q e in
        let zero : debits b q ≡ 0 = subst (λ x. debits b x ≡ 0) same untouched in
        let all : o.balance ≡ o.balance - debits b q = omega (arith, zero) in
        ap (λ n. Some (record { currency = o.currency; balance = n })) all
        ∙ sym (ap (option_map (account_of (with_opening b o) q)) (found_new (λ p. p.account == q) b.opened o (subst (λ x. opening_in b x ≡ None) same none) e))
    by_key false e = sym (ap (option_map (account_of b q)) (found_same (λ p. p.account == q) b.opened o e))

-- nothing was taken from an account that is not open, also where another is opened
pub untouched_opening : (b : Book) (o : Opening) → ((q : ℕ) → opening_in b q ≡ None → debits b q ≡ 0) → (q : ℕ) → opening_in (with_opening b o) q ≡ None → debits b q ≡ 0
untouched_opening b o k q h = k q (first_none _ _ (sym (found_more (λ p. p.account == q) b.opened o) ∙ h))

-- an account is opened
pub opened_kept : (b : Book) (accs accs2 : BTreeMap ℕ Account) (fs : BTreeMap ℕ First) (ns : BTreeMap (Vec ℕ Global) ℕ) (o : Opening)
    → IsKept b accs fs ns → opening_in b o.account ≡ None
    → accs2.entries ≡ insert_entry nat_cmp accs.entries o.account (record { currency = o.currency; balance = o.balance })
    → ((q : ℕ) → get nat_cmp accs2 q ≡ cond (o.account == q) (Some (record { currency = o.currency; balance = o.balance })) (get nat_cmp accs q))
    → btree_map_len accs2 ≡ btree_map_len accs + 1
    → IsKept (with_opening b o) accs2 fs ns
opened_kept b accs accs2 fs ns o k none entries updates len =
    let v : Account = record { currency = o.currency; balance = o.balance } in
    record {
      accounts = λ q. updates q ∙ ap (cond (o.account == q) (Some v)) (k.accounts q) ∙ at_opened b o q none (k.untouched o.account none);
      numbers = ap keys_of entries ∙ keys-insert_entry accs.entries o.account v ∙ ap (λ ks. insert_key nat_cmp ks o.account) k.numbers ∙ sym (fold_push (λ ks p. insert_key nat_cmp ks p.account) [] b.opened o);
      opened = len ∙ ap (λ n. n + 1) k.opened ∙ sym (length-append b.opened (o ∷ []));
      firsts = k.firsts;
      asked = k.asked;
      untouched = untouched_opening b o k.untouched;
      nonces = k.nonces;
    }

-- what all took, with one more
debits_more : (b : Book) (f : First) (q : ℕ) → debits (with_first b f) q ≡ debits b q + debit q f
debits_more b f q = sum_by_push (debit q) b.asked f

-- what was refused took nothing
pub debits_refused : (b : Book) (f : First) (q : ℕ) → is_paid f.decision ≡ false → debits (with_first b f) q ≡ debits b q
debits_refused b f q refused =
    let nothing : debit q f ≡ 0 = ap (λ t. cond (t && f.terms.account == q) f.terms.amount 0) refused in
    omega (arith, debits_more b f q, nothing)

-- what was paid from another account
pub debits_other : (b : Book) (f : First) (q : ℕ) → is_paid f.decision ≡ true → (f.terms.account == q) ≡ false → debits (with_first b f) q ≡ debits b q
debits_other b f q paid refused =
    let nothing : debit q f ≡ 0 = ap (λ t. cond (t && f.terms.account == q) f.terms.amount 0) paid ∙ ap (λ t. cond t f.terms.amount 0) refused in
    omega (arith, debits_more b f q, nothing)

-- what was paid from this account
pub debits_paid : (b : Book) (f : First) (q : ℕ) → is_paid f.decision ≡ true → (f.terms.account == q) ≡ true → debits (with_first b f) q ≡ debits b q + f.terms.amount
debits_paid b f q paid here =
    let all : debit q f ≡ f.terms.amount = ap (λ t. cond (t && f.terms.account == q) f.terms.amount 0) paid ∙ ap (λ t. cond t f.terms.amount 0) here in
    omega (arith, debits_more b f q, all)

-- the first asks, with one more
at_first : (b : Book) (f : First) (q : ℕ) → first_ask_in b f.terms.tx ≡ None → cond (f.terms.tx == q) (Some f) (first_ask_in b q) ≡ first_ask_in (with_first b f) q
at_first b f q none = by_key (f.terms.tx == q) refl
  where
    by_key : (t : Bool) → (f.terms.tx == q) ≡ t → cond t (Some f) (first_ask_in b q) ≡ first_ask_in (with_first b f) q
    by_key true e = sym (found_new (λ g. g.terms.tx == q) b.asked f (subst (λ x. first_ask_in b x ≡ None) (eqb-true f.terms.tx q e) none) e)
    by_key false e = sym (found_same (λ g. g.terms.tx == q) b.asked f e)

firsts_more : (b : Book) (fs fs2 : BTreeMap ℕ First) (f : First) → ((q : ℕ) → get nat_cmp fs q ≡ first_ask_in b q) → first_ask_in b f.terms.tx ≡ None
    → ((q : ℕ) → get nat_cmp fs2 q ≡ cond (f.terms.tx == q) (Some f) (get nat_cmp fs q))
    → (q : ℕ) → get nat_cmp fs2 q ≡ first_ask_in (with_first b f) q
firsts_more b fs fs2 f k none updates q = updates q ∙ ap (cond (f.terms.tx == q) (Some f)) (k q) ∙ at_first b f q none

-- a first ask is refused
pub refused_kept : (b : Book) (accs : BTreeMap ℕ Account) (fs fs2 : BTreeMap ℕ First) (ns : BTreeMap (Vec ℕ Global) ℕ) (f : First)
    → IsKept b accs fs ns → first_ask_in b f.terms.tx ≡ None → is_paid f.decision ≡ false
    → ((q : ℕ) → get nat_cmp fs2 q ≡ cond (f.terms.tx == q) (Some f) (get nat_cmp fs q))
    → btree_map_len fs2 ≡ btree_map_len fs + 1
    → IsKept (with_first b f) accs fs2 ns
refused_kept b accs fs fs2 ns f k none refused updates len = record {
  accounts = λ q. k.accounts q ∙ map_same (account_of b q) (account_of (with_first b f) q) (λ o. ap (λ n. record { currency = o.currency; balance = o.balance - n }) (sym (debits_refused b f q refused))) (opening_in b q);
  numbers = k.numbers;
  opened = k.opened;
  firsts = firsts_more b fs fs2 f k.firsts none updates;
  asked = len ∙ ap (λ n. n + 1) k.asked ∙ sym (length-append b.asked (f ∷ []));
  untouched = λ q h. debits_refused b f q refused ∙ k.untouched q h;
  nonces = λ n. k.nonces n ∙ ap (option_map (λ g. g.terms.tx)) (sym (found_same (λ g. is_paid g.decision && bytes_eq g.terms.nonce n) b.asked f (ap (λ t. t && bytes_eq f.terms.nonce n) refused)));
}

-- the account that pays, and the others
at_charged : (b : Book) (f : First) (q : ℕ) → is_paid f.decision ≡ true
    → cond (f.terms.account == q) (option_map (less f.terms.amount) (account_in b q)) (account_in b q) ≡ account_in (with_first b f) q
at_charged b f q paid = by_key (f.terms.account == q) refl
  where
    charged : (x : Option Opening) → debits (with_first b f) q ≡ debits b q + f.terms.amount → option_map (less f.terms.amount) (option_map (account_of b q) x) ≡ option_map (account_of (with_first b f) q) x
    charged None more = refl
    charged (Some o) more =
        let left : (o.balance - debits b q) - f.terms.amount ≡ o.balance - debits (with_first b f) q = omega (arith, more) in
        ap (λ n. Some (record { currency = o.currency; balance = n })) left

    by_key : (t : Bool) → (f.terms.account == q) ≡ t → cond t (option_map (less f.terms.amount) (account_in b q)) (account_in b q) ≡ account_in (with_first b f) q
    by_key true e = charged (opening_in b q) (debits_paid b f q paid e)
    by_key false e = map_same (account_of b q) (account_of (with_first b f) q) (λ o. ap (λ n. record { currency = o.currency; balance = o.balance - n }) (sym (debits_other b f q paid e))) (opening_in b q)

-- nothing is taken from an account that is not open
pub untouched_paid : (b : Book) (f : First) (o : Opening) → is_paid f.decision ≡ true → opening_in b f.terms.account ≡ Some o
    → ((q : ℕ) → opening_in b q ≡ None → debits b q ≡ 0) → (q : ℕ) → opening_in b q ≡ None → debits (with_first b f) q ≡ 0
untouched_paid b f o paid there k q none = by_key (f.terms.account == q) refl
  where
    by_key : (t : Bool) → (f.terms.account == q) ≡ t → debits (with_first b f) q ≡ 0
    by_key true e = absurd (true≢false (ap is_some (sym there ∙ ap (opening_in b) (eqb-true f.terms.account q e) ∙ none)))
    by_key false e = debits_other b f q paid e ∙ k q none

-- the nonce is used, and the others as before
at_nonce : (b : Book) (f : First) (n : List ℕ) → is_paid f.decision ≡ true → user_in b f.terms.nonce ≡ None
    → cond (bytes_eq f.terms.nonce n) (Some f.terms.tx) (option_map (λ g. g.terms.tx) (user_in b n)) ≡ option_map (λ g. g.terms.tx) (user_in (with_first b f) n)
at_nonce b f n paid unused = by_key (bytes_eq f.terms.nonce n) refl
  where
    by_key : (t : Bool) → bytes_eq f.terms.nonce n ≡ t → cond t (Some f.terms.tx) (option_map (λ g. g.terms.tx) (user_in b n)) ≡ option_map (λ g. g.terms.tx) (user_in (with_first b f) n)
    by_key true e =
        sym (ap (option_map (λ g. g.terms.tx)) (found_new (λ g. is_paid g.decision && bytes_eq g.terms.nonce n) b.asked f (subst (λ x. user_in b x ≡ None) ((bytes_decides f.terms.nonce n).0 e) unused) (ap (λ t. t && bytes_eq f.terms.nonce n) paid ∙ e)))
    by_key false e =
        sym (ap (option_map (λ g. g.terms.tx)) (found_same (λ g. is_paid g.decision && bytes_eq g.terms.nonce n) b.asked f (ap (λ t. t && bytes_eq f.terms.nonce n) paid ∙ e)))

-- a first ask is paid
pub paid_kept : (b : Book) (accs accs2 : BTreeMap ℕ Account) (fs fs2 : BTreeMap ℕ First) (ns ns2 : BTreeMap (Vec ℕ Global) ℕ) (f : First)
    → IsKept b accs fs ns → first_ask_in b f.terms.tx ≡ None → is_paid f.decision ≡ true → IsPaying b f.terms
    → ((q : ℕ) → get nat_cmp accs2 q ≡ cond (f.terms.account == q) (option_map (less f.terms.amount) (get nat_cmp accs q)) (get nat_cmp accs q))
    → keys accs2 ≡ keys accs → btree_map_len accs2 ≡ btree_map_len accs
    → ((q : ℕ) → get nat_cmp fs2 q ≡ cond (f.terms.tx == q) (Some f) (get nat_cmp fs q))
    → btree_map_len fs2 ≡ btree_map_len fs + 1
    → ((n : List ℕ) → tx_at ns2 n ≡ cond (bytes_eq f.terms.nonce n) (Some f.terms.tx) (tx_at ns n))
    → IsKept (with_first b f) accs2 fs2 ns2
paid_kept b accs accs2 fs fs2 ns ns2 f k none paid paying charged same_keys same_len updates len used = record {
  accounts = λ q. charged q ∙ ap (λ x. cond (f.terms.account == q) (option_map (less f.terms.amount) x) x) (k.accounts q) ∙ at_charged b f q paid;
  numbers = same_keys ∙ k.numbers;
  opened = same_len ∙ k.opened;
  firsts = firsts_more b fs fs2 f k.firsts none updates;
  asked = len ∙ ap (λ n. n + 1) k.asked ∙ sym (length-append b.asked (f ∷ []));
  untouched = untouched_paid b f paying.account paid paying.found k.untouched;
  nonces = λ n. used n ∙ ap (cond (bytes_eq f.terms.nonce n) (Some f.terms.tx)) (k.nonces n) ∙ at_nonce b f n paid paying.unused;
}

-- the book of a history with one more call
pub book_more : {A : Type 0} (h : A → Call) (xs : List A) (x : A) → book_of (map h (xs ++ x ∷ [])) ≡ noted (book_of (map h xs)) (h x)
book_more h xs x = ap book_of (map-append h xs (x ∷ [])) ∙ fold_push noted (record { opened = []; asked = [] }) (map h xs) (h x)

-- an ask whose number is new is one more first ask
pub noted_new : (b : Book) (t : Terms) → first_ask_in b t.tx ≡ None → noted b (Asked t) ≡ with_first b (first_of b t)
noted_new b t none = ap (λ x. cond (is_some x) b (with_first b (first_of b t))) none

-- an ask whose number is kept changes nothing
pub noted_again : (b : Book) (t : Terms) → is_some (first_ask_in b t.tx) ≡ true → noted b (Asked t) ≡ b
noted_again b t kept = ap (λ x. cond x b (with_first b (first_of b t))) kept

-- an account that is not open is one more
pub noted_opening : (b : Book) (account : ℕ) (currency : List ℕ) (balance : ℕ) → opening_in b account ≡ None
    → noted b (Opened account currency balance) ≡ with_opening b (record { account = account; currency = currency; balance = balance })
noted_opening b account currency balance none = ap (λ x. cond (is_some x) b (with_opening b (record { account = account; currency = currency; balance = balance }))) none

-- an account that is open stays as it is
pub noted_open : (b : Book) (account : ℕ) (currency : List ℕ) (balance : ℕ) → is_some (opening_in b account) ≡ true → noted b (Opened account currency balance) ≡ b
noted_open b account currency balance known = ap (λ x. cond x b (with_opening b (record { account = account; currency = currency; balance = balance }))) known
