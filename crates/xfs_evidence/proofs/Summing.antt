-- What was presented in the currencies so far, with the next one.
use Rattle.std.proofs.Common.{◌≡◌, ◌⊎◌, ⊎_elim, inl, inr, ℕ, zero, suc, ◌+◌, ◌<◌, ◌≤◌, ◌==◌, Bool, true, false, List, [], ◌∷◌, ◌++◌, length, map, None, Some, refl, sym, ◌∙◌, ap, arith, true≢false, length-append, cond, get_or, take}
use Rattle.std.specs.Prelude.{if◌then◌else◌, slice_get}
use Rattle.std.specs.declared.option.Option.{Option}
use Rattle.std.specs.List.{count_by}
use Rattle.std.specs.Str.{bytes_eq}
use Rattle.std.proofs.lemmas.Bool.{cases_Bool, eqb-true}
use Rattle.std.proofs.lemmas.List.{map-append, take_more}
use Rattle.std.proofs.lemmas.List.Sums.{sum_by-cons}
use Rattle.std.proofs.lemmas.Slice.Eq.{bytes_eq-Decides}
use Rattle.xfs_base.specs.declared.money.NoteKind.{NoteKind}
use Rattle.xfs_token.specs.Amounts.{amount_in, has_currency, is_currency}
use Rattle.xfs_journal.specs.declared.record.Rec.{Rec}
use Rattle.xfs_journal.proofs.JournalLaws.{slice_get-pushed}
use Rattle.xfs_guard.specs.Presented.{presented_in}
use Rattle.xfs_evidence.specs.Told.{is_before, told_text, told_amounts}
use Rattle.xfs_evidence.specs.Sums.{is_behind, nearest, nearer, IsOfAUnit, IsNextCurrency, AreSegmentSums, AreSumsTo, left_behind, with_worth}
use Rattle.xfs_evidence.proofs.Rising.{before-trans, before-self, before-neither, before-other, may_end-push, rising-push, new-behind, amount_in-more, amount_in-new}
use Rattle.xfs_evidence.proofs.Telling.{tells, tells-more}
use Rattle.xfs_evidence.proofs.Valued.{AreOther, presented-other, presented-round}

-- what comes behind a currency that comes behind another comes behind that
behind-trans : (last : Option (List ℕ)) (c d : List ℕ) → is_behind last c ≡ true → is_before c d ≡ true → is_behind last d ≡ true
behind-trans None c d one two = refl
behind-trans (Some l) c d one two = before-trans l c d one two

-- fewer pass a test that is stricter, and that one element fails
fewer : {X : Type 0} (p q : X → Bool) (xs : List X) → ((x : X) → q x ≡ true → p x ≡ true) → count_by q xs ≤ count_by p xs
fewer p q [] h = omega arith
fewer p q (x ∷ xs) h =
    let ih = fewer p q xs h in
    let a = sum_by-cons (λ x. cond (p x) 1 0) x xs in
    let b = sum_by-cons (λ x. cond (q x) 1 0) x xs in
    let here : cond (q x) 1 0 ≤ cond (p x) 1 0 = by (q x) (p x) (h x) in
    omega (arith, ih, a, b, here)
  where
    by : (m n : Bool) → (m ≡ true → n ≡ true) → cond m 1 0 ≤ cond n 1 0
    by false n h = omega arith
    by true true h = omega arith
    by true false h = absurd (true≢false (sym (h refl)))

fewer-by-one : {X : Type 0} (p q : X → Bool) (xs : List X) (i : ℕ) (x : X) → ((x : X) → q x ≡ true → p x ≡ true) → slice_get xs i ≡ Some x → p x ≡ true → q x ≡ false → count_by q xs + 1 ≤ count_by p xs
fewer-by-one p q [] i x h got passes fails = cc
fewer-by-one p q (y ∷ ys) zero x h got passes fails =
    let same : y ≡ x = cc in
    let a = sum_by-cons (λ x. cond (p x) 1 0) y ys in
    let b = sum_by-cons (λ x. cond (q x) 1 0) y ys in
    let m : ◌≡◌ {A = ℕ} (cond (p y) 1 0) 1 = ap (λ t. cond t 1 0) (ap p same ∙ passes) in
    let n : ◌≡◌ {A = ℕ} (cond (q y) 1 0) 0 = ap (λ t. cond t 1 0) (ap q same ∙ fails) in
    let rest = fewer p q ys h in
    omega (arith, a, b, m, n, rest)
fewer-by-one p q (y ∷ ys) (suc i) x h got passes fails =
    let ih = fewer-by-one p q ys i x h got passes fails in
    let a = sum_by-cons (λ x. cond (p x) 1 0) y ys in
    let b = sum_by-cons (λ x. cond (q x) 1 0) y ys in
    let here : cond (q y) 1 0 ≤ cond (p y) 1 0 = by (q y) (p y) (h y) in
    omega (arith, ih, a, b, here)
  where
    by : (m n : Bool) → (m ≡ true → n ≡ true) → cond m 1 0 ≤ cond n 1 0
    by false n h = omega arith
    by true true h = omega arith
    by true false h = absurd (true≢false (sym (h refl)))

-- one currency fewer is left
pub left-less : (units : List NoteKind) (last : Option (List ℕ)) (c : List ℕ) → IsNextCurrency units last (Some c) → left_behind units (Some c) + 1 ≤ left_behind units last
left-less units last c next =
    let u = next.0 in
    fewer-by-one (λ (kind : NoteKind). is_behind last kind.currency) (λ (kind : NoteKind). is_behind (Some c) kind.currency) units u.place u.kind
    (λ kind e. behind-trans last c kind.currency next.1 e) u.there (ap (is_behind last) u.same ∙ next.1) (ap (is_before c) u.same ∙ before-self c)

module _ (units : List NoteKind) (segment : List Rec) (last : Option (List ℕ)) (c : List ℕ) (next : IsNextCurrency units last (Some c)) (amounts : List (List ℕ × ℕ)) (s : AreSumsTo units segment last amounts) (worth : ℕ) (is : worth ≡ presented_in units segment c) where
  -- a currency that doesn't come behind the next one is that one, was told already, or is no unit's
  told-right : (d : List ℕ) → is_behind (Some c) d ≡ false → (c ≡ d) ⊎ (amount_in amounts d ≡ presented_in units segment d)
  told-right d e = ⊎_elim
      (λ before. ⊎_elim (λ behind. inr (s.rest d behind ∙ sym (presented-other units segment d (other before behind)))) (λ not_. inr (s.right d not_)) (cases_Bool (is_behind last d)))
      (λ not_. inl (before-neither c d e not_))
      (cases_Bool (is_before d c))
    where
      other : is_before d c ≡ true → is_behind last d ≡ true → AreOther units d
      other before behind kind place got = by (bytes_eq kind.currency d) refl
        where
          by : (b : Bool) → bytes_eq kind.currency d ≡ b → b ≡ false
          by false x = refl
          by true x =
              let same : kind.currency ≡ d = (bytes_eq-Decides kind.currency d).0 x in
              absurd (true≢false (sym before ∙ ap (λ y. is_before y c) (sym same) ∙ next.2 kind place got (ap (is_behind last) same ∙ behind)))

  pub step-nothing : worth ≡ 0 → AreSumsTo units segment (Some c) amounts
  step-nothing nothing = record {
    few = (let less = left-less units last c next in let f = s.few in omega (arith, less, f));
    rising = s.rising;
    texts = s.texts;
    ended = λ d e. s.ended d (behind-trans last c d next.1 e);
    right = λ d e. ⊎_elim (λ same. (let none : amount_in amounts c ≡ 0 = s.rest c next.1 in ap (amount_in amounts) (sym same) ∙ none ∙ sym nothing ∙ is ∙ ap (presented_in units segment) same)) (λ right. right) (told-right d e);
    rest = λ d e. s.rest d (behind-trans last c d next.1 e);
  }

  new : has_currency c amounts ≡ false
  new = new-behind amounts c s.rising (s.ended c next.1)

  pub is-new : has_currency c amounts ≡ false
  is-new = new

  pub step-amount : is_currency c ≡ true → 0 < worth → worth ≤ 999999999999 → AreSumsTo units segment (Some c) (amounts ++ (c, worth) ∷ [])
  step-amount letters some small = record {
    few = (let less = left-less units last c next in let f = s.few in let l = length-append amounts ((c, worth) ∷ []) in omega (arith, less, f, l));
    rising = rising-push amounts (c, worth) s.rising (s.ended c next.1);
    texts = ap told_amounts (map-append told_text amounts ((c, worth) ∷ [])) ∙ tells-more (map told_text amounts) amounts (told_text (c, worth)) (c, worth) s.texts (tells c worth letters some small (rw is (presented-round units segment c)));
    ended = λ d e. may_end-push amounts (c, worth) d ∙ e;
    right = λ d e. ⊎_elim
        (λ same. ap (amount_in (amounts ++ (c, worth) ∷ [])) (sym same) ∙ amount_in-new amounts c worth new ∙ is ∙ ap (presented_in units segment) same)
        (λ right. ⊎_elim
        (λ same. ap (amount_in (amounts ++ (c, worth) ∷ [])) (sym ((bytes_eq-Decides c d).0 same)) ∙ amount_in-new amounts c worth new ∙ is ∙ ap (presented_in units segment) ((bytes_eq-Decides c d).0 same))
        (λ apart. amount_in-more amounts c worth d apart ∙ right)
        (cases_Bool (bytes_eq c d)))
        (told-right d e);
    rest = λ d e. amount_in-more amounts c worth d (before-other c d e) ∙ s.rest d (behind-trans last c d next.1 e);
  }

  pub step : is_currency c ≡ true → worth ≤ 999999999999 → AreSumsTo units segment (Some c) (with_worth amounts c worth)
  step letters small = by (worth == 0) refl
    where
      by : (b : Bool) → (worth == 0) ≡ b → AreSumsTo units segment (Some c) (if b then amounts else (amounts ++ (c, worth) ∷ []))
      by true e = step-nothing (eqb-true worth 0 e)
      by false e = step-amount letters (positive worth e) small
        where
          positive : (n : ℕ) → (n == 0) ≡ false → 0 < n
          positive zero e = absurd (true≢false e)
          positive (suc n) e = omega arith

nothing : (c : List ℕ) → amount_in [] c ≡ 0
unfolding amount_in
nothing c = refl

-- nothing is told before the first currency
pub sums-begin : (units : List NoteKind) (segment : List Rec) → AreSumsTo units segment None []
sums-begin units segment = record {
  few = fewer-all units;
  rising = refl;
  texts = refl;
  ended = λ c e. refl;
  right = λ c e. absurd (true≢false e);
  rest = λ c e. nothing c;
}
  where
    fewer-all : (ks : List NoteKind) → 0 + left_behind ks None ≤ length ks
    fewer-all [] = omega arith
    fewer-all (k ∷ ks) = let ih = fewer-all ks in let e = sum_by-cons (λ (x : NoteKind). cond (is_behind None x.currency) 1 0) k ks in omega (arith, ih, e)

-- all is told once no unit's currency comes behind
pub sums-end : (units : List NoteKind) (segment : List Rec) (last : Option (List ℕ)) (amounts : List (List ℕ × ℕ)) → length units ≤ 8 → IsNextCurrency units last None → AreSumsTo units segment last amounts → AreSegmentSums units segment amounts
sums-end units segment last amounts eight next s = record {
  told = record { few = (let f = s.few in omega (arith, f)); rising = s.rising; texts = s.texts };
  right = λ c. ⊎_elim (λ behind. s.rest c behind ∙ sym (presented-other units segment c (other c behind))) (λ not_. s.right c not_) (cases_Bool (is_behind last c));
}
  where
    other : (c : List ℕ) → is_behind last c ≡ true → AreOther units c
    other c behind kind place got = by (bytes_eq kind.currency c) refl
      where
        by : (b : Bool) → bytes_eq kind.currency c ≡ b → b ≡ false
        by false x = refl
        by true x = absurd (true≢false (sym behind ∙ ap (is_behind last) (sym ((bytes_eq-Decides kind.currency c).0 x)) ∙ next kind place got))

-- the place of an element of a longer list
push-cases : {X : Type 0} (xs : List X) (x : X) (i : ℕ) (y : X) → slice_get (xs ++ x ∷ []) i ≡ Some y → (slice_get xs i ≡ Some y) ⊎ (x ≡ y)
push-cases [] x zero y e = inr (cc)
push-cases [] x (suc i) y e = cc
push-cases (z ∷ zs) x zero y e = inl e
push-cases (z ∷ zs) x (suc i) y e = push-cases zs x i y e

push-there : {X : Type 0} (xs : List X) (x : X) (i : ℕ) (y : X) → slice_get xs i ≡ Some y → slice_get (xs ++ x ∷ []) i ≡ Some y
push-there [] x i y e = cc
push-there (z ∷ zs) x zero y e = e
push-there (z ∷ zs) x (suc i) y e = push-there zs x i y e

unit-there : (ks : List NoteKind) (k : NoteKind) (c : List ℕ) → IsOfAUnit ks c → IsOfAUnit (ks ++ k ∷ []) c
unit-there ks k c u = record { place = u.place; kind = u.kind; there = push-there ks k u.place u.kind u.there; same = u.same }

-- the first of the currencies so far, with one more unit
next-more : (ks : List NoteKind) (k : NoteKind) (after first : Option (List ℕ)) → IsNextCurrency ks after first → IsNextCurrency (ks ++ k ∷ []) after (nearer after first k.currency)
next-more ks k after first next = by (is_behind after k.currency) refl first next
  where
    here : IsOfAUnit (ks ++ k ∷ []) k.currency
    here = record { place = length ks; kind = k; there = slice_get-pushed ks k; same = refl }

    by : (b : Bool) → is_behind after k.currency ≡ b → (o : Option (List ℕ)) → IsNextCurrency ks after o → IsNextCurrency (ks ++ k ∷ []) after (if b then nearest o k.currency else o)
    by false e None next = λ kind place got. ⊎_elim (λ old. next kind place old) (λ new. ap (λ (x : NoteKind). is_behind after x.currency) (sym new) ∙ e) (push-cases ks k place kind got)
    by false e (Some c) next = (
      unit-there ks k c next.0,
      next.1,
      λ kind place got behind. ⊎_elim (λ old. next.2 kind place old behind)
          (λ new. absurd (true≢false (sym behind ∙ ap (λ (x : NoteKind). is_behind after x.currency) (sym new) ∙ e))) (push-cases ks k place kind got),
    )
    by true e None next = (
      here,
      e,
      λ kind place got behind. ⊎_elim (λ old. absurd (true≢false (sym behind ∙ next kind place old)))
          (λ new. ap (λ (x : NoteKind). is_before x.currency k.currency) (sym new) ∙ before-self k.currency) (push-cases ks k place kind got),
    )
    by true e (Some c) next = chosen (is_before k.currency c) refl
      where
        chosen : (t : Bool) → is_before k.currency c ≡ t → IsNextCurrency (ks ++ k ∷ []) after (Some (if t then k.currency else c))
        chosen true before = (
          here,
          e,
          λ kind place got behind. ⊎_elim
              (λ old. (not-before kind.currency (next.2 kind place old behind)))
              (λ new. ap (λ (x : NoteKind). is_before x.currency k.currency) (sym new) ∙ before-self k.currency) (push-cases ks k place kind got),
        )
          where
            not-before : (d : List ℕ) → is_before d c ≡ false → is_before d k.currency ≡ false
            not-before d no_ = go (is_before d k.currency) refl
              where
                go : (u : Bool) → is_before d k.currency ≡ u → u ≡ false
                go false x = refl
                go true x = absurd (true≢false (sym (before-trans d k.currency c x before) ∙ no_))
        chosen false later = (unit-there ks k c next.0, next.1, λ kind place got behind. ⊎_elim (λ old. next.2 kind place old behind) (λ new. ap (λ (x : NoteKind). is_before x.currency c) (sym new) ∙ later) (push-cases ks k place kind got))

pub next-step : (ks : List NoteKind) (i : ℕ) (d : NoteKind) (after first : Option (List ℕ)) → i < length ks → IsNextCurrency (take i ks) after first → IsNextCurrency (take (i + 1) ks) after (nearer after first (get_or ks i d).currency)
next-step ks i d after first lt next = rw (take_more ks i d lt) (next-more (take i ks) (get_or ks i d) after first next)

pub units-few : (units : List NoteKind) (segment : List Rec) (last : Option (List ℕ)) (amounts : List (List ℕ × ℕ)) → length units ≤ 8 → AreSumsTo units segment last amounts → length amounts ≤ 8
units-few units segment last amounts eight s = let f = s.few in omega (arith, f)
