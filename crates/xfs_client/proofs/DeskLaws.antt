-- What a desk remembers, once something more is asked or heard.
use Rattle.std.proofs.Common.{◌≡◌, ℕ, ◌+◌, ◌<◌, List, [], ◌∷◌, ◌++◌, length, Bool, true, false, cond, ◌&&◌, ◌==◌, not, Some, None, refl, sym, ◌∙◌, ap, arith}
use Rattle.std.specs.Ordering.{nat_cmp, is_gt}
use Rattle.std.specs.BTreeMap.{is_at}
use Rattle.std.specs.List.{range_with_len}
use Rattle.std.proofs.lemmas.Bool.{false≢true, eqb-true, leb-true, lt-leb, and_parts, and_left, and_right, or_from, or_parts, false_from_ne_true}
use Rattle.std.proofs.lemmas.Map.Keys.{le_from_not_gt}
use Rattle.xfs_client.specs.History.{Told, Entry, ask, heard, asks, acknowledges, ends, was_heard, is_asked, is_open, is_acknowledged, first_unacknowledged}
use Rattle.xfs_client.specs.Desks.{Remembered, Recalls, IsEndOf, has}
use Rattle.xfs_client.proofs.Histories.{asks-heard, asks-ask, was_heard-heard, was_heard-ask, is_asked-heard, is_asked-ask, is_open-ask, is_acknowledged-ask, is_open-heard, is_acknowledged-heard}
use Rattle.xfs_client.proofs.Numbers.{is_eq-nat_cmp, find-none, find-least, waits_never, runs_never, waits_anew, runs_as_before}

pub keeps-nothing : Recalls record { asked = 0; unacknowledged = []; acknowledged = [] } []
keeps-nothing = record {
  count = refl;
  waiting = λ id. nothing id (not (is_acknowledged [] id));
  running = λ id. nothing id (is_acknowledged [] id);
  known = λ id _. (refl, refl);
}
  where
    nothing : (id : ℕ) (b : Bool) → false ≡ (is_open [] id && b)
    nothing id b = sym (and_left _ b (and_left _ _ (false_from_ne_true (is_asked [] id) (λ h. let parts = and_parts _ _ h in let low = leb-true 1 id parts.0 in let high = leb-true id 0 parts.1 in absurd (omega (arith, low, high))))))

pub has-none : (ids : List ℕ) → (0 < length ids → ⊥) → (q : ℕ) → has ids q ≡ false
has-none [] none q = refl
has-none (id ∷ ids) none q = absurd (none (omega arith))

module _ (d : Remembered) (h : List Entry) (keeps : Recalls d h) where
  same_open : (id q : ℕ) → is_open h id ≡ true → (id == q) ≡ true → is_open h q ≡ true
  same_open id q was_open same = ap (is_open h) (sym (eqb-true id q same)) ∙ was_open

  -- of an ask that was not made nothing was told, and it is not one that is open
  other_than : (id q : ℕ) → is_open h id ≡ true → is_asked h q ≡ false → (id == q) ≡ false
  other_than id q was_open not_asked = false_from_ne_true (id == q) (λ same. false≢true (sym not_asked ∙ (and_parts _ _ (same_open id q was_open same)).0))

  known_still : (t : Told) → ((q : ℕ) → is_asked h q ≡ false → ends q t ≡ false) → ((q : ℕ) → is_asked h q ≡ false → acknowledges q t ≡ false)
      → (q : ℕ) → is_asked (h ++ heard t ∷ []) q ≡ false → (was_heard (ends q) (h ++ heard t ∷ []) ≡ false) × (is_acknowledged (h ++ heard t ∷ []) q ≡ false)
  known_still t no_end no_acknowledge q not_now =
      let not_asked = sym (is_asked-heard h t q) ∙ not_now in
      let before = keeps.known q not_asked in
      (was_heard-heard h t (ends q) ∙ or_from _ _ before.0 (no_end q not_asked), is_acknowledged-heard h t q ∙ or_from _ _ before.1 (no_acknowledge q not_asked))

  -- the end of an open ask
  pub keeps-closed : (id : ℕ) (t : Told) (unacknowledged acknowledged' : List ℕ) → is_open h id ≡ true → IsEndOf id t
      → ((q : ℕ) → has unacknowledged q ≡ cond (is_at (nat_cmp id) q) false (has d.unacknowledged q))
      → ((q : ℕ) → has acknowledged' q ≡ cond (is_at (nat_cmp id) q) false (has d.acknowledged q))
      → Recalls record { asked = d.asked; unacknowledged = unacknowledged; acknowledged = acknowledged' } (h ++ heard t ∷ [])
  keeps-closed id t u a was_open end taken gone = record {
    count = keeps.count ∙ sym (asks-heard h t);
    waiting = λ q. taken q ∙ rw (is_eq-nat_cmp id q, keeps.waiting q, is_open-heard h t, is_acknowledged-heard h t, end.over q, end.other q) (waits_never (id == q) (is_open h q) (is_acknowledged h q));
    running = λ q. gone q ∙ rw (is_eq-nat_cmp id q, keeps.running q, is_open-heard h t, is_acknowledged-heard h t, end.over q, end.other q) (runs_never (id == q) (is_open h q) (is_acknowledged h q));
    known = known_still t (λ q not_asked. end.over q ∙ other_than id q was_open not_asked) (λ q _. end.other q);
  }

  never_told : (q : ℕ) → (asks h + 1 == q) ≡ true → (is_asked h q ≡ false) × (was_heard (ends q) h ≡ false) × (is_acknowledged h q ≡ false)
  never_told q next =
      let is = eqb-true (asks h + 1) q next in
      let not_asked : is_asked h q ≡ false = and_right _ _ (lt-leb q (asks h) (omega (arith, is))) in
      let told = keeps.known q not_asked in
      (not_asked, told.0, told.1)

  -- one ask more
  pub keeps-asked : (unacknowledged : List ℕ)
      → ((q : ℕ) → has unacknowledged q ≡ cond (is_at (nat_cmp (d.asked + 1)) q) true (has d.unacknowledged q))
      → Recalls record { asked = d.asked + 1; unacknowledged = unacknowledged; acknowledged = d.acknowledged } (h ++ ask ∷ [])
  keeps-asked u put = record {
    count = ap (λ n. n + 1) keeps.count ∙ sym (asks-ask h);
    waiting = λ q. put q ∙ rw (is_eq-nat_cmp (d.asked + 1) q, keeps.waiting q, keeps.count, is_open-ask h q, is_acknowledged-ask h q) (waits_anew (asks h + 1 == q) (is_asked h q) (was_heard (ends q) h) (is_acknowledged h q) (never_told q));
    running = λ q. rw (keeps.running q, is_open-ask h q, is_acknowledged-ask h q) (runs_as_before (asks h + 1 == q) (is_asked h q) (was_heard (ends q) h) (is_acknowledged h q) (never_told q));
    known = λ q not_now. let parts = or_parts _ _ (sym (is_asked-ask h q) ∙ not_now) in let before = keeps.known q parts.1 in (was_heard-ask h (ends q) ∙ before.0, is_acknowledged-ask h q ∙ before.1);
  }

  pub first-found : (k : ℕ) → has d.unacknowledged k ≡ true → ((q : ℕ) → has d.unacknowledged q ≡ true → is_gt (nat_cmp k q) ≡ false) → first_unacknowledged h ≡ Some k
  first-found k here least =
      let waits = sym (keeps.waiting k) ∙ here in
      let asked = and_parts _ _ (and_parts _ _ (and_parts _ _ waits).0).0 in
      let low = leb-true 1 k asked.0 in
      let high = leb-true k (asks h) asked.1 in
      find-least _ k waits (λ q p. le_from_not_gt k q (least q (keeps.waiting q ∙ p))) 1 (asks h) low (omega (arith, high))

  pub first-none : ((q : ℕ) → has d.unacknowledged q ≡ false) → first_unacknowledged h ≡ None
  first-none none = find-none _ (λ q. sym (keeps.waiting q) ∙ none q) (range_with_len 1 (asks h))
